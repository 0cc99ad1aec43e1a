use Rattle.std.proofs.Common.{◌≡◌, ◌+◌, List, length, filter, ap, sym, subst, ◌∙◌}
use Rattle.std.specs.Prelude.{map as map_list}
use Rattle.record_codec.specs.Counts.{entry_counts}
use Rattle.record_rows.specs.Rows.{open_row}
use Rattle.durable_open.specs.Naming.{recorded}
use Rattle.std.specs.FinMap as map
use Rattle.leases_db.specs.Granted.{IsRecord}
use Rattle.record_codec.specs.declared.share_rec.ShareEntry.{ShareEntry}
use Rattle.record_codec.specs.ShareRec.{IsShareRec}
use Rattle.durable_open.specs.Sweep.{kept_of, leases_after}
use Rattle.durable_open.proofs.Sets.{swept_keeps, leases_keep}
use Rattle.durable_open.proofs.Expiring.{left_are, count_is, rows_that_stay}
use Rattle.durable_open.proofs.scavenging.scavenge.Goals as goal

left : (c : goal.After-drop-rec) → c.from_vec.result ≡ kept_of c.args.register.now c.args.rec.now.file c.args.now (map.get c.args.leases.now) c.args.rec.now.entries
left c = c.from_vec.ensures ∙ c.sweep-count.ensures.entries ∙ ap (kept_of c.args.register.now c.args.rec.now.file c.args.now (map.get c.args.leases.now)) c.take_entries-entries.ensures.taken

pub returns-clause-sets : goal.returns-clause-sets
returns-clause-sets c = λ sets.
    subst (λ (entries : List ShareEntry). IsShareRec (record c.args.rec.now { entries = entries })) (sym (left c))
    (swept_keeps c.args.register.now c.args.rec.now.file c.args.now (map.get c.args.leases.now) c.args.rec.now c.sweep-count.result
    (ap (λ (es : List ShareEntry). c.sweep-count.result + length es) (sym (left c) ∙ c.from_vec.ensures) ∙ c.sweep-count.ensures.count ∙ ap length c.take_entries-entries.ensures.taken) sets)

pub returns-clause-lease_sets : goal.returns-clause-lease_sets
returns-clause-lease_sets c = λ each name.
    subst (λ l. IsRecord (l name)) (sym (c.sweep-count.ensures.leases ∙ ap (leases_after c.args.register.now c.args.rec.now.file c.args.now (map.get c.args.leases.now)) c.take_entries-entries.ensures.taken))
    (leases_keep c.args.register.now c.args.rec.now.file c.args.now (map.get c.args.leases.now) c.args.rec.now.entries each name)

counted : (c : goal.After-drop-rec) → c.sweep-count.result + length (kept_of c.args.register.now c.args.rec.now.file c.args.now (map.get c.args.leases.now) c.args.rec.now.entries) ≡ length c.args.rec.now.entries
counted c = ap (λ (es : List ShareEntry). c.sweep-count.result + length es) (sym (left c) ∙ c.from_vec.ensures) ∙ c.sweep-count.ensures.count ∙ ap length c.take_entries-entries.ensures.taken

pub returns-clause-entries : goal.returns-clause-entries
returns-clause-entries c = λ agree. left c ∙ left_are c.args.register.now c.args.rec.now.file c.args.now (map.get c.args.leases.now) c.args.rec.now.entries agree

pub returns-clause-answer : goal.returns-clause-answer
returns-clause-answer c = λ v agree shows. count_is c.args.register.now c.args.rec.now.file c.args.now (map.get c.args.leases.now) c.args.rec.now.entries v c.sweep-count.result agree shows (counted c)

pub returns-clause-opens : goal.returns-clause-opens
returns-clause-opens c = λ v agree shows.
    ap (λ (es : List ShareEntry). map_list (open_row c.args.rec.now.file) (filter (entry_counts (recorded c.args.register.now (map.get c.args.leases.now)) c.args.rec.now.file) es)) (left c)
    ∙ rows_that_stay c.args.register.now c.args.rec.now.file c.args.now (map.get c.args.leases.now) c.args.rec.now.entries v agree shows
