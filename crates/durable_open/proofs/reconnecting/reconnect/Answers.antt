use Rattle.std.proofs.Common.{List, map, ap, sym, subst, ◌∙◌}
use Rattle.std.specs.List.{list_any}
use Rattle.record_codec.specs.declared.share_rec.ShareEntry.{ShareEntry}
use Rattle.record_codec.specs.ShareRec.{IsShareRec}
use Rattle.record_rows.specs.Rows.{open_row}
use Rattle.durable_open.specs.Taking.{settled, is_taken, taken_over}
use Rattle.durable_open.specs.Naming.{answer}
use Rattle.durable_open.proofs.Loops.{none_taken}
use Rattle.durable_open.proofs.Sets.{taken_over_keeps}
use Rattle.durable_open.proofs.Reconnects.{decides_so, rows_so}
use Rattle.durable_open.proofs.reconnecting.reconnect.Goals as goal

pub returns-then-found-clause-answer : goal.returns-then-found-clause-answer
returns-then-found-clause-answer c = λ leases setup v worker call names.
    decides_so c.args.register.now leases c.args.lease.now c.args.rec.now c.args.name c.args.id setup v worker call c.args.owner c.args.handle c.args.now names
    ∙ ap (λ b. answer b (settled c.args.register.now c.args.lease.now).held c.args.rec.now.file c.args.id c.args.owner c.args.handle) (sym (c.take_over_entries-found.ensures.found ∙ ap (list_any (is_taken c.args.register.now c.args.lease.now c.args.name c.args.rec.now.file c.args.now c.args.id)) c.take_entries-entries.ensures.taken))
    ∙ ap (λ held. answer c.take_over_entries-found.result held c.args.rec.now.file c.args.id c.args.owner c.args.handle) (sym (ap (λ lease. lease.held) c.take_over_lease.ensures.lease))

pub returns-then-found-clause-opens : goal.returns-then-found-clause-opens
returns-then-found-clause-opens c = λ leases setup v worker call names taken.
    ap (map (open_row c.args.rec.now.file)) (c.from_vec.ensures ∙ c.take_over_entries-found.ensures.entries ∙ ap (map (taken_over (is_taken c.args.register.now c.args.lease.now c.args.name c.args.rec.now.file c.args.now c.args.id) c.args.owner c.args.handle)) c.take_entries-entries.ensures.taken)
    ∙ rows_so c.args.register.now leases c.args.lease.now c.args.rec.now c.args.name c.args.id setup v worker call c.args.owner c.args.handle c.args.now names (sym (c.take_over_entries-found.ensures.found ∙ ap (list_any (is_taken c.args.register.now c.args.lease.now c.args.name c.args.rec.now.file c.args.now c.args.id)) c.take_entries-entries.ensures.taken) ∙ taken)

pub returns-then-found-clause-sets : goal.returns-then-found-clause-sets
returns-then-found-clause-sets c = λ sets lease o h. (
  (subst (λ (entries : List ShareEntry). IsShareRec (record c.args.rec.now { entries = entries })) (sym (c.from_vec.ensures ∙ c.take_over_entries-found.ensures.entries ∙ ap (map (taken_over (is_taken c.args.register.now c.args.lease.now c.args.name c.args.rec.now.file c.args.now c.args.id) c.args.owner c.args.handle)) c.take_entries-entries.ensures.taken))
      (taken_over_keeps (is_taken c.args.register.now c.args.lease.now c.args.name c.args.rec.now.file c.args.now c.args.id) c.args.owner c.args.handle c.args.rec.now sets o h)),
  c.take_over_lease.ensures.sets lease o,
)

pub returns-else-found-clause-refused : goal.returns-else-found-clause-refused
returns-else-found-clause-refused c = λ refused.
    ap (λ (entries : List ShareEntry). record c.args.rec.now { entries = entries })
    ((c.from_vec.ensures ∙ c.take_over_entries-found.ensures.entries ∙ ap (map (taken_over (is_taken c.args.register.now c.args.lease.now c.args.name c.args.rec.now.file c.args.now c.args.id) c.args.owner c.args.handle)) c.take_entries-entries.ensures.taken) ∙ none_taken (is_taken c.args.register.now c.args.lease.now c.args.name c.args.rec.now.file c.args.now c.args.id) c.args.owner c.args.handle c.args.rec.now.entries (sym (c.take_over_entries-found.ensures.found ∙ ap (list_any (is_taken c.args.register.now c.args.lease.now c.args.name c.args.rec.now.file c.args.now c.args.id)) c.take_entries-entries.ensures.taken) ∙ refused))

pub returns-else-found-clause-answer : goal.returns-else-found-clause-answer
returns-else-found-clause-answer c = λ leases setup v worker call names.
    decides_so c.args.register.now leases c.args.lease.now c.args.rec.now c.args.name c.args.id setup v worker call c.args.owner c.args.handle c.args.now names
    ∙ ap (λ b. answer b (settled c.args.register.now c.args.lease.now).held c.args.rec.now.file c.args.id c.args.owner c.args.handle) (sym (c.take_over_entries-found.ensures.found ∙ ap (list_any (is_taken c.args.register.now c.args.lease.now c.args.name c.args.rec.now.file c.args.now c.args.id)) c.take_entries-entries.ensures.taken) ∙ c.if-found.false)
    ∙ ap (λ b. answer b c.args.lease.now.held c.args.rec.now.file c.args.id c.args.owner c.args.handle) (sym c.if-found.false)

pub returns-else-found-clause-sets : goal.returns-else-found-clause-sets
returns-else-found-clause-sets c = λ sets lease o h. (
  (subst (λ (entries : List ShareEntry). IsShareRec (record c.args.rec.now { entries = entries })) (sym (c.from_vec.ensures ∙ c.take_over_entries-found.ensures.entries ∙ ap (map (taken_over (is_taken c.args.register.now c.args.lease.now c.args.name c.args.rec.now.file c.args.now c.args.id) c.args.owner c.args.handle)) c.take_entries-entries.ensures.taken))
      (taken_over_keeps (is_taken c.args.register.now c.args.lease.now c.args.name c.args.rec.now.file c.args.now c.args.id) c.args.owner c.args.handle c.args.rec.now sets o h)),
  lease,
)
