use Rattle.std.proofs.Common.{◌≡◌, filter, map, sym, ap, subst, ◌∙◌}
use Rattle.record_codec.specs.ShareRec.{IsShareRec}
use Rattle.record_rows.specs.Rows.{open_row}
use Rattle.share_modes.specs.Entries.{other_open}
use Rattle.share_modes.proofs.Kept.{without_open_keeps, rows_without}
use Rattle.share_modes.proofs.entries.remove.Goals as goal

left : (c : goal.After-drop-rec) → c.from_vec.result ≡ filter (other_open c.args.id) c.args.rec.now.entries
left c = c.from_vec.ensures ∙ c.drop_id.ensures ∙ ap (filter (other_open c.args.id)) c.take-entries.ensures.taken

pub returns-clause-table : goal.returns-clause-table
returns-clause-table c = λ file. ap (map (open_row file)) (left c) ∙ rows_without file c.args.id c.args.rec.now.entries

pub returns-clause-sets : goal.returns-clause-sets
returns-clause-sets c = λ sets. subst (λ entries. IsShareRec (record c.args.rec.now { entries = entries })) (sym (left c)) (without_open_keeps c.args.id c.args.rec.now sets)
