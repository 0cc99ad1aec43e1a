use Rattle.std.proofs.Common.{sym, ap, ◌∙◌, filter}
use Rattle.std.proofs.lemmas.Result.{IfOk-weaker}
use Rattle.serial_table.specs.View.{view, is_range_of}
use Rattle.serial_table.specs.File.{file_view}
use Rattle.serial_table.specs.Range.{range_conflict}
use Rattle.serial_table.specs.Lock.{lock_by}
use Rattle.serial_table.proofs.Heads.{head_found, none_found}
use Rattle.serial_table.proofs.lock.lock_by.Goals as goal

pub returns-in-Some : goal.returns-in-Some
returns-in-Some c =
    let row = c.args.row.now in
    let f = file_view row.file (view c.args.table.now) in
    let found = head_found (λ held. range_conflict held row.id c.args.asked.now.span c.args.asked.now.mode) (filter (is_range_of row.file) c.args.table.now.ranges) c.in-Some.first (sym c.in-Some.ensures) in
    c.lock_behind.ensures found.0 ∙ ap (lock_by f c.args.caller.now c.args.asked.now.span c.args.asked.now.mode c.args.asked.now.wait row) (sym found.1)

pub returns-in-None : goal.returns-in-None
returns-in-None c =
    let row = c.args.row.now in
    let f = file_view row.file (view c.args.table.now) in
    let none = none_found (λ held. range_conflict held row.id c.args.asked.now.span c.args.asked.now.mode) (filter (is_range_of row.file) c.args.table.now.ranges) (sym c.in-None.ensures) in
    IfOk-weaker c.grant_range.result _ _ (λ _ h. h ∙ ap (lock_by f c.args.caller.now c.args.asked.now.span c.args.asked.now.mode c.args.asked.now.wait row) (sym none)) c.grant_range.ensures
