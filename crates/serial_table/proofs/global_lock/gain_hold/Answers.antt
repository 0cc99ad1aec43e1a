use Rattle.std.proofs.Common.{sym, ap, ◌∙◌}
use Rattle.std.proofs.lemmas.Result.{IfOk-weaker}
use Rattle.serial_table.specs.View.{view}
use Rattle.serial_table.specs.GlobalLock.{keeps_out, other_holds, gain_hold}
use Rattle.serial_table.proofs.Heads.{head_found, none_found}
use Rattle.serial_table.proofs.global_lock.gain_hold.Goals as goal

pub returns-in-Some : goal.returns-in-Some
returns-in-Some c =
    let found = head_found (keeps_out c.args.asked.now.mode) (other_holds (view c.args.table.now) c.args.caller.now c.args.asked.now.key) c.in-Some.first (sym c.in-Some.ensures) in
    c.wait_behind.ensures found.0 ∙ ap (gain_hold c.args.caller.now c.args.asked.now.key c.args.asked.now.mode c.args.asked.now.wait) (sym found.1)

pub returns-in-None : goal.returns-in-None
returns-in-None c =
    let none = none_found (keeps_out c.args.asked.now.mode) (other_holds (view c.args.table.now) c.args.caller.now c.args.asked.now.key) (sym c.in-None.ensures) in
    IfOk-weaker c.granted_one.result _ _ (λ _ h. h ∙ ap (gain_hold c.args.caller.now c.args.asked.now.key c.args.asked.now.mode c.args.asked.now.wait) (sym none)) c.granted_one.ensures
