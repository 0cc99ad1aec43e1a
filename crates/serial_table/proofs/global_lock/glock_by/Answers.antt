use Rattle.std.proofs.Common.{sym, ap, ◌∙◌, filter}
use Rattle.std.proofs.lemmas.Result.{IfOk-weaker}
use Rattle.sid_core.specs.Ids.{same_sid}
use Rattle.serial_table.specs.View.{view, is_hold_of}
use Rattle.serial_table.specs.GlobalLock.{glock_by}
use Rattle.serial_table.proofs.Heads.{head_found, none_found}
use Rattle.serial_table.proofs.global_lock.glock_by.Goals as goal

pub returns-in-Some : goal.returns-in-Some
returns-in-Some c =
    let found = head_found (λ hold. same_sid hold.owner c.args.caller.now.sid) (filter (is_hold_of c.args.asked.now.key) c.args.table.now.holds) c.in-Some.own (sym c.in-Some.ensures) in
    IfOk-weaker c.change_hold.result _ _ (λ _ h. h ∙ ap (glock_by (view c.args.table.now) c.args.caller.now c.args.asked.now.key c.args.asked.now.mode c.args.asked.now.wait) (sym found.1)) c.change_hold.ensures

pub returns-in-None : goal.returns-in-None
returns-in-None c =
    let none = none_found (λ hold. same_sid hold.owner c.args.caller.now.sid) (filter (is_hold_of c.args.asked.now.key) c.args.table.now.holds) (sym c.in-None.ensures) in
    IfOk-weaker c.gain_hold.result _ _ (λ _ h. h ∙ ap (glock_by (view c.args.table.now) c.args.caller.now c.args.asked.now.key c.args.asked.now.mode c.args.asked.now.wait) (sym none)) c.gain_hold.ensures
