use Rattle.std.proofs.Common.{◌≡◌, List, sym, ap, ◌∙◌, filter}
use Rattle.std.proofs.Math.Bool.{or-true}
use Rattle.std.proofs.lemmas.Result.{IfOk-weaker}
use Rattle.sid_core.specs.declared.call.Mode.TheVariants.{Exclusive}
use Rattle.serial_table.specs.declared.rows.HoldRow.{HoldRow}
use Rattle.serial_table.specs.View.{view}
use Rattle.serial_table.specs.Change.{same_mode}
use Rattle.serial_table.specs.GlobalLock.{keeps_out, other_holds, raise}
use Rattle.serial_table.proofs.Filters.{filter_all}
use Rattle.serial_table.proofs.Heads.{head_found, none_found}
use Rattle.serial_table.proofs.global_lock.raise.Goals as goal

-- each hold keeps out who asks to hold the lock alone
each_keeps_out : (holds : List HoldRow) → filter (keeps_out Exclusive) holds ≡ holds
each_keeps_out holds = filter_all (keeps_out Exclusive) (λ hold. or-true (same_mode hold.mode Exclusive)) holds

pub returns-in-Some : goal.returns-in-Some
returns-in-Some c =
    let others = other_holds (view c.args.table.now) c.args.caller.now c.args.key in
    let found = head_found (keeps_out Exclusive) others c.in-Some.first (sym c.in-Some.ensures) in
    c.raise_behind.ensures found.0 ∙ ap (raise (view c.args.table.now) c.args.caller.now c.args.key c.args.wait) (sym found.1 ∙ each_keeps_out others)

pub returns-in-None : goal.returns-in-None
returns-in-None c =
    let others = other_holds (view c.args.table.now) c.args.caller.now c.args.key in
    let none = none_found (keeps_out Exclusive) others (sym c.in-None.ensures) in
    IfOk-weaker c.granted_one.result _ _ (λ _ h. h ∙ ap (raise (view c.args.table.now) c.args.caller.now c.args.key c.args.wait) (sym none ∙ each_keeps_out others)) c.granted_one.ensures
