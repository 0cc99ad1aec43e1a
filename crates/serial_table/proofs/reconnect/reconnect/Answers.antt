use Rattle.std.proofs.Common.{ap, ◌∙◌, ℕ, Option, []}
use Rattle.std.proofs.lemmas.Result.{IfOk-weaker}
use Rattle.std.specs.Option.{option_map_or}
use Rattle.sid_core.specs.declared.setup.WorkerInfo.{WorkerInfo}
use Rattle.serial_table.specs.declared.table.Table.{Table}
use Rattle.serial_table.specs.declared.decision.Caller.{Caller}
use Rattle.serial_table.specs.declared.decision.Decision.{Decision}
use Rattle.serial_table.specs.View.{view}
use Rattle.serial_table.specs.Asked.{own_lease}
use Rattle.serial_table.specs.Reconnect.{reconnect_first, reconnect}
use Rattle.serial_table.proofs.reconnect.reconnect.Goals as goal

unfoldable decided : Table → Caller → ℕ → ℕ → Option WorkerInfo → Decision
decided t caller call key o =
    reconnect_first (view t) caller (own_lease caller key) (option_map_or (λ (info : WorkerInfo). (view t).opens_of_id (record { pid = info.pid; call = call })) o [])

pub returns-in-Some : goal.returns-in-Some
unfolding reconnect decided
returns-in-Some c =
    IfOk-weaker c.reconnect_made_by.result _ _ (λ _ h. h ∙ ap (decided c.args.table.now c.args.caller.now c.args.call c.args.key) c.in-Some.ensures) c.reconnect_made_by.ensures

pub returns-in-None : goal.returns-in-None
unfolding reconnect decided
returns-in-None c = c.only_reply.ensures ∙ ap (decided c.args.table.now c.args.caller.now c.args.call c.args.key) c.in-None.ensures
