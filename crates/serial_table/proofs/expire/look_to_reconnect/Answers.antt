use Rattle.std.proofs.Common.{ap, ◌∙◌, ℕ, List, Option, []}
use Rattle.std.proofs.lemmas.Result.{IfOk-weaker}
use Rattle.std.specs.Option.{option_map_or}
use Rattle.sid_core.specs.declared.ids.LeaseName.{LeaseName}
use Rattle.sid_core.specs.declared.setup.WorkerInfo.{WorkerInfo}
use Rattle.serial_table.specs.declared.table.Table.{Table}
use Rattle.serial_table.specs.View.{view}
use Rattle.serial_table.specs.Expire.{names_beside}
use Rattle.serial_table.proofs.expire.look_to_reconnect.Goals as goal

unfoldable looked : Table → ℕ → Option WorkerInfo → List LeaseName
looked t call o = names_beside (view t) (option_map_or (λ (info : WorkerInfo). (view t).opens_of_id (record { pid = info.pid; call = call })) o [])

pub returns-in-Some : goal.returns-in-Some
unfolding looked
returns-in-Some c = IfOk-weaker c.look_by_id.result _ _ (λ _ h. h ∙ ap (looked c.args.table.now c.args.call) c.in-Some.ensures) c.look_by_id.ensures

pub returns-in-None : goal.returns-in-None
unfolding looked
returns-in-None c = c.new.ensures.items ∙ ap (looked c.args.table.now c.args.call) c.in-None.ensures
