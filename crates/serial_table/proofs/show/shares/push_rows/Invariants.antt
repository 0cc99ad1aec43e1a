use Rattle.std.proofs.Common.{◌≡◌, ◌++◌, [], find, take}
use Rattle.std.specs.List.{flat_map}
use Rattle.std.specs.Option.{option_map_or}
use Rattle.sid_core.specs.declared.setup.WorkerInfo.{WorkerInfo}
use Rattle.serial_table.specs.View.{has_pid}
use Rattle.serial_table.specs.Tables.{shares_row}
use Rattle.serial_table.proofs.show.shares.push_rows.Given as goal

abbrev pub invariant-loop-info : goal.invariant-loop-info
invariant-loop-info l =
    l.out.items ≡ l.initial.out.items ++ flat_map (λ (info : WorkerInfo). option_map_or (shares_row info) (find (has_pid info.pid) l.workers) []) (take l.info-index l.infos)
