use Rattle.std.proofs.Common.{◌≡◌, ◌++◌, [], take}
use Rattle.std.specs.List.{flat_map}
use Rattle.std.specs.Option.{option_map, option_map_or}
use Rattle.std.specs.FinMap as map
use Rattle.sid_core.specs.declared.setup.WorkerInfo.{WorkerInfo}
use Rattle.serial_table.specs.Tables.{shares_row}
use Rattle.server_ids.specs.Sessions.{worker_row}
use Rattle.smbstatus_text.proofs.workers.push_rows.Given as goal

abbrev pub invariant-loop-info : goal.invariant-loop-info
invariant-loop-info l =
    l.out.items ≡ l.initial.out.items ++ flat_map (λ (info : WorkerInfo). option_map_or (shares_row info) (option_map (worker_row info.pid) (map.get l.register info.pid)) []) (take l.info-index l.infos)
