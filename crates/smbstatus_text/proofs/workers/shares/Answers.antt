use Rattle.std.proofs.Common.{◌++◌, [], ap, ◌∙◌}
use Rattle.std.specs.List.{flat_map}
use Rattle.std.specs.Option.{option_map, option_map_or}
use Rattle.std.specs.FinMap as map
use Rattle.sid_core.specs.declared.setup.WorkerInfo.{WorkerInfo}
use Rattle.serial_table.specs.Tables.{shares_row, shares_head}
use Rattle.server_ids.specs.Sessions.{worker_row}
use Rattle.smbstatus_text.proofs.Counted.{shares_are}
use Rattle.smbstatus_text.proofs.workers.shares.Goals as goal

pub returns : goal.returns
returns c = λ v shows.
    let register = c.args.register.now in
    let row = λ (info : WorkerInfo). option_map_or (shares_row info) (option_map (worker_row info.pid) (map.get register info.pid)) [] in
    shares_are c.args.setup.now register v shows c.push_shares_head.new.out.items c.push_rows.new.out.items c.push.new.self.items
    (c.in_ok-push_shares_head.ensures ∙ ap (λ old. old ++ shares_head) c.new-out.ensures.items)
    (c.in_ok-push_rows.ensures ∙ ap (λ infos. c.push_shares_head.new.out.items ++ flat_map row infos) c.as_slice.ensures) c.in_ok-push.ensures.items
