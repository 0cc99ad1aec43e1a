use Rattle.std.proofs.Common.{[], ◌++◌, find, ◌∙◌}
use Rattle.std.specs.List.{flat_map}
use Rattle.std.specs.Option.{option_map_or}
use Rattle.sid_core.specs.declared.setup.WorkerInfo.{WorkerInfo}
use Rattle.serial_table.specs.View.{has_pid}
use Rattle.serial_table.specs.Tables.{shares_row}
use Rattle.serial_table.proofs.Adding.{after_three}
use Rattle.serial_table.proofs.show.shares.push_shares.Goals as goal

pub returns : goal.returns
returns c =
    after_three c.args.out.now.items _ _ _ _ _ _ c.in_ok-push_shares_head.ensures
    (c.in_ok-push_rows.ensures
    ∙ (λ i. c.push_shares_head.new.out.items
    ++ flat_map (λ (info : WorkerInfo). option_map_or (shares_row info) (find (has_pid info.pid) (c.as_slice.ensures i)) []) (c.as_slice-2.ensures i)))
    c.in_ok-push.ensures.items
