use Rattle.std.proofs.Common.{◌∙◌, sym, refl}
use Rattle.serial_table.proofs.Calling.{caller_is}
use Rattle.serial_table.proofs.table.Table.find_caller.Goals as goal

pub returns : goal.returns
returns c =
    c.caller_if_alive.ensures
    ∙ sym (caller_is c.args.setup.now c.args.self.now c.args.worker c.args.number c.args.moment c.args.setup.now.workers c.as_slice.result.now c.in_ok-info.info.now c.in_ok-row.row
    refl c.as_slice.ensures c.in_ok-info.ensures c.in_ok-row.ensures)
