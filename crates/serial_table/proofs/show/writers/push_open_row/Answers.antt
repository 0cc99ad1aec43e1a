use Rattle.std.proofs.Common.{◌++◌, ap, ◌∙◌}
use Rattle.std.specs.Fmt.{decimal}
use Rattle.serial_table.specs.Showing.{lease_text}
use Rattle.serial_table.specs.Tables.{column, line, owner_text, user_text, deny_text, access_text, mode_text}
use Rattle.serial_table.proofs.Adding.{on_ok_seven}
use Rattle.serial_table.proofs.show.writers.push_open_row.Goals as goal

pub returns : goal.returns
returns c =
    let row = c.args.row.now in
    let pid = row.owner.pid in
    on_ok_seven c.push_number_line.result c.args.out.now.items c.push_owner.new.out.items c.push_user.new.out.items c.push_rights.new.out.items c.push_lease.new.out.items c.push_column.new.out.items c.push_column-2.new.out.items c.push_number_line.new.out.items
    (column 6 (owner_text c.args.connected pid)) (column 6 (user_text c.args.setup.now pid)) (column 10 (deny_text row.share)) (column 9 (access_text row.access)) (column 6 (mode_text row.access))
    (column 5 (lease_text c.args.lease)) (column 12 c.args.info.now.path) (column 12 c.args.info.now.name) (line (decimal row.opened.0))
    c.in_ok-push_owner.ensures c.in_ok-push_user.ensures c.in_ok-push_rights.ensures c.in_ok-push_lease.ensures
    (c.in_ok-push_column.ensures ∙ ap (λ text. c.push_lease.new.out.items ++ column 12 text) c.bytes.ensures)
    (c.in_ok-push_column-2.ensures ∙ ap (λ text. c.push_column.new.out.items ++ column 12 text) c.bytes-2.ensures) c.push_number_line.ensures
