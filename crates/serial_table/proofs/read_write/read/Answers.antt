use Rattle.std.proofs.Common.{sym, ap, ◌∙◌}
use Rattle.serial_table.specs.View.{view, is_of_handle}
use Rattle.serial_table.specs.ReadWrite.{read_first, read}
use Rattle.serial_table.proofs.Heads.{head_found, none_found}
use Rattle.serial_table.proofs.read_write.read.Goals as goal

pub returns-in-Some : goal.returns-in-Some
unfolding read
returns-in-Some c =
    let found = head_found (is_of_handle c.args.caller.now.sid c.args.handle) c.args.table.now.opens c.in-Some.row (sym c.in-Some.ensures) in
    c.read_file.ensures ∙ ap (read_first (view c.args.table.now) c.args.span) (sym found.1)

pub returns-in-None : goal.returns-in-None
unfolding read
returns-in-None c =
    c.only_reply.ensures
    ∙ ap (read_first (view c.args.table.now) c.args.span) (sym (none_found (is_of_handle c.args.caller.now.sid c.args.handle) c.args.table.now.opens (sym c.in-None.ensures)))
