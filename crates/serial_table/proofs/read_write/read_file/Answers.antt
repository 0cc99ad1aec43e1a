use Rattle.std.proofs.Common.{sym, ◌∙◌}
use Rattle.serial_table.specs.View.{view}
use Rattle.serial_table.specs.File.{file_view}
use Rattle.serial_table.specs.Decision.{only_reply}
use Rattle.serial_table.specs.ReadWrite.{forbids_read}
use Rattle.sid_core.specs.declared.reply.Reply.TheVariants.{Done}
use Rattle.serial_table.proofs.read_write.read_file.Goals as goal

pub returns-in-Some : goal.returns-in-Some
returns-in-Some c =
    c.only_reply.ensures
    ∙ sym (c.in-Some.ensures.some (file_view c.args.row.now.file (view c.args.table.now)) (forbids_read c.args.row.now c.args.span) (only_reply Done))

pub returns-in-None : goal.returns-in-None
returns-in-None c =
    c.read_among.ensures
    ∙ sym (c.in-None.ensures.none (file_view c.args.row.now.file (view c.args.table.now)) (forbids_read c.args.row.now c.args.span) (only_reply Done))
