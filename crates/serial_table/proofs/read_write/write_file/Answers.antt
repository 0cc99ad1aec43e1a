use Rattle.std.proofs.Common.{sym, ◌∙◌}
use Rattle.std.proofs.lemmas.Result.{IfOk-weaker}
use Rattle.serial_table.specs.View.{view}
use Rattle.serial_table.specs.File.{file_view}
use Rattle.serial_table.specs.Break.{break_others, none_of_them}
use Rattle.serial_table.specs.ReadWrite.{forbids_write, written}
use Rattle.serial_table.proofs.read_write.write_file.Goals as goal

pub returns-in-Some : goal.returns-in-Some
returns-in-Some c =
    let row = c.args.row.now in
    let f = file_view row.file (view c.args.table.now) in
    c.only_reply.ensures ∙ sym (c.in-Some.ensures.some f (forbids_write row c.args.span) (written row (break_others c.args.now row.file f none_of_them row.lease)))

pub returns-in-None : goal.returns-in-None
returns-in-None c =
    let row = c.args.row.now in
    let f = file_view row.file (view c.args.table.now) in
    IfOk-weaker c.write_among.result _ _ (λ _ h. h ∙ sym (c.in-None.ensures.none f (forbids_write row c.args.span) (written row (break_others c.args.now row.file f none_of_them row.lease)))) c.write_among.ensures
