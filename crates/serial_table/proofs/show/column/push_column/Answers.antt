use Rattle.std.proofs.Common.{◌++◌, ap, ◌∙◌}
use Rattle.std.proofs.lemmas.Result.{on_ok_weaker}
use Rattle.std.proofs.lemmas.List.{append-nil}
use Rattle.serial_table.specs.Tables.{column}
use Rattle.serial_table.proofs.show.column.push_column.Goals as goal

pub returns : goal.returns
returns c = on_ok_weaker c.push_two.result (λ h. h ∙ ap (λ text. c.args.out.now.items ++ column c.args.width text) (append-nil c.args.text.now)) c.push_two.ensures
