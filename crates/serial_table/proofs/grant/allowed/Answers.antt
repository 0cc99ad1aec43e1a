use Rattle.std.proofs.Common.{cond, filter, ap, ◌∙◌, bit_and}
use Rattle.serial_table.specs.InPlace.{table_of}
use Rattle.std.specs.List.{list_any}
use Rattle.serial_table.specs.View.{is_of_file}
use Rattle.serial_table.specs.Break.{all_but_write}
use Rattle.serial_table.specs.OpenAt.{row_is_beside}
use Rattle.serial_table.proofs.OpenSeen.{beside_is}
use Rattle.serial_table.proofs.grant.allowed.Goals as goal

pub returns : goal.returns
returns c =
    let asked = c.args.asked.now in
    c.allowed_beside.ensures ∙ ap (λ b. cond b (bit_and asked.state.0 all_but_write) asked.state.0) (c.some_beside.ensures ∙ ap (λ rows. list_any (row_is_beside asked) (filter (is_of_file asked.file) rows)) c.as_slice.ensures.value ∙ beside_is (table_of c.args.rows.now) asked)
