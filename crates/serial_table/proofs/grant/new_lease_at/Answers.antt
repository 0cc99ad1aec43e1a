use Rattle.std.proofs.Common.{cond, filter, ap, ◌∙◌, bit_and}
use Rattle.std.specs.List.{list_any}
use Rattle.serial_table.specs.View.{is_of_file}
use Rattle.serial_table.specs.Break.{all_but_write}
use Rattle.serial_table.specs.OpenAt.{row_is_beside}
use Rattle.serial_table.specs.Grant.{new_lease}
use Rattle.serial_table.proofs.OpenSeen.{beside_is}
use Rattle.serial_table.proofs.grant.new_lease_at.Goals as goal

pub returns : goal.returns
returns c =
    let asked = c.args.asked.now in
    c.new_lease.ensures
    ∙ ap (new_lease c.args.name asked.file) (c.allowed_beside.ensures ∙ ap (λ b. cond b (bit_and asked.state.0 all_but_write) asked.state.0) (c.some_beside-beside.ensures ∙ ap (λ rows. list_any (row_is_beside asked) (filter (is_of_file asked.file) rows)) c.as_slice.ensures ∙ beside_is c.args.table.now asked))
