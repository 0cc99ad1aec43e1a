use Rattle.std.proofs.Common.{◌&&◌, sym, ap, ◌∙◌}
use Rattle.std.specs.List.{list_any}
use Rattle.serial_table.specs.File.{is_under}
use Rattle.serial_table.specs.InPlace.{table_of}
use Rattle.serial_table.specs.Alone.{shown}
use Rattle.serial_table.proofs.OpenSeen.{connected_is}
use Rattle.serial_table.proofs.asked.is_asked_and_connected.Goals as goal

pub returns-then-carries : goal.returns-then-carries
returns-then-carries c =
    let file = c.args.asked.now.file in
    let name = c.args.name in
    c.is_connected.ensures ∙ connected_is (table_of c.args.rows.now) file name
    ∙ ap (λ b. b && list_any (λ o. is_under name o && o.connected) (shown file c.args.rows.now).opens) (sym (sym c.carries.ensures ∙ c.if-carries.true))
