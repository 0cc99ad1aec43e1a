use Rattle.std.proofs.Common.{[], sym, ap, ◌∙◌}
use Rattle.std.specs.Option.{option_map_or}
use Rattle.std.specs.BTreeMap.{get}
use Rattle.serial_table.specs.View.{view}
use Rattle.serial_table.specs.File.{file_view}
use Rattle.serial_table.specs.Keeping.{key_cmp}
use Rattle.serial_table.specs.Tables.{lease_column}
use Rattle.serial_table.proofs.Tabling.{lease_shown}
use Rattle.serial_table.proofs.show.files.lease_of.Goals as goal

pub returns : goal.returns
returns c =
    let t = c.args.table.now in
    let file = c.args.file in
    let name = c.in_ok-name.name in
    lease_shown t file name c.copied.result
    (c.copied.ensures ∙ c.get.ensures.value ∙ ap (get key_cmp c.args.leases.now) c.key_of_name.ensures ∙ c.requires file name)
    ∙ ap (λ lease. lease_column (option_map_or (file_view file (view t)).leases lease [])) (sym c.in_ok-name.was)
