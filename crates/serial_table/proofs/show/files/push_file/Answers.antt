use Rattle.std.proofs.Common.{◌++◌, filter, sym, ap, ◌∙◌}
use Rattle.std.proofs.lemmas.List.{take_all}
use Rattle.std.proofs.lemmas.List.Folds.{flat_map-map}
use Rattle.std.specs.List.{flat_map}
use Rattle.serial_table.specs.declared.rows.OpenRow.{OpenRow}
use Rattle.serial_table.specs.View.{view, lives, is_of_file}
use Rattle.serial_table.specs.File.{file_view, file_open}
use Rattle.serial_table.specs.Tables.{files_row}
use Rattle.serial_table.proofs.show.files.push_file.Goals as goal

pub returns : goal.returns
returns c =
    let v = view c.args.table.now in
    let row = files_row c.args.setup.now c.args.info.now (file_view c.args.file v) in
    let old = c.args.out.now.items in
    c.loop-row.invariant
    ∙ ap (λ rows. old ++ flat_map (λ (o : OpenRow). row (file_open (lives v) o)) rows) (take_all c.loop-row.row-index c.args.own.now c.loop-row-test.false ∙ c.requires.own)
    ∙ ap (λ text. old ++ text) (sym (flat_map-map row (file_open (lives v)) (filter (is_of_file c.args.file) c.args.table.now.opens)))
