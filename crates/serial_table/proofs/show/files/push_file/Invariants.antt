use Rattle.std.proofs.Common.{◌≡◌, ◌++◌, take}
use Rattle.std.specs.List.{flat_map}
use Rattle.serial_table.specs.declared.rows.OpenRow.{OpenRow}
use Rattle.serial_table.specs.View.{view, lives}
use Rattle.serial_table.specs.File.{file_view, file_open}
use Rattle.serial_table.specs.Tables.{files_row}
use Rattle.serial_table.proofs.show.files.push_file.Given as goal

abbrev pub invariant-loop-row : goal.invariant-loop-row
invariant-loop-row l =
    l.out.items ≡ l.initial.out.items ++ flat_map (λ (row : OpenRow). files_row l.setup l.info (file_view l.file (view l.table)) (file_open (lives (view l.table)) row)) (take l.row-index l.own)
