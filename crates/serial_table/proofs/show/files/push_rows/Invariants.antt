use Rattle.std.proofs.Common.{◌≡◌, ◌+◌, ◌++◌, drop}
use Rattle.serial_table.specs.View.{view}
use Rattle.serial_table.specs.Tables.{file_rows, of_files}
use Rattle.serial_table.proofs.show.files.push_rows.Given as goal

-- what is told so far and what is left to be told
abbrev pub invariant-loop-info : goal.invariant-loop-info
invariant-loop-info l = record {
  number : l.file ≡ l.info-index + 1;
  rows : l.out.items ++ of_files (file_rows l.setup) (view l.table) l.file (drop l.info-index l.infos) ≡ l.fn.out.items ++ of_files (file_rows l.setup) (view l.table) 1 l.infos;
}
