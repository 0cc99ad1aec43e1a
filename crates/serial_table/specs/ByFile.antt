-- For the code: rows in the order of their files.
use Rattle.std.specs.Prelude.{ℕ, List, [], ◌∷◌}
use Rattle.sid_core.specs.declared.ids.Spot.{Spot}
use Rattle.serial_table.specs.declared.rows.OpenRow.{OpenRow}
use Rattle.serial_table.specs.declared.rows.RangeRow.{RangeRow}
use Rattle.serial_table.specs.Decision.{spots_of}

abbrev pub file_of_open : OpenRow → ℕ
file_of_open open_row = open_row.file

abbrev pub file_of_range : RangeRow → ℕ
file_of_range range = range.file

-- the spots of the file of these opens, if there are any
abbrev pub spots_of_all : List OpenRow → List Spot
spots_of_all [] = []
spots_of_all (first ∷ others) = spots_of first.file
