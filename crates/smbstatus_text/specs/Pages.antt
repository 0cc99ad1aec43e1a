-- A page: the rows of the files that it has been told of.
use Rattle.std.specs.Prelude.{◌≡◌, ℕ, ◌<◌, List, [], take}
use Rattle.std.specs.Option.{option_map_or}
use Rattle.sid_core.specs.declared.setup.FileInfo.{FileInfo}
use Rattle.serial_table.specs.ByNumber.{declared_at}
use Rattle.serial_table.specs.View.{View}
use Rattle.serial_table.specs.File.{FileView}
use Rattle.serial_table.specs.Tables.{of_files}

-- what is told of the file with this number, where it is declared
abbrev pub told : (FileInfo → FileView → List ℕ) → List FileInfo → ℕ → FileView → List ℕ
told rows infos file f = option_map_or (λ info. rows info f) (declared_at infos file) []

-- The page has what is told of the declared files up to this number.
abbrev pub Tells : (FileInfo → FileView → List ℕ) → View → List FileInfo → ℕ → List ℕ → Type 0
Tells rows v infos last page = page ≡ of_files rows v 1 (take last infos)

-- The files behind the one and before the other have none of these.
abbrev pub NoneBetween : {X : Type 0} → (ℕ → List X) → ℕ → ℕ → Type 0
NoneBetween of_file last next = (file : ℕ) → last < file → file < next → of_file file ≡ []

-- The files behind this one have none of these.
abbrev pub NoneBehind : {X : Type 0} → (ℕ → List X) → ℕ → Type 0
NoneBehind of_file last = (file : ℕ) → last < file → of_file file ≡ []
