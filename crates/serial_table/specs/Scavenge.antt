-- `scavenge`.
use Rattle.std.specs.Prelude.{ℕ, Bool, List, map, filter, length}
use Rattle.std.specs.List.{flat_map, list_any, range_with_len}
use Rattle.sid_core.specs.declared.ids.Moment.{Moment}
use Rattle.sid_core.specs.declared.setup.Setup.{Setup}
use Rattle.sid_core.specs.declared.reply.Reply.TheVariants.{Scavenged}
use Rattle.serial_table.specs.declared.rows.OpenRow.{OpenRow}
use Rattle.serial_table.specs.declared.change.Change.{Change}
use Rattle.serial_table.specs.declared.change.Change.TheVariants.{DropOpen}
use Rattle.serial_table.specs.declared.decision.Caller.{Caller}
use Rattle.serial_table.specs.declared.decision.Decision.{Decision}
use Rattle.serial_table.specs.View.{View}
use Rattle.serial_table.specs.Decision.{only_reply, spots_of}
use Rattle.serial_table.specs.Durable.{is_expired}

-- the declared files, in rising number
abbrev pub files_of : Setup → List ℕ
files_of setup = range_with_len 1 (length setup.files)

abbrev pub has_expired : View → Moment → ℕ → Bool
has_expired v now file = list_any (is_expired v now) (v.opens_of file)

-- file by file, each in the order of its opens
abbrev pub all_expired : Setup → View → Moment → List OpenRow
all_expired setup v now = flat_map (λ file. filter (is_expired v now) (v.opens_of file)) (files_of setup)

abbrev pub goes : OpenRow → Change
goes open_row = DropOpen open_row.file open_row.id

-- All disconnected opens whose deadline has come go, with their ranges.
unfoldable pub scavenge : Setup → View → Caller → Decision
scavenge setup v caller = record (only_reply (Scavenged (length (all_expired setup v caller.moment)))) {
  changes = map goes (all_expired setup v caller.moment);
  spots = flat_map spots_of (filter (has_expired v caller.moment) (files_of setup));
}
