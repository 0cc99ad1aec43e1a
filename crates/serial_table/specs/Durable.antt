-- Durable opens whose session has ended, and until when they can be taken up again.
use Rattle.std.specs.Prelude.{ℕ, Bool, false, ◌+◌, ◌&&◌, not, nat_lt, nat_le, Option, find}
use Rattle.std.specs.Option.{option_map, option_map_or}
use Rattle.sid_core.specs.declared.ids.Moment.{Moment}
use Rattle.sid_core.specs.Ids.{same_sid}
use Rattle.serial_table.specs.declared.rows.OpenRow.{OpenRow}
use Rattle.serial_table.specs.View.{View, lives}

-- when its present owner's session ended, and its durable seconds later
abbrev pub deadline : View → OpenRow → Option ℕ
deadline v open_row =
    option_map (λ ended. ended.moment.0 + open_row.durable) (find (λ ended. same_sid ended.sid open_row.owner) (v.ended_of open_row.owner.pid))

-- disconnected, and its deadline is above the moment
abbrev pub can_be_taken : View → Moment → OpenRow → Bool
can_be_taken v now open_row = not (lives v open_row.owner) && option_map_or (nat_lt now.0) (deadline v open_row) false

-- disconnected, and its deadline has come
abbrev pub is_expired : View → Moment → OpenRow → Bool
is_expired v now open_row = not (lives v open_row.owner) && option_map_or (λ last. nat_le last now.0) (deadline v open_row) false
