-- Worked examples: a worker in its third session, and how that ends.
use Rattle.std.specs.Prelude.{◌≡◌, ℕ, true, false, [], ◌∷◌, Option, Some, None, find, refl}
use Rattle.std.specs.Option.{option_map}
use Rattle.sid_core.specs.declared.ids.Moment.{Moment}
use Rattle.sid_core.specs.Ids.{same_sid}
use Rattle.serial_table.specs.declared.rows.WorkerRow.{WorkerRow}
use Rattle.serial_table.specs.Change as change
use Rattle.record_codec.specs.declared.register_rec.RegisterRec.{RegisterRec}
use Rattle.record_codec.specs.Counts.{is_current}
use Rattle.server_ids.specs.Sessions.{session_of, worker_row, ended_rows, once_ended}

-- worker 2: its first session ended at moment 5, its second at moment 9, and its third, connected at 9, goes on
abbrev third : RegisterRec
third = record { worker = 2; alive = true; session = 3; connected = 9; ended = 5 ∷ 9 ∷ []; watchers = [] }

-- as it shows under pid 102
abbrev row : WorkerRow
row = worker_row 102 third

-- the third session is the current one, and no other is
pub current : is_current (Some third) 3 ≡ true
current = refl

pub earlier_is_over : is_current (Some third) 2 ≡ false
earlier_is_over = refl

pub no_record : is_current None 1 ≡ false
no_record = refl

-- when a session of the pid ended
abbrev ended_when : ℕ → Option Moment
ended_when session = option_map (λ e. e.moment) (find (λ e. same_sid e.sid (session_of 102 session)) (ended_rows 102 third))

pub second_ended : ended_when 2 ≡ Some (record { 0 = 9 })
second_ended = refl

pub third_goes_on : ended_when 3 ≡ None
third_goes_on = refl

pub none_is_before_the_first : ended_when 0 ≡ None
none_is_before_the_first = refl

-- at moment 12 it disconnects, and the fourth begins
pub disconnects : once_ended true (session_of 102 3) (record { 0 = 12 }) row ≡ record { worker = 2; pid = 102; alive = true; session = 4; connected = record { 0 = 12 } }
unfolding change.end_session change.begin_session
disconnects = refl

-- or it dies then
pub dies : once_ended false (session_of 102 3) (record { 0 = 12 }) row ≡ record { worker = 2; pid = 102; alive = false; session = 3; connected = record { 0 = 9 } }
unfolding change.end_session
dies = refl
