-- What the table shows under each key: what the record of that key tells. A call reads this and the setup, and nothing else.
use Rattle.std.specs.Prelude.{ℕ, Bool, true, false, ◌==◌, ◌&&◌, List, ◌++◌, [], ◌∷◌, Option, filter, map, find}
use Rattle.std.specs.List.{list_any}
use Rattle.std.specs.Option.{option_map_or}
use Rattle.sid_core.specs.declared.ids.Sid.{Sid}
use Rattle.sid_core.specs.declared.ids.OpenId.{OpenId}
use Rattle.sid_core.specs.declared.ids.LeaseName.{LeaseName}
use Rattle.sid_core.specs.declared.ids.Spot.{Spot}
use Rattle.sid_core.specs.declared.ids.Spot.TheVariants.{OpenOf, RangesOf, LockOf}
use Rattle.sid_core.specs.declared.entry.Post.{Post}
use Rattle.sid_core.specs.Ids.{same_sid, same_id, same_name, same_spot}
use Rattle.serial_table.specs.declared.rows.OpenRow.{OpenRow}
use Rattle.serial_table.specs.declared.rows.LeaseRow.{LeaseRow}
use Rattle.serial_table.specs.declared.rows.RangeRow.{RangeRow}
use Rattle.serial_table.specs.declared.rows.HoldRow.{HoldRow}
use Rattle.serial_table.specs.declared.rows.WaiterRow.{WaiterRow}
use Rattle.serial_table.specs.declared.rows.WorkerRow.{WorkerRow}
use Rattle.serial_table.specs.declared.rows.EndedRow.{EndedRow}
use Rattle.serial_table.specs.declared.rows.Watch.{Watch}
use Rattle.serial_table.specs.declared.table.Table.{Table}

-- what a session waits for, by the number of the call that waits
pub record Token : Type 0 where
  pub spot : Spot
  pub call : ℕ

pub record View : Type 0 where
  -- the opens of a file
  pub opens_of : ℕ → List OpenRow
  -- the opens of a session's handle
  pub opens_of_handle : Sid → ℕ → List OpenRow
  -- the opens with an id
  pub opens_of_id : OpenId → List OpenRow
  -- the leases of a name, whatever the file
  pub leases_of : LeaseName → List LeaseRow
  -- the byte ranges of a file
  pub ranges_of : ℕ → List RangeRow
  -- the holds of a global lock
  pub holds_of : ℕ → List HoldRow
  -- who waits on a spot
  pub watches_on : Spot → List Watch
  -- who waits behind a session
  pub watches_behind : Sid → List Watch
  -- what a session waits for
  pub tokens_of : Sid → List Token
  -- the letters in a session's mailbox
  pub letters_of : Sid → List Post
  -- the worker with a pid
  pub worker_of : ℕ → Option WorkerRow
  -- the ended sessions of a pid
  pub ended_of : ℕ → List EndedRow
  -- whether a file is to go once its last open is closed
  pub is_pending : ℕ → Bool

-- ---- which rows stand under a key

abbrev pub is_of_file : ℕ → OpenRow → Bool
is_of_file file open_row = open_row.file == file

abbrev pub carries : LeaseName → Option LeaseName → Bool
carries name lease = option_map_or (λ own. same_name own name) lease false

abbrev pub is_of_handle : Sid → ℕ → OpenRow → Bool
is_of_handle owner handle open_row = same_sid open_row.owner owner && (open_row.handle == handle)

abbrev pub has_id : OpenId → OpenRow → Bool
has_id id open_row = same_id open_row.id id

abbrev pub has_name : LeaseName → LeaseRow → Bool
has_name name lease = same_name lease.name name

abbrev pub is_range_of : ℕ → RangeRow → Bool
is_range_of file range = range.file == file

abbrev pub is_hold_of : ℕ → HoldRow → Bool
is_hold_of key hold = hold.key == key

abbrev pub waits_on : Spot → WaiterRow → Bool
waits_on spot waiter = same_spot waiter.spot spot

abbrev pub waits_behind : Sid → WaiterRow → Bool
waits_behind sid waiter = option_map_or (λ blocker. same_sid blocker sid) waiter.blocker false

abbrev pub waits_for : Sid → WaiterRow → Bool
waits_for sid waiter = same_sid waiter.sid sid

abbrev pub is_to : Sid → Post → Bool
is_to sid post = same_sid post.to sid

abbrev pub has_pid : ℕ → WorkerRow → Bool
has_pid pid worker = worker.pid == pid

abbrev pub is_end_of : ℕ → EndedRow → Bool
is_end_of pid ended = ended.sid.pid == pid

abbrev pub names_file : ℕ → ℕ → Bool
names_file file pending = pending == file

-- ---- what is told of a waiter: its session and call, and of a lock whether it asks for more than it holds

abbrev pub is_lock : Spot → Bool
is_lock (OpenOf file) = false
is_lock (RangesOf file) = false
is_lock (LockOf key) = true

abbrev pub watch_on : Spot → WaiterRow → Watch
watch_on spot waiter = record { sid = waiter.sid; call = waiter.call; upgrade = is_lock spot && waiter.upgrade }

abbrev pub watch_behind : WaiterRow → Watch
watch_behind waiter = record { sid = waiter.sid; call = waiter.call; upgrade = false }

abbrev pub token_of : WaiterRow → Token
token_of waiter = record { spot = waiter.spot; call = waiter.call }

abbrev pub view : Table → View
view t = record {
  opens_of = λ file. filter (is_of_file file) t.opens;
  opens_of_handle = λ owner handle. filter (is_of_handle owner handle) t.opens;
  opens_of_id = λ id. filter (has_id id) t.opens;
  leases_of = λ name. filter (has_name name) t.leases;
  ranges_of = λ file. filter (is_range_of file) t.ranges;
  holds_of = λ key. filter (is_hold_of key) t.holds;
  watches_on = λ spot. map (watch_on spot) (filter (waits_on spot) t.waiters);
  watches_behind = λ sid. map watch_behind (filter (waits_behind sid) t.waiters);
  tokens_of = λ sid. map token_of (filter (waits_for sid) t.waiters);
  letters_of = λ sid. filter (is_to sid) t.letters;
  worker_of = λ pid. find (has_pid pid) t.workers;
  ended_of = λ pid. filter (is_end_of pid) t.ended;
  is_pending = λ file. list_any (names_file file) t.pending;
}

-- The session is the current one of a living worker.
abbrev pub lives : View → Sid → Bool
lives v sid = option_map_or (λ worker. worker.alive && (worker.session == sid.session)) (v.worker_of sid.pid) false

-- the leases of a name that are of this file
abbrev pub leases_at : View → LeaseName → ℕ → List LeaseRow
leases_at v name file = filter (λ lease. lease.file == file) (v.leases_of name)

-- ---- rows come and go under all their keys at once

-- a new open stands at the end, under its keys
abbrev pub with_open : OpenRow → View → View
with_open open_row v = record v {
  opens_of = λ file. v.opens_of file ++ filter (is_of_file file) (open_row ∷ []);
  opens_of_handle = λ owner handle. v.opens_of_handle owner handle ++ filter (is_of_handle owner handle) (open_row ∷ []);
  opens_of_id = λ id. v.opens_of_id id ++ filter (has_id id) (open_row ∷ []);
}

abbrev pub with_waiter : WaiterRow → View → View
with_waiter waiter v = record v {
  watches_on = λ spot. v.watches_on spot ++ map (watch_on spot) (filter (waits_on spot) (waiter ∷ []));
  watches_behind = λ sid. v.watches_behind sid ++ map watch_behind (filter (waits_behind sid) (waiter ∷ []));
  tokens_of = λ sid. v.tokens_of sid ++ map token_of (filter (waits_for sid) (waiter ∷ []));
}

-- the rows that pass stay, under every key
abbrev pub keeping_opens : (OpenRow → Bool) → (RangeRow → Bool) → View → View
keeping_opens stays range_stays v = record v {
  opens_of = λ file. filter stays (v.opens_of file);
  opens_of_handle = λ owner handle. filter stays (v.opens_of_handle owner handle);
  opens_of_id = λ id. filter stays (v.opens_of_id id);
  ranges_of = λ file. filter range_stays (v.ranges_of file);
}

-- waiters stay by their session and call
abbrev pub keeping_waits : (Sid → ℕ → Bool) → View → View
keeping_waits stays v = record v {
  watches_on = λ spot. filter (λ watch. stays watch.sid watch.call) (v.watches_on spot);
  watches_behind = λ sid. filter (λ watch. stays watch.sid watch.call) (v.watches_behind sid);
  tokens_of = λ sid. filter (λ token. stays sid token.call) (v.tokens_of sid);
}
