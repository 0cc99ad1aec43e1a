-- For the code: the table whose lists stand in vectors with room, and what is to settle.
use Rattle.std.specs.Prelude.{◌≡◌, ℕ, ◌+◌, ◌*◌, ◌≤◌, length, Bool, true, false, ◌==◌, ◌&&◌, ◌||◌, not, List, [], ◌∷◌, filter, map, find, Option, Some, None, unwrap_or, if◌then◌else◌, nat_lt, ◌^◌, vec_len, vec_capacity}
use Rattle.std.specs.List.{list_any}
use Rattle.std.specs.Option.{option_map_or}
use Rattle.sid_core.specs.declared.call.Call.{Call}
use Rattle.sid_core.specs.declared.call.Call.TheVariants as call
use Rattle.sid_core.specs.declared.ids.Sid.{Sid}
use Rattle.sid_core.specs.declared.ids.Spot.{Spot}
use Rattle.serial_table.specs.declared.wake.Candidate.{Candidate}
use Rattle.sid_core.specs.Ids.{same_id}
use Rattle.sid_core.specs.Values.{has}
use Rattle.serial_table.specs.declared.rows.OpenRow.{OpenRow}
use Rattle.serial_table.specs.declared.rows.LeaseRow.{LeaseRow}
use Rattle.serial_table.specs.declared.rows.RangeRow.{RangeRow}
use Rattle.serial_table.specs.declared.rows.Breaking.{Breaking}
use Rattle.serial_table.specs.declared.rows.WorkerRow.{WorkerRow}
use Rattle.serial_table.specs.declared.rows.WaiterRow.{WaiterRow}
use Rattle.serial_table.specs.declared.rows.Watch.{Watch}
use Rattle.serial_table.specs.declared.table.Table.{Table}
use Rattle.serial_table.specs.declared.change.Change.{Change}
use Rattle.serial_table.specs.declared.change.Change.TheVariants as c
use Rattle.serial_table.specs.declared.lists.Lists.{Lists}
use Rattle.serial_table.specs.declared.lists.Scope.{Scope}
use Rattle.serial_table.specs.declared.lists.Scope.TheVariants as scope
use Rattle.serial_table.specs.declared.decision.Decision.{Decision}
use Rattle.serial_table.specs.declared.conclude.Ready.{Ready}
use Rattle.serial_table.specs.Decision.{settling}
use Rattle.serial_table.specs.View.{view, lives, watch_on, waits_on, has_pid, is_of_file, has_name, carries}
use Rattle.serial_table.specs.Settle.{settle, settle_where}
use Rattle.serial_table.specs.Change.{perform}

abbrev pub table_of : Lists → Table
table_of lists = record {
  opens = lists.opens.items;
  leases = lists.leases.items;
  ranges = lists.ranges.items;
  holds = lists.holds.items;
  waiters = lists.waiters.items;
  letters = lists.letters.items;
  workers = lists.workers.items;
  ended = lists.ended.items;
  pending = lists.pending.items;
}

-- the session is the current one of a living worker of these
abbrev pub lives_by : List WorkerRow → Sid → Bool
lives_by workers sid = option_map_or (λ worker. worker.alive && (worker.session == sid.session)) (find (has_pid sid.pid) workers) false

-- there is room for so many more rows in each list that changes add to
pub record HasRoom (lists : Lists) (more : ℕ) : Type 0 where
  pub opens : vec_len lists.opens + more ≤ vec_capacity lists.opens
  pub leases : vec_len lists.leases + more ≤ vec_capacity lists.leases
  pub ranges : vec_len lists.ranges + more ≤ vec_capacity lists.ranges
  pub holds : vec_len lists.holds + more ≤ vec_capacity lists.holds
  pub waiters : vec_len lists.waiters + more ≤ vec_capacity lists.waiters
  pub letters : vec_len lists.letters + more ≤ vec_capacity lists.letters
  pub ended : vec_len lists.ended + more ≤ vec_capacity lists.ended
  pub pending : vec_len lists.pending + more ≤ vec_capacity lists.pending

-- no list has taken more room, and none has more than one row more
pub record KeepsRoom (old new : Lists) : Type 0 where
  pub opens : (vec_capacity new.opens ≡ vec_capacity old.opens) × (vec_len new.opens ≤ vec_len old.opens + 1)
  pub leases : (vec_capacity new.leases ≡ vec_capacity old.leases) × (vec_len new.leases ≤ vec_len old.leases + 1)
  pub ranges : (vec_capacity new.ranges ≡ vec_capacity old.ranges) × (vec_len new.ranges ≤ vec_len old.ranges + 1)
  pub holds : (vec_capacity new.holds ≡ vec_capacity old.holds) × (vec_len new.holds ≤ vec_len old.holds + 1)
  pub waiters : (vec_capacity new.waiters ≡ vec_capacity old.waiters) × (vec_len new.waiters ≤ vec_len old.waiters + 1)
  pub letters : (vec_capacity new.letters ≡ vec_capacity old.letters) × (vec_len new.letters ≤ vec_len old.letters + 1)
  pub ended : (vec_capacity new.ended ≡ vec_capacity old.ended) × (vec_len new.ended ≤ vec_len old.ended + 1)
  pub pending : (vec_capacity new.pending ≡ vec_capacity old.pending) × (vec_len new.pending ≤ vec_len old.pending + 1)

-- the files that a scope holds
abbrev pub in_scope : Scope → ℕ → Bool
in_scope (scope.File file) of = of == file
in_scope scope.All of = true

-- the changes of a file's rows, and of what is of no file, but for the next session
abbrev pub is_of_files : Change → Bool
is_of_files (c.AddOpen open_row) = true
is_of_files (c.DropOpen file id) = true
is_of_files (c.TakeOver file id owner handle) = true
is_of_files (c.AddLease lease) = true
is_of_files (c.SetLease file name held breaking) = true
is_of_files (c.Acknowledge file name state) = true
is_of_files (c.AddRange range) = true
is_of_files (c.DropRange range) = true
is_of_files (c.AddPending file) = true
is_of_files (c.DropPending file) = true
is_of_files _ = false

abbrev pub is_elsewhere : Change → Bool
is_elsewhere (c.AddHold hold) = true
is_elsewhere (c.SetHold key owner mode) = true
is_elsewhere (c.DropHold key owner) = true
is_elsewhere (c.AddWaiter waiter) = true
is_elsewhere (c.DropWaiter sid call) = true
is_elsewhere (c.Send post) = true
is_elsewhere (c.TakeLetter to) = true
is_elsewhere (c.EndSession sid moment) = true
is_elsewhere (c.NextSession sid moment) = nat_lt (sid.session + 1) (2 ^ 32)
is_elsewhere _ = false

-- A session's number has 32 bits.
abbrev pub is_made : Change → Bool
is_made (c.NextSession sid moment) = nat_lt (sid.session + 1) (2 ^ 32)
is_made _ = true

-- to settle, it is enough to settle the files of the scope
abbrev pub IsEnough : Scope → Change → Table → Type 0
IsEnough scope c.Settle t = settle t ≡ settle_where (in_scope scope) t
IsEnough scope _ t = Unit {0}

-- along changes, one after another
abbrev pub AreEnough : Scope → List Change → Table → Type 0
AreEnough scope [] t = Unit {0}
AreEnough scope (change ∷ changes) t = IsEnough scope change t × AreEnough scope changes (perform change t)

-- ---- settling without memory: the leases first, then by these the ranges and the opens, and last the leases and the
-- pending files that have no open

abbrev pub is_lease_of : ℕ → LeaseRow → Bool
is_lease_of file lease = lease.file == file

abbrev pub is_under_lease : LeaseRow → OpenRow → Bool
is_under_lease lease o = (o.file == lease.file) && carries lease.name o.lease

abbrev pub break_ends : (ℕ → Bool) → List OpenRow → (Sid → Bool) → LeaseRow → Breaking → LeaseRow
break_ends here opens alive lease breaking =
    if not (here lease.file) || list_any (λ o. is_under_lease lease o && alive o.owner) opens then lease else record lease { held = breaking.needed; breaking = None }

abbrev pub break_if_any_ends : (ℕ → Bool) → List OpenRow → (Sid → Bool) → LeaseRow → Option Breaking → LeaseRow
break_if_any_ends here opens alive lease None = lease
break_if_any_ends here opens alive lease (Some breaking) = break_ends here opens alive lease breaking

abbrev pub lease_ends_break : (ℕ → Bool) → List OpenRow → (Sid → Bool) → LeaseRow → LeaseRow
lease_ends_break here opens alive lease = break_if_any_ends here opens alive lease lease.breaking

-- a lease of the open, of these that are settled, lacks HANDLE
abbrev pub lacks_lease : List LeaseRow → OpenRow → Bool
lacks_lease leases o = option_map_or (λ name. list_any (λ lease. not (has lease.held.0 2)) (filter (is_lease_of o.file) (filter (has_name name) leases))) o.lease false

abbrev pub goes : (ℕ → Bool) → (Sid → Bool) → List LeaseRow → OpenRow → Bool
goes here alive leases o = here o.file && (lacks_lease leases o && not (alive o.owner))

abbrev pub goes_with : (OpenRow → Bool) → RangeRow → OpenRow → Bool
goes_with test range o = same_id o.id range.id && test o

abbrev pub range_goes : (ℕ → Bool) → (OpenRow → Bool) → List OpenRow → RangeRow → Bool
range_goes here test opens range = here range.file && list_any (goes_with test range) (filter (is_of_file range.file) opens)

abbrev pub lease_goes : (ℕ → Bool) → List OpenRow → LeaseRow → Bool
lease_goes here opens lease = here lease.file && not (list_any (is_under_lease lease) opens)

abbrev pub pending_goes : (ℕ → Bool) → List OpenRow → ℕ → Bool
pending_goes here opens file = here file && not (list_any (is_of_file file) opens)

abbrev pub without_what_goes : (ℕ → Bool) → Table → Table
without_what_goes here t = record t {
  ranges = filter (λ range. not (range_goes here (goes here (lives (view t)) t.leases) t.opens range)) t.ranges;
  opens = filter (λ o. not (goes here (lives (view t)) t.leases o)) t.opens;
}

-- ---- what settling will take out of a file, before it does

abbrev pub lacks_once_settled : List OpenRow → (Sid → Bool) → LeaseRow → Bool
lacks_once_settled opens alive lease = not (has (lease_ends_break (λ file. true) opens alive lease).held.0 2)

abbrev pub goes_once_settled : Table → OpenRow → Bool
goes_once_settled t o =
    option_map_or (λ name. list_any (lacks_once_settled t.opens (lives (view t))) (filter (is_lease_of o.file) (filter (has_name name) t.leases))) o.lease false
    && not (lives (view t) o.owner)

-- ---- spots that are judged by one change after another

abbrev pub judge : (Spot → Bool) → Spot → Candidate
judge test spot = record { spot = spot; freed = test spot }

abbrev pub judge_too : (Spot → Bool) → Candidate → Candidate
judge_too test candidate = record { spot = candidate.spot; freed = candidate.freed || test candidate.spot }

-- who of these waits on a spot, where it is freed
abbrev pub freed_watches : List WaiterRow → Candidate → List Watch
freed_watches waiters candidate = if candidate.freed then map (watch_on candidate.spot) (filter (waits_on candidate.spot) waiters) else []

-- the changes of a decision, its spots to be judged, and room for all that it wakes and posts
pub record IsReady (decision : Decision) (waiters : ℕ) (ready : Ready) : Type 0 where
  pub changes : ready.changes.items ≡ settling decision
  pub candidates : ready.candidates.items ≡ map (judge (λ _. false)) decision.spots
  pub woken : (ready.woken.items ≡ []) × ((vec_len ready.woken ≡ 0) × (vec_len ready.candidates * (waiters + vec_len ready.changes) ≤ vec_capacity ready.woken))
  pub posts : (ready.posts.items ≡ []) × ((vec_len ready.posts ≡ 0) × (length decision.posts + vec_len ready.candidates * (waiters + vec_len ready.changes) ≤ vec_capacity ready.posts))

-- ---- the file that a call's changes are of: by its opens and leases, and by whether it is to go, does a
-- file settle

-- the file of which it changes that
abbrev pub file_of_change : Change → Option ℕ
file_of_change (c.AddOpen open_row) = Some open_row.file
file_of_change (c.DropOpen file id) = Some file
file_of_change (c.TakeOver file id owner handle) = Some file
file_of_change (c.AddLease lease) = Some lease.file
file_of_change (c.SetLease file name held breaking) = Some file
file_of_change (c.Acknowledge file name state) = Some file
file_of_change (c.AddPending file) = Some file
file_of_change (c.DropPending file) = Some file
file_of_change _ = None

-- the first of these, or 0
abbrev pub file_of_changes : List Change → ℕ
file_of_changes [] = 0
file_of_changes (change ∷ changes) = unwrap_or (file_of_change change) (file_of_changes changes)

-- `disconnect` and `scavenge` are of no one file
abbrev pub scope_of : Call → List Change → Scope
scope_of call.Disconnect changes = scope.All
scope_of call.Scavenge changes = scope.All
scope_of _ changes = scope.File (file_of_changes changes)
