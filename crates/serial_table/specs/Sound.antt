-- What holds of every table that a legal history makes, of a setup that a script can declare; and what a change asks for that.
use Rattle.std.specs.Prelude.{is_some, nat_le, nat_eq, ◌<◌, ◌≡◌, ℕ, Bool, true, false, ◌==◌, ◌&&◌, ◌||◌, not, List, [], ◌∷◌, Option, Some, None}
use Rattle.std.specs.List.{AllByRecursion, IsDistinct, list_any, list_all}
use Rattle.std.specs.Option.{option_map_or}
use Rattle.sid_core.specs.declared.call.Mode.{Mode}
use Rattle.sid_core.specs.declared.call.Mode.TheVariants.{Shared, Exclusive}
use Rattle.sid_core.specs.declared.ids.Sid.{Sid}
use Rattle.sid_core.specs.Ids.{same_sid, same_id, same_name, same_spot}
use Rattle.sid_core.specs.Values.{has, is_part_of, is_state}
use Rattle.serial_table.specs.declared.rows.OpenRow.{OpenRow}
use Rattle.serial_table.specs.declared.rows.LeaseRow.{LeaseRow}
use Rattle.serial_table.specs.declared.rows.Breaking.{Breaking}
use Rattle.serial_table.specs.declared.rows.RangeRow.{RangeRow}
use Rattle.serial_table.specs.declared.rows.HoldRow.{HoldRow}
use Rattle.serial_table.specs.declared.rows.WaiterRow.{WaiterRow}
use Rattle.serial_table.specs.declared.rows.WorkerRow.{WorkerRow}
use Rattle.serial_table.specs.declared.change.Change.{Change}
use Rattle.serial_table.specs.declared.change.Change.TheVariants as c
use Rattle.serial_table.specs.declared.table.Table.{Table}
use Rattle.serial_table.specs.View.{View, view, lives, carries, is_of_file, has_pid, waits_behind}
use Rattle.serial_table.specs.Change.{perform, same_mode}
use Rattle.serial_table.specs.Delete.{may_delete}

-- ---- opens

abbrev pub have_same_id : OpenRow → OpenRow → Bool
have_same_id a b = same_id a.id b.id

abbrev pub have_same_handle : OpenRow → OpenRow → Bool
have_same_handle a b = same_sid a.owner b.owner && (a.handle == b.handle)

abbrev pub is_durable : OpenRow → Bool
is_durable open_row = not (open_row.durable == 0)

-- its lease is there, for the same file
abbrev pub has_its_lease : List LeaseRow → OpenRow → Bool
has_its_lease leases open_row =
    option_map_or (λ name. list_any (λ lease. (lease.file == open_row.file) && same_name lease.name name) leases) open_row.lease true

-- its lease holds HANDLE
abbrev pub holds_handle : List LeaseRow → OpenRow → Bool
holds_handle leases open_row =
    option_map_or (λ name. list_any (λ lease. (lease.file == open_row.file) && (same_name lease.name name && has lease.held.0 2)) leases) open_row.lease false

-- not durable, or under a lease
abbrev pub is_leased_if_durable : OpenRow → Bool
is_leased_if_durable open_row = not (is_durable open_row) || is_some open_row.lease

-- not marked, or with the right to delete
abbrev pub may_delete_if_marked : OpenRow → Bool
may_delete_if_marked open_row = not open_row.marked || may_delete open_row.access

-- connected, or durable
abbrev pub lasts : View → OpenRow → Bool
lasts v open_row = lives v open_row.owner || is_durable open_row

-- its worker has had this session
abbrev pub has_had : View → Sid → Bool
has_had v sid = option_map_or (λ worker. nat_le sid.session worker.session) (v.worker_of sid.pid) false

-- ---- leases

abbrev pub have_same_name : LeaseRow → LeaseRow → Bool
have_same_name a b = same_name a.name b.name

-- the open is of the lease's file and carries its name
abbrev pub is_open_under : LeaseRow → OpenRow → Bool
is_open_under lease open_row = (open_row.file == lease.file) && carries lease.name open_row.lease

-- what is needed is part of what was asked, and that is less than what is held
abbrev pub breaks_well : ℕ → Option Breaking → Bool
breaks_well held None = true
breaks_well held (Some breaking) =
    is_state breaking.asked.0 && (is_state breaking.needed.0 && (is_part_of breaking.needed.0 breaking.asked.0
    && (is_part_of breaking.asked.0 held && not (breaking.asked.0 == held))))

-- a state, and a break to less
abbrev pub states_agree : ℕ → Option Breaking → Bool
states_agree held breaking = is_state held && breaks_well held breaking

-- ---- ranges, holds, waiters

-- its open is there, for the same file
abbrev pub has_its_open : List OpenRow → RangeRow → Bool
has_its_open opens range = list_any (λ open_row. (open_row.file == range.file) && same_id open_row.id range.id) opens

-- two holds of one session, or one that keeps the other out
abbrev pub cannot_both_hold : HoldRow → HoldRow → Bool
cannot_both_hold a b = (a.key == b.key) && (same_sid a.owner b.owner || (same_mode a.mode Exclusive || same_mode b.mode Exclusive))

-- two waiters of one session with one spot or one call
abbrev pub cannot_both_wait : WaiterRow → WaiterRow → Bool
cannot_both_wait a b = same_sid a.sid b.sid && (same_spot a.spot b.spot || (a.call == b.call))

-- it lives, and so does who stands in its way
abbrev pub waits_among_living : View → WaiterRow → Bool
waits_among_living v waiter = lives v waiter.sid && option_map_or (lives v) waiter.blocker true

-- ---- workers

abbrev pub have_same_pid : WorkerRow → WorkerRow → Bool
have_same_pid a b = a.pid == b.pid

-- ---- what holds after every change, also before the table settles

pub record IsConsistent (t : Table) : Type 0 where
  -- No two opens have one id.
  pub ids_differ : IsDistinct have_same_id t.opens
  -- No two opens have one handle of one session.
  pub handles_differ : IsDistinct have_same_handle t.opens
  -- The lease that an open carries is there, for its file.
  pub opens_have_leases : list_all (has_its_lease t.leases) t.opens ≡ true
  -- A durable open carries a lease.
  pub durable_are_leased : list_all is_leased_if_durable t.opens ≡ true
  -- A marked open has the right to delete.
  pub marked_may_delete : list_all may_delete_if_marked t.opens ≡ true
  -- The owner of an open lives, or the open is durable.
  pub opens_last : list_all (lasts (view t)) t.opens ≡ true
  -- The owner of an open is a session that its worker has had.
  pub owners_had : list_all (λ open_row. has_had (view t) open_row.owner) t.opens ≡ true
  -- A name names one lease.
  pub leases_differ : IsDistinct have_same_name t.leases
  -- What a lease holds is a state, and so are the parts of it to which it breaks.
  pub leases_agree : list_all (λ lease. states_agree lease.held.0 lease.breaking) t.leases ≡ true
  -- The open of a byte range is there, for its file.
  pub ranges_have_opens : list_all (has_its_open t.opens) t.ranges ≡ true
  -- Who holds a global lock lives.
  pub holders_live : list_all (λ hold. lives (view t) hold.owner) t.holds ≡ true
  -- A session has one hold of a lock at most, and who holds one exclusively holds it alone.
  pub holds_agree : IsDistinct cannot_both_hold t.holds
  -- Who waits lives, and so does who stands in its way.
  pub waiters_live : list_all (waits_among_living (view t)) t.waiters ≡ true
  -- A session waits once at most on a spot, and once at most with a call.
  pub waits_differ : IsDistinct cannot_both_wait t.waiters
  -- Who has letters lives.
  pub receivers_live : list_all (λ post. lives (view t) post.to) t.letters ≡ true
  -- No two workers have one pid.
  pub pids_differ : IsDistinct have_same_pid t.workers
  -- A file that is to go is named once.
  pub pending_differ : IsDistinct nat_eq t.pending

-- ---- what holds once it has settled

-- connected, or under a lease that holds HANDLE
abbrev pub may_stay : Table → OpenRow → Bool
may_stay t open_row = lives (view t) open_row.owner || holds_handle t.leases open_row

-- some open is under it
abbrev pub has_open : List OpenRow → LeaseRow → Bool
has_open opens lease = list_any (is_open_under lease) opens

-- not breaking, or with an open that is connected
abbrev pub may_break : Table → LeaseRow → Bool
may_break t lease = not (is_some lease.breaking) || list_any (λ open_row. is_open_under lease open_row && lives (view t) open_row.owner) t.opens

-- some open is of it
abbrev pub is_opened : List OpenRow → ℕ → Bool
is_opened opens file = list_any (is_of_file file) opens

pub record IsSound (t : Table) : Type 0 where
  -- Its rows agree.
  pub rows : IsConsistent t
  -- A disconnected open is under a lease that holds HANDLE.
  pub disconnected_hold_handle : list_all (may_stay t) t.opens ≡ true
  -- A lease has an open.
  pub leases_have_opens : list_all (has_open t.opens) t.leases ≡ true
  -- A breaking lease has an open that is connected.
  pub breaking_are_connected : list_all (may_break t) t.leases ≡ true
  -- A file that is to go has an open.
  pub pending_have_opens : list_all (is_opened t.opens) t.pending ≡ true

-- ---- what a change asks of the table before it, so that it keeps it consistent

-- an open that is added has an id and a handle of its own, its owner lives, its lease is there, and marked it may delete
pub record IsNewOpen (open_row : OpenRow) (t : Table) : Type 0 where
  pub id : list_any (λ other. have_same_id other open_row) t.opens ≡ false
  pub handle : list_any (λ other. have_same_handle other open_row) t.opens ≡ false
  pub owner : lives (view t) open_row.owner ≡ true
  pub leased : is_leased_if_durable open_row ≡ true
  pub marked : may_delete_if_marked open_row ≡ true
  pub lease : has_its_lease t.leases open_row ≡ true

-- a lease that is added has a name of its own, and its states agree
pub record IsNewLease (lease : LeaseRow) (t : Table) : Type 0 where
  pub name : list_any (λ other. have_same_name other lease) t.leases ≡ false
  pub states : states_agree lease.held.0 lease.breaking ≡ true

-- who gets a hold lives, and no other hold keeps it out
pub record IsNewHold (hold : HoldRow) (t : Table) : Type 0 where
  pub owner : lives (view t) hold.owner ≡ true
  pub others : list_any (λ other. cannot_both_hold other hold) t.holds ≡ false

-- who comes to wait lives, as does who stands in its way, and it doesn't wait there or with this call already
pub record IsNewWaiter (waiter : WaiterRow) (t : Table) : Type 0 where
  pub living : waits_among_living (view t) waiter ≡ true
  pub others : list_any (λ other. cannot_both_wait other waiter) t.waiters ≡ false

-- a session that ends lives, and nobody waits behind it
pub record IsEnding (sid : Sid) (t : Table) : Type 0 where
  pub lives : lives (view t) sid ≡ true
  pub behind : list_any (waits_behind sid) t.waiters ≡ false

-- a lock that is held alone has no other holder
abbrev pub may_hold : ℕ → Sid → Mode → HoldRow → Bool
may_hold key owner Shared hold = true
may_hold key owner Exclusive hold = not (hold.key == key) || same_sid hold.owner owner

-- What a change adds fits, and whom it concerns lives. The session of a worker begins where none of its pid lives.
abbrev pub Fits : Change → Table → Type 0
Fits (c.AddOpen open_row) t = IsNewOpen open_row t
Fits (c.TakeOver file id owner handle) t = lives (view t) owner ≡ true
Fits (c.AddLease lease) t = IsNewLease lease t
Fits (c.SetLease file name held breaking) t = states_agree held.0 breaking ≡ true
Fits (c.Acknowledge file name state) t = is_state state.0 ≡ true
Fits (c.AddRange range) t = has_its_open t.opens range ≡ true
Fits (c.AddHold hold) t = IsNewHold hold t
Fits (c.SetHold key owner mode) t = list_all (may_hold key owner mode) t.holds ≡ true
Fits (c.AddWaiter waiter) t = IsNewWaiter waiter t
Fits (c.Send post) t = lives (view t) post.to ≡ true
Fits (c.EndSession sid moment) t = IsEnding sid t
Fits (c.NextSession sid moment) t = list_any (λ worker. has_pid sid.pid worker && worker.alive) t.workers ≡ false
Fits _ t = Unit {0}

-- what holds of each change and the table that those before it have made
abbrev pub AllAlong : (Change → Table → Type 0) → List Change → Table → Type 0
AllAlong P [] t = Unit {0}
AllAlong P (c ∷ cs) t = P c t × AllAlong P cs (perform c t)

abbrev pub AllFit : List Change → Table → Type 0
AllFit cs t = AllAlong Fits cs t

-- ---- numbers that a call can give

-- The ids, handles and waits of this pid have numbers below this one.
pub record AreBelow (number pid : ℕ) (t : Table) : Type 0 where
  pub ids : AllByRecursion (λ open_row. open_row.id.pid ≡ pid → open_row.id.call < number) t.opens
  pub handles : AllByRecursion (λ open_row. open_row.owner.pid ≡ pid → open_row.handle < number) t.opens
  pub calls : AllByRecursion (λ waiter. waiter.sid.pid ≡ pid → waiter.call < number) t.waiters
