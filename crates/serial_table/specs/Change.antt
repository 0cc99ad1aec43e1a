-- What each change does to the table, and the same change key by key.
use Rattle.std.specs.Prelude.{ℕ, Bool, true, false, ◌==◌, ◌+◌, ◌&&◌, ◌||◌, not, List, [], ◌∷◌, ◌++◌, Option, None, filter, map, if◌then◌else◌}
use Rattle.std.specs.List.{list_any}
use Rattle.std.specs.Option.{option_map}
use Rattle.sid_core.specs.declared.ids.Sid.{Sid}
use Rattle.sid_core.specs.declared.ids.OpenId.{OpenId}
use Rattle.sid_core.specs.declared.ids.LeaseName.{LeaseName}
use Rattle.sid_core.specs.declared.ids.Moment.{Moment}
use Rattle.sid_core.specs.declared.call.Mode.{Mode}
use Rattle.sid_core.specs.declared.call.Mode.TheVariants.{Shared, Exclusive}
use Rattle.sid_core.specs.declared.bits.LeaseState.{LeaseState}
use Rattle.sid_core.specs.Ids.{same_sid, same_id, same_name}
use Rattle.serial_table.specs.declared.rows.OpenRow.{OpenRow}
use Rattle.serial_table.specs.declared.rows.RangeRow.{RangeRow}
use Rattle.serial_table.specs.declared.rows.LeaseRow.{LeaseRow}
use Rattle.serial_table.specs.declared.rows.Breaking.{Breaking}
use Rattle.serial_table.specs.declared.rows.HoldRow.{HoldRow}
use Rattle.serial_table.specs.declared.rows.WorkerRow.{WorkerRow}
use Rattle.serial_table.specs.declared.rows.EndedRow.{EndedRow}
use Rattle.serial_table.specs.declared.table.Table.{Table}
use Rattle.serial_table.specs.declared.change.Change.{Change}
use Rattle.serial_table.specs.declared.change.Change.TheVariants as c
use Rattle.serial_table.specs.View.{View, view, is_to, is_of_handle, is_range_of, is_hold_of, is_end_of, has_name, names_file, with_open, with_waiter, keeping_opens, keeping_waits}
use Rattle.serial_table.specs.Lists.{drop_first}
use Rattle.serial_table.specs.Settle.{settle, settle_by_key}

-- ---- which rows a change is about, and what becomes of them

abbrev pub is_open : ℕ → OpenId → OpenRow → Bool
is_open file id open_row = (open_row.file == file) && same_id open_row.id id

abbrev pub is_other_open : ℕ → OpenId → OpenRow → Bool
is_other_open file id open_row = not (is_open file id open_row)

abbrev pub is_other_range : ℕ → OpenId → RangeRow → Bool
is_other_range file id range = not ((range.file == file) && same_id range.id id)

-- another waiter than this call of the session
abbrev pub is_other_wait : Sid → ℕ → Sid → ℕ → Bool
is_other_wait sid call waiting number = not (same_sid waiting sid && (number == call))

-- the open with a new owner and handle
unfoldable pub new_owner : ℕ → OpenId → Sid → ℕ → OpenRow → OpenRow
new_owner file id owner handle open_row = if is_open file id open_row then record open_row { owner = owner; handle = handle } else open_row

abbrev pub is_lease : ℕ → LeaseName → LeaseRow → Bool
is_lease file name lease = (lease.file == file) && same_name lease.name name

unfoldable pub set_lease : ℕ → LeaseName → LeaseState → Option Breaking → LeaseRow → LeaseRow
set_lease file name held breaking lease = if is_lease file name lease then record lease { held = held; breaking = breaking } else lease

abbrev pub same_mode : Mode → Mode → Bool
same_mode Shared Shared = true
same_mode Exclusive Exclusive = true
same_mode Shared Exclusive = false
same_mode Exclusive Shared = false

abbrev pub same_range : RangeRow → RangeRow → Bool
same_range a b = (b.file == a.file) && (same_id b.id a.id && ((b.span.start == a.span.start) && ((b.span.length == a.span.length) && same_mode b.mode a.mode)))

abbrev pub is_hold : ℕ → Sid → HoldRow → Bool
is_hold key owner hold = (hold.key == key) && same_sid hold.owner owner

unfoldable pub set_hold : ℕ → Sid → Mode → HoldRow → HoldRow
set_hold key owner mode hold = if is_hold key owner hold then record hold { mode = mode } else hold

-- The file is among those to go, once.
unfoldable pub with_pending : ℕ → List ℕ → List ℕ
with_pending file files = if list_any (names_file file) files then files else files ++ file ∷ []

-- ---- what goes with a session that ends: its opens that aren't durable with their ranges, its holds, waiters and letters

abbrev pub outlives : Sid → OpenRow → Bool
outlives sid open_row = not (same_sid open_row.owner sid) || not (open_row.durable == 0)

abbrev pub range_outlives : View → Sid → RangeRow → Bool
range_outlives v sid range = not (list_any (λ open_row. same_id open_row.id range.id && not (outlives sid open_row)) (v.opens_of range.file))

unfoldable pub end_session : Sid → WorkerRow → WorkerRow
end_session sid worker = if (worker.pid == sid.pid) && (worker.session == sid.session) then record worker { alive = false } else worker

-- the session that follows this one
unfoldable pub begin_session : Sid → Moment → WorkerRow → WorkerRow
begin_session sid moment worker = if (worker.pid == sid.pid) && (worker.session == sid.session) then record worker { alive = true; session = sid.session + 1; connected = moment } else worker

abbrev pub end_at : Sid → Moment → EndedRow
end_at sid moment = record { sid = sid; moment = moment }

-- ---- over the lists

abbrev pub perform : Change → Table → Table
perform (c.AddOpen open_row) t = record t { opens = t.opens ++ open_row ∷ [] }
perform (c.DropOpen file id) t = record t { opens = filter (is_other_open file id) t.opens; ranges = filter (is_other_range file id) t.ranges }
perform (c.TakeOver file id owner handle) t =
    if list_any (is_of_handle owner handle) t.opens then t else record t { opens = map (new_owner file id owner handle) t.opens }
perform (c.AddLease lease) t = record t { leases = t.leases ++ lease ∷ [] }
perform (c.SetLease file name held breaking) t = record t { leases = map (set_lease file name held breaking) t.leases }
perform (c.Acknowledge file name state) t = record t { leases = map (set_lease file name state None) t.leases }
perform (c.AddRange range) t = record t { ranges = t.ranges ++ range ∷ [] }
perform (c.DropRange range) t = record t { ranges = drop_first (same_range range) t.ranges }
perform (c.AddPending file) t = record t { pending = with_pending file t.pending }
perform (c.DropPending file) t = record t { pending = filter (λ pending. not (names_file file pending)) t.pending }
perform (c.AddHold hold) t = record t { holds = t.holds ++ hold ∷ [] }
perform (c.SetHold key owner mode) t = record t { holds = map (set_hold key owner mode) t.holds }
perform (c.DropHold key owner) t = record t { holds = filter (λ hold. not (is_hold key owner hold)) t.holds }
perform (c.AddWaiter waiter) t = record t { waiters = t.waiters ++ waiter ∷ [] }
perform (c.DropWaiter sid call) t = record t { waiters = filter (λ waiter. is_other_wait sid call waiter.sid waiter.call) t.waiters }
perform (c.Send post) t = record t { letters = t.letters ++ post ∷ [] }
perform (c.TakeLetter to) t = record t { letters = drop_first (is_to to) t.letters }
perform (c.EndSession sid moment) t = record t {
  opens = filter (outlives sid) t.opens;
  ranges = filter (range_outlives (view t) sid) t.ranges;
  holds = filter (λ hold. not (same_sid hold.owner sid)) t.holds;
  waiters = filter (λ waiter. not (same_sid waiter.sid sid)) t.waiters;
  letters = filter (λ post. not (is_to sid post)) t.letters;
  workers = map (end_session sid) t.workers;
  ended = t.ended ++ end_at sid moment ∷ [];
}
perform (c.NextSession sid moment) t = record t { workers = map (begin_session sid moment) t.workers }
perform c.Settle t = settle t

abbrev pub perform_all : List Change → Table → Table
perform_all [] t = t
perform_all (c ∷ cs) t = perform_all cs (perform c t)

-- ---- key by key

abbrev pub new_owner_by_key : ℕ → OpenId → Sid → ℕ → View → View
new_owner_by_key file id owner handle v = record v {
  opens_of = λ f. map (new_owner file id owner handle) (v.opens_of f);
  opens_of_handle = λ s h. if same_sid owner s && (handle == h)
      then map (new_owner file id owner handle) (filter (is_open file id) (v.opens_of_id id))
      else filter (is_other_open file id) (v.opens_of_handle s h);
  opens_of_id = λ i. map (new_owner file id owner handle) (v.opens_of_id i);
}

abbrev pub perform_by_key : Change → View → View
perform_by_key (c.AddOpen open_row) v = with_open open_row v
perform_by_key (c.DropOpen file id) v = keeping_opens (is_other_open file id) (is_other_range file id) v
perform_by_key (c.TakeOver file id owner handle) v =
    if list_any (λ _. true) (v.opens_of_handle owner handle) then v else new_owner_by_key file id owner handle v
perform_by_key (c.AddLease lease) v = record v { leases_of = λ name. v.leases_of name ++ filter (has_name name) (lease ∷ []) }
perform_by_key (c.SetLease file name held breaking) v = record v { leases_of = λ n. map (set_lease file name held breaking) (v.leases_of n) }
perform_by_key (c.Acknowledge file name state) v = record v { leases_of = λ n. map (set_lease file name state None) (v.leases_of n) }
perform_by_key (c.AddRange range) v = record v { ranges_of = λ f. v.ranges_of f ++ filter (is_range_of f) (range ∷ []) }
perform_by_key (c.DropRange range) v = record v { ranges_of = λ f. drop_first (same_range range) (v.ranges_of f) }
perform_by_key (c.AddPending file) v = record v { is_pending = λ f. names_file file f || v.is_pending f }
perform_by_key (c.DropPending file) v = record v { is_pending = λ f. v.is_pending f && not (names_file file f) }
perform_by_key (c.AddHold hold) v = record v { holds_of = λ k. v.holds_of k ++ filter (is_hold_of k) (hold ∷ []) }
perform_by_key (c.SetHold key owner mode) v = record v { holds_of = λ k. map (set_hold key owner mode) (v.holds_of k) }
perform_by_key (c.DropHold key owner) v = record v { holds_of = λ k. filter (λ hold. not (is_hold key owner hold)) (v.holds_of k) }
perform_by_key (c.AddWaiter waiter) v = with_waiter waiter v
perform_by_key (c.DropWaiter sid call) v = keeping_waits (is_other_wait sid call) v
perform_by_key (c.Send post) v = record v { letters_of = λ s. v.letters_of s ++ filter (is_to s) (post ∷ []) }
perform_by_key (c.TakeLetter to) v = record v { letters_of = λ s. drop_first (is_to to) (v.letters_of s) }
perform_by_key (c.EndSession sid moment) v = record (keeping_opens (outlives sid) (range_outlives v sid) (keeping_waits (λ waiting number. not (same_sid waiting sid)) v)) {
  holds_of = λ k. filter (λ hold. not (same_sid hold.owner sid)) (v.holds_of k);
  letters_of = λ s. filter (λ post. not (is_to sid post)) (v.letters_of s);
  worker_of = λ pid. option_map (end_session sid) (v.worker_of pid);
  ended_of = λ pid. v.ended_of pid ++ filter (is_end_of pid) (end_at sid moment ∷ []);
}
perform_by_key (c.NextSession sid moment) v = record v { worker_of = λ pid. option_map (begin_session sid moment) (v.worker_of pid) }
perform_by_key c.Settle v = settle_by_key v

abbrev pub perform_all_by_key : List Change → View → View
perform_all_by_key [] v = v
perform_all_by_key (c ∷ cs) v = perform_all_by_key cs (perform_by_key c v)
