-- Worked examples: files that are to go once their last open is closed, what `open`, `close` and `delete` decide of them, and what settles.
-- Worker 101 lives in session 1 and 102 in session 3; session 1 of 102 has ended. Call 9 of worker 102 is made for the client with guid 2.
use Rattle.std.specs.Prelude.{◌≡◌, ℕ, true, false, List, [], ◌∷◌, None, Some, map, refl}
use Rattle.sid_core.specs.declared.call.Call.{Call}
use Rattle.sid_core.specs.declared.call.Call.TheVariants.{OpenFile, Close, Delete}
use Rattle.sid_core.specs.declared.ids.Spot.TheVariants.{OpenOf, RangesOf}
use Rattle.sid_core.specs.declared.reply.Reply.TheVariants.{Done, AccessDenied, InvalidParameter, DeletePending, SharingViolation, FileClosed}
use Rattle.serial_table.specs.declared.change.Change.TheVariants as c
use Rattle.serial_table.specs.declared.rows.OpenRow.{OpenRow}
use Rattle.serial_table.specs.declared.table.Table.{Table}
use Rattle.serial_table.specs.View.{view}
use Rattle.serial_table.specs.File.{FileView, file_view}
use Rattle.serial_table.specs.Settle.{settle, settle_where, settle_file}
use Rattle.serial_table.specs.Change.{perform, perform_by_key, with_pending}
use Rattle.serial_table.specs.Local.{perform_in_file}
use Rattle.serial_table.proofs.CallsAt.{decision_at, outcome_at, table_after}
use Rattle.serial_table.proofs.Samples.{id, name, at, state, nothing_open, plain, leased, durable, lease, waits, opens, granted}
use Rattle.serial_table.proofs.SampleCalls.{us, them, their_call, opens_leased}

-- an open that may delete besides reading and writing
abbrev deleting : OpenRow → OpenRow
deleting row = record row { access = record { 0 = 0x10003 } }

abbrev marked : OpenRow → OpenRow
marked row = record (deleting row) { marked = true }

abbrev pending : List ℕ → Table → Table
pending files t = record t { pending = files }

-- to mark the open
abbrev opens_marked : ℕ → ℕ → Call
opens_marked file access = OpenFile file (record { 0 = access }) (record { 0 = 7 }) None 0 false true

-- ---- what the table shows

-- It shows of each file by itself whether it is to go.
shows_what_is_to_go : map (view (pending (2 ∷ 5 ∷ []) nothing_open)).is_pending (1 ∷ 2 ∷ 3 ∷ 5 ∷ []) ≡ false ∷ true ∷ false ∷ true ∷ []
shows_what_is_to_go = refl

a_file_shows_it : map (λ file. (file_view file (view (pending (2 ∷ []) nothing_open))).pending) (1 ∷ 2 ∷ []) ≡ false ∷ true ∷ []
a_file_shows_it = refl

-- ---- the two changes

-- The file is named last, and once.
file_comes_last : perform (c.AddPending 1) (pending (2 ∷ []) nothing_open) ≡ pending (2 ∷ 1 ∷ []) nothing_open
unfolding with_pending
file_comes_last = refl

file_is_named_once : perform (c.AddPending 2) (pending (2 ∷ 1 ∷ []) nothing_open) ≡ pending (2 ∷ 1 ∷ []) nothing_open
unfolding with_pending
file_is_named_once = refl

-- Another file stays, whether it is named or not.
file_is_to_stay : perform (c.DropPending 2) (pending (2 ∷ 1 ∷ []) nothing_open) ≡ pending (1 ∷ []) nothing_open
file_is_to_stay = refl

other_file_is_to_go : perform (c.DropPending 3) (pending (2 ∷ 1 ∷ []) nothing_open) ≡ pending (2 ∷ 1 ∷ []) nothing_open
other_file_is_to_go = refl

-- The same key by key, and of what the file shows.
added_by_key : map (perform_by_key (c.AddPending 1) (view (pending (2 ∷ []) nothing_open))).is_pending (1 ∷ 2 ∷ 3 ∷ []) ≡ true ∷ true ∷ false ∷ []
added_by_key = refl

dropped_by_key : map (perform_by_key (c.DropPending 2) (view (pending (2 ∷ 1 ∷ []) nothing_open))).is_pending (1 ∷ 2 ∷ 3 ∷ []) ≡ true ∷ false ∷ false ∷ []
dropped_by_key = refl

abbrev shown : List ℕ → FileView
shown files = file_view 1 (view (pending files (record nothing_open { opens = plain 101 1 4 1 ∷ [] })))

added_in_file : perform_in_file (c.AddPending 1) (shown []) ≡ shown (1 ∷ [])
added_in_file = refl

dropped_in_file : perform_in_file (c.DropPending 1) (shown (1 ∷ [])) ≡ shown []
dropped_in_file = refl

-- ---- what settles

-- A file with an open is still to go, whoever has the open. One without isn't.
opened_files_are_to_go : settle (pending (2 ∷ 1 ∷ []) (record nothing_open { opens = plain 101 1 4 1 ∷ [] }))
    ≡ pending (1 ∷ []) (record nothing_open { opens = plain 101 1 4 1 ∷ [] })
unfolding settle_where
opened_files_are_to_go = refl

-- the only open of file 1, durable under a lease, and its session has ended
abbrev lost : OpenRow
lost = durable (leased (name 2 7) (plain 102 1 4 1))

disconnected_open_is_an_open : settle (pending (1 ∷ []) (record nothing_open { opens = lost ∷ []; leases = lease (name 2 7) 1 3 ∷ [] }))
    ≡ pending (1 ∷ []) (record nothing_open { opens = lost ∷ []; leases = lease (name 2 7) 1 3 ∷ [] })
unfolding settle_where
disconnected_open_is_an_open = refl

-- The open goes as the table settles, since its lease lacks HANDLE: then the file isn't to go either.
lost_open_takes_it_along : settle (pending (1 ∷ []) (record nothing_open { opens = lost ∷ []; leases = lease (name 2 7) 1 1 ∷ [] })) ≡ nothing_open
unfolding settle_where
lost_open_takes_it_along = refl

-- The same of what the file shows.
settled_file : (settle_file (file_view 1 (view (pending (1 ∷ []) (record nothing_open { opens = lost ∷ []; leases = lease (name 2 7) 1 1 ∷ [] }))))).pending ≡ false
unfolding settle_file
settled_file = refl

kept_file : (settle_file (file_view 1 (view (pending (1 ∷ []) (record nothing_open { opens = plain 101 1 4 1 ∷ [] }))))).pending ≡ true
unfolding settle_file
kept_file = refl

-- ---- `open`

-- A mark needs the right to delete. That is asked before all else, and the caller waits no more all the same.
mark_without_right : decision_at (pending (1 ∷ []) (record nothing_open { opens = leased (name 2 7) (plain 101 1 4 2) ∷ plain 101 1 5 1 ∷ []; leases = lease (name 2 7) 2 3 ∷ []; waiters = waits them 5 (OpenOf 1) us ∷ [] }))
    their_call (OpenFile 1 (record { 0 = 0x3 }) (record { 0 = 7 }) (Some (record { key = 7; state = state 3 })) 0 false true)
    ≡ record { changes = c.DropWaiter them 5 ∷ []; reply = AccessDenied; posts = []; spots = []; waits = None }
unfolding decision_at
mark_without_right = refl

-- The asked lease is of another file: that comes before the file that is to go ..
lease_of_another_file_first : (decision_at (pending (1 ∷ []) (record nothing_open { opens = leased (name 2 7) (plain 101 1 4 2) ∷ plain 101 1 5 1 ∷ []; leases = lease (name 2 7) 2 3 ∷ [] }))
    their_call (opens_leased 1 0x1 7 7 3)).reply ≡ InvalidParameter
unfolding decision_at
lease_of_another_file_first = refl

-- .. and that before the opens in the way, here one that lets nobody do anything.
to_go_before_sharing : decision_at (pending (1 ∷ []) (record nothing_open { opens = record (plain 101 1 5 1) { share = record { 0 = 0 } } ∷ []; waiters = waits them 5 (OpenOf 1) us ∷ [] })) their_call (opens 1 0x1 7)
    ≡ record { changes = c.DropWaiter them 5 ∷ []; reply = DeletePending; posts = []; spots = []; waits = None }
unfolding decision_at
to_go_before_sharing = refl

-- Who reads attributes alone is refused too, and another file that is to go is in nobody's way.
attributes_of_what_is_to_go : (decision_at (pending (1 ∷ []) (record nothing_open { opens = plain 101 1 5 1 ∷ [] })) their_call (opens 1 0x80 7)).reply ≡ DeletePending
unfolding decision_at
attributes_of_what_is_to_go = refl

other_file_to_go : (decision_at (pending (2 ∷ []) (record nothing_open { opens = plain 101 1 5 2 ∷ [] })) their_call (opens 1 0x1 7)).reply ≡ granted
unfolding decision_at
other_file_to_go = refl

-- The open is marked, and its file isn't to go so far.
open_is_marked : (decision_at nothing_open their_call (opens_marked 1 0x10001)).changes
    ≡ c.AddOpen (record {
      id = id 102 9;
      owner = them;
      handle = 9;
      file = 1;
      access = record { 0 = 0x10001 };
      share = record { 0 = 7 };
      lease = None;
      durable = 0;
      opened = at 70;
      marked = true;
    }) ∷ []
unfolding decision_at
open_is_marked = refl

-- Beside an open that doesn't share deleting, a marked one conflicts by its right to delete.
mark_is_shared_as_deleting : (decision_at (record nothing_open { opens = record (plain 101 1 5 1) { share = record { 0 = 3 } } ∷ [] }) their_call (opens_marked 1 0x10000)).reply ≡ SharingViolation
unfolding decision_at
mark_is_shared_as_deleting = refl

-- ---- `close`

-- A marked open goes, and its file is to go. It has another open.
mark_passes_to_the_file : decision_at (record nothing_open { opens = marked (plain 102 3 4 1) ∷ plain 101 1 5 1 ∷ [] }) their_call (Close 4)
    ≡ record { changes = c.DropOpen 1 (id 102 4) ∷ c.AddPending 1 ∷ []; reply = Done; posts = []; spots = OpenOf 1 ∷ RangesOf 1 ∷ []; waits = None }
unfolding decision_at
mark_passes_to_the_file = refl

file_is_to_go : table_after (record nothing_open { opens = marked (plain 102 3 4 1) ∷ plain 101 1 5 1 ∷ [] }) their_call (Close 4)
    ≡ pending (1 ∷ []) (record nothing_open { opens = plain 101 1 5 1 ∷ [] })
unfolding table_after
file_is_to_go = refl

-- It was the file's last open: nothing is left that is to go.
last_open_closes : table_after (record nothing_open { opens = marked (plain 102 3 4 1) ∷ plain 101 1 5 2 ∷ [] }) their_call (Close 4)
    ≡ record nothing_open { opens = plain 101 1 5 2 ∷ [] }
unfolding table_after
last_open_closes = refl

-- An open that isn't marked leaves its file as it is, also where that is to go.
plain_open_closes : table_after (pending (1 ∷ []) (record nothing_open { opens = deleting (plain 102 3 4 1) ∷ plain 101 1 5 1 ∷ [] })) their_call (Close 4)
    ≡ pending (1 ∷ []) (record nothing_open { opens = plain 101 1 5 1 ∷ [] })
unfolding table_after
plain_open_closes = refl

-- ---- `delete`

delete_sets_it : decision_at (record nothing_open { opens = deleting (plain 102 3 4 2) ∷ [] }) their_call (Delete 4 true)
    ≡ record { changes = c.AddPending 2 ∷ []; reply = Done; posts = []; spots = []; waits = None }
unfolding decision_at
delete_sets_it = refl

delete_takes_it_back : table_after (pending (1 ∷ 2 ∷ []) (record nothing_open { opens = plain 101 1 5 1 ∷ deleting (plain 102 3 4 2) ∷ [] })) their_call (Delete 4 false)
    ≡ pending (1 ∷ []) (record nothing_open { opens = plain 101 1 5 1 ∷ deleting (plain 102 3 4 2) ∷ [] })
unfolding table_after
delete_takes_it_back = refl

-- The mark of an open is another matter: it stays, and the file is to go again once that open is closed.
delete_leaves_marks : table_after (pending (2 ∷ []) (record nothing_open { opens = marked (plain 102 3 4 2) ∷ [] })) their_call (Delete 4 false)
    ≡ record nothing_open { opens = marked (plain 102 3 4 2) ∷ [] }
unfolding table_after
delete_leaves_marks = refl

-- An open without the right to delete may not, on or off.
delete_needs_the_right : map (λ on. (decision_at (pending (2 ∷ []) (record nothing_open { opens = plain 102 3 4 2 ∷ [] })) their_call (Delete 4 on)).reply) (true ∷ false ∷ []) ≡ AccessDenied ∷ AccessDenied ∷ []
unfolding decision_at
delete_needs_the_right = refl

-- A handle of nobody, and one of another session.
delete_of_no_open : map (λ handle. (decision_at (record nothing_open { opens = deleting (plain 101 1 4 2) ∷ deleting (plain 102 3 5 2) ∷ [] }) their_call (Delete handle true)).reply) (4 ∷ 6 ∷ 5 ∷ []) ≡ FileClosed ∷ FileClosed ∷ Done ∷ []
unfolding decision_at
delete_of_no_open = refl

-- It wakes nobody, and the caller waits on.
delete_wakes_nobody : (outcome_at (record nothing_open { opens = deleting (plain 102 3 4 2) ∷ []; waiters = waits us 7 (OpenOf 2) them ∷ waits them 5 (OpenOf 2) us ∷ [] }) their_call (Delete 4 true)).posts ≡ []
unfolding outcome_at
delete_wakes_nobody = refl
