-- What each call but `disconnect` and `scavenge` decides is of one file, and no session begins or ends by it.
use Rattle.std.proofs.Common.{◌≡◌, ◌==◌, ◌&&◌, ◌+◌, ◌<◌, ◌^◌, not, ℕ, Bool, true, false, cond, List, [], ◌∷◌, ◌++◌, filter, Option, Some, None, refl, ◌∙◌, eq-eqb, sym, ap, subst}
use Rattle.std.specs.Prelude.{bit_and, bit_or, is_none}
use Rattle.std.specs.List.{list_all, list_any}
use Rattle.std.specs.Option.{option_map_or}
use Rattle.std.proofs.lemmas.Bool.{and_parts, and_from, cond_both}
use Rattle.std.proofs.lemmas.List.Folds.{list_all-append}
use Rattle.sid_core.specs.declared.ids.Sid.{Sid}
use Rattle.sid_core.specs.declared.ids.LeaseName.{LeaseName}
use Rattle.sid_core.specs.declared.bits.LeaseState.{LeaseState}
use Rattle.sid_core.specs.declared.call.Call.{Call}
use Rattle.sid_core.specs.declared.call.Call.TheVariants as call
use Rattle.sid_core.specs.declared.call.Span.{Span}
use Rattle.sid_core.specs.declared.call.Mode.{Mode}
use Rattle.sid_core.specs.declared.entry.Post.{Post}
use Rattle.sid_core.specs.declared.reply.Reply.{Reply}
use Rattle.sid_core.specs.declared.reply.Reply.TheVariants as reply
use Rattle.sid_core.specs.declared.setup.Setup.{Setup}
use Rattle.sid_core.specs.Ids.{same_sid, same_name}
use Rattle.sid_core.specs.Values.{has, is_part_of}
use Rattle.sid_core.specs.declared.ids.Moment.{Moment}
use Rattle.serial_table.specs.declared.rows.OpenRow.{OpenRow}
use Rattle.serial_table.specs.declared.rows.LeaseRow.{LeaseRow}
use Rattle.serial_table.specs.declared.rows.RangeRow.{RangeRow}
use Rattle.serial_table.specs.declared.rows.HoldRow.{HoldRow}
use Rattle.serial_table.specs.declared.rows.Breaking.{Breaking}
use Rattle.serial_table.specs.declared.rows.Watch.{Watch}
use Rattle.serial_table.specs.declared.table.Table.{Table}
use Rattle.serial_table.specs.declared.change.Change.{Change}
use Rattle.serial_table.specs.declared.change.Change.TheVariants as c
use Rattle.serial_table.specs.declared.decision.Caller.{Caller}
use Rattle.serial_table.specs.declared.decision.Decision.{Decision}
use Rattle.serial_table.specs.declared.lists.Scope.TheVariants as scope
use Rattle.serial_table.specs.View.{View, view}
use Rattle.serial_table.specs.File.{FileView, file_view}
use Rattle.serial_table.specs.Settle.{settle}
use Rattle.serial_table.specs.Local.{perform_all_in_file}
use Rattle.serial_table.specs.Decision.{only_reply, own_waits_end, no_longer_waits, settling}
use Rattle.serial_table.specs.Range.{passes_end, range_conflict}
use Rattle.serial_table.specs.Break.{Breaks, no_break, sets_lease, breaks_read, begins_to_break, breaks_to, break_by, connected_under, break_lease, break_first, both, break_each, break_others, names_of, none_of_them, all_but_handle, all_but_write}
use Rattle.serial_table.specs.Asked.{Asked, asked_of, is_stat, deletes_without_right, is_elsewhere, in_conflict, refuses, own_lease}
use Rattle.serial_table.specs.Grant.{LeaseGrant, allowed, old_lease, lease_by, grant_lease, is_durable, new_open, grant_by, grant}
use Rattle.serial_table.specs.Open as opening
use Rattle.serial_table.specs.Close.{close_first, close}
use Rattle.serial_table.specs.Delete.{delete_first, delete}
use Rattle.serial_table.specs.Ack.{acknowledged, accept, ack_lease, ack_first, ack}
use Rattle.serial_table.specs.ReadWrite.{if_allowed, forbids_read, forbids_write, read_first, read, written, write_first, write}
use Rattle.serial_table.specs.Lock.{range_blocker, wait_for_range, lock_by, lock_range, lock_first, lock}
use Rattle.serial_table.specs.Unlock.{unlock_first, unlock}
use Rattle.serial_table.specs.GlobalLock.{own_holds, glock_by, glock, gunlock_by, gunlock}
use Rattle.serial_table.specs.Recv.{recv_first, recv}
use Rattle.serial_table.specs.Decide.{decide}
use Rattle.sid_core.specs.declared.ids.Spot.TheVariants.{LockOf}
use Rattle.serial_table.specs.InPlace.{is_made, file_of_changes, scope_of, AreEnough}
use Rattle.serial_table.proofs.SameWorkers.{keeps_workers}
use Rattle.serial_table.proofs.Members.{each, all_each}
use Rattle.serial_table.proofs.Concluding.{PassesFinishing, no_more_all}
use Rattle.serial_table.proofs.OtherFiles.{leaves_others, enough_in_named}
use Rattle.serial_table.proofs.CloseOwed.{of_close}
use Rattle.serial_table.proofs.DeleteOwed.{of_delete}
use Rattle.serial_table.proofs.UnlockOwed.{by_ranges}
use Rattle.serial_table.proofs.GlobalLockOwed.{of_glock}
use Rattle.serial_table.proofs.ReconnectOwed.{of_reconnect}
use Rattle.serial_table.proofs.SessionOwed.{disconnect_made}
use Rattle.serial_table.proofs.ScavengeOwed.{scavenge_keeps, scavenge_made}
use Rattle.serial_table.proofs.Deciding.{kept_made, all_enough}

-- its changes of opens and leases are all of one file
abbrev pub IsOfOneFile : Decision → Type 0
IsOfOneFile d = (file : ℕ) × (list_all (leaves_others file) d.changes ≡ true)

reply_alone : (reply : Reply) → IsOfOneFile (only_reply reply)
reply_alone reply = (0, refl)

waits_leave : (file : ℕ) → PassesFinishing (leaves_others file)
waits_leave file = record { comes = λ _. refl; goes = λ _ _. refl; sent = λ _. refl }

-- waits may end before it
own_alone : (caller : Caller) (watches : List Watch) (d : Decision) → IsOfOneFile d → IsOfOneFile (no_longer_waits caller watches d)
own_alone caller watches d alone = (
  alone.0,
  list_all-append (leaves_others alone.0) (own_waits_end caller watches) d.changes
      ∙ and_from (list_all (leaves_others alone.0) (own_waits_end caller watches)) (list_all (leaves_others alone.0) d.changes)
      (no_more_all (leaves_others alone.0) (waits_leave alone.0) (filter (λ (watch : Watch). same_sid watch.sid caller.sid) watches)) alone.1,
)

-- ---- breaks are of the file of their leases

module _ (file : ℕ) where
  abbrev leave : List Change → Type 0
  leave changes = list_all (leaves_others file) changes ≡ true

  own : (file == file) ≡ true
  own = eq-eqb file file refl

  append_all : (cs ds : List Change) → leave cs → leave ds → leave (cs ++ ds)
  append_all cs ds first rest = list_all-append (leaves_others file) cs ds ∙ and_from (list_all (leaves_others file) cs) (list_all (leaves_others file) ds) first rest

  -- a change that names it, and then others
  sets : (rest : List Change) → leave rest → ((file == file) && list_all (leaves_others file) rest) ≡ true
  sets rest later = and_from (file == file) (list_all (leaves_others file) rest) own later

  to_leave : (now : Moment) (connected : List OpenRow) (l : LeaseRow) (target : ℕ) → leave (breaks_to now file connected l target).changes
  to_leave now [] l target = sets (c.Settle ∷ []) refl
  to_leave now (first ∷ others) l target =
      cond_both (l.held.0 == 1) (breaks_read file first.owner l target) (begins_to_break now file first.owner l target) (λ (b : Breaks). leave b.changes) (λ _. sets [] refl) (λ _. sets [] refl)

  by_leave : (now : Moment) (connected : List OpenRow) (kept : ℕ) (l : LeaseRow) (breaking : Option Breaking) → leave (break_by now file connected kept l breaking).changes
  by_leave now connected kept l (Some breaking) = sets [] refl
  by_leave now connected kept l None =
      cond_both (is_part_of l.held.0 kept) no_break (breaks_to now file connected l (bit_and l.held.0 kept)) (λ (b : Breaks). leave b.changes) (λ _. refl) (λ _. to_leave now connected l (bit_and l.held.0 kept))

  lease_leave : (now : Moment) (f : FileView) (kept : ℕ) (l : LeaseRow) → leave (break_lease now file f kept l).changes
  unfolding break_lease
  lease_leave now f kept l = by_leave now (connected_under f l.name) kept l l.breaking

  first_leave : (now : Moment) (f : FileView) (kept : ℕ) (ls : List LeaseRow) → leave (break_first now file f kept ls).changes
  first_leave now f kept [] = refl
  first_leave now f kept (l ∷ ls) = lease_leave now f kept l

  each_leave : (now : Moment) (f : FileView) (kept : ℕ) (names : List LeaseName) → leave (break_each now file f kept names).changes
  unfolding break_each
  each_leave now f kept [] = refl
  each_leave now f kept (name ∷ names) =
      let one = break_first now file f kept (f.leases name) in
      append_all one.changes (break_each now file (perform_all_in_file one.changes f) kept names).changes (first_leave now f kept (f.leases name)) (each_leave now (perform_all_in_file one.changes f) kept names)

-- ---- `open`

module _ (caller : Caller) (asked : Asked) where
  old_leave : (l : LeaseRow) (state may : ℕ) → leave asked.file (old_lease asked.file l state may).changes
  old_leave l state may =
      cond_both (is_none l.breaking && is_part_of l.held.0 state)
      (record { changes = sets_lease asked.file l (bit_or l.held.0 may) None ∷ []; held = bit_or l.held.0 may; breaks = false })
      (record { changes = []; held = l.held.0; breaks = not (is_none l.breaking) })
      (λ (g : LeaseGrant). leave asked.file g.changes) (λ _. sets asked.file [] refl) (λ _. refl)

  lease_by_leave : (name : LeaseName) (may : ℕ) (ls : List LeaseRow) → leave asked.file (lease_by name asked may ls).changes
  lease_by_leave name may [] = sets asked.file [] refl
  lease_by_leave name may (l ∷ ls) = old_leave l asked.state.0 may

  adds_leave : (durable : Bool) → leave asked.file (c.AddOpen (new_open caller asked durable) ∷ [])
  adds_leave durable = sets asked.file [] refl

  grant_by_leave : (f : FileView) (done : Breaks) (lease : Option LeaseName) → leave asked.file done.changes → leave asked.file (grant_by f caller asked done lease).changes
  grant_by_leave f done None before = append_all asked.file done.changes (c.AddOpen (new_open caller asked false) ∷ []) before (adds_leave false)
  grant_by_leave f done (Some name) before =
      let lease = grant_lease f asked name in
      let added : List Change = c.AddOpen (new_open caller asked (is_durable asked lease)) ∷ [] in
      append_all asked.file done.changes (lease.changes ++ added) before (append_all asked.file lease.changes added (lease_by_leave name (allowed f asked) (f.leases name)) (adds_leave (is_durable asked lease)))

  grant_leave : (f : FileView) (done : Breaks) → leave asked.file done.changes → leave asked.file (grant f caller asked done).changes
  unfolding grant
  grant_leave f done before = grant_by_leave f done asked.lease before

  handle_leave : (f : FileView) → leave asked.file (opening.handle_breaks f asked).changes
  unfolding opening.handle_breaks
  handle_leave f = each_leave asked.file asked.moment f all_but_handle (names_of (in_conflict f asked))

  other_leave : (f : FileView) → leave asked.file (opening.other_breaks f asked).changes
  unfolding opening.other_breaks
  other_leave f =
      cond_both (is_stat asked.access && not asked.overwrite) no_break (break_others asked.moment asked.file f (cond asked.overwrite none_of_them all_but_write) asked.lease) (λ (b : Breaks). leave asked.file b.changes)
      (λ _. refl) (λ _. each_leave asked.file asked.moment f (cond asked.overwrite none_of_them all_but_write) (filter (λ name. not (option_map_or (same_name name) asked.lease false)) (names_of f.opens)))

  wait_leave : (f : FileView) (done : Breaks) (blocker : Option Sid) → leave asked.file done.changes → leave asked.file (opening.wait_or_grant f caller asked done blocker).changes
  wait_leave f done (Some blocker) before = before
  wait_leave f done None before = grant_leave (perform_all_in_file done.changes f) done before

  on_leave : (f : FileView) (done : Breaks) (blocker : Option Sid) → leave asked.file done.changes → leave asked.file (opening.go_on f caller asked done blocker).changes
  on_leave f done (Some blocker) before = before
  on_leave f done None before =
      let others = opening.other_breaks (perform_all_in_file done.changes f) asked in
      wait_leave f (both done others) others.blocker (append_all asked.file done.changes others.changes before (other_leave (perform_all_in_file done.changes f)))

  open_leave : (elsewhere : Bool) (f : FileView) → leave asked.file (opening.open_by elsewhere f caller asked).changes
  unfolding opening.open_by
  open_leave elsewhere f =
      cond_both (deletes_without_right asked) (only_reply reply.AccessDenied) _ (λ (d : Decision). leave asked.file d.changes) (λ _. refl)
      (λ _. cond_both elsewhere (only_reply reply.InvalidParameter) _ (λ (d : Decision). leave asked.file d.changes) (λ _. refl)
      (λ _. cond_both f.pending (only_reply reply.DeletePending) _ (λ (d : Decision). leave asked.file d.changes) (λ _. refl)
      (λ _. cond_both (list_any (refuses f asked) (in_conflict f asked)) (only_reply reply.SharingViolation) (opening.go_on f caller asked (opening.handle_breaks f asked) (opening.handle_breaks f asked).blocker)
      (λ (d : Decision). leave asked.file d.changes) (λ _. refl) (λ _. on_leave f (opening.handle_breaks f asked) (opening.handle_breaks f asked).blocker (handle_leave f)))))

  pub open_alone : (v : View) → IsOfOneFile (opening.open_file v caller asked)
  unfolding opening.open_file
  open_alone v =
      own_alone caller (file_view asked.file v).open_watches (opening.open_by (is_elsewhere v asked) (file_view asked.file v) caller asked) (asked.file, open_leave (is_elsewhere v asked) (file_view asked.file v))

-- ---- `close`, `delete`, `ack`, `recv`

close_alone : (rows : List OpenRow) → IsOfOneFile (close_first rows)
close_alone [] = (0, refl)
close_alone (row ∷ rows) = of_close IsOfOneFile row (row.file, sets row.file (c.AddPending row.file ∷ []) (sets row.file [] refl)) (row.file, sets row.file [] refl)

delete_alone : (on : Bool) (rows : List OpenRow) → IsOfOneFile (delete_first on rows)
delete_alone on [] = (0, refl)
delete_alone on (row ∷ rows) = of_delete IsOfOneFile on row (0, refl) (row.file, sets row.file [] refl) (row.file, sets row.file [] refl)

recv_alone : (caller : Caller) (letters : List Post) → IsOfOneFile (recv_first caller letters)
recv_alone caller [] = (0, refl)
recv_alone caller (first ∷ others) = (0, refl)

ack_lease_alone : (now : Moment) (f : FileView) (l : LeaseRow) (state : LeaseState) (breaking : Option Breaking) → IsOfOneFile (ack_lease now f l state breaking)
ack_lease_alone now f l state None = (0, refl)
ack_lease_alone now f l state (Some breaking) =
    let again = break_lease now l.file f breaking.needed.0 (acknowledged l state) in
    cond_both (is_part_of state.0 breaking.asked.0) (accept l state again) (only_reply reply.RequestNotAccepted) IsOfOneFile
    (λ _. (l.file, sets l.file again.changes (lease_leave l.file now f breaking.needed.0 (acknowledged l state)))) (λ _. (0, refl))

ack_alone : (now : Moment) (v : View) (ls : List LeaseRow) (state : LeaseState) → IsOfOneFile (ack_first now v ls state)
ack_alone now v [] state = (0, refl)
ack_alone now v (l ∷ ls) state = ack_lease_alone now (file_view l.file v) l state l.breaking

-- ---- `read`, `write`, `lock`, `unlock`

allowed_alone : (f : FileView) (row : OpenRow) (wanted : ℕ) (span : Span) (forbids : RangeRow → Bool) (done : Decision) → IsOfOneFile done → IsOfOneFile (if_allowed f row wanted span forbids done)
allowed_alone f row wanted span forbids done alone =
    cond_both (not (has row.access.0 wanted)) (only_reply reply.AccessDenied) _ IsOfOneFile (λ _. (0, refl))
    (λ _. cond_both (span.length == 0) (only_reply reply.Done) _ IsOfOneFile (λ _. (0, refl))
    (λ _. cond_both (passes_end span) (only_reply reply.InvalidParameter) _ IsOfOneFile (λ _. (0, refl))
    (λ _. cond_both (list_any forbids f.ranges) (only_reply reply.FileLockConflict) done IsOfOneFile (λ _. (0, refl)) (λ _. alone))))

read_alone : (v : View) (span : Span) (rows : List OpenRow) → IsOfOneFile (read_first v span rows)
read_alone v span [] = (0, refl)
read_alone v span (row ∷ rows) = allowed_alone (file_view row.file v) row 0x21 span (forbids_read row span) (only_reply reply.Done) (0, refl)

-- all bits of the file's other leases are broken
others_leave : (now : Moment) (row : OpenRow) (f : FileView) → leave row.file (break_others now row.file f none_of_them row.lease).changes
others_leave now row f = each_leave row.file now f none_of_them (filter (λ name. not (option_map_or (same_name name) row.lease false)) (names_of f.opens))

write_alone : (now : Moment) (v : View) (span : Span) (rows : List OpenRow) → IsOfOneFile (write_first now v span rows)
write_alone now v span [] = (0, refl)
write_alone now v span (row ∷ rows) =
    let f = file_view row.file v in
    allowed_alone f row 0x6 span (forbids_write row span) (written row (break_others now row.file f none_of_them row.lease)) (row.file, others_leave now row f)

wait_alone : (caller : Caller) (file : ℕ) (wait : Bool) (blocker : Option Sid) → IsOfOneFile (wait_for_range caller file wait blocker)
wait_alone caller file false blocker = (0, refl)
wait_alone caller file true blocker = (0, refl)

lock_by_alone : (f : FileView) (caller : Caller) (span : Span) (mode : Mode) (wait : Bool) (row : OpenRow) (held : List RangeRow) → IsOfOneFile (lock_by f caller span mode wait row held)
lock_by_alone f caller span mode wait row [] = (row.file, others_leave caller.moment row f)
lock_by_alone f caller span mode wait row (first ∷ others) = wait_alone caller row.file wait (range_blocker f first)

lock_range_alone : (f : FileView) (caller : Caller) (span : Span) (mode : Mode) (wait : Bool) (row : OpenRow) → IsOfOneFile (lock_range f caller span mode wait row)
lock_range_alone f caller span mode wait row =
    cond_both (not (has row.access.0 0x3)) (only_reply reply.AccessDenied) _ IsOfOneFile (λ _. (0, refl))
    (λ _. cond_both (passes_end span) (only_reply reply.InvalidLockRange) _ IsOfOneFile (λ _. (0, refl))
    (λ _. lock_by_alone f caller span mode wait row (filter (λ held. range_conflict held row.id span mode) f.ranges)))

lock_alone : (v : View) (caller : Caller) (span : Span) (mode : Mode) (wait : Bool) (rows : List OpenRow) → IsOfOneFile (lock_first v caller span mode wait rows)
lock_alone v caller span mode wait [] = (0, refl)
lock_alone v caller span mode wait (row ∷ rows) =
    let f = file_view row.file v in own_alone caller f.range_watches (lock_range f caller span mode wait row) (lock_range_alone f caller span mode wait row)

unlock_alone : (v : View) (span : Span) (rows : List OpenRow) → IsOfOneFile (unlock_first v span rows)
unlock_alone v span [] = (0, refl)
unlock_alone v span (row ∷ rows) = by_ranges IsOfOneFile (file_view row.file v) span row (λ mode. (0, refl)) (0, refl)

-- ---- `glock`, `gunlock`, `reconnect`

glock_alone : (v : View) (caller : Caller) (key : ℕ) (mode : Mode) (wait : Bool) → IsOfOneFile (glock v caller key mode wait)
unfolding glock
glock_alone v caller key mode wait =
    own_alone caller (v.watches_on (LockOf key)) (glock_by v caller key mode wait (own_holds v caller key))
    (of_glock IsOfOneFile caller key (record { replies = reply_alone; grants = (0, refl); lowers = (0, refl); raises = (0, refl); gains = λ mode. (0, refl); waits = λ blocker upgrade. (0, refl) }) v mode wait (own_holds v caller key))

gunlock_by_alone : (caller : Caller) (key : ℕ) (holds : List HoldRow) → IsOfOneFile (gunlock_by caller key holds)
gunlock_by_alone caller key [] = (0, refl)
gunlock_by_alone caller key (first ∷ others) = (0, refl)

gunlock_alone : (v : View) (caller : Caller) (key : ℕ) → IsOfOneFile (gunlock v caller key)
unfolding gunlock
gunlock_alone v caller key = own_alone caller (v.watches_on (LockOf key)) (gunlock_by caller key (own_holds v caller key)) (gunlock_by_alone caller key (own_holds v caller key))

reconnect_alone : (setup : Setup) (v : View) (caller : Caller) (worker made key : ℕ) → IsOfOneFile (decide setup v caller (call.Reconnect worker made key))
reconnect_alone setup v caller worker made key =
    of_reconnect IsOfOneFile caller (record { replies = reply_alone; takes = λ row held. (row.file, sets row.file [] refl) }) setup v worker made key

-- ---- all of them

-- the calls whose changes may be of several files, or begin a session
abbrev pub is_of_one_file : Call → Bool
is_of_one_file call.Disconnect = false
is_of_one_file call.Scavenge = false
is_of_one_file _ = true

pub decided_alone : (setup : Setup) (v : View) (caller : Caller) (which : Call) → is_of_one_file which ≡ true → IsOfOneFile (decide setup v caller which)
unfolding close delete ack lock unlock read write recv
decided_alone setup v caller (call.OpenFile file access share lease durable overwrite delete) e = open_alone caller (asked_of caller file access share lease durable overwrite delete) v
decided_alone setup v caller (call.Close handle) e = close_alone (v.opens_of_handle caller.sid handle)
decided_alone setup v caller (call.Delete handle on) e = delete_alone on (v.opens_of_handle caller.sid handle)
decided_alone setup v caller (call.Ack key state) e = ack_alone caller.moment v (v.leases_of (own_lease caller key)) state
decided_alone setup v caller (call.Lock handle span mode wait) e = lock_alone v caller span mode wait (v.opens_of_handle caller.sid handle)
decided_alone setup v caller (call.Unlock handle span) e = unlock_alone v span (v.opens_of_handle caller.sid handle)
decided_alone setup v caller (call.Read handle span) e = read_alone v span (v.opens_of_handle caller.sid handle)
decided_alone setup v caller (call.Write handle span) e = write_alone caller.moment v span (v.opens_of_handle caller.sid handle)
decided_alone setup v caller (call.GLock key mode wait) e = glock_alone v caller key mode wait
decided_alone setup v caller (call.GUnlock key) e = gunlock_alone v caller key
decided_alone setup v caller call.Recv e = recv_alone caller (v.letters_of caller.sid)
decided_alone setup v caller call.Disconnect e = absurd cc
decided_alone setup v caller (call.Reconnect worker made key) e = reconnect_alone setup v caller worker made key
decided_alone setup v caller call.Scavenge e = absurd cc
decided_alone setup v caller call.Tidy e = (0, refl)
decided_alone setup v caller (call.Status tables) e = (0, refl)

-- Where the table is settled, it is enough to settle the file that they name.
pub enough_decided : (d : Decision) (t : Table) → settle t ≡ t → IsOfOneFile d → AreEnough (scope.File (file_of_changes d.changes)) (settling d) t
enough_decided d t s alone = enough_in_named alone.0 d.changes t s alone.1

-- ---- what changes of one file are, whatever the file

pub alone_keeps : (d : Decision) → IsOfOneFile d → list_all keeps_workers d.changes ≡ true
alone_keeps d alone =
    all_each keeps_workers d.changes (λ change i. (and_parts (keeps_workers change) _ (each (leaves_others alone.0) d.changes alone.1 change i)).0)

pub alone_made : (d : Decision) → IsOfOneFile d → list_all is_made d.changes ≡ true
alone_made d alone = all_each is_made d.changes (λ change i. kept_made change (each keeps_workers d.changes (alone_keeps d alone) change i))

-- ---- any call

abbrev pub ends_its_session : Call → Bool
ends_its_session call.Disconnect = true
ends_its_session _ = false

-- The next session's number has 32 bits.
decide_made : (setup : Setup) (v : View) (caller : Caller) (which : Call) → caller.sid.session + 1 < 2 ^ 32 → list_all is_made (decide setup v caller which).changes ≡ true
decide_made setup v caller call.Disconnect next = disconnect_made v caller next
decide_made setup v caller call.Scavenge next = scavenge_made setup v caller
decide_made setup v caller which next = alone_made (decide setup v caller which) (decided_alone setup v caller which refl)

-- so too of a decision that is this one
pub decided_made : (setup : Setup) (t : Table) (caller : Caller) (which : Call) (d : Decision) → d ≡ decide setup (view t) caller which → caller.sid.session + 1 < 2 ^ 32 → list_all is_made d.changes ≡ true
decided_made setup t caller which d is next = ap (λ (d : Decision). list_all is_made d.changes) is ∙ decide_made setup (view t) caller which next

pub decided_keeps : (setup : Setup) (v : View) (caller : Caller) (which : Call) → ends_its_session which ≡ false → list_all keeps_workers (decide setup v caller which).changes ≡ true
decided_keeps setup v caller call.Disconnect e = absurd cc
decided_keeps setup v caller call.Scavenge e = scavenge_keeps setup v caller
decided_keeps setup v caller which e = alone_keeps (decide setup v caller which) (decided_alone setup v caller which refl)

decide_enough : (setup : Setup) (t : Table) (caller : Caller) (which : Call) → settle t ≡ t → AreEnough (scope_of which (decide setup (view t) caller which).changes) (settling (decide setup (view t) caller which)) t
decide_enough setup t caller call.Disconnect s = all_enough (settling (decide setup (view t) caller call.Disconnect)) t
decide_enough setup t caller call.Scavenge s = all_enough (settling (decide setup (view t) caller call.Scavenge)) t
decide_enough setup t caller which s = enough_decided (decide setup (view t) caller which) t s (decided_alone setup (view t) caller which refl)

pub decided_enough : (setup : Setup) (t : Table) (caller : Caller) (which : Call) (d : Decision) → d ≡ decide setup (view t) caller which → settle t ≡ t → AreEnough (scope_of which d.changes) (settling d) t
decided_enough setup t caller which d is s = subst (λ (d : Decision). AreEnough (scope_of which d.changes) (settling d) t) (sym is) (decide_enough setup t caller which s)
