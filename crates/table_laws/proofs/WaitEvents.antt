-- `glock` and `lock` keep what the databases stand for, where no register record watches the call yet.
use Rattle.std.proofs.Common.{◌≡◌, ℕ, Bool, true, false, cond, not, ◌==◌, ◌&&◌, List, [], ◌∷◌, ◌++◌, filter, find, Option, Some, None, refl, sym, ap, ◌∙◌, subst, inl, inr}
use Rattle.std.specs.List.{list_any, list_all}
use Rattle.std.specs.Option.{option_map_or}
use Rattle.std.proofs.lemmas.Bool.{and_from, cond_both, eqb-true}
use Rattle.sid_core.specs.declared.call.Call.TheVariants as call
use Rattle.sid_core.specs.declared.call.Mode.{Mode}
use Rattle.sid_core.specs.declared.call.Mode.TheVariants.{Shared, Exclusive}
use Rattle.sid_core.specs.declared.call.Span.{Span}
use Rattle.sid_core.specs.declared.entry.Entry.{Entry}
use Rattle.sid_core.specs.declared.ids.Moment.{Moment}
use Rattle.sid_core.specs.declared.ids.Sid.{Sid}
use Rattle.sid_core.specs.declared.ids.Spot.{Spot}
use Rattle.sid_core.specs.declared.ids.Spot.TheVariants.{LockOf}
use Rattle.sid_core.specs.declared.reply.Reply.{Reply}
use Rattle.sid_core.specs.declared.reply.Reply.TheVariants.{LockNotGranted, PossibleDeadlock, FileClosed, AccessDenied, InvalidLockRange}
use Rattle.sid_core.specs.declared.setup.Setup.{Setup}
use Rattle.sid_core.specs.declared.setup.WorkerInfo.{WorkerInfo}
use Rattle.sid_core.specs.Setup.{IsSetup}
use Rattle.sid_core.specs.Values.{has}
use Rattle.serial_table.specs.declared.rows.OpenRow.{OpenRow}
use Rattle.serial_table.specs.declared.rows.HoldRow.{HoldRow}
use Rattle.serial_table.specs.declared.rows.RangeRow.{RangeRow}
use Rattle.serial_table.specs.declared.rows.Watch.{Watch}
use Rattle.serial_table.specs.declared.table.Table.{Table}
use Rattle.serial_table.specs.declared.change.Change.TheVariants as c
use Rattle.serial_table.specs.declared.decision.Caller.{Caller}
use Rattle.serial_table.specs.declared.decision.Decision.{Decision}
use Rattle.serial_table.specs.View.{View, view, has_id}
use Rattle.serial_table.specs.File.{FileView, FileOpen, file_view}
use Rattle.serial_table.specs.Settle.{settle}
use Rattle.serial_table.specs.Break.{none_of_them, break_others}
use Rattle.serial_table.specs.Decision.{only_reply}
use Rattle.serial_table.specs.Expire.{expired_by}
use Rattle.serial_table.specs.GlobalLock.{own_holds, other_holds, keeps_out, other_upgrades, granted_by, wait_for_lock, lower, raise, change_hold, gain_hold, glock_by, glock}
use Rattle.serial_table.specs.Lock.{grant_range, range_blocker, wait_for_range, lock_by, lock_range, lock_in, lock_first, lock}
use Rattle.serial_table.specs.Range.{range_conflict, passes_end}
use Rattle.serial_table.specs.History.{after, IsLegal}
use Rattle.serial_table.proofs.Members.{IsIn, in_filter, found_in}
use Rattle.stored_table.specs.Keys.{open_key, pid_key, lock_key}
use Rattle.stored_table.specs.Places.{Chains, Place, among}
use Rattle.stored_table.specs.Decoded.{AllRecords, records_of}
use Rattle.stored_table.specs.Met.{met_by_call, met_by_handle, met_by_lock, all_met, nothing_met}
use Rattle.stored_table.specs.Stands.{StandsFor}
use Rattle.table_laws.specs.Standing.{IsUnwatched, KeepsStandingIfNew}
use Rattle.table_laws.proofs.Contained.{lock_place, register_place, mail_place}
use Rattle.table_laws.proofs.Exactly.{in_opens}
use Rattle.table_laws.proofs.Meets.{own_mail, lock_here, lock_watcher_met, holder_met, owner_register, files_written}
use Rattle.table_laws.proofs.Deciding.{IsContained, reply_contained}
use Rattle.table_laws.proofs.Chains.{IsFine, adds_no_open}
use Rattle.table_laws.proofs.Calls.{call_contained, call_opens}
use Rattle.table_laws.proofs.Breaking.{breaks_touch, breaks_reach, breaks_wait, breaks_open}
use Rattle.table_laws.proofs.HandleCalls.{handle_places, here, files, behind, row_behind, open_was, own_file, file_met, spots_met, handle_contained, handle_opens}
use Rattle.table_laws.proofs.HandleEvents.{entry, keeps_standing_with, writes_by}
use Rattle.table_laws.proofs.WriteEvents.{breaks_are}
use Rattle.table_laws.proofs.CallerEvents.{nowhere}
use Rattle.table_laws.proofs.LockEvents.{after_own_waits, no_open_before}

-- ---- glock

module _ (setup : Setup) (ps : List Place) (s : AllRecords) (t : Table) (caller : Caller) (key : ℕ)
    (own : among (mail_place caller.sid.pid) ps ≡ true) (lock : among (lock_place key) ps ≡ true)
    (watchers : (y : Watch) → IsIn y ((view t).watches_on (LockOf key)) → among (mail_place y.sid.pid) ps ≡ true)
    (holders : (hold : HoldRow) → IsIn hold ((view t).holds_of key) → among (register_place hold.owner.pid) ps ≡ true)
    (fresh : (pid : ℕ) → Rattle.std.specs.List.AllByRecursion (λ w. (Rattle.sid_core.specs.Ids.same_sid caller.sid w.sid && (caller.number == w.call)) ≡ false) (Rattle.table_laws.proofs.Contained.register_watchers s pid)) where
  abbrev Inside : Decision → Type 0
  Inside d = IsContained setup ps s nowhere t d × (list_all adds_no_open d.changes ≡ true)

  replies : (reply : Reply) → Inside (only_reply reply)
  replies reply = (reply_contained setup ps s nowhere t reply, refl)

  granted_none : Inside (granted_by [])
  granted_none = (record { touched = refl; reached = refl; none_waits = refl; posts = λ p i. absurd i; spots = λ spot i. absurd i; waits = tt }, refl)

  granted_set : (mode : Mode) → Inside (granted_by (c.SetHold key caller.sid mode ∷ []))
  granted_set mode = (record { touched = refl; reached = and_from _ _ lock refl; none_waits = refl; posts = λ p i. absurd i; spots = λ spot i. absurd i; waits = tt }, refl)

  lowered : Inside (lower caller key)
  lowered = (record { touched = refl; reached = and_from _ _ lock refl; none_waits = refl; posts = λ p i. absurd i; spots = at; waits = tt }, refl)
    where
      at : (spot : Spot) → IsIn spot (LockOf key ∷ []) → (y : Watch) → IsIn y ((view t).watches_on spot) → among (mail_place y.sid.pid) ps ≡ true
      at spot (inl e) y j = watchers y (subst (λ z. IsIn y ((view t).watches_on z)) (sym e) j)
      at spot (inr e) y j = absurd e

  waits_for_lock : (hold : HoldRow) → IsIn hold ((view t).holds_of key) → (upgrade : Bool) → Inside (wait_for_lock caller key hold.owner upgrade)
  waits_for_lock hold i upgrade = (
    record {
      touched = refl;
      reached = refl;
      none_waits = refl;
      posts = λ p i. absurd i;
      spots = λ spot i. absurd i;
      waits = (and_from _ _ own (and_from _ _ lock (holders hold i)), fresh);
    },
    refl,
  )

  raised : (wait : Bool) (holds : List HoldRow) → ((hold : HoldRow) → IsIn hold holds → IsIn hold ((view t).holds_of key)) → Inside (raise (view t) caller key wait holds)
  raised wait [] h = granted_set Exclusive
  raised false (first ∷ others) h = replies LockNotGranted
  raised true (first ∷ others) h =
      cond_both (other_upgrades (view t) caller key) (only_reply PossibleDeadlock) (wait_for_lock caller key first.owner true) Inside (λ _. replies PossibleDeadlock) (λ _. waits_for_lock first (h first (inl refl)) true)

  others_there : (hold : HoldRow) → IsIn hold (other_holds (view t) caller key) → IsIn hold ((view t).holds_of key)
  others_there hold i = (in_filter _ ((view t).holds_of key) hold i).0

  changed : (wait : Bool) (held asked : Mode) → Inside (change_hold (view t) caller key wait held asked)
  changed wait Shared Shared = granted_none
  changed wait Exclusive Exclusive = granted_none
  changed wait Exclusive Shared = lowered
  changed wait Shared Exclusive = raised wait (other_holds (view t) caller key) others_there

  gained : (mode : Mode) (wait : Bool) (holds : List HoldRow) → ((hold : HoldRow) → IsIn hold holds → IsIn hold ((view t).holds_of key)) → Inside (gain_hold caller key mode wait holds)
  gained mode wait [] h = (record { touched = refl; reached = and_from _ _ lock refl; none_waits = refl; posts = λ p i. absurd i; spots = λ spot i. absurd i; waits = tt }, refl)
  gained mode false (first ∷ others) h = replies LockNotGranted
  gained mode true (first ∷ others) h = waits_for_lock first (h first (inl refl)) false

  pub glock_inside : (mode : Mode) (wait : Bool) (owns : List HoldRow) → Inside (glock_by (view t) caller key mode wait owns)
  glock_inside mode wait (first ∷ others) = changed wait first.mode mode
  glock_inside mode wait [] = gained mode wait (filter (keeps_out mode) (other_holds (view t) caller key)) (λ hold i. others_there hold (in_filter (keeps_out mode) (other_holds (view t) caller key) hold i).0)

module _ (setup : Setup) (n : ℕ) (is : IsSetup setup) (before : List Entry) (by seq number : ℕ) (moment : Moment) (reply : Reply) where
  pub glock_stands : (key : ℕ) (mode : Mode) (wait : Bool) → IsLegal setup (before ++ entry setup n is before by seq number moment (call.GLock key mode wait) reply ∷ [])
      → KeepsStandingIfNew setup n before by number moment (entry setup n is before by seq number moment (call.GLock key mode wait) reply)
  unfolding glock expired_by
  glock_stands key mode wait legal =
      keeps_standing_with setup n is before by seq number moment (call.GLock key mode wait) reply (λ k caller. IsUnwatched setup n k caller.sid caller.number) legal (λ w. refl)
      (λ k stands fine settled caller info declared pid guid fresh.
      let t = after setup before in
      let ps = all_met (met_by_lock n k info key) in
      let s = records_of setup n k in
      let own : among (mail_place caller.sid.pid) ps ≡ true =
      ap (λ p. among (mail_place p) ps) pid ∙ own_mail setup n k t stands.agree fine.sound fine.sets [] (lock_key key ∷ []) [] [] (pid_key info.pid ∷ []) info.pid (inl refl) in
      let lock = lock_here setup n k t stands.agree fine.sound fine.sets [] (lock_key key ∷ []) [] [] (pid_key info.pid ∷ []) key (inl refl) in
      let watchers = lock_watcher_met setup n k t stands.agree fine.sound fine.sets [] (lock_key key ∷ []) [] [] (pid_key info.pid ∷ []) key (inl refl) in
      let holders = holder_met setup n k t stands.agree fine.sound fine.sets [] (lock_key key ∷ []) [] [] (pid_key info.pid ∷ []) key (inl refl) in
      let inside = glock_inside setup ps s t caller key own lock watchers holders fresh mode wait (own_holds (view t) caller key) in
      let d = glock_by (view t) caller key mode wait (own_holds (view t) caller key) in
      let h = after_own_waits setup ps s nowhere t caller own ((view t).watches_on (LockOf key)) d inside.0 in
      record {
        places = ps;
        writes = ap (λ o. all_met (option_map_or (λ caller. met_by_call setup n k caller number (call.GLock key mode wait)) o nothing_met)) declared;
        inside = call_contained setup ps s nowhere t caller (call.GLock key mode wait) (λ file e. absurd cc) (λ o i e. absurd cc) settled (λ l i. absurd i) h;
        opens = call_opens setup ps s nowhere t caller (call.GLock key mode wait) (λ file e. absurd cc) (λ o i e. absurd cc) settled (λ l i. absurd i) h
            (no_open_before setup ps s nowhere t caller own ((view t).watches_on (LockOf key)) d inside.1);
      })

-- ---- lock

module _ (setup : Setup) (n : ℕ) (k : Chains) (t : Table) (stands : StandsFor setup n k (view t)) (fine : IsFine setup t) (settled : settle t ≡ t)
    (caller : Caller) (info : WorkerInfo) (pid : caller.sid.pid ≡ info.pid) (handle : ℕ) (fresh : IsUnwatched setup n k caller.sid caller.number) where
  abbrev there : ℕ → Bool
  there = here setup n k t stands fine settled caller info pid handle

  abbrev places : List Place
  places = handle_places setup n k t stands fine settled caller info pid handle

  abbrev Within : Decision → Type 0
  Within d = IsContained setup places (records_of setup n k) there t d × (list_all adds_no_open d.changes ≡ true)

  only : (reply : Reply) → Within (only_reply reply)
  only reply = (reply_contained setup places (records_of setup n k) there t reply, refl)

  own_mail_met : among (mail_place caller.sid.pid) places ≡ true
  own_mail_met =
      ap (λ p. among (mail_place p) places) pid
      ∙ own_mail setup n k t stands.agree fine.sound fine.sets (open_key info.pid handle ∷ []) [] (files setup n k t stands fine settled caller info pid handle) [] (pid_key info.pid ∷ []) info.pid (inl refl)

  module _ (b : Table) (was : (o : OpenRow) → IsIn o b.opens → IsIn o t.opens) (row : OpenRow) (i : IsIn row ((view t).opens_of_handle caller.sid handle)) where
    abbrev f : FileView
    f = file_view row.file (view b)

    range_granted : (span : Span) (mode : Mode) → Within (grant_range row span mode (break_others caller.moment row.file (file_view row.file (view b)) none_of_them row.lease))
    range_granted span mode =
        let breaks = break_others caller.moment row.file (file_view row.file (view b)) none_of_them row.lease in
        let are = breaks_are setup n k t stands fine settled caller info pid handle caller.moment b was row i in (
          record {
            touched = and_from _ _ (own_file setup n k t stands fine settled caller info pid handle row i) (breaks_touch there breaks.changes are.changes);
            reached = breaks_reach there setup places breaks.changes are.changes;
            none_waits = breaks_wait there breaks.changes are.changes;
            posts = are.posts;
            spots = spots_met setup n k t stands fine settled caller info pid handle row i;
            waits = tt;
          },
          breaks_open there breaks.changes are.changes,
        )

    -- who stands in the way owns an open of the file
    owner_of : (o : FileOpen) → IsIn o f.opens → among (register_place o.row.owner.pid) places ≡ true
    owner_of o j =
        let x = Rattle.serial_table.proofs.Members.in_map (Rattle.serial_table.specs.File.file_open (Rattle.serial_table.specs.View.lives (view b))) ((view b).opens_of row.file) o j in
        let at = in_filter (Rattle.serial_table.specs.View.is_of_file row.file) b.opens x.0 x.1 in
        subst (λ (y : FileOpen). among (register_place y.row.owner.pid) places ≡ true) x.2
        (owner_register setup n k t stands.agree fine.sound fine.sets (open_key info.pid handle ∷ []) [] (files setup n k t stands fine settled caller info pid handle) [] (pid_key info.pid ∷ []) row.file
        (file_met setup n k t stands fine settled caller info pid handle row i) x.0
        (subst (λ g. IsIn x.0 ((view t).opens_of g)) (eqb-true x.0.file row.file at.1) (in_opens t fine.sound x.0 (was x.0 at.0))))

    blocker_met : (o : Option FileOpen) → ((x : FileOpen) → o ≡ Some x → IsIn x f.opens)
        → option_map_or (λ (y : Sid). among (register_place y.pid) places) (option_map_or (λ (x : FileOpen). cond x.connected (Some x.row.owner) None) o None) true ≡ true
    blocker_met None h = refl
    blocker_met (Some x) h = cond_both x.connected (Some x.row.owner) None (λ q. option_map_or (λ (y : Sid). among (register_place y.pid) places) q true ≡ true) (λ _. owner_of x (h x refl)) (λ _. refl)

    waits_for_range : (wait : Bool) (first : RangeRow) → Within (wait_for_range caller row.file wait (range_blocker (file_view row.file (view b)) first))
    waits_for_range false first = only LockNotGranted
    waits_for_range true first = (
      record {
        touched = refl;
        reached = refl;
        none_waits = refl;
        posts = λ p j. absurd j;
        spots = λ spot j. absurd j;
        waits = (
          and_from _ _ own_mail_met
              (and_from _ _ (files_written setup n k t stands.agree fine.sound fine.sets (open_key info.pid handle ∷ []) [] (files setup n k t stands fine settled caller info pid handle) [] (pid_key info.pid ∷ []) row.file
              (file_met setup n k t stands fine settled caller info pid handle row i)).1
              (blocker_met (find (λ o. has_id first.id o.row) f.opens) (λ x e. (found_in (λ o. has_id first.id o.row) f.opens x e).0))),
          fresh,
        );
      },
      refl,
    )

    by_held : (span : Span) (mode : Mode) (wait : Bool) (held : List RangeRow) → Within (lock_by (file_view row.file (view b)) caller span mode wait row held)
    by_held span mode wait [] = range_granted span mode
    by_held span mode wait (first ∷ others) = waits_for_range wait first

    range_locked : (span : Span) (mode : Mode) (wait : Bool) → Within (lock_range (file_view row.file (view b)) caller span mode wait row)
    range_locked span mode wait =
        cond_both (not (has row.access.0 0x3)) (only_reply AccessDenied) _ Within (λ _. only AccessDenied)
        (λ _. cond_both (passes_end span) (only_reply InvalidLockRange) _ Within (λ _. only InvalidLockRange)
        (λ _. by_held span mode wait (filter (λ held. range_conflict held row.id span mode) f.ranges)))

    locked_in : (span : Span) (mode : Mode) (wait : Bool) → Within (lock_in (file_view row.file (view b)) caller span mode wait row)
    locked_in span mode wait =
        let d = lock_range (file_view row.file (view b)) caller span mode wait row in
        let w = range_locked span mode wait in
        (after_own_waits setup places (records_of setup n k) there t caller own_mail_met f.range_watches d w.0, no_open_before setup places (records_of setup n k) there t caller own_mail_met f.range_watches d w.1)

  pub locked : (b : Table) → ((o : OpenRow) → IsIn o b.opens → IsIn o t.opens) → (span : Span) (mode : Mode) (wait : Bool) (os : List OpenRow) → ((o : OpenRow) → IsIn o os → IsIn o ((view t).opens_of_handle caller.sid handle))
      → Within (lock_first (view b) caller span mode wait os)
  locked b was span mode wait [] w = only FileClosed
  locked b was span mode wait (row ∷ os) w = locked_in b was row (w row (inl refl)) span mode wait

module _ (setup : Setup) (n : ℕ) (is : IsSetup setup) (before : List Entry) (by seq number : ℕ) (moment : Moment) (handle : ℕ) (reply : Reply) where
  pub lock_stands : (span : Span) (mode : Mode) (wait : Bool) → IsLegal setup (before ++ entry setup n is before by seq number moment (call.Lock handle span mode wait) reply ∷ [])
      → KeepsStandingIfNew setup n before by number moment (entry setup n is before by seq number moment (call.Lock handle span mode wait) reply)
  unfolding lock
  lock_stands span mode wait legal =
      keeps_standing_with setup n is before by seq number moment (call.Lock handle span mode wait) reply (λ k caller. IsUnwatched setup n k caller.sid caller.number) legal (λ w. refl)
      (λ k stands fine settled caller info declared pid guid fresh.
      let t = after setup before in
      let b = behind setup n k t stands fine settled caller info pid handle (call.Lock handle span mode wait) refl in
      let was = open_was setup n k t stands fine settled caller info pid handle (call.Lock handle span mode wait) refl in
      let within = row_behind setup n k t stands fine settled caller info pid handle (call.Lock handle span mode wait) refl in
      let h = locked setup n k t stands fine settled caller info pid handle fresh b was span mode wait ((view b).opens_of_handle caller.sid handle) within in
      record {
        places = all_met (met_by_handle setup n k info handle);
        writes = writes_by setup n is before by seq number moment handle reply (call.Lock handle span mode wait) (λ k info. refl) k info declared;
        inside = handle_contained setup n k t stands fine settled caller info pid handle (call.Lock handle span mode wait) refl h.0;
        opens = handle_opens setup n k t stands fine settled caller info pid handle (call.Lock handle span mode wait) refl h.0 h.1;
      })
