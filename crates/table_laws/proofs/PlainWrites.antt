-- What calls of no file and deaths write goes by the chains of their footprint alone.
use Rattle.std.proofs.Common.{◌≡◌, ℕ, ◌≤◌, Bool, true, false, ◌&&◌, ◌||◌, not, ◌==◌, List, [], ◌∷◌, ◌++◌, map, filter, Option, Some, None, refl, sym, ap, ◌∙◌, subst, inl, inr}
use Rattle.std.specs.List.{AllByRecursion, list_any}
use Rattle.std.specs.Option.{option_map, option_map_or}
use Rattle.sid_core.specs.declared.call.Call.{Call}
use Rattle.sid_core.specs.declared.call.Call.TheVariants as call
use Rattle.sid_core.specs.declared.call.Mode.{Mode}
use Rattle.sid_core.specs.declared.call.Mode.TheVariants.{Shared, Exclusive}
use Rattle.sid_core.specs.declared.call.Tables.{Tables}
use Rattle.sid_core.specs.declared.entry.Entry.{Entry}
use Rattle.sid_core.specs.declared.entry.Event.TheVariants.{Died}
use Rattle.sid_core.specs.declared.entry.Post.{Post}
use Rattle.sid_core.specs.declared.ids.Moment.{Moment}
use Rattle.sid_core.specs.declared.ids.Sid.{Sid}
use Rattle.sid_core.specs.declared.ids.Spot.{Spot}
use Rattle.sid_core.specs.declared.ids.Spot.TheVariants.{LockOf}
use Rattle.sid_core.specs.declared.reply.Reply.{Reply}
use Rattle.sid_core.specs.declared.setup.Setup.{Setup}
use Rattle.sid_core.specs.declared.setup.WorkerInfo.{WorkerInfo}
use Rattle.sid_core.specs.Ids.{same_sid}
use Rattle.sid_core.specs.Setup.{IsSetup}
use Rattle.serial_table.specs.declared.rows.HoldRow.{HoldRow}
use Rattle.serial_table.specs.declared.rows.Watch.{Watch}
use Rattle.serial_table.specs.declared.table.Table.{Table}
use Rattle.serial_table.specs.declared.change.Change.{Change}
use Rattle.serial_table.specs.declared.change.Change.TheVariants as c
use Rattle.serial_table.specs.declared.decision.Caller.{Caller}
use Rattle.serial_table.specs.declared.decision.Decision.{Decision}
use Rattle.serial_table.specs.View.{View, view, lives}
use Rattle.serial_table.specs.Change.{is_hold, same_mode, perform_all, perform_by_key}
use Rattle.serial_table.specs.Decide.{outcome}
use Rattle.sid_core.specs.declared.reply.Reply.TheVariants.{Done}
use Rattle.serial_table.proofs.Alike.{after_all-append}
use Rattle.serial_table.proofs.Along.{legal_before}
use Rattle.serial_table.proofs.Callers.{is_caller_of}
use Rattle.serial_table.proofs.GlobalLockOwed.{of_glock}
use Rattle.std.specs.Prelude.{IsSome}
use Rattle.stored_table.specs.Footprint.{footprint}
use Rattle.table_laws.proofs.Answering.{caller_same}
use Rattle.serial_table.specs.Decision.{only_reply, Outcome, settling, conclude, no_longer_waits, waits_no_more}
use Rattle.serial_table.specs.Disconnect.{disconnect}
use Rattle.serial_table.specs.Expire.{expired_by}
use Rattle.serial_table.specs.GlobalLock.{own_holds, glock_by, glock, gunlock_by, gunlock}
use Rattle.serial_table.specs.History.{start, after, IsLegal, IsLegalDeath}
use Rattle.serial_table.specs.Recv.{recv_first, recv}
use Rattle.serial_table.specs.Session.{end_of_session}
use Rattle.serial_table.specs.Sound.{IsSound}
use Rattle.serial_table.specs.Step.{caller_of}
use Rattle.serial_table.specs.Wake.{frees_lock, some_frees, wake}
use Rattle.serial_table.proofs.Members.{IsIn}
use Rattle.stored_table.specs.Keys.{lock_key, pid_key}
use Rattle.stored_table.specs.Places.{Chains, Place, among, chain_at, value_at}
use Rattle.stored_table.specs.Decoded.{records_of}
use Rattle.stored_table.specs.Exact.{exact_register}
use Rattle.stored_table.specs.Histories.{moved_by}
use Rattle.stored_table.specs.Move.{move, places_written}
use Rattle.stored_table.specs.Met.{KeyList, Met, met, met_by_call, met_by_files, met_by_worker, all_met, nothing_met}
use Rattle.stored_table.specs.Stands.{StandsFor}
use Rattle.table_laws.specs.ByFootprint.{AgreeOnFootprint, IsWrittenByFootprint}
use Rattle.table_laws.specs.Standing.{call_entry}
use Rattle.table_laws.proofs.CallWrites.{WritesAlike, call_written}
use Rattle.table_laws.proofs.Chains.{IsFine, legal_is_fine}
use Rattle.table_laws.proofs.Keywise.{hold_step, woken_alike, concluded_alike}
use Rattle.table_laws.proofs.FileWrites.{register_before, mail_before, records_alike}
use Rattle.table_laws.proofs.Alike.{behind_by, behind_told, letters_by, letters_told}
use Rattle.table_laws.proofs.Footprints.{met_value, own_register_same, lock_same}
use Rattle.table_laws.proofs.Landing.{before_entry, lands, lands_unwritten}
use Rattle.table_laws.proofs.PlainAnswers.{at_met, lock_holds_same, lock_watches_same, locked_by}

-- ---- locks

frees_alike : (change : Change) (key : ℕ) (v w : View) → v.holds_of key ≡ w.holds_of key → frees_lock change key v ≡ frees_lock change key w
frees_alike (c.DropHold k owner) key v w e = ap (λ (hs : List HoldRow). (k == key) && list_any (is_hold k owner) hs) e
frees_alike (c.SetHold k owner Shared) key v w e = ap (λ (hs : List HoldRow). (k == key) && list_any (λ hold. is_hold k owner hold && same_mode hold.mode Exclusive) hs) e
frees_alike _ key v w e = refl

lock_frees : (cs : List Change) (key : ℕ) (v w : View) → v.holds_of key ≡ w.holds_of key → some_frees cs v (LockOf key) ≡ some_frees cs w (LockOf key)
lock_frees [] key v w e = refl
lock_frees (change ∷ cs) key v w e = λ i. frees_alike change key v w e i || lock_frees cs key (perform_by_key change v) (perform_by_key change w) (hold_step key change v w e) i

-- ---- a call of no file

module _ (setup : Setup) (n by seq number : ℕ) (moment : Moment) (which : Call) (reply : Reply) (locks : KeyList)
    (meets : (k : Chains) (info : WorkerInfo) → met_by_call setup n k info number which ≡ met_by_files n k [] locks [] [] (pid_key info.pid ∷ []))
    (writes : (x : Chains) → places_written setup n x (call_entry by seq number moment which reply) ≡ all_met (met setup n x (call_entry by seq number moment which reply)))
    (changes : (k j : Chains) (t u : Table) → StandsFor setup n k (view t) → StandsFor setup n j (view u) → IsFine setup t → IsFine setup u → (caller : Caller) → lives (view t) caller.sid ≡ true → lives (view u) caller.sid ≡ true
    → ((p : Place) → among p (all_met (met_by_files n k [] locks [] [] (pid_key caller.sid.pid ∷ []))) ≡ true → value_at n k p ≡ value_at n j p)
    → (outcome setup (view t) caller which).changes ≡ (outcome setup (view u) caller which).changes) where
  pub plain_written : IsWrittenByFootprint setup n (call_entry by seq number moment which reply)
  plain_written =
      call_written setup n by seq number moment which reply (λ x t info session stands alive. subst (λ (m : Met). IsIn (pid_key info.pid) m.register) (sym (meets x info)) (inl refl)) writes (λ k j t u caller info b.
      let own = pid_key info.pid ∷ [] in
      let same : (p : Place) → among p (all_met (met_by_files n k [] locks [] [] own)) ≡ true → value_at n k p ≡ value_at n j p =
      λ p h. b.same p (ap (λ m. among p (all_met m)) (meets k info) ∙ h) in
      let cs = (outcome setup (view t) caller which).changes in
      subst (λ (m : Met). WritesAlike setup n (call_entry by seq number moment which reply) m k j t u cs (outcome setup (view u) caller which).changes) (sym (meets k info)) (record {
        changes = changes k j t u b.stands b.stands_other b.fine b.fine_other caller b.alive b.alive_other
            (subst (λ pid. (p : Place) → among p (all_met (met_by_files n k [] locks [] [] (pid_key pid ∷ []))) ≡ true → value_at n k p ≡ value_at n j p) (sym b.pid) same);
        exact = λ sound sound_other. records_alike setup n k j t u b.stands b.stands_other b.fine b.fine_other [] locks [] [] own same cs sound sound_other (λ file i. absurd i) (λ name i. absurd i);
        opens = λ key i. absurd i;
      }))

module _ (setup : Setup) (n by seq number : ℕ) (moment : Moment) (reply : Reply) where
  pub recv_written : IsWrittenByFootprint setup n (call_entry by seq number moment call.Recv reply)
  unfolding expired_by recv
  recv_written =
      plain_written setup n by seq number moment call.Recv reply [] (λ k info. refl) (λ x. refl) (λ k j t u stands stands_other fine fine_other caller alive alive_other at.
      let letters : (view t).letters_of caller.sid ≡ (view u).letters_of caller.sid =
      letters_told t fine.sound caller.sid ∙ ap (letters_by caller.sid) (mail_before setup n k j t u stands stands_other fine fine_other [] [] [] [] (pid_key caller.sid.pid ∷ []) at caller.sid.pid (inl refl)) ∙ sym (letters_told u fine_other.sound caller.sid) in
      decided ((view t).letters_of caller.sid) (view t) (view u) caller ∙ ap (λ ps. (conclude (view u) (recv_first caller ps)).changes) letters)
    where
      decided : (ps : List Post) (v w : View) (caller : Caller) → (conclude v (recv_first caller ps)).changes ≡ (conclude w (recv_first caller ps)).changes
      decided [] v w caller = concluded_alike v w (recv_first caller []) (woken_alike v w (recv_first caller []) (λ spot i. absurd i) (λ spot i. absurd i))
      decided (first ∷ others) v w caller = concluded_alike v w (recv_first caller (first ∷ others)) (woken_alike v w (recv_first caller (first ∷ others)) (λ spot i. absurd i) (λ spot i. absurd i))

-- ---- global locks

module _ (key : ℕ) (v w : View) (holds : v.holds_of key ≡ w.holds_of key) (watches : v.watches_on (LockOf key) ≡ w.watches_on (LockOf key)) where
  -- it may free no other spot than the lock
  abbrev IsOfLock : Decision → Type 0
  IsOfLock d = (spot : Spot) → IsIn spot d.spots → spot ≡ LockOf key

  concluded_lock : (d : Decision) → ((spot : Spot) → IsIn spot d.spots → spot ≡ LockOf key) → (conclude v d).changes ≡ (conclude w d).changes
  concluded_lock d own =
      concluded_alike v w d (woken_alike v w d
      (λ spot i. subst (λ x. some_frees (settling d) v x ≡ some_frees (settling d) w x) (sym (own spot i)) (lock_frees (settling d) key v w holds))
      (λ spot i. subst (λ x. v.watches_on x ≡ w.watches_on x) (sym (own spot i)) watches))

  one_spot : (spot : Spot) → IsIn spot (LockOf key ∷ []) → spot ≡ LockOf key
  one_spot spot (inl e) = sym e
  one_spot spot (inr e) = absurd e

  locked_changes : (caller : Caller) (mode : Mode) (wait : Bool) → (conclude v (glock v caller key mode wait)).changes ≡ (conclude w (glock w caller key mode wait)).changes
  unfolding glock
  locked_changes caller mode wait =
      let d = glock_by v caller key mode wait (own_holds v caller key) in
      let own : (spot : Spot) → IsIn spot d.spots → spot ≡ LockOf key =
      of_glock IsOfLock caller key (record {
        replies = λ reply spot i. absurd i;
        grants = λ spot i. absurd i;
        lowers = one_spot;
        raises = λ spot i. absurd i;
        gains = λ mode spot i. absurd i;
        waits = λ blocker upgrade spot i. absurd i;
      }) v mode wait (own_holds v caller key) in
      let same : d ≡ glock_by w caller key mode wait (own_holds w caller key) =
      locked_by v w caller key holds watches mode wait (own_holds v caller key) ∙ ap (λ rows. glock_by w caller key mode wait (filter (λ (hold : HoldRow). same_sid hold.owner caller.sid) rows)) holds in
      concluded_lock (no_longer_waits caller (v.watches_on (LockOf key)) d) own
      ∙ (λ i. (conclude w (no_longer_waits caller (watches i) (same i))).changes)

  released_changes : (caller : Caller) → (conclude v (gunlock v caller key)).changes ≡ (conclude w (gunlock w caller key)).changes
  unfolding gunlock
  released_changes caller =
      concluded_lock (no_longer_waits caller (v.watches_on (LockOf key)) (gunlock_by caller key (own_holds v caller key))) (own (own_holds v caller key))
      ∙ (λ i. (conclude w (no_longer_waits caller (watches i) (gunlock_by caller key (filter (λ (hold : HoldRow). same_sid hold.owner caller.sid) (holds i))))).changes)
    where
      own : (rows : List HoldRow) → IsOfLock (gunlock_by caller key rows)
      own [] spot i = absurd i
      own (row ∷ rows) spot i = one_spot spot i

module _ (setup : Setup) (n by seq number : ℕ) (moment : Moment) (key : ℕ) (reply : Reply) where
  abbrev Same : Chains → Chains → Caller → Type 0
  Same k j caller = (p : Place) → among p (all_met (met_by_files n k [] (lock_key key ∷ []) [] [] (pid_key caller.sid.pid ∷ []))) ≡ true → value_at n k p ≡ value_at n j p

  module _ (k j : Chains) (t u : Table) (stands : StandsFor setup n k (view t)) (stands_other : StandsFor setup n j (view u)) (caller : Caller) (at : Same k j caller) where
    holds_before : (view t).holds_of key ≡ (view u).holds_of key
    holds_before = lock_holds_same setup n k j key (lock_same setup n k j [] (lock_key key ∷ []) [] [] (pid_key caller.sid.pid ∷ []) at key (inl refl)) t u stands stands_other

    watches_before : (view t).watches_on (LockOf key) ≡ (view u).watches_on (LockOf key)
    watches_before = lock_watches_same setup n k j key (lock_same setup n k j [] (lock_key key ∷ []) [] [] (pid_key caller.sid.pid ∷ []) at key (inl refl)) t u stands stands_other

  pub glock_written : (mode : Mode) (wait : Bool) → IsWrittenByFootprint setup n (call_entry by seq number moment (call.GLock key mode wait) reply)
  unfolding expired_by
  glock_written mode wait =
      plain_written setup n by seq number moment (call.GLock key mode wait) reply (lock_key key ∷ []) (λ k info. refl) (λ x. refl) (λ k j t u stands stands_other fine fine_other caller alive alive_other at.
      locked_changes key (view t) (view u) (holds_before k j t u stands stands_other caller at) (watches_before k j t u stands stands_other caller at) caller mode wait)

  pub gunlock_written : IsWrittenByFootprint setup n (call_entry by seq number moment (call.GUnlock key) reply)
  unfolding expired_by
  gunlock_written =
      plain_written setup n by seq number moment (call.GUnlock key) reply (lock_key key ∷ []) (λ k info. refl) (λ x. refl) (λ k j t u stands stands_other fine fine_other caller alive alive_other at.
      released_changes key (view t) (view u) (holds_before k j t u stands stands_other caller at) (watches_before k j t u stands stands_other caller at) caller)

-- ---- ends of sessions

ended_changes : (v w : View) (sid : Sid) (moment : Moment) (others : List Change) → v.watches_behind sid ≡ w.watches_behind sid
    → (conclude v (end_of_session v sid moment others)).changes ≡ (conclude w (end_of_session w sid moment others)).changes
unfolding end_of_session
ended_changes v w sid moment others e =
    concluded_alike v w (end_of_session v sid moment others) (woken_alike v w (end_of_session v sid moment others) (λ spot i. absurd i) (λ spot i. absurd i))
    ∙ ap (λ ws. (conclude w (let d : Decision = record (only_reply Done) {
      changes = map waits_no_more ws ++ c.EndSession sid moment ∷ others;
      posts = map wake (filter (λ (watch : Watch). not (same_sid watch.sid sid)) ws);
    } in d)).changes) e

module _ (setup : Setup) (n by seq number : ℕ) (moment : Moment) (reply : Reply) where
  pub disconnect_written : IsWrittenByFootprint setup n (call_entry by seq number moment call.Disconnect reply)
  unfolding expired_by disconnect
  disconnect_written =
      plain_written setup n by seq number moment call.Disconnect reply [] (λ k info. refl) (λ x. refl) (λ k j t u stands stands_other fine fine_other caller alive alive_other at.
      ended_changes (view t) (view u) caller.sid caller.moment (c.Settle ∷ c.NextSession caller.sid caller.moment ∷ [])
      (behind_told setup t fine caller.sid
      ∙ ap (behind_by caller.sid) (register_before setup n k j t u stands stands_other fine fine_other [] [] [] [] (pid_key caller.sid.pid ∷ []) at caller.sid.pid (inl refl))
      ∙ sym (behind_told setup u fine_other caller.sid)))

  pub tidy_written : IsWrittenByFootprint setup n (call_entry by seq number moment call.Tidy reply)
  tidy_written before other is some legal legal_other agree =
      lands_unwritten setup n is some before other (call_entry by seq number moment call.Tidy reply) legal legal_other agree _ _ refl refl (λ x. refl)

  pub status_written : (tables : Tables) → IsWrittenByFootprint setup n (call_entry by seq number moment (call.Status tables) reply)
  status_written tables before other is some legal legal_other agree =
      lands_unwritten setup n is some before other (call_entry by seq number moment (call.Status tables) reply) legal legal_other agree _ _ refl refl (λ x. refl)

-- ---- deaths

module _ (setup : Setup) (n by seq worker : ℕ) (moment : Moment) where
  abbrev death : Entry
  death = record { by = by; seq = seq; what = Died worker moment }

  module _ (is : IsSetup setup) (some : 1 ≤ n) (before other : List Entry) (legal : IsLegal setup (before ++ death ∷ [])) (legal_other : IsLegal setup (other ++ death ∷ []))
      (agree : AgreeOnFootprint setup n (moved_by setup n before) (moved_by setup n other) death) where
    abbrev k : Chains
    k = moved_by setup n before

    abbrev j : Chains
    j = moved_by setup n other

    abbrev t : Table
    t = after setup before

    abbrev u : Table
    u = after setup other

    -- what the death makes of a table at which the worker can call
    abbrev ended : Table → Caller → List Change
    ended x caller = (conclude (view x) (end_of_session (view x) caller.sid moment [])).changes

    stepped : (history : List Entry) (caller : Caller) → caller_of setup (view (after setup history)) worker 0 moment ≡ Some caller
        → after setup (history ++ death ∷ []) ≡ perform_all (ended (after setup history) caller) (after setup history)
    stepped history caller from =
        after_all-append setup (start setup) history death
        ∙ ap (λ o. perform_all (option_map_or (λ (done : Outcome). done.changes) (option_map (λ (caller : Caller). conclude (view (after setup history)) (end_of_session (view (after setup history)) caller.sid moment [])) o) []) (after setup history)) from

    none_dies : ◌≡◌ {A = Bool} false true → ⊥
    none_dies h = cc

    died_by : (q : Option Caller) → caller_of setup (view t) worker 0 moment ≡ q → IsSome (option_map (λ (caller : Caller). conclude (view t) (end_of_session (view t) caller.sid moment [])) q)
        → AllByRecursion (λ c. chain_at (move setup n k death (view (after setup (before ++ death ∷ [])))) c ≡ chain_at (move setup n j death (view (after setup (other ++ death ∷ [])))) c) (footprint setup n k death)
    died_by None from dies = absurd (none_dies dies)
    died_by (Some caller) from dies =
        let b = before_entry setup n is some before death legal in
        let d = before_entry setup n is some other death legal_other in
        let of = is_caller_of setup t worker 0 moment caller from in
        let info = of.info in
        let met_is : met setup n k death ≡ met_by_worker n k info = ap (λ o. option_map_or (met_by_worker n k) o nothing_met) of.declared in
        let here = at_met setup n k j death (met_by_worker n k info) met_is (met_value setup n k j death b.stands.well_formed.chains agree) in
        let same_worker = own_register_same setup n k j [] [] [] [] (pid_key info.pid ∷ []) here info.pid (inl refl) in
        let from_other = sym (caller_same setup (records_of setup n k) (records_of setup n j) t u b.stands.agree d.stands.agree worker 0 moment info of.declared same_worker) ∙ from in
        let register : exact_register (view t) caller.sid.pid ≡ exact_register (view u) caller.sid.pid =
        subst (λ p. exact_register (view t) p ≡ exact_register (view u) p) (sym of.pid) (register_before setup n k j t u b.stands d.stands b.fine d.fine [] [] [] [] (pid_key info.pid ∷ []) here info.pid (inl refl)) in
        let same = ended_changes (view t) (view u) caller.sid moment [] (behind_told setup t b.fine caller.sid ∙ ap (behind_by caller.sid) register ∙ sym (behind_told setup u d.fine caller.sid)) in
        let cs = ended t caller in
        let after_is = stepped before caller from in
        let after_other = stepped other caller from_other ∙ ap (λ ds. perform_all ds u) (sym same) in
        let sound : IsSound (perform_all cs t) = subst IsSound after_is (legal_is_fine setup (before ++ death ∷ []) is legal).sound in
        let sound_other : IsSound (perform_all cs u) = subst IsSound after_other (legal_is_fine setup (other ++ death ∷ []) is legal_other).sound in
        lands setup n is some before other death legal legal_other agree (perform_all cs t) (perform_all cs u) after_is after_other (met_by_worker n k info) met_is (λ x. refl)
        (records_alike setup n k j t u b.stands d.stands b.fine d.fine [] [] [] [] (pid_key info.pid ∷ []) here cs sound sound_other (λ file i. absurd i) (λ name i. absurd i)) (λ key i. absurd i)

  pub died_written : IsWrittenByFootprint setup n (record { by = by; seq = seq; what = Died worker moment })
  died_written before other is some legal legal_other agree =
      let at : IsLegalDeath setup (after setup before) worker moment = (legal_before setup (start setup) before [] death legal.entries).1 in
      died_by is some before other legal legal_other agree (caller_of setup (view (after setup before)) worker 0 moment) refl at.dies
