-- `gunlock` keeps what the databases stand for.
use Rattle.std.proofs.Common.{◌≡◌, ℕ, Bool, true, List, [], ◌∷◌, ◌++◌, filter, refl, sym, ap, ◌∙◌, subst, inl, inr}
use Rattle.std.specs.List.{list_all}
use Rattle.std.specs.Option.{option_map_or}
use Rattle.std.proofs.lemmas.Bool.{and_from}
use Rattle.std.proofs.lemmas.List.Folds.{list_all-append, list_all-map}
use Rattle.sid_core.specs.declared.call.Call.TheVariants as call
use Rattle.sid_core.specs.declared.entry.Entry.{Entry}
use Rattle.sid_core.specs.declared.ids.Moment.{Moment}
use Rattle.sid_core.specs.declared.ids.Sid.{Sid}
use Rattle.sid_core.specs.declared.ids.Spot.{Spot}
use Rattle.sid_core.specs.declared.ids.Spot.TheVariants.{LockOf}
use Rattle.sid_core.specs.declared.reply.Reply.{Reply}
use Rattle.sid_core.specs.declared.reply.Reply.TheVariants.{ObjectNameNotFound}
use Rattle.sid_core.specs.declared.setup.Setup.{Setup}
use Rattle.sid_core.specs.Setup.{IsSetup}
use Rattle.sid_core.specs.Ids.{same_sid}
use Rattle.serial_table.specs.declared.rows.HoldRow.{HoldRow}
use Rattle.serial_table.specs.declared.rows.Watch.{Watch}
use Rattle.serial_table.specs.declared.table.Table.{Table}
use Rattle.serial_table.specs.declared.change.Change.{Change}
use Rattle.serial_table.specs.declared.decision.Caller.{Caller}
use Rattle.serial_table.specs.declared.decision.Decision.{Decision}
use Rattle.serial_table.specs.View.{view}
use Rattle.serial_table.specs.Change.{perform_all}
use Rattle.serial_table.specs.Decision.{waits_no_more, own_waits_end, no_longer_waits}
use Rattle.serial_table.specs.Expire.{expired_by}
use Rattle.serial_table.specs.GlobalLock.{own_holds, gunlock_by, gunlock}
use Rattle.serial_table.specs.History.{after, IsLegal}
use Rattle.serial_table.proofs.Names.{same_sid-eq}
use Rattle.serial_table.proofs.Members.{IsIn, all_each, in_filter}
use Rattle.stored_table.specs.Keys.{pid_key, lock_key}
use Rattle.stored_table.specs.Places.{Chains, Place, among}
use Rattle.stored_table.specs.Decoded.{AllRecords, records_of}
use Rattle.stored_table.specs.Met.{met_by_call, met_by_lock, all_met, nothing_met}
use Rattle.table_laws.specs.Standing.{KeepsStanding}
use Rattle.table_laws.proofs.Contained.{lock_place, mail_place}
use Rattle.table_laws.proofs.Meets.{own_mail, lock_here, lock_watcher_met}
use Rattle.table_laws.proofs.Touching.{touches, reaches}
use Rattle.table_laws.proofs.Deciding.{adds_no_waiter, IsContained, reply_contained}
use Rattle.table_laws.proofs.Chains.{adds_no_open}
use Rattle.table_laws.proofs.Calls.{call_contained, call_opens}
use Rattle.table_laws.proofs.HandleEvents.{entry, keeps_standing}
use Rattle.table_laws.proofs.CallerEvents.{nowhere}

-- ---- the caller's own waits end first

module _ (setup : Setup) (ps : List Place) (s : AllRecords) (here : ℕ → Bool) (t : Table) (caller : Caller) (own : among (mail_place caller.sid.pid) ps ≡ true) where
  ends : (watches : List Watch) → (p : Change → Bool) → ((y : Watch) → same_sid y.sid caller.sid ≡ true → p (waits_no_more y) ≡ true) → list_all p (own_waits_end caller watches) ≡ true
  ends watches p h =
      list_all-map p waits_no_more (filter (λ watch. same_sid watch.sid caller.sid) watches)
      ∙ all_each (λ y. p (waits_no_more y)) (filter (λ watch. same_sid watch.sid caller.sid) watches) (λ y i. h y (in_filter (λ watch. same_sid watch.sid caller.sid) watches y i).1)

  own_mail_of : (y : Watch) → same_sid y.sid caller.sid ≡ true → among (mail_place y.sid.pid) ps ≡ true
  own_mail_of y e = ap (λ (k : Sid). among (mail_place k.pid) ps) (same_sid-eq y.sid caller.sid e) ∙ own

  then_all : (p : Change → Bool) (watches : List Watch) (d : Decision) → list_all p (own_waits_end caller watches) ≡ true → list_all p d.changes ≡ true → list_all p (no_longer_waits caller watches d).changes ≡ true
  then_all p watches d a b = list_all-append p (own_waits_end caller watches) d.changes ∙ and_from (list_all p (own_waits_end caller watches)) (list_all p d.changes) a b

  pub after_own_waits : (watches : List Watch) (d : Decision) → IsContained setup ps s here t d → IsContained setup ps s here t (no_longer_waits caller watches d)
  after_own_waits watches d h = record {
    touched = then_all (touches here) watches d (ends watches (touches here) (λ y e. refl)) h.touched;
    reached = then_all (reaches setup ps) watches d (ends watches (reaches setup ps) own_mail_of) h.reached;
    none_waits = then_all adds_no_waiter watches d (ends watches adds_no_waiter (λ y e. refl)) h.none_waits;
    posts = h.posts;
    spots = h.spots;
    waits = h.waits;
  }

  pub no_open_before : (watches : List Watch) (d : Decision) → list_all adds_no_open d.changes ≡ true → list_all adds_no_open (no_longer_waits caller watches d).changes ≡ true
  no_open_before watches d h = then_all adds_no_open watches d (ends watches adds_no_open (λ y e. refl)) h

-- ---- gunlock

module _ (setup : Setup) (n : ℕ) (is : IsSetup setup) (before : List Entry) (by seq number : ℕ) (moment : Moment) (key : ℕ) (reply : Reply) where
  pub gunlock_stands : IsLegal setup (before ++ entry setup n is before by seq number moment (call.GUnlock key) reply ∷ []) → KeepsStanding setup n before (entry setup n is before by seq number moment (call.GUnlock key) reply)
  unfolding gunlock
  gunlock_stands legal =
      keeps_standing setup n is before by seq number moment (call.GUnlock key) reply legal (λ w. refl)
      (λ k stands fine settled caller info declared pid guid.
      let t = after setup before in
      let b = perform_all (expired_by setup (view t) caller (call.GUnlock key)) t in
      let ps = all_met (met_by_lock n k info key) in
      let s = records_of setup n k in
      let own : among (mail_place caller.sid.pid) ps ≡ true =
      ap (λ p. among (mail_place p) ps) pid ∙ own_mail setup n k t stands.agree fine.sound fine.sets [] (lock_key key ∷ []) [] [] (pid_key info.pid ∷ []) info.pid (inl refl) in
      let lock : among (lock_place key) ps ≡ true = lock_here setup n k t stands.agree fine.sound fine.sets [] (lock_key key ∷ []) [] [] (pid_key info.pid ∷ []) key (inl refl) in
      let watchers : (y : Watch) → IsIn y ((view t).watches_on (LockOf key)) → among (mail_place y.sid.pid) ps ≡ true =
      lock_watcher_met setup n k t stands.agree fine.sound fine.sets [] (lock_key key ∷ []) [] [] (pid_key info.pid ∷ []) key (inl refl) in
      let d = gunlock_by caller key (own_holds (view b) caller key) in
      let h = after_own_waits setup ps s nowhere t caller own ((view b).watches_on (LockOf key)) d (released k t caller ps lock watchers (own_holds (view b) caller key)) in
      record {
        places = ps;
        writes = ap (λ o. all_met (option_map_or (λ caller. met_by_call setup n k caller number (call.GUnlock key)) o nothing_met)) declared;
        inside = call_contained setup ps s nowhere t caller (call.GUnlock key) (λ file e. absurd cc) (λ o i e. absurd cc) settled (λ l i. absurd i) h;
        opens = call_opens setup ps s nowhere t caller (call.GUnlock key) (λ file e. absurd cc) (λ o i e. absurd cc) settled (λ l i. absurd i) h
            (no_open_before setup ps s nowhere t caller own ((view b).watches_on (LockOf key)) d (none caller (own_holds (view b) caller key)));
      })
    where
      released : (k : Chains) (t : Table) (caller : Caller) (ps : List Place) → among (lock_place key) ps ≡ true → ((y : Watch) → IsIn y ((view t).watches_on (LockOf key)) → among (mail_place y.sid.pid) ps ≡ true)
          → (holds : List HoldRow) → IsContained setup ps (records_of setup n k) nowhere t (gunlock_by caller key holds)
      released k t caller ps lock watchers [] = reply_contained setup ps (records_of setup n k) nowhere t ObjectNameNotFound
      released k t caller ps lock watchers (hold ∷ holds) = record {
        touched = refl;
        reached = and_from _ _ lock refl;
        none_waits = refl;
        posts = λ p i. absurd i;
        spots = λ spot i. at spot i;
        waits = tt;
      }
        where
          at : (spot : Spot) → IsIn spot (LockOf key ∷ []) → (y : Watch) → IsIn y ((view t).watches_on spot) → among (mail_place y.sid.pid) ps ≡ true
          at spot (inl e) y j = watchers y (subst (λ z. IsIn y ((view t).watches_on z)) (sym e) j)
          at spot (inr e) y j = absurd e

      none : (caller : Caller) (holds : List HoldRow) → list_all adds_no_open (gunlock_by caller key holds).changes ≡ true
      none caller [] = refl
      none caller (hold ∷ holds) = refl
