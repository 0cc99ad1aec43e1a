-- What calls by a handle write goes by the chains of their footprint alone.
use Rattle.std.proofs.Common.{◌≡◌, ℕ, Bool, true, false, not, ◌==◌, List, [], ◌∷◌, filter, Some, None, refl, sym, ap, ◌∙◌, subst, inl, inr}
use Rattle.std.specs.List.{list_any, list_all}
use Rattle.std.proofs.lemmas.Bool.{cond_both}
use Rattle.sid_core.specs.declared.call.Call.{Call}
use Rattle.sid_core.specs.declared.call.Call.TheVariants as call
use Rattle.sid_core.specs.declared.call.Mode.{Mode}
use Rattle.sid_core.specs.declared.call.Span.{Span}
use Rattle.sid_core.specs.declared.ids.Moment.{Moment}
use Rattle.sid_core.specs.declared.reply.Reply.{Reply}
use Rattle.sid_core.specs.declared.reply.Reply.TheVariants as reply
use Rattle.sid_core.specs.declared.setup.Setup.{Setup}
use Rattle.sid_core.specs.declared.setup.WorkerInfo.{WorkerInfo}
use Rattle.sid_core.specs.Values.{has}
use Rattle.serial_table.specs.declared.rows.OpenRow.{OpenRow}
use Rattle.serial_table.specs.declared.rows.RangeRow.{RangeRow}
use Rattle.serial_table.specs.declared.table.Table.{Table}
use Rattle.serial_table.specs.declared.decision.Caller.{Caller}
use Rattle.serial_table.specs.declared.decision.Decision.{Decision}
use Rattle.serial_table.specs.View.{View, view, lives}
use Rattle.serial_table.specs.File.{FileView, file_view}
use Rattle.serial_table.specs.Change.{perform_all}
use Rattle.serial_table.specs.Decision.{only_reply, no_longer_waits}
use Rattle.serial_table.specs.Decide.{decide, outcome}
use Rattle.serial_table.specs.Expire.{names_beside, look, expired_by}
use Rattle.serial_table.specs.Settle.{settle}
use Rattle.serial_table.specs.Break.{none_of_them, break_others}
use Rattle.serial_table.specs.Close.{close_first, close}
use Rattle.serial_table.specs.Delete.{delete_first, delete}
use Rattle.serial_table.specs.Lock.{range_blocker, wait_for_range, lock_by, lock_in, lock_first, lock}
use Rattle.serial_table.specs.Range.{passes_end, range_conflict}
use Rattle.serial_table.specs.ReadWrite.{if_allowed, forbids_read, forbids_write, read_first, read, written, write_first, write}
use Rattle.serial_table.specs.Unlock.{unlock_first, unlock}
use Rattle.serial_table.proofs.Members.{IsIn}
use Rattle.serial_table.proofs.CloseOwed.{of_close}
use Rattle.serial_table.proofs.DeleteOwed.{of_delete}
use Rattle.serial_table.proofs.UnlockOwed.{by_ranges}
use Rattle.chain_map.specs.declared.db.Db.TheVariants as db
use Rattle.record_codec.specs.declared.open_rec.OpenRec.{OpenRec}
use Rattle.record_codec.specs.OpenRec.{open_rec}
use Rattle.stored_table.specs.Keys.{open_key, pid_key, file_key}
use Rattle.stored_table.specs.Places.{Chains, Place, place, among, value_at}
use Rattle.stored_table.specs.Decoded.{records_of}
use Rattle.stored_table.specs.Met.{Met, met, met_by_call, met_by_handle, all_met, named_at, file_of, record_at}
use Rattle.stored_table.specs.Move.{added, new_open_record, places_written}
use Rattle.stored_table.specs.Stands.{StandsFor}
use Rattle.table_laws.specs.ByFootprint.{IsWrittenByFootprint}
use Rattle.table_laws.specs.Standing.{IsUnwatched, call_entry}
use Rattle.table_laws.proofs.CallWrites.{WritesAlike, call_written}
use Rattle.table_laws.proofs.Chains.{IsFine, adds_no_open, all_still_in}
use Rattle.table_laws.proofs.Deciding.{IsContained}
use Rattle.table_laws.proofs.FilesAlike.{none_comes}
use Rattle.table_laws.proofs.FileWrites.{of_named_file, open_alike, files_shown, files_alike}
use Rattle.table_laws.proofs.Footprints.{own_open_same}
use Rattle.table_laws.proofs.HandleAnswers.{GoesByHandle, FreesBeside, close_goes, delete_goes, unlock_goes, read_goes, write_goes, lock_goes, handle_file_met, changes_same}
use Rattle.table_laws.proofs.HandleCalls.{handle_places, here, here_met, open_was, row_behind, handle_touches, handle_adds_none}
use Rattle.table_laws.proofs.HandleEvents.{close_contained, delete_contained, unlock_contained, read_contained, no_open_closed, no_open_deleted, no_open_unlocked, no_open_read}
use Rattle.table_laws.proofs.WaitEvents.{locked}
use Rattle.table_laws.proofs.WriteEvents.{write_contained, write_opens}
use Rattle.table_laws.proofs.Touching.{touches}

-- It does nothing beside the places that the call meets, and adds no open.
abbrev DecidesWithin : (setup : Setup) (n : ℕ) (k : Chains) (t : Table) → StandsFor setup n k (view t) → IsFine setup t → settle t ≡ t → (caller : Caller) (info : WorkerInfo) → caller.sid.pid ≡ info.pid → ℕ → Decision → Type 0
DecidesWithin setup n k t stands fine settled caller info pid handle d =
    IsContained setup (handle_places setup n k t stands fine settled caller info pid handle) (records_of setup n k) (here setup n k t stands fine settled caller info pid handle) t d
    × (list_all adds_no_open d.changes ≡ true)

-- What a call by a handle owes: it decides on the handle's file, adds no open, and frees spots of that file alone.
pub record HandleOwes (setup : Setup) (which : Call) (handle : ℕ) : Type 0 where
  pub meets : (n : ℕ) (k : Chains) (info : WorkerInfo) (number : ℕ) → met_by_call setup n k info number which ≡ met_by_handle setup n k info handle
  pub looks : (caller : Caller) (v : View) → look setup v caller which ≡ names_beside v (v.opens_of_handle caller.sid handle)
  pub goes : (caller : Caller) → GoesByHandle setup caller handle which
  pub frees : (caller : Caller) (v : View) → FreesBeside (v.opens_of_handle caller.sid handle) (decide setup v caller which)
  pub contained : (n : ℕ) (k : Chains) (t : Table) (stands : StandsFor setup n k (view t)) (fine : IsFine setup t) (settled : settle t ≡ t) (caller : Caller) (info : WorkerInfo) (pid : caller.sid.pid ≡ info.pid)
      → IsUnwatched setup n k caller.sid caller.number
      → DecidesWithin setup n k t stands fine settled caller info pid handle (decide setup (view (perform_all (expired_by setup (view t) caller which) t)) caller which)

module _ (setup : Setup) (n by seq number : ℕ) (moment : Moment) (which : Call) (reply : Reply) (handle : ℕ) (owes : HandleOwes setup which handle)
    (writes : (x : Chains) → places_written setup n x (call_entry by seq number moment which reply) ≡ all_met (met setup n x (call_entry by seq number moment which reply)))
    (adds : (w : View) → added setup w (call_entry by seq number moment which reply) ≡ None) where
  handle_written : IsWrittenByFootprint setup n (call_entry by seq number moment which reply)
  handle_written =
      call_written setup n by seq number moment which reply (λ x t info session stands alive. subst (λ (m : Met). IsIn (pid_key info.pid) m.register) (sym (owes.meets n x info number)) (inl refl)) writes (λ k j t u caller info b.
      let same : (p : Place) → among p (all_met (met_by_handle setup n k info handle)) ≡ true → value_at n k p ≡ value_at n j p =
      λ p h. b.same p (ap (λ m. among p (all_met m)) (owes.meets n k info number) ∙ h) in
      let opens = open_key info.pid handle ∷ [] in
      let own = pid_key info.pid ∷ [] in
      let files = named_at open_rec (file_of setup) n k db.Opens (open_key info.pid handle ∷ []) in
      let h = owes.contained n k t b.stands b.fine b.settled caller info b.pid b.unwatched in
      let g = owes.contained n j u b.stands_other b.fine_other b.settled_other caller info b.pid b.unwatched_other in
      let there = here setup n k t b.stands b.fine b.settled caller info b.pid handle in
      let there_other = here setup n j u b.stands_other b.fine_other b.settled_other caller info b.pid handle in
      let cs = (outcome setup (view t) caller which).changes in
      let changes : cs ≡ (outcome setup (view u) caller which).changes =
      changes_same setup n k j t u b.stands b.stands_other b.fine b.fine_other caller info b.pid handle same which (owes.looks caller) (owes.goes caller) there h.0.touched h.1
      (owes.frees caller (view (perform_all (expired_by setup (view t) caller which) t))) in
      let touched : list_all (touches there) cs ≡ true = handle_touches setup n k t b.stands b.fine b.settled caller info b.pid handle which (owes.looks caller (view t)) h.0 in
      let touched_other : list_all (touches there_other) cs ≡ true =
      ap (list_all (touches there_other)) changes ∙ handle_touches setup n j u b.stands_other b.fine_other b.settled_other caller info b.pid handle which (owes.looks caller (view u)) g.0 in
      let none : list_all adds_no_open cs ≡ true = handle_adds_none setup n k t b.stands b.fine b.settled caller info b.pid handle which (owes.looks caller (view t)) h.0 h.1 in
      let comes = none_comes (lives (view t)) (lives (view u)) cs none in
      let met_here = here_met setup n k t b.stands b.fine b.settled caller info b.pid handle in
      let one_met : met_by_handle setup n j info handle ≡ met_by_handle setup n k info handle = sym (owes.meets n j info number) ∙ b.met_alike ∙ owes.meets n k info number in
      let met_other : (file : ℕ) → there_other file ≡ true → IsIn (file_key setup file) files =
      λ file q. subst (λ (m : Met). IsIn (file_key setup file) m.shares) one_met (here_met setup n j u b.stands_other b.fine_other b.settled_other caller info b.pid handle file q) in
      let shown = files_shown setup n k j t u b.stands b.stands_other b.fine b.fine_other opens [] files [] own same cs there there_other met_here met_other b.settled b.settled_other touched touched_other comes in
      subst (λ (m : Met). WritesAlike setup n (call_entry by seq number moment which reply) m k j t u cs (outcome setup (view u) caller which).changes) (sym (owes.meets n k info number)) (record {
        changes = changes;
        exact = files_alike setup n k j t u b.stands b.stands_other b.fine b.fine_other opens [] files [] own same cs there there_other met_here met_other b.settled b.settled_other touched touched_other comes;
        opens = λ key i.
            ap (λ a. new_open_record (view (perform_all cs t)) a (place db.Opens key) (value_at n k (place db.Opens key))) (adds (view (perform_all cs t)))
            ∙ open_alike setup n k j t u b.stands b.stands_other b.fine b.fine_other opens [] files [] own same (perform_all cs t) (perform_all cs u) shown key i (λ r found. (
              handle_file_met setup n k j t u b.stands b.stands_other b.fine b.fine_other caller info b.pid handle same which (owes.looks caller) (owes.goes caller) r (by_handle k info key i r found),
              (λ o l q. of_named_file n k t b.names key r found o (all_still_in there cs t o none touched l) q),
              (λ o l q. of_named_file n j u b.names_other key r (other_record k j info same key i r found) o (all_still_in there_other cs u o none touched_other l) q),
            ))
            ∙ sym (ap (λ a. new_open_record (view (perform_all cs u)) a (place db.Opens key) (value_at n j (place db.Opens key))) (adds (view (perform_all cs u))));
      }))
    where
      by_handle : (k : Chains) (info : WorkerInfo) (key : List ℕ) → IsIn key (open_key info.pid handle ∷ []) → (r : OpenRec) → record_at open_rec n k db.Opens key ≡ Some r → (records_of setup n k).opens info.pid handle ≡ Some r
      by_handle k info key (inl e) r found = ap (record_at open_rec n k db.Opens) e ∙ found
      by_handle k info key (inr e) r found = absurd e

      other_record : (k j : Chains) (info : WorkerInfo) → ((p : Place) → among p (all_met (met_by_handle setup n k info handle)) ≡ true → value_at n k p ≡ value_at n j p)
          → (key : List ℕ) → IsIn key (open_key info.pid handle ∷ []) → (r : OpenRec) → record_at open_rec n k db.Opens key ≡ Some r → record_at open_rec n j db.Opens key ≡ Some r
      other_record k j info same key (inl e) r found =
          ap (record_at open_rec n j db.Opens) (sym e)
          ∙ sym (own_open_same setup n k j (open_key info.pid handle ∷ []) [] (named_at open_rec (file_of setup) n k db.Opens (open_key info.pid handle ∷ [])) [] (pid_key info.pid ∷ []) same info.pid handle (inl refl))
          ∙ ap (record_at open_rec n k db.Opens) e
          ∙ found
      other_record k j info same key (inr e) r found = absurd e

-- ---- what each call owes

frees_none : (rows : List OpenRow) (reply : Reply) → FreesBeside rows (only_reply reply)
frees_none rows reply spot i = absurd i

frees_if_allowed : (f : FileView) (row : OpenRow) (rows : List OpenRow) (wanted : ℕ) (span : Span) (forbids : RangeRow → Bool) (done : Decision) → FreesBeside (row ∷ rows) done
    → FreesBeside (row ∷ rows) (if_allowed f row wanted span forbids done)
frees_if_allowed f row rows wanted span forbids done h =
    let P : Decision → Type 0 = FreesBeside (row ∷ rows) in
    cond_both (not (has row.access.0 wanted)) (only_reply reply.AccessDenied) _ P (λ _. frees_none (row ∷ rows) reply.AccessDenied)
    (λ _. cond_both (span.length == 0) (only_reply reply.Done) _ P (λ _. frees_none (row ∷ rows) reply.Done)
    (λ _. cond_both (passes_end span) (only_reply reply.InvalidParameter) _ P (λ _. frees_none (row ∷ rows) reply.InvalidParameter)
    (λ _. cond_both (list_any forbids f.ranges) (only_reply reply.FileLockConflict) done P (λ _. frees_none (row ∷ rows) reply.FileLockConflict) (λ _. h))))

frees_locked : (f : FileView) (caller : Caller) (span : Span) (mode : Mode) (wait : Bool) (row : OpenRow) (rows : List OpenRow) → FreesBeside (row ∷ rows) (lock_in f caller span mode wait row)
frees_locked f caller span mode wait row rows =
    let P : Decision → Type 0 = λ d. FreesBeside (row ∷ rows) (no_longer_waits caller f.range_watches d) in
    cond_both (not (has row.access.0 0x3)) (only_reply reply.AccessDenied) _ P (λ _. frees_none (row ∷ rows) reply.AccessDenied)
    (λ _. cond_both (passes_end span) (only_reply reply.InvalidLockRange) _ P (λ _. frees_none (row ∷ rows) reply.InvalidLockRange)
    (λ _. by_held (filter (λ (held : RangeRow). range_conflict held row.id span mode) f.ranges)))
  where
    waits : (wait : Bool) (first : RangeRow) → FreesBeside (row ∷ rows) (no_longer_waits caller f.range_watches (wait_for_range caller row.file wait (range_blocker f first)))
    waits true first = λ spot i. absurd i
    waits false first = λ spot i. absurd i

    by_held : (held : List RangeRow) → FreesBeside (row ∷ rows) (no_longer_waits caller f.range_watches (lock_by f caller span mode wait row held))
    by_held [] = λ spot i. (row, inl refl, i)
    by_held (first ∷ others) = waits wait first

module _ (setup : Setup) (handle : ℕ) where
  close_owes : HandleOwes setup (call.Close handle) handle
  unfolding close
  close_owes = record {
    meets = λ n k info number. refl;
    looks = λ caller v. refl;
    goes = λ caller. close_goes setup caller handle;
    frees = λ caller v. freed (v.opens_of_handle caller.sid handle);
    contained = λ n k t stands fine settled caller info pid fresh.
        let rows = (view (perform_all (expired_by setup (view t) caller (call.Close handle)) t)).opens_of_handle caller.sid handle in (
          close_contained setup n k t stands fine settled caller info pid handle rows (row_behind setup n k t stands fine settled caller info pid handle (call.Close handle) refl),
          no_open_closed rows,
        );
  }
    where
      freed : (rows : List OpenRow) → FreesBeside rows (close_first rows)
      freed [] = frees_none [] reply.FileClosed
      freed (row ∷ rows) = of_close (FreesBeside (row ∷ rows)) row (λ spot i. (row, inl refl, i)) (λ spot i. (row, inl refl, i))

  delete_owes : (on : Bool) → HandleOwes setup (call.Delete handle on) handle
  unfolding delete
  delete_owes on = record {
    meets = λ n k info number. refl;
    looks = λ caller v. refl;
    goes = λ caller. delete_goes setup caller handle on;
    frees = λ caller v. freed (v.opens_of_handle caller.sid handle);
    contained = λ n k t stands fine settled caller info pid fresh.
        let rows = (view (perform_all (expired_by setup (view t) caller (call.Delete handle on)) t)).opens_of_handle caller.sid handle in (
          delete_contained setup n k t stands fine settled caller info pid handle on rows (row_behind setup n k t stands fine settled caller info pid handle (call.Delete handle on) refl),
          no_open_deleted on rows,
        );
  }
    where
      freed : (rows : List OpenRow) → FreesBeside rows (delete_first on rows)
      freed [] = frees_none [] reply.FileClosed
      freed (row ∷ rows) = of_delete (FreesBeside (row ∷ rows)) on row (frees_none (row ∷ rows) reply.AccessDenied) (λ spot i. absurd i) (λ spot i. absurd i)

  unlock_owes : (span : Span) → HandleOwes setup (call.Unlock handle span) handle
  unfolding unlock
  unlock_owes span = record {
    meets = λ n k info number. refl;
    looks = λ caller v. refl;
    goes = λ caller. unlock_goes setup caller handle span;
    frees = λ caller v. freed v (v.opens_of_handle caller.sid handle);
    contained = λ n k t stands fine settled caller info pid fresh.
        let b = perform_all (expired_by setup (view t) caller (call.Unlock handle span)) t in
        let rows = (view b).opens_of_handle caller.sid handle in (
          unlock_contained setup n k t stands fine settled caller info pid handle (view b) span rows (row_behind setup n k t stands fine settled caller info pid handle (call.Unlock handle span) refl),
          no_open_unlocked (view b) span rows,
        );
  }
    where
      freed : (v : View) (rows : List OpenRow) → FreesBeside rows (unlock_first v span rows)
      freed v [] = frees_none [] reply.FileClosed
      freed v (row ∷ rows) = by_ranges (FreesBeside (row ∷ rows)) (file_view row.file v) span row (λ mode spot i. (row, inl refl, i)) (frees_none (row ∷ rows) reply.RangeNotLocked)

  read_owes : (span : Span) → HandleOwes setup (call.Read handle span) handle
  unfolding read
  read_owes span = record {
    meets = λ n k info number. refl;
    looks = λ caller v. refl;
    goes = λ caller. read_goes setup caller handle span;
    frees = λ caller v. freed v (v.opens_of_handle caller.sid handle);
    contained = λ n k t stands fine settled caller info pid fresh.
        let b = perform_all (expired_by setup (view t) caller (call.Read handle span)) t in
        let rows = (view b).opens_of_handle caller.sid handle in
        (read_contained setup n k t stands fine settled caller info pid handle (view b) span rows, no_open_read (view b) span rows);
  }
    where
      freed : (v : View) (rows : List OpenRow) → FreesBeside rows (read_first v span rows)
      freed v [] = frees_none [] reply.FileClosed
      freed v (row ∷ rows) = frees_if_allowed (file_view row.file v) row rows 0x21 span (forbids_read row span) (only_reply reply.Done) (frees_none (row ∷ rows) reply.Done)

  write_owes : (span : Span) → HandleOwes setup (call.Write handle span) handle
  unfolding write
  write_owes span = record {
    meets = λ n k info number. refl;
    looks = λ caller v. refl;
    goes = λ caller. write_goes setup caller handle span;
    frees = λ caller v. freed caller.moment v (v.opens_of_handle caller.sid handle);
    contained = λ n k t stands fine settled caller info pid fresh.
        let b = perform_all (expired_by setup (view t) caller (call.Write handle span)) t in
        let rows = (view b).opens_of_handle caller.sid handle in
        let was = open_was setup n k t stands fine settled caller info pid handle (call.Write handle span) refl in
        let within = row_behind setup n k t stands fine settled caller info pid handle (call.Write handle span) refl in (
          write_contained setup n k t stands fine settled caller info pid handle caller.moment b was span rows within,
          write_opens setup n k t stands fine settled caller info pid handle caller.moment b was span rows within,
        );
  }
    where
      freed : (now : Moment) (v : View) (rows : List OpenRow) → FreesBeside rows (write_first now v span rows)
      freed now v [] = frees_none [] reply.FileClosed
      freed now v (row ∷ rows) =
          let f = file_view row.file v in
          frees_if_allowed f row rows 0x6 span (forbids_write row span) (written row (break_others now row.file f none_of_them row.lease)) (λ spot i. (row, inl refl, i))

  lock_owes : (span : Span) (mode : Mode) (wait : Bool) → HandleOwes setup (call.Lock handle span mode wait) handle
  unfolding lock
  lock_owes span mode wait = record {
    meets = λ n k info number. refl;
    looks = λ caller v. refl;
    goes = λ caller. lock_goes setup caller handle span mode wait;
    frees = λ caller v. freed caller v (v.opens_of_handle caller.sid handle);
    contained = λ n k t stands fine settled caller info pid fresh.
        let which = call.Lock handle span mode wait in
        let b = perform_all (expired_by setup (view t) caller which) t in
        locked setup n k t stands fine settled caller info pid handle fresh b (open_was setup n k t stands fine settled caller info pid handle which refl) span mode wait
        ((view b).opens_of_handle caller.sid handle) (row_behind setup n k t stands fine settled caller info pid handle which refl);
  }
    where
      freed : (caller : Caller) (v : View) (rows : List OpenRow) → FreesBeside rows (lock_first v caller span mode wait rows)
      freed caller v [] = frees_none [] reply.FileClosed
      freed caller v (row ∷ rows) = frees_locked (file_view row.file v) caller span mode wait row rows

module _ (setup : Setup) (n by seq number : ℕ) (moment : Moment) (handle : ℕ) (reply : Reply) where
  pub close_written : IsWrittenByFootprint setup n (call_entry by seq number moment (call.Close handle) reply)
  close_written = handle_written setup n by seq number moment (call.Close handle) reply handle (close_owes setup handle) (λ x. refl) (λ w. refl)

  pub delete_written : (on : Bool) → IsWrittenByFootprint setup n (call_entry by seq number moment (call.Delete handle on) reply)
  delete_written on = handle_written setup n by seq number moment (call.Delete handle on) reply handle (delete_owes setup handle on) (λ x. refl) (λ w. refl)

  pub lock_written : (span : Span) (mode : Mode) (wait : Bool) → IsWrittenByFootprint setup n (call_entry by seq number moment (call.Lock handle span mode wait) reply)
  lock_written span mode wait = handle_written setup n by seq number moment (call.Lock handle span mode wait) reply handle (lock_owes setup handle span mode wait) (λ x. refl) (λ w. refl)

  pub unlock_written : (span : Span) → IsWrittenByFootprint setup n (call_entry by seq number moment (call.Unlock handle span) reply)
  unlock_written span = handle_written setup n by seq number moment (call.Unlock handle span) reply handle (unlock_owes setup handle span) (λ x. refl) (λ w. refl)

  pub read_written : (span : Span) → IsWrittenByFootprint setup n (call_entry by seq number moment (call.Read handle span) reply)
  read_written span = handle_written setup n by seq number moment (call.Read handle span) reply handle (read_owes setup handle span) (λ x. refl) (λ w. refl)

  pub write_written : (span : Span) → IsWrittenByFootprint setup n (call_entry by seq number moment (call.Write handle span) reply)
  write_written span = handle_written setup n by seq number moment (call.Write handle span) reply handle (write_owes setup handle span) (λ x. refl) (λ w. refl)
