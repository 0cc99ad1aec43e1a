-- `close`, `delete`, `unlock` and `read` keep what the databases stand for.
use Rattle.std.proofs.Common.{◌≡◌, ℕ, Bool, true, not, ◌==◌, List, [], ◌∷◌, ◌++◌, Option, Some, None, refl, sym, ap, ◌∙◌, subst, inl}
use Rattle.std.specs.List.{list_any, list_all}
use Rattle.std.specs.Option.{option_map, option_map_or}
use Rattle.std.proofs.lemmas.Bool.{and_from, cond_both}
use Rattle.sid_core.specs.declared.call.Call.{Call}
use Rattle.sid_core.specs.declared.call.Call.TheVariants as call
use Rattle.sid_core.specs.declared.call.Span.{Span}
use Rattle.sid_core.specs.declared.entry.Entry.{Entry}
use Rattle.sid_core.specs.declared.entry.Event.TheVariants.{Called}
use Rattle.sid_core.specs.declared.ids.Moment.{Moment}
use Rattle.sid_core.specs.declared.reply.Reply.{Reply}
use Rattle.sid_core.specs.declared.reply.Reply.TheVariants.{Done, FileClosed, AccessDenied, InvalidParameter, FileLockConflict, RangeNotLocked}
use Rattle.sid_core.specs.declared.setup.Setup.{Setup}
use Rattle.sid_core.specs.declared.setup.WorkerInfo.{WorkerInfo}
use Rattle.sid_core.specs.Setup.{IsSetup}
use Rattle.sid_core.specs.Values.{has}
use Rattle.serial_table.specs.declared.rows.OpenRow.{OpenRow}
use Rattle.serial_table.specs.declared.table.Table.{Table}
use Rattle.serial_table.specs.declared.decision.Caller.{Caller}
use Rattle.serial_table.specs.declared.decision.Decision.{Decision}
use Rattle.serial_table.specs.View.{View, view}
use Rattle.serial_table.specs.File.{file_view}
use Rattle.serial_table.specs.Settle.{settle}
use Rattle.serial_table.specs.Change.{perform_all}
use Rattle.serial_table.specs.Decision.{only_reply}
use Rattle.serial_table.specs.Decide.{outcome}
use Rattle.serial_table.specs.Close.{close_first, close}
use Rattle.serial_table.specs.Delete.{delete_first, delete}
use Rattle.serial_table.specs.Unlock.{unlock_first, unlock}
use Rattle.serial_table.specs.ReadWrite.{forbids_read, read_first, read}
use Rattle.serial_table.specs.Range.{passes_end}
use Rattle.serial_table.specs.History.{start, after, after_event, IsLegal, IsLegalCall}
use Rattle.serial_table.specs.Step.{caller_of, declared_at}
use Rattle.serial_table.proofs.Members.{IsIn}
use Rattle.serial_table.proofs.Callers.{is_caller_of}
use Rattle.serial_table.proofs.Along.{legal_before}
use Rattle.serial_table.proofs.Alike.{after_all-append}
use Rattle.serial_table.proofs.Concluding.{start-settled}
use Rattle.serial_table.proofs.Expiring.{after_all-settled}
use Rattle.serial_table.proofs.CloseOwed.{of_close}
use Rattle.serial_table.proofs.DeleteOwed.{of_delete}
use Rattle.serial_table.proofs.UnlockOwed.{by_ranges}
use Rattle.stored_table.specs.Places.{Chains, Place}
use Rattle.stored_table.specs.Decoded.{records_of}
use Rattle.stored_table.specs.Met.{met_by_call, met_by_handle, all_met, nothing_met}
use Rattle.stored_table.specs.Move.{move, added, places_written}
use Rattle.stored_table.specs.Moved.{moved}
use Rattle.stored_table.specs.Stands.{HasOpenRecords, StandsFor}
use Rattle.table_laws.specs.Standing.{KeepsStanding}
use Rattle.table_laws.proofs.Contained.{Contained}
use Rattle.table_laws.proofs.Deciding.{IsContained, reply_contained}
use Rattle.table_laws.proofs.Chains.{IsFine, legal_is_fine, legal_start, adds_no_open, old_opens, chains_stand}
use Rattle.table_laws.proofs.Calls.{after_call}
use Rattle.table_laws.proofs.HandleCalls.{handle_places, here, behind, row_behind, own_file, spots_met, handle_contained, handle_opens}

-- ---- an entry of a history whose call adds no open

module _ (setup : Setup) (n : ℕ) (is : IsSetup setup) (before : List Entry) (by seq number : ℕ) (moment : Moment) (which : Call) (reply : Reply) where
  abbrev pub entry : Entry
  entry = record { by = by; seq = seq; what = Called number moment which reply }

  abbrev pub table_before : Table
  table_before = after setup before

  -- what a call owes: that it does nothing beside the places that it writes, and that each open was there before
  pub record IsContainedCall (k : Chains) (caller : Caller) : Type 0 where
    pub places : List Place
    pub writes : places_written setup n k entry ≡ places
    pub inside : Contained setup places (records_of setup n k) table_before (perform_all (outcome setup (view table_before) caller which).changes table_before)
    pub opens : (o : OpenRow) → IsIn o (perform_all (outcome setup (view table_before) caller which).changes table_before).opens → IsIn o table_before.opens

  -- where More is asked of the chains
  module _ (More : Chains → Caller → Type 0) (legal : IsLegal setup (before ++ entry ∷ [])) (adds : (w : View) → added setup w entry ≡ None)
      (owes : (k : Chains) → StandsFor setup n k (view table_before) → IsFine setup table_before → settle table_before ≡ table_before → (caller : Caller) (info : WorkerInfo)
      → declared_at setup.workers by ≡ Some info → caller.sid.pid ≡ info.pid → caller.guid ≡ info.guid → More k caller → IsContainedCall k caller) where
    fine : IsFine setup table_before
    fine = legal_is_fine setup before is (legal_start setup before entry legal)

    settled : settle table_before ≡ table_before
    settled = after_all-settled setup (start setup) before (start-settled setup)

    after_is : after setup (before ++ entry ∷ []) ≡ after_event setup table_before by (Called number moment which reply)
    after_is = after_all-append setup (start setup) before entry

    -- with chains for which the call owes what it does
    with_caller : (caller : Caller) → caller_of setup (view table_before) by number moment ≡ Some caller → (k : Chains) → StandsFor setup n k (view table_before) → More k caller
        → StandsFor setup n (move setup n k entry (view (after setup (before ++ entry ∷ [])))) (view (after setup (before ++ entry ∷ [])))
    with_caller caller from k stands more =
        let of = is_caller_of setup table_before by number moment caller from in
        let owed = owes k stands fine settled caller of.info of.declared of.pid of.guid_is more in
        let u : Table = perform_all (outcome setup (view table_before) caller which).changes table_before in
        let here_is : after setup (before ++ entry ∷ []) ≡ u = after_is ∙ after_call setup table_before by number moment which reply caller from in
        let fine_after : IsFine setup u = subst (IsFine setup) here_is (legal_is_fine setup (before ++ entry ∷ []) is legal) in
        subst (λ x. StandsFor setup n (move setup n k entry (view x)) (view x)) (sym here_is)
        (chains_stand setup n k entry table_before u is stands fine fine_after
        (subst (λ ps. Contained setup ps (records_of setup n k) table_before u) (sym owed.writes) owed.inside)
        (λ file. subst (λ a. Rattle.std.specs.List.AllByRecursion (HasOpenRecords (moved setup (places_written setup n k entry) a (view u) (records_of setup n k))) ((view u).opens_of file)) (sym (adds (view u)))
        (old_opens setup (places_written setup n k entry) (records_of setup n k) table_before u stands.agree fine.sound owed.opens file)))

    by_caller : (o : Option Caller) → caller_of setup (view table_before) by number moment ≡ o
        → option_map (λ done. done.reply) (option_map (λ caller. outcome setup (view table_before) caller which) o) ≡ Some reply
        → (k : Chains) → StandsFor setup n k (view table_before) → ((caller : Caller) → caller_of setup (view table_before) by number moment ≡ Some caller → More k caller)
        → StandsFor setup n (move setup n k entry (view (after setup (before ++ entry ∷ [])))) (view (after setup (before ++ entry ∷ [])))
    by_caller None from e k stands more = absurd cc
    by_caller (Some caller) from e k stands more = with_caller caller from k stands (more caller from)

    pub keeps_standing_with : (k : Chains) → StandsFor setup n k (view table_before) → ((caller : Caller) → caller_of setup (view table_before) by number moment ≡ Some caller → More k caller)
        → StandsFor setup n (move setup n k entry (view (after setup (before ++ entry ∷ [])))) (view (after setup (before ++ entry ∷ [])))
    keeps_standing_with =
        let at : IsLegalCall setup table_before by number moment which reply = (legal_before setup (start setup) before [] entry legal.entries).1 in
        by_caller (caller_of setup (view table_before) by number moment) refl at.answered

  -- where nothing more is asked of the chains
  pub keeps_standing : (legal : IsLegal setup (before ++ entry ∷ [])) (adds : (w : View) → added setup w entry ≡ None)
      (owes : (k : Chains) → StandsFor setup n k (view table_before) → IsFine setup table_before → settle table_before ≡ table_before → (caller : Caller) (info : WorkerInfo)
      → declared_at setup.workers by ≡ Some info → caller.sid.pid ≡ info.pid → caller.guid ≡ info.guid → IsContainedCall k caller) → KeepsStanding setup n before entry
  keeps_standing legal adds owes k stands = keeps_standing_with (λ k caller. Unit {0}) legal adds (λ k stands fine settled caller info declared pid guid more. owes k stands fine settled caller info declared pid guid) k stands (λ caller from. tt)

-- ---- by the handle's open

module _ (setup : Setup) (n : ℕ) (k : Chains) (t : Table) (stands : StandsFor setup n k (view t)) (fine : IsFine setup t) (settled : settle t ≡ t)
    (caller : Caller) (info : WorkerInfo) (pid : caller.sid.pid ≡ info.pid) (handle : ℕ) where
  abbrev HereContained : Decision → Type 0
  HereContained d = IsContained setup (handle_places setup n k t stands fine settled caller info pid handle) (records_of setup n k) (here setup n k t stands fine settled caller info pid handle) t d

  abbrev Within : List OpenRow → Type 0
  Within os = (o : OpenRow) → IsIn o os → IsIn o ((view t).opens_of_handle caller.sid handle)

  replies : (reply : Reply) → HereContained (only_reply reply)
  replies reply = reply_contained setup (handle_places setup n k t stands fine settled caller info pid handle) (records_of setup n k) (here setup n k t stands fine settled caller info pid handle) t reply

  -- changes of the file's opens that come to one or two
  own : (row : OpenRow) → IsIn row ((view t).opens_of_handle caller.sid handle) → here setup n k t stands fine settled caller info pid handle row.file ≡ true
  own row i = own_file setup n k t stands fine settled caller info pid handle row i

  pub close_contained : (os : List OpenRow) → Within os → HereContained (close_first os)
  close_contained [] w = replies FileClosed
  close_contained (row ∷ os) w =
      let i = w row (inl refl) in
      of_close HereContained row
      (record { touched = and_from _ _ (own row i) (and_from _ _ (own row i) refl); reached = refl; none_waits = refl; posts = λ post j. absurd j; spots = spots_met setup n k t stands fine settled caller info pid handle row i; waits = tt })
      (record { touched = and_from _ _ (own row i) refl; reached = refl; none_waits = refl; posts = λ post j. absurd j; spots = spots_met setup n k t stands fine settled caller info pid handle row i; waits = tt })

  pub delete_contained : (on : Bool) (os : List OpenRow) → Within os → HereContained (delete_first on os)
  delete_contained on [] w = replies FileClosed
  delete_contained on (row ∷ os) w =
      let i = w row (inl refl) in
      of_delete HereContained on row (replies AccessDenied)
      (record { touched = and_from _ _ (own row i) refl; reached = refl; none_waits = refl; posts = λ post j. absurd j; spots = λ spot j. absurd j; waits = tt })
      (record { touched = and_from _ _ (own row i) refl; reached = refl; none_waits = refl; posts = λ post j. absurd j; spots = λ spot j. absurd j; waits = tt })

  pub unlock_contained : (v : View) (span : Span) (os : List OpenRow) → Within os → HereContained (unlock_first v span os)
  unlock_contained v span [] w = replies FileClosed
  unlock_contained v span (row ∷ os) w =
      let i = w row (inl refl) in
      by_ranges HereContained (file_view row.file v) span row
      (λ mode. record { touched = and_from _ _ (own row i) refl; reached = refl; none_waits = refl; posts = λ post j. absurd j; spots = spots_met setup n k t stands fine settled caller info pid handle row i; waits = tt })
      (replies RangeNotLocked)

  pub read_contained : (v : View) (span : Span) (os : List OpenRow) → HereContained (read_first v span os)
  read_contained v span [] = replies FileClosed
  read_contained v span (row ∷ os) =
      let f = file_view row.file v in
      cond_both (not (has row.access.0 0x21)) (only_reply AccessDenied) _ HereContained (λ _. replies AccessDenied)
      (λ _. cond_both (span.length == 0) (only_reply Done) _ HereContained (λ _. replies Done)
      (λ _. cond_both (passes_end span) (only_reply InvalidParameter) _ HereContained (λ _. replies InvalidParameter)
      (λ _. cond_both (list_any (forbids_read row span) f.ranges) (only_reply FileLockConflict) (only_reply Done) HereContained (λ _. replies FileLockConflict) (λ _. replies Done))))

-- ---- what they add

pub no_open_closed : (os : List OpenRow) → list_all adds_no_open (close_first os).changes ≡ true
no_open_closed [] = refl
no_open_closed (row ∷ os) = of_close (λ d. list_all adds_no_open d.changes ≡ true) row refl refl

pub no_open_deleted : (on : Bool) (os : List OpenRow) → list_all adds_no_open (delete_first on os).changes ≡ true
no_open_deleted on [] = refl
no_open_deleted on (row ∷ os) = of_delete (λ d. list_all adds_no_open d.changes ≡ true) on row refl refl refl

pub no_open_unlocked : (v : View) (span : Span) (os : List OpenRow) → list_all adds_no_open (unlock_first v span os).changes ≡ true
no_open_unlocked v span [] = refl
no_open_unlocked v span (row ∷ os) = by_ranges (λ d. list_all adds_no_open d.changes ≡ true) (file_view row.file v) span row (λ mode. refl) refl

pub no_open_read : (v : View) (span : Span) (os : List OpenRow) → list_all adds_no_open (read_first v span os).changes ≡ true
no_open_read v span [] = refl
no_open_read v span (row ∷ os) =
    let P : Decision → Type 0 = λ d. list_all adds_no_open d.changes ≡ true in
    let f = file_view row.file v in
    cond_both (not (has row.access.0 0x21)) (only_reply AccessDenied) _ P (λ _. refl)
    (λ _. cond_both (span.length == 0) (only_reply Done) _ P (λ _. refl)
    (λ _. cond_both (passes_end span) (only_reply InvalidParameter) _ P (λ _. refl)
    (λ _. cond_both (list_any (forbids_read row span) f.ranges) (only_reply FileLockConflict) (only_reply Done) P (λ _. refl) (λ _. refl))))

-- ---- the laws

module _ (setup : Setup) (n : ℕ) (is : IsSetup setup) (before : List Entry) (by seq number : ℕ) (moment : Moment) (handle : ℕ) (reply : Reply) where
  pub writes_by : (which : Call) → ((k : Chains) (info : WorkerInfo) → met_by_call setup n k info number which ≡ met_by_handle setup n k info handle)
      → (k : Chains) (info : WorkerInfo) → declared_at setup.workers by ≡ Some info
      → all_met (option_map_or (λ caller. met_by_call setup n k caller number which) (declared_at setup.workers by) nothing_met) ≡ all_met (met_by_handle setup n k info handle)
  writes_by which e k info declared = ap (λ o. all_met (option_map_or (λ caller. met_by_call setup n k caller number which) o nothing_met)) declared ∙ ap all_met (e k info)

  pub close_stands : IsLegal setup (before ++ entry setup n is before by seq number moment (call.Close handle) reply ∷ [])
      → KeepsStanding setup n before (entry setup n is before by seq number moment (call.Close handle) reply)
  unfolding close
  close_stands legal =
      keeps_standing setup n is before by seq number moment (call.Close handle) reply legal (λ w. refl)
      (λ k stands fine settled caller info declared pid guid.
      let t = after setup before in
      let b = behind setup n k t stands fine settled caller info pid handle (call.Close handle) refl in
      let h = close_contained setup n k t stands fine settled caller info pid handle ((view b).opens_of_handle caller.sid handle) (row_behind setup n k t stands fine settled caller info pid handle (call.Close handle) refl) in
      record {
        places = all_met (met_by_handle setup n k info handle);
        writes = writes_by (call.Close handle) (λ k info. refl) k info declared;
        inside = handle_contained setup n k t stands fine settled caller info pid handle (call.Close handle) refl h;
        opens = handle_opens setup n k t stands fine settled caller info pid handle (call.Close handle) refl h (no_open_closed ((view b).opens_of_handle caller.sid handle));
      })

  pub delete_stands : (on : Bool) → IsLegal setup (before ++ entry setup n is before by seq number moment (call.Delete handle on) reply ∷ [])
      → KeepsStanding setup n before (entry setup n is before by seq number moment (call.Delete handle on) reply)
  unfolding delete
  delete_stands on legal =
      keeps_standing setup n is before by seq number moment (call.Delete handle on) reply legal (λ w. refl)
      (λ k stands fine settled caller info declared pid guid.
      let t = after setup before in
      let b = behind setup n k t stands fine settled caller info pid handle (call.Delete handle on) refl in
      let h = delete_contained setup n k t stands fine settled caller info pid handle on ((view b).opens_of_handle caller.sid handle) (row_behind setup n k t stands fine settled caller info pid handle (call.Delete handle on) refl) in
      record {
        places = all_met (met_by_handle setup n k info handle);
        writes = writes_by (call.Delete handle on) (λ k info. refl) k info declared;
        inside = handle_contained setup n k t stands fine settled caller info pid handle (call.Delete handle on) refl h;
        opens = handle_opens setup n k t stands fine settled caller info pid handle (call.Delete handle on) refl h (no_open_deleted on ((view b).opens_of_handle caller.sid handle));
      })

  pub unlock_stands : (span : Span) → IsLegal setup (before ++ entry setup n is before by seq number moment (call.Unlock handle span) reply ∷ [])
      → KeepsStanding setup n before (entry setup n is before by seq number moment (call.Unlock handle span) reply)
  unfolding unlock
  unlock_stands span legal =
      keeps_standing setup n is before by seq number moment (call.Unlock handle span) reply legal (λ w. refl)
      (λ k stands fine settled caller info declared pid guid.
      let t = after setup before in
      let b = behind setup n k t stands fine settled caller info pid handle (call.Unlock handle span) refl in
      let h = unlock_contained setup n k t stands fine settled caller info pid handle (view b) span ((view b).opens_of_handle caller.sid handle) (row_behind setup n k t stands fine settled caller info pid handle (call.Unlock handle span) refl) in
      record {
        places = all_met (met_by_handle setup n k info handle);
        writes = writes_by (call.Unlock handle span) (λ k info. refl) k info declared;
        inside = handle_contained setup n k t stands fine settled caller info pid handle (call.Unlock handle span) refl h;
        opens = handle_opens setup n k t stands fine settled caller info pid handle (call.Unlock handle span) refl h (no_open_unlocked (view b) span ((view b).opens_of_handle caller.sid handle));
      })

  pub read_stands : (span : Span) → IsLegal setup (before ++ entry setup n is before by seq number moment (call.Read handle span) reply ∷ [])
      → KeepsStanding setup n before (entry setup n is before by seq number moment (call.Read handle span) reply)
  unfolding read
  read_stands span legal =
      keeps_standing setup n is before by seq number moment (call.Read handle span) reply legal (λ w. refl)
      (λ k stands fine settled caller info declared pid guid.
      let t = after setup before in
      let b = behind setup n k t stands fine settled caller info pid handle (call.Read handle span) refl in
      let h = read_contained setup n k t stands fine settled caller info pid handle (view b) span ((view b).opens_of_handle caller.sid handle) in
      record {
        places = all_met (met_by_handle setup n k info handle);
        writes = writes_by (call.Read handle span) (λ k info. refl) k info declared;
        inside = handle_contained setup n k t stands fine settled caller info pid handle (call.Read handle span) refl h;
        opens = handle_opens setup n k t stands fine settled caller info pid handle (call.Read handle span) refl h (no_open_read (view b) span ((view b).opens_of_handle caller.sid handle));
      })
