-- A call by a handle is legal by the chains of its footprint alone, and changes the table by them alone.
use Rattle.std.proofs.Common.{◌≡◌, ℕ, Bool, true, ◌==◌, List, [], ◌∷◌, ◌++◌, map, Option, Some, None, refl, sym, ap, ◌∙◌, subst, inl}
use Rattle.std.specs.List.{list_all}
use Rattle.std.specs.Option.{option_map_or}
use Rattle.std.proofs.lemmas.Bool.{and_parts, eqb-true}
use Rattle.sid_core.specs.declared.call.Call.{Call}
use Rattle.sid_core.specs.declared.call.Call.TheVariants as call
use Rattle.sid_core.specs.declared.call.Mode.{Mode}
use Rattle.sid_core.specs.declared.call.Span.{Span}
use Rattle.sid_core.specs.declared.ids.Moment.{Moment}
use Rattle.sid_core.specs.declared.ids.Sid.{Sid}
use Rattle.sid_core.specs.declared.ids.Spot.{Spot}
use Rattle.sid_core.specs.declared.reply.Reply.{Reply}
use Rattle.sid_core.specs.declared.setup.Setup.{Setup}
use Rattle.sid_core.specs.declared.setup.WorkerInfo.{WorkerInfo}
use Rattle.serial_table.specs.declared.rows.OpenRow.{OpenRow}
use Rattle.serial_table.specs.declared.table.Table.{Table}
use Rattle.serial_table.specs.declared.decision.Caller.{Caller}
use Rattle.serial_table.specs.declared.decision.Decision.{Decision}
use Rattle.serial_table.specs.View.{View, view, lives, is_of_handle}
use Rattle.serial_table.specs.File.{file_view}
use Rattle.serial_table.specs.Change.{perform_all}
use Rattle.serial_table.specs.Close.{close_first, close}
use Rattle.serial_table.specs.Delete.{delete_first, delete}
use Rattle.serial_table.specs.Unlock.{unlock_range, unlock_first, unlock}
use Rattle.serial_table.specs.ReadWrite.{read_file, read_first, read, write_file, write_first, write}
use Rattle.serial_table.specs.Lock.{lock_in, lock_first, lock}
use Rattle.serial_table.specs.Decision.{spots_of, conclude}
use Rattle.serial_table.specs.Decide.{decide, outcome}
use Rattle.serial_table.specs.Expire.{names_beside, look, due, expires, then_settles, expired_by}
use Rattle.serial_table.specs.Sound.{IsSound}
use Rattle.serial_table.specs.Step.{declared_at}
use Rattle.serial_table.proofs.Members.{IsIn, all_of, in_filter, some_same}
use Rattle.serial_table.proofs.Names.{same_sid-eq}
use Rattle.chain_map.specs.declared.db.Db.TheVariants as db
use Rattle.record_codec.specs.declared.open_rec.OpenRec.{OpenRec}
use Rattle.record_codec.specs.OpenRec.{open_rec}
use Rattle.stored_table.specs.Keys.{open_key, pid_key, file_key}
use Rattle.stored_table.specs.Places.{Chains, Place, among, value_at}
use Rattle.stored_table.specs.Decoded.{AllRecords, records_of}
use Rattle.stored_table.specs.Met.{KeyList, met, met_by_call, met_by_handle, all_met, named_at, file_of, nothing_met, record_at}
use Rattle.stored_table.specs.Stands.{AgreeWith, HasOpenRecords, StandsFor}
use Rattle.stored_table.proofs.Telling.{none_in, file_tells}
use Rattle.table_laws.specs.Standing.{call_entry}
use Rattle.table_laws.specs.ByFootprint.{IsLegalByFootprint}
use Rattle.table_laws.proofs.Calls.{changes_are}
use Rattle.table_laws.proofs.Chains.{IsFine, adds_no_open}
use Rattle.table_laws.proofs.Exactly.{in_opens}
use Rattle.table_laws.proofs.Meets.{flat_mapped_in}
use Rattle.table_laws.proofs.FilesAlike.{none_comes, file_concluded}
use Rattle.table_laws.proofs.Keywise.{woken_alike, concluded_alike}
use Rattle.table_laws.proofs.Touching.{touches}
use Rattle.table_laws.proofs.Showing.{shown_same}
use Rattle.table_laws.proofs.Footprints.{own_open_same, own_register_same, file_same}
use Rattle.table_laws.proofs.Answering.{legal_if}
use Rattle.table_laws.proofs.SameFiles.{AreOfFile, behind_of_file, view_behind_same, rows_same, expired_same}

-- ---- what a call by a handle goes by

-- the opens of the handle, and what is shown of their files
abbrev pub GoesByHandle : Setup → Caller → ℕ → Call → Type 0
GoesByHandle setup caller handle call =
    (v w : View) → v.opens_of_handle caller.sid handle ≡ w.opens_of_handle caller.sid handle
    → ((row : OpenRow) → IsIn row (v.opens_of_handle caller.sid handle) → file_view row.file v ≡ file_view row.file w) → decide setup v caller call ≡ decide setup w caller call

module _ (setup : Setup) (caller : Caller) (handle : ℕ) where
  pub close_goes : GoesByHandle setup caller handle (call.Close handle)
  unfolding close
  close_goes v w e h = ap close_first e

  pub delete_goes : (on : Bool) → GoesByHandle setup caller handle (call.Delete handle on)
  unfolding delete
  delete_goes on v w e h = ap (delete_first on) e

  pub unlock_goes : (span : Span) → GoesByHandle setup caller handle (call.Unlock handle span)
  unfolding unlock
  unlock_goes span v w e h = by (v.opens_of_handle caller.sid handle) h ∙ ap (unlock_first w span) e
    where
      by : (rows : List OpenRow) → ((row : OpenRow) → IsIn row rows → file_view row.file v ≡ file_view row.file w) → unlock_first v span rows ≡ unlock_first w span rows
      by [] h = refl
      by (row ∷ rows) h = ap (λ f. unlock_range f span row) (h row (inl refl))

  pub read_goes : (span : Span) → GoesByHandle setup caller handle (call.Read handle span)
  unfolding read
  read_goes span v w e h = by (v.opens_of_handle caller.sid handle) h ∙ ap (read_first w span) e
    where
      by : (rows : List OpenRow) → ((row : OpenRow) → IsIn row rows → file_view row.file v ≡ file_view row.file w) → read_first v span rows ≡ read_first w span rows
      by [] h = refl
      by (row ∷ rows) h = ap (λ f. read_file f span row) (h row (inl refl))

  pub write_goes : (span : Span) → GoesByHandle setup caller handle (call.Write handle span)
  unfolding write
  write_goes span v w e h = by (v.opens_of_handle caller.sid handle) h ∙ ap (write_first caller.moment w span) e
    where
      by : (rows : List OpenRow) → ((row : OpenRow) → IsIn row rows → file_view row.file v ≡ file_view row.file w) → write_first caller.moment v span rows ≡ write_first caller.moment w span rows
      by [] h = refl
      by (row ∷ rows) h = ap (λ f. write_file caller.moment f span row) (h row (inl refl))

  pub lock_goes : (span : Span) (mode : Mode) (wait : Bool) → GoesByHandle setup caller handle (call.Lock handle span mode wait)
  unfolding lock
  lock_goes span mode wait v w e h = by (v.opens_of_handle caller.sid handle) h ∙ ap (lock_first w caller span mode wait) e
    where
      by : (rows : List OpenRow) → ((row : OpenRow) → IsIn row rows → file_view row.file v ≡ file_view row.file w) → lock_first v caller span mode wait rows ≡ lock_first w caller span mode wait rows
      by [] h = refl
      by (row ∷ rows) h = ap (λ f. lock_in f caller span mode wait row) (h row (inl refl))

-- Each spot that it may free is of the file of one of these opens.
abbrev pub FreesBeside : List OpenRow → Decision → Type 0
FreesBeside rows d = (spot : Spot) → IsIn spot d.spots → (row : OpenRow) × IsIn row rows × IsIn spot (spots_of row.file)

-- ---- its decision

-- the open record of the handle tells the file of its open
recorded : (setup : Setup) (s : AllRecords) (t : Table) → AgreeWith setup s (view t) → IsSound t → (sid : Sid) (pid handle : ℕ) → sid.pid ≡ pid → (row : OpenRow) → IsIn row t.opens → is_of_handle sid handle row ≡ true
    → s.opens pid handle ≡ Some (record { id = row.id; file = row.file })
recorded setup s t agree sound sid pid handle own row i e =
    let p = and_parts (Rattle.sid_core.specs.Ids.same_sid row.owner sid) (row.handle == handle) e in
    let owner : row.owner.pid ≡ pid = ap (λ (x : Sid). x.pid) (same_sid-eq row.owner sid p.0) ∙ own in
    sym (λ j. s.opens (owner j) (eqb-true row.handle handle p.1 j)) ∙ (all_of (HasOpenRecords s) ((view t).opens_of row.file) (agree.opens row.file) row (in_opens t sound row i)).by_handle

file_of_record : (setup : Setup) (s : AllRecords) (t : Table) → AgreeWith setup s (view t) → IsSound t → (sid : Sid) (pid handle : ℕ) → sid.pid ≡ pid → (r : OpenRec) → s.opens pid handle ≡ Some r → AreOfFile (is_of_handle sid handle) r.file t
file_of_record setup s t agree sound sid pid handle own r is o i e =
    ap (λ (x : OpenRec). x.file) (some_same (record { id = o.id; file = o.file }) r (sym (recorded setup s t agree sound sid pid handle own o i e) ∙ is))

no_rows : (setup : Setup) (s : AllRecords) (t : Table) → AgreeWith setup s (view t) → IsSound t → (sid : Sid) (pid handle : ℕ) → sid.pid ≡ pid → s.opens pid handle ≡ None → (view t).opens_of_handle sid handle ≡ []
no_rows setup s t agree sound sid pid handle own none =
    none_in ((view t).opens_of_handle sid handle) (λ row i.
    let at = in_filter (is_of_handle sid handle) t.opens row i in differ row (sym (recorded setup s t agree sound sid pid handle own row at.0 at.1) ∙ none))
  where
    differ : (row : OpenRow) → ◌≡◌ {A = Option OpenRec} (Some (record { id = row.id; file = row.file })) None → ⊥
    differ row e = cc

pub own_worker_same : (setup : Setup) (n : ℕ) (k j : Chains) (info : WorkerInfo) (handle : ℕ) → ((p : Place) → among p (all_met (met_by_handle setup n k info handle)) ≡ true → value_at n k p ≡ value_at n j p)
    → (records_of setup n k).register info.pid ≡ (records_of setup n j).register info.pid
own_worker_same setup n k j info handle same =
    own_register_same setup n k j (open_key info.pid handle ∷ []) [] (named_at open_rec (file_of setup) n k db.Opens (open_key info.pid handle ∷ [])) [] (pid_key info.pid ∷ []) same info.pid (inl refl)

module _ (setup : Setup) (n : ℕ) (k j : Chains) (t u : Table) (stands : StandsFor setup n k (view t)) (stands_other : StandsFor setup n j (view u)) (fine : IsFine setup t) (fine_other : IsFine setup u)
    (caller : Caller) (info : WorkerInfo) (pid : caller.sid.pid ≡ info.pid) (handle : ℕ)
    (same : (p : Place) → among p (all_met (met_by_handle setup n k info handle)) ≡ true → value_at n k p ≡ value_at n j p)
    (which : Call) (looks : (v : View) → look setup v caller which ≡ names_beside v (v.opens_of_handle caller.sid handle)) (goes : GoesByHandle setup caller handle which) where
  abbrev s : AllRecords
  s = records_of setup n k

  abbrev z : AllRecords
  z = records_of setup n j

  abbrev opens : KeyList
  opens = open_key info.pid handle ∷ []

  abbrev files : KeyList
  files = named_at open_rec (file_of setup) n k db.Opens (open_key info.pid handle ∷ [])

  abbrev own : KeyList
  own = pid_key info.pid ∷ []

  handle_open_same : s.opens info.pid handle ≡ z.opens info.pid handle
  handle_open_same = own_open_same setup n k j opens [] files [] own same info.pid handle (inl refl)

  abbrev behind : Table
  behind = perform_all (expired_by setup (view t) caller which) t

  abbrev behind_other : Table
  behind_other = perform_all (expired_by setup (view u) caller which) u

  -- where the handle has no open, nothing expires
  none_expires : (x : Table) → (view x).opens_of_handle caller.sid handle ≡ [] → expired_by setup (view x) caller which ≡ []
  unfolding expired_by
  none_expires x none = ap (λ names. then_settles (map expires (due (view x) caller.moment names))) (looks (view x) ∙ ap (names_beside (view x)) none)

  none_behind : (x : Table) → (view x).opens_of_handle caller.sid handle ≡ [] → (view (perform_all (expired_by setup (view x) caller which) x)).opens_of_handle caller.sid handle ≡ []
  none_behind x none = ap (λ cs. (view (perform_all cs x)).opens_of_handle caller.sid handle) (none_expires x none) ∙ none

  -- without an open record of the handle
  module _ (none : s.opens info.pid handle ≡ None) where
    rows_none : (view t).opens_of_handle caller.sid handle ≡ []
    rows_none = no_rows setup s t stands.agree fine.sound caller.sid info.pid handle pid none

    rows_none_other : (view u).opens_of_handle caller.sid handle ≡ []
    rows_none_other = no_rows setup z u stands_other.agree fine_other.sound caller.sid info.pid handle pid (sym handle_open_same ∙ none)

  -- with one
  module _ (r : OpenRec) (is : s.opens info.pid handle ≡ Some r) where
    pub handle_file_met : IsIn (file_key setup r.file) files
    handle_file_met =
        flat_mapped_in (λ key. option_map_or (file_of setup) (record_at open_rec n k db.Opens key) []) opens (open_key info.pid handle) (file_key setup r.file) (inl refl)
        (subst (λ o. IsIn (file_key setup r.file) (option_map_or (file_of setup) o [])) (sym is) (inl refl))

    of_file : AreOfFile (is_of_handle caller.sid handle) r.file t
    of_file = file_of_record setup s t stands.agree fine.sound caller.sid info.pid handle pid r is

    of_file_other : AreOfFile (is_of_handle caller.sid handle) r.file u
    of_file_other = file_of_record setup z u stands_other.agree fine_other.sound caller.sid info.pid handle pid r (sym handle_open_same ∙ is)

    shows : file_view r.file (view t) ≡ file_view r.file (view u)
    shows =
        sym (file_tells setup s t stands.agree fine.sets fine.sound r.file)
        ∙ shown_same s z r.file (file_same setup n k j opens [] files [] own same r.file handle_file_met)
        ∙ file_tells setup z u stands_other.agree fine_other.sets fine_other.sound r.file

    of_behind : AreOfFile (is_of_handle caller.sid handle) r.file behind
    of_behind = behind_of_file setup caller (is_of_handle caller.sid handle) r.file which (λ x. looks (view x)) t fine.sound of_file

    of_behind_other : AreOfFile (is_of_handle caller.sid handle) r.file behind_other
    of_behind_other = behind_of_file setup caller (is_of_handle caller.sid handle) r.file which (λ x. looks (view x)) u fine_other.sound of_file_other

    shows_behind : file_view r.file (view behind) ≡ file_view r.file (view behind_other)
    shows_behind = view_behind_same setup caller (is_of_handle caller.sid handle) r.file which (λ x. looks (view x)) t u fine.sound fine_other.sound of_file of_file_other shows

    expired_alike : expired_by setup (view t) caller which ≡ expired_by setup (view u) caller which
    expired_alike = expired_same setup caller (is_of_handle caller.sid handle) r.file which (λ x. looks (view x)) t u fine.sound fine_other.sound of_file of_file_other shows

  by_record : (o : Option OpenRec) → s.opens info.pid handle ≡ o → decide setup (view behind) caller which ≡ decide setup (view behind_other) caller which
  by_record None is =
      let a = none_behind t (rows_none is) in
      let b = none_behind u (rows_none_other is) in
      goes (view behind) (view behind_other) (a ∙ sym b) (λ row i. absurd (subst (IsIn row) a i))
  by_record (Some r) is =
      goes (view behind) (view behind_other) (rows_same (is_of_handle caller.sid handle) r.file behind behind_other (of_behind r is) (of_behind_other r is) (shows_behind r is))
      (λ row i. let at = in_filter (is_of_handle caller.sid handle) behind.opens row i in
      subst (λ g. file_view g (view behind) ≡ file_view g (view behind_other)) (sym (of_behind r is row at.0 at.1)) (shows_behind r is))

  pub decided_same : decide setup (view behind) caller which ≡ decide setup (view behind_other) caller which
  decided_same = by_record (s.opens info.pid handle) refl

  -- ---- what it comes to, where it adds no open and frees spots of the handle's file alone

  module _ (here : ℕ → Bool) (touched : list_all (touches here) (decide setup (view behind) caller which).changes ≡ true) (none : list_all adds_no_open (decide setup (view behind) caller which).changes ≡ true)
      (spots : FreesBeside ((view behind).opens_of_handle caller.sid handle) (decide setup (view behind) caller which)) where
    comes_to : (o : Option OpenRec) → s.opens info.pid handle ≡ o
        → (expired_by setup (view t) caller which ≡ expired_by setup (view u) caller which)
        × ((conclude (view behind) (decide setup (view behind) caller which)).changes ≡ (conclude (view behind_other) (decide setup (view behind) caller which)).changes)
    comes_to None is =
        let d = decide setup (view behind) caller which in
        let no_spot : (spot : Spot) → IsIn spot d.spots → ⊥ = λ spot i. let x = spots spot i in subst (IsIn x.0) (none_behind t (rows_none is)) x.1 in (
          none_expires t (rows_none is) ∙ sym (none_expires u (rows_none_other is)),
          concluded_alike (view behind) (view behind_other) d (woken_alike (view behind) (view behind_other) d (λ spot i. absurd (no_spot spot i)) (λ spot i. absurd (no_spot spot i))),
        )
    comes_to (Some r) is =
        let d = decide setup (view behind) caller which in (
          expired_alike r is,
          file_concluded here r.file d behind behind_other touched (none_comes (lives (view behind)) (lives (view behind_other)) d.changes none)
              (λ spot i. let x = spots spot i in let at = in_filter (is_of_handle caller.sid handle) behind.opens x.0 x.1 in subst (λ f. IsIn spot (spots_of f)) (of_behind r is x.0 at.0 at.1) x.2)
              (shows_behind r is),
        )

    pub changes_same : (outcome setup (view t) caller which).changes ≡ (outcome setup (view u) caller which).changes
    changes_same =
        let both = comes_to (s.opens info.pid handle) refl in
        changes_are setup t caller which
        ∙ (λ i. both.0 i ++ both.1 i)
        ∙ ap (λ (d : Decision). expired_by setup (view u) caller which ++ (conclude (view behind_other) d).changes) decided_same
        ∙ sym (changes_are setup u caller which)

-- ---- the law

module _ (setup : Setup) (n by seq number : ℕ) (moment : Moment) (which : Call) (reply : Reply) (handle : ℕ)
    (meets : (k : Chains) (info : WorkerInfo) → met_by_call setup n k info number which ≡ met_by_handle setup n k info handle)
    (looks : (caller : Caller) (v : View) → look setup v caller which ≡ names_beside v (v.opens_of_handle caller.sid handle)) (goes : (caller : Caller) → GoesByHandle setup caller handle which) where
  legal_by : IsLegalByFootprint setup n (call_entry by seq number moment which reply)
  legal_by =
      legal_if setup n by seq number moment which reply (λ k j a caller info declared pid guid in_sets same. record {
        worker = λ t stands alive. own_worker_same setup n k j info handle (at k j info declared same);
        answers = λ t u stands stands_other fine fine_other alive alive_other settled settled_other.
            ap (λ (d : Decision). d.reply) (decided_same setup n k j t u stands stands_other fine fine_other caller info pid handle (at k j info declared same) which (looks caller) (goes caller));
      })
    where
      at : (k j : Chains) (info : WorkerInfo) → declared_at setup.workers by ≡ Some info → ((p : Place) → among p (all_met (met setup n k (call_entry by seq number moment which reply))) ≡ true → value_at n k p ≡ value_at n j p)
          → (p : Place) → among p (all_met (met_by_handle setup n k info handle)) ≡ true → value_at n k p ≡ value_at n j p
      at k j info declared same p m = same p (ap (λ x. among p (all_met x)) (ap (λ o. option_map_or (λ caller. met_by_call setup n k caller number which) o nothing_met) declared ∙ meets k info) ∙ m)

module _ (setup : Setup) (n by seq number : ℕ) (moment : Moment) (handle : ℕ) (reply : Reply) where
  pub close_legal : IsLegalByFootprint setup n (call_entry by seq number moment (call.Close handle) reply)
  close_legal = legal_by setup n by seq number moment (call.Close handle) reply handle (λ k info. refl) (λ caller v. refl) (λ caller. close_goes setup caller handle)

  pub delete_legal : (on : Bool) → IsLegalByFootprint setup n (call_entry by seq number moment (call.Delete handle on) reply)
  delete_legal on = legal_by setup n by seq number moment (call.Delete handle on) reply handle (λ k info. refl) (λ caller v. refl) (λ caller. delete_goes setup caller handle on)

  pub lock_legal : (span : Span) (mode : Mode) (wait : Bool) → IsLegalByFootprint setup n (call_entry by seq number moment (call.Lock handle span mode wait) reply)
  lock_legal span mode wait = legal_by setup n by seq number moment (call.Lock handle span mode wait) reply handle (λ k info. refl) (λ caller v. refl) (λ caller. lock_goes setup caller handle span mode wait)

  pub unlock_legal : (span : Span) → IsLegalByFootprint setup n (call_entry by seq number moment (call.Unlock handle span) reply)
  unlock_legal span = legal_by setup n by seq number moment (call.Unlock handle span) reply handle (λ k info. refl) (λ caller v. refl) (λ caller. unlock_goes setup caller handle span)

  pub read_legal : (span : Span) → IsLegalByFootprint setup n (call_entry by seq number moment (call.Read handle span) reply)
  read_legal span = legal_by setup n by seq number moment (call.Read handle span) reply handle (λ k info. refl) (λ caller v. refl) (λ caller. read_goes setup caller handle span)

  pub write_legal : (span : Span) → IsLegalByFootprint setup n (call_entry by seq number moment (call.Write handle span) reply)
  write_legal span = legal_by setup n by seq number moment (call.Write handle span) reply handle (λ k info. refl) (λ caller v. refl) (λ caller. write_goes setup caller handle span)
