-- `reconnect` is legal by the chains of its footprint alone; and the tables after it, where two chains give those the same.
use Rattle.std.proofs.Common.{◌≡◌, ℕ, ◌+◌, Bool, true, false, cond, not, ◌&&◌, List, [], ◌∷◌, map, filter, find, Option, Some, None, refl, sym, ap, ◌∙◌, subst, inl, inr, suc, ◌==◌, ◌++◌, arith}
use Rattle.std.specs.Prelude.{nat_lt}
use Rattle.std.specs.List.{list_all, list_any}
use Rattle.std.specs.Option.{option_map, option_map_or}
use Rattle.std.proofs.lemmas.Bool.{and_parts, eqb-true, and_from, cond-false, false_from_ne_true}
use Rattle.sid_core.specs.declared.call.Call.{Call}
use Rattle.sid_core.specs.declared.call.Call.TheVariants as call
use Rattle.sid_core.specs.declared.ids.LeaseName.{LeaseName}
use Rattle.sid_core.specs.declared.ids.Moment.{Moment}
use Rattle.sid_core.specs.declared.ids.OpenId.{OpenId}
use Rattle.sid_core.specs.declared.ids.Sid.{Sid}
use Rattle.sid_core.specs.declared.reply.Reply.{Reply}
use Rattle.sid_core.specs.declared.reply.Reply.TheVariants.{ObjectNameNotFound, Granted}
use Rattle.sid_core.specs.declared.setup.Setup.{Setup}
use Rattle.sid_core.specs.declared.setup.WorkerInfo.{WorkerInfo}
use Rattle.sid_core.specs.Ids.{same_sid, same_id}
use Rattle.serial_table.specs.declared.rows.OpenRow.{OpenRow}
use Rattle.serial_table.specs.declared.rows.EndedRow.{EndedRow}
use Rattle.serial_table.specs.declared.table.Table.{Table}
use Rattle.serial_table.specs.declared.change.Change.{Change}
use Rattle.serial_table.specs.declared.change.Change.TheVariants as c
use Rattle.serial_table.specs.declared.decision.Caller.{Caller}
use Rattle.serial_table.specs.declared.decision.Decision.{Decision}
use Rattle.serial_table.specs.Asked.{own_lease}
use Rattle.serial_table.specs.View.{View, view, lives, carries, has_id, is_end_of, is_of_file, is_of_handle}
use Rattle.serial_table.specs.File.{file_view, FileOpen, file_open}
use Rattle.serial_table.specs.InPlace.{lives_by}
use Rattle.serial_table.specs.Change.{perform_all, is_open, new_owner}
use Rattle.serial_table.specs.Settle.{settle_file, settle}
use Rattle.serial_table.specs.Decision.{only_reply, conclude}
use Rattle.serial_table.specs.Durable.{can_be_taken}
use Rattle.serial_table.specs.Expire.{names_beside, look, due, expires, then_settles, expired_by}
use Rattle.serial_table.specs.Reconnect.{take_over, reconnect_first, made_by, reconnect}
use Rattle.serial_table.specs.Sound.{IsSound}
use Rattle.serial_table.specs.Step.{declared_at}
use Rattle.serial_table.proofs.SameIds.{same_id-eq}
use Rattle.serial_table.proofs.Expiring.{expired_all, expired_workers, expired_settled, lives_behind, outcome_table}
use Rattle.serial_table.proofs.Members.{IsIn, all_of, in_filter, some_same, any_none, passes_in}
use Rattle.chain_map.specs.declared.db.Db.TheVariants as db
use Rattle.record_codec.specs.declared.open_rec.OpenRec.{OpenRec}
use Rattle.record_codec.specs.OpenRec.{open_rec}
use Rattle.stored_table.specs.Keys.{open_key, pid_key, name_key, file_key}
use Rattle.stored_table.specs.Places.{Chains, Place, among, value_at, place}
use Rattle.stored_table.specs.Decoded.{AllRecords, records_of}
use Rattle.record_rows.specs.Rows.{entry_of}
use Rattle.stored_table.specs.Exact.{exact_lease}
use Rattle.stored_table.specs.Met.{met, met_by_reconnect, all_met, named_at, file_of, nothing_met, record_at}
use Rattle.stored_table.specs.Stands.{AgreeWith, HasOpenRecords, StandsFor}
use Rattle.stored_table.proofs.Telling.{none_in, not_declared, lives_alike, file_tells}
use Rattle.table_laws.specs.Standing.{call_entry, NameTheirFiles}
use Rattle.table_laws.specs.ByFootprint.{IsLegalByFootprint}
use Rattle.table_laws.proofs.Chains.{IsFine, adds_no_open, all_still_in}
use Rattle.table_laws.proofs.Exactly.{in_opens}
use Rattle.table_laws.proofs.Meets.{flat_mapped_in, entry_recorded}
use Rattle.table_laws.proofs.Showing.{lives_same, shown_same, SameLease}
use Rattle.table_laws.proofs.Footprints.{own_open_same, own_register_same, owner_same, file_same}
use Rattle.table_laws.proofs.Touching.{touches, file_stays, same_then}
use Rattle.table_laws.proofs.SameFiles.{AreOfFile, behind_of_file, view_behind_same, rows_same, due_same}
use Rattle.table_laws.proofs.Answering.{IsAnsweredAlike, legal_if}
use Rattle.table_laws.proofs.PlainAnswers.{at_met, by_declared}
use Rattle.std.proofs.lemmas.List.Folds.{list_all-append}
use Rattle.sid_core.specs.declared.bits.LeaseState.{LeaseState}
use Rattle.sid_core.specs.declared.ids.Spot.{Spot}
use Rattle.serial_table.specs.ByNumber.{declared_at}
use Rattle.serial_table.specs.Decide.{outcome}
use Rattle.serial_table.proofs.Concluding.{conclude_all}
use Rattle.serial_table.proofs.Filters.{filter-map}
use Rattle.serial_table.proofs.Names.{same_sid-eq}
use Rattle.serial_table.proofs.Settled.{IsSettled, files_settled}
use Rattle.serial_table.proofs.Views.{file-new_owner}
use Rattle.stored_table.specs.Move.{still_open}
use Rattle.table_laws.proofs.AddedOpens.{IsNewNumber}
use Rattle.table_laws.proofs.Calls.{changes_are}
use Rattle.table_laws.proofs.Contained.{SameFile}
use Rattle.table_laws.proofs.ExpiredLeases.{all, behind_sound, expired_alike, shown_behind, lease_behind}
use Rattle.table_laws.proofs.FilesAlike.{file_alike}
use Rattle.table_laws.proofs.FileWrites.{LeftOrAlike, lease_alike, of_named_file, file_before, open_alike}
use Rattle.table_laws.proofs.Keywise.{woken_alike, concluded_alike}
use Rattle.table_laws.proofs.NewKeys.{unread}
use Rattle.table_laws.proofs.OwnOpens.{adds_own, IsOldOrOwn, old_or_own}
use Rattle.table_laws.proofs.EndedSessions.{ends_none, ended_after, ended_same}
use Rattle.table_laws.proofs.FirstKeys.{FirstKeys, keys_of_reconnect}
use Rattle.table_laws.proofs.ReconnectEvents.{taken, same_opens, same_view, Decided, decided}

-- ---- what `reconnect` goes by

module _ (v w : View) (caller : Caller) (name : LeaseName) where
  taken_same : (row : OpenRow) → lives v row.owner ≡ lives w row.owner → v.ended_of row.owner.pid ≡ w.ended_of row.owner.pid → can_be_taken v caller.moment row ≡ can_be_taken w caller.moment row
  taken_same row alive ended =
      λ i. not (alive i) && option_map_or (nat_lt caller.moment.0) (option_map (λ (e : EndedRow). e.moment.0 + row.durable) (find (λ (e : EndedRow). same_sid e.sid row.owner) (ended i))) false

  first_same : (rows : List OpenRow) → ((row : OpenRow) → IsIn row rows → (lives v row.owner ≡ lives w row.owner) × (v.ended_of row.owner.pid ≡ w.ended_of row.owner.pid) × (file_view row.file v ≡ file_view row.file w))
      → reconnect_first v caller name rows ≡ reconnect_first w caller name rows
  first_same [] h = refl
  first_same (row ∷ rows) h =
      let a = h row (inl refl) in
      λ i. cond (taken_same row a.0 a.1 i && carries name row.lease) (take_over caller row ((a.2 i).leases name)) (only_reply ObjectNameNotFound)

-- ---- its decision

-- the open record of an id tells the file of its open
file_by_id : (setup : Setup) (s : AllRecords) (t : Table) → AgreeWith setup s (view t) → IsSound t → (id : OpenId) (r : OpenRec) → s.opens id.pid id.call ≡ Some r → AreOfFile (has_id id) r.file t
file_by_id setup s t agree sound id r is o i e =
    let same : o.id ≡ id = same_id-eq o.id id e in
    let own = (all_of (HasOpenRecords s) ((view t).opens_of o.file) (agree.opens o.file) o (in_opens t sound o i)).by_id in
    ap (λ (x : OpenRec). x.file) (some_same (record { id = o.id; file = o.file }) r (sym own ∙ ap (λ (x : OpenId). s.opens x.pid x.call) same ∙ is))

none_by_id : (setup : Setup) (s : AllRecords) (t : Table) → AgreeWith setup s (view t) → IsSound t → (id : OpenId) → s.opens id.pid id.call ≡ None → filter (has_id id) t.opens ≡ []
none_by_id setup s t agree sound id none =
    none_in (filter (has_id id) t.opens) (λ o i.
    let at = in_filter (has_id id) t.opens o i in
    let own = (all_of (HasOpenRecords s) ((view t).opens_of o.file) (agree.opens o.file) o (in_opens t sound o at.0)).by_id in
    differ o (sym own ∙ ap (λ (x : OpenId). s.opens x.pid x.call) (same_id-eq o.id id at.1) ∙ none))
  where
    differ : (o : OpenRow) → ◌≡◌ {A = Option OpenRec} (Some (record { id = o.id; file = o.file })) None → ⊥
    differ o e = cc

-- ---- an open that is taken over, at two tables

module _ (file : ℕ) (id : OpenId) (owner : Sid) (handle : ℕ) where
  -- what an open that a file shows becomes, where the new owner lives or doesn't
  abbrev turned : Bool → FileOpen → FileOpen
  turned alive o = cond (is_open file id o.row) (let x : FileOpen = record { row = record o.row { owner = owner; handle = handle }; connected = alive } in x) o

  turned_one : (alive : Sid → Bool) (o : OpenRow) → file_open alive (new_owner file id owner handle o) ≡ turned (alive owner) (file_open alive o)
  unfolding new_owner
  turned_one alive o = by (is_open file id o)
    where
      by : (b : Bool) → file_open alive (cond b (record o { owner = owner; handle = handle }) o) ≡ cond b (let x : FileOpen = record { row = record o { owner = owner; handle = handle }; connected = alive owner } in x) (file_open alive o)
      by true = refl
      by false = refl

  turned_all : (alive : Sid → Bool) (os : List OpenRow) → map (file_open alive) (map (new_owner file id owner handle) os) ≡ map (turned (alive owner)) (map (file_open alive) os)
  turned_all alive [] = refl
  turned_all alive (o ∷ os) = λ i. turned_one alive o i ∷ turned_all alive os i

  taken_view : (x : Table) (g : ℕ) → file_view g (view (taken x file id owner handle)) ≡ record (file_view g (view x)) { opens = map (turned (lives (view x) owner)) (file_view g (view x)).opens }
  taken_view x g =
      let opens =
      ap (map (file_open (lives (view x)))) (filter-map (is_of_file g) (new_owner file id owner handle) (λ o. ap (λ f. f == g) (file-new_owner file id owner handle o)) x.opens)
      ∙ turned_all (lives (view x)) ((view x).opens_of g) in
      λ i. record (file_view g (view x)) { opens = opens i }

  taken_alike : (x y : Table) (g : ℕ) → file_view g (view x) ≡ file_view g (view y) → lives (view x) owner ≡ lives (view y) owner → file_view g (view (taken x file id owner handle)) ≡ file_view g (view (taken y file id owner handle))
  taken_alike x y g same alive = taken_view x g ∙ (λ i. record (same i) { opens = map (turned (alive i)) (same i).opens }) ∙ sym (taken_view y g)

  -- another file is left alone
  taken_left : (x : Table) (g : ℕ) → (file == g) ≡ false → IsSettled x g → SameFile g (view x) (view (settle (taken x file id owner handle)))
  taken_left x g out settled =
      let y = taken x file id owner handle in
      let same = same_view x file id owner handle g out in
      same_then g x y (settle y) (record { opens = same_opens x file id owner handle g out; ranges = refl; pending = refl; leases = λ name. refl })
      (file_stays (λ f. file == f) g out c.Settle y refl (ap settle_file same ∙ settled ∙ sym same))

-- ---- opens behind changes that add none

adds_others : (own : OpenId) (cs : List Change) → list_all adds_no_open cs ≡ true → list_all (adds_own own) cs ≡ true
adds_others own [] e = refl
adds_others own (change ∷ cs) e = let p = and_parts (adds_no_open change) (list_all adds_no_open cs) e in and_from (adds_own own change) (list_all (adds_own own) cs) (one change p.0) (adds_others own cs p.1)
  where
    one : (change : Change) → adds_no_open change ≡ true → adds_own own change ≡ true
    one (c.AddOpen row) e = absurd cc
    one _ e = refl

-- it was there before, under its id and of its file
opens_before : (cs : List Change) (t : Table) (o : OpenRow) → list_all adds_no_open cs ≡ true → IsIn o (perform_all cs t).opens → (x : OpenRow) × IsIn x t.opens × (x.id ≡ o.id) × (x.file ≡ o.file)
opens_before cs t o e i = by (old_or_own other cs t o (adds_others other cs e) i)
  where
    other : OpenId
    other = record { pid = o.id.pid; call = suc o.id.call }

    by : IsOldOrOwn (record { pid = o.id.pid; call = suc o.id.call }) t o → (x : OpenRow) × IsIn x t.opens × (x.id ≡ o.id) × (x.file ≡ o.file)
    by (inl k) = k
    by (inr h) = let same : o.id.call ≡ suc o.id.call = ap (λ (id : OpenId). id.call) (same_id-eq o.id other h) in absurd (omega (arith, same))

-- ---- the call, at two tables

module _ (setup : Setup) (n : ℕ) (k j : Chains) (t u : Table) (stands : StandsFor setup n k (view t)) (stands_other : StandsFor setup n j (view u)) (fine : IsFine setup t) (fine_other : IsFine setup u)
    (caller : Caller) (info named : WorkerInfo) (number worker made key : ℕ) (declared : declared_at setup.workers worker ≡ Some named)
    (same : (p : Place) → among p (all_met (met_by_reconnect setup n k info number made key named)) ≡ true → value_at n k p ≡ value_at n j p) where
  abbrev s : AllRecords
  s = records_of setup n k

  abbrev z : AllRecords
  z = records_of setup n j

  abbrev which : Call
  which = call.Reconnect worker made key

  abbrev id : OpenId
  id = record { pid = named.pid; call = made }

  abbrev keys : FirstKeys
  keys = keys_of_reconnect setup n k info number made key named

  made_is : (x : Table) → made_by setup (view x) worker made ≡ filter (has_id id) x.opens
  made_is x = ap (λ o. option_map_or (λ (i : WorkerInfo). (view x).opens_of_id (record { pid = i.pid; call = made })) o []) declared

  looks : (x : Table) → look setup (view x) caller which ≡ names_beside (view x) (filter (has_id id) x.opens)
  looks x = ap (names_beside (view x)) (made_is x)

  open_same : s.opens named.pid made ≡ z.opens named.pid made
  open_same = own_open_same setup n k j keys.opens [] keys.files keys.names keys.own same named.pid made (inl refl)

  abbrev behind : Table → Table
  behind x = perform_all (expired_by setup (view x) caller (call.Reconnect worker made key)) x

  ended_behind : (x : Table) → (behind x).ended ≡ x.ended
  ended_behind x = ended_after (expired_by setup (view x) caller which) x (expired_all ends_none (λ l. refl) refl setup (view x) caller which)

  workers_behind : (x : Table) → (behind x).workers ≡ x.workers
  workers_behind x = expired_workers setup x caller which

  living_behind : (x : Table) (sid : Sid) → lives (view (behind x)) sid ≡ lives (view x) sid
  living_behind x sid = ap (λ workers. lives_by workers sid) (workers_behind x)

  none_behind : (x : Table) → filter (has_id id) x.opens ≡ [] → filter (has_id id) (behind x).opens ≡ []
  unfolding expired_by
  none_behind x none =
      ap (λ names. filter (has_id id) (perform_all (then_settles (map expires (due (view x) caller.moment names))) x).opens) (looks x ∙ ap (names_beside (view x)) none)
      ∙ none

  reconnect_is : (x : Table) → reconnect setup (view x) caller worker made key ≡ reconnect_first (view x) caller (own_lease caller key) (filter (has_id id) x.opens)
  unfolding reconnect
  reconnect_is x = ap (reconnect_first (view x) caller (own_lease caller key)) (made_is x)

  open_was : (x : Table) (o : OpenRow) → IsIn o (behind x).opens → IsIn o x.opens
  open_was x o i = all_still_in all (expired_by setup (view x) caller which) x o (expired_all adds_no_open (λ l. refl) refl setup (view x) caller which) (expired_all (touches all) (λ l. refl) refl setup (view x) caller which) i

  -- the file of the named open is met
  met_file : (r : OpenRec) → s.opens named.pid made ≡ Some r → IsIn (file_key setup r.file) keys.files
  met_file r is =
      flat_mapped_in (λ key. option_map_or (file_of setup) (record_at open_rec n k db.Opens key) []) (open_key named.pid made ∷ []) (open_key named.pid made) (file_key setup r.file) (inl refl)
      (subst (λ o. IsIn (file_key setup r.file) (option_map_or (file_of setup) o [])) (sym is) (inl refl))

  by_record : (o : Option OpenRec) → s.opens named.pid made ≡ o
      → reconnect_first (view (behind t)) caller (own_lease caller key) (filter (has_id id) (behind t).opens) ≡ reconnect_first (view (behind u)) caller (own_lease caller key) (filter (has_id id) (behind u).opens)
  by_record None is =
      let a = none_behind t (none_by_id setup s t stands.agree fine.sound id is) in
      let b = none_behind u (none_by_id setup z u stands_other.agree fine_other.sound id (sym open_same ∙ is)) in
      ap (reconnect_first (view (behind t)) caller (own_lease caller key)) a ∙ sym (ap (reconnect_first (view (behind u)) caller (own_lease caller key)) b)
  by_record (Some r) is =
      let here = met_file r is in
      let of = file_by_id setup s t stands.agree fine.sound id r is in
      let of_other = file_by_id setup z u stands_other.agree fine_other.sound id r (sym open_same ∙ is) in
      let shows : file_view r.file (view t) ≡ file_view r.file (view u) =
      sym (file_tells setup s t stands.agree fine.sets fine.sound r.file) ∙ shown_same s z r.file (file_same setup n k j keys.opens [] keys.files keys.names keys.own same r.file here) ∙ file_tells setup z u stands_other.agree fine_other.sets fine_other.sound r.file in
      let of_behind = behind_of_file setup caller (has_id id) r.file which looks t fine.sound of in
      let of_behind_other = behind_of_file setup caller (has_id id) r.file which looks u fine_other.sound of_other in
      let shows_behind : file_view r.file (view (behind t)) ≡ file_view r.file (view (behind u)) = view_behind_same setup caller (has_id id) r.file which looks t u fine.sound fine_other.sound of of_other shows in
      let rows = rows_same (has_id id) r.file (behind t) (behind u) of_behind of_behind_other shows_behind in
      first_same (view (behind t)) (view (behind u)) caller (own_lease caller key) (filter (has_id id) (behind t).opens) (λ row i.
      let at = in_filter (has_id id) (behind t).opens row i in
      let was = open_was t row at.0 in
      let was_other = open_was u row (in_filter (has_id id) (behind u).opens row (subst (IsIn row) rows i)).0 in
      let file_is : row.file ≡ r.file = of row was at.1 in
      let e = entry_recorded setup n k t stands.agree fine.sound fine.sets r.file row (subst (λ g. IsIn row ((view t).opens_of g)) file_is (in_opens t fine.sound row was)) in
      let register = owner_same setup n k j keys.opens [] keys.files keys.names keys.own same r.file here e.0 e.1 (entry_of row) e.2 in (
        living_behind t row.owner ∙ sym (lives_alike setup s t stands.agree fine.sets fine.sound row.owner) ∙ lives_same s z row.owner register ∙ lives_alike setup z u stands_other.agree fine_other.sets fine_other.sound row.owner ∙ sym (living_behind u row.owner),
        ap (filter (is_end_of row.owner.pid)) (ended_behind t) ∙ ended_same setup s z t u stands.agree stands_other.agree fine fine_other row was was_other register ∙ sym (ap (filter (is_end_of row.owner.pid)) (ended_behind u)),
        subst (λ g. file_view g (view (behind t)) ≡ file_view g (view (behind u))) (sym file_is) shows_behind,
      ))
      ∙ ap (reconnect_first (view (behind u)) caller (own_lease caller key)) rows

  reconnected_same : reconnect setup (view (behind t)) caller worker made key ≡ reconnect setup (view (behind u)) caller worker made key
  reconnected_same = reconnect_is (behind t) ∙ by_record (s.opens named.pid made) refl ∙ sym (reconnect_is (behind u))

  -- ---- the tables after it

  module _ (settled : settle t ≡ t) (settled_other : settle u ≡ u) where
    abbrev decision : Table → Decision
    decision x = reconnect setup (view (behind x)) caller worker made key

    abbrev end : Table → Table
    end x = perform_all (outcome setup (view x) caller (call.Reconnect worker made key)).changes x

    -- ---- what expires before it

    none_due : (x : Table) → filter (has_id id) x.opens ≡ [] → due (view x) caller.moment (look setup (view x) caller which) ≡ []
    none_due x none = ap (λ names. due (view x) caller.moment names) (looks x ∙ ap (names_beside (view x)) none)

    due_alike : due (view t) caller.moment (look setup (view t) caller which) ≡ due (view u) caller.moment (look setup (view u) caller which)
    due_alike = by (s.opens named.pid made) refl
      where
        by : (o : Option OpenRec) → s.opens named.pid made ≡ o → due (view t) caller.moment (look setup (view t) caller which) ≡ due (view u) caller.moment (look setup (view u) caller which)
        by None is = none_due t (none_by_id setup s t stands.agree fine.sound id is) ∙ sym (none_due u (none_by_id setup z u stands_other.agree fine_other.sound id (sym open_same ∙ is)))
        by (Some r) is =
            due_same setup caller (has_id id) r.file which looks t u fine.sound fine_other.sound (file_by_id setup s t stands.agree fine.sound id r is) (file_by_id setup z u stands_other.agree fine_other.sound id r (sym open_same ∙ is))
            (file_before setup n k j t u stands stands_other fine fine_other keys.opens [] keys.files keys.names keys.own same r.file (met_file r is))

    files_behind : (file : ℕ) → IsIn (file_key setup file) keys.files → file_view file (view (behind t)) ≡ file_view file (view (behind u))
    files_behind file i = shown_behind setup caller which t u due_alike file (file_before setup n k j t u stands stands_other fine fine_other keys.opens [] keys.files keys.names keys.own same file i)

    -- ---- what it decides

    decides : (x : Table) → Decided caller (filter (has_id id) (behind x).opens) (decision x)
    decides x =
        subst (Decided caller (filter (has_id id) (behind x).opens)) (sym (reconnect_is (behind x)))
        (decided (view (behind x)) caller (own_lease caller key) (filter (has_id id) (behind x).opens))

    -- of each thing that both decisions have
    either : (P : Decision → Type 0) → P (only_reply ObjectNameNotFound) → ((row : OpenRow) (held : LeaseState) → P (record (only_reply (Granted (Some held) true)) { changes = c.TakeOver row.file row.id caller.sid caller.number ∷ [] })) → (x : Table) → P (decision x)
    either P refused takes x = by (decides x)
      where
        by : Decided caller (filter (has_id id) (behind x).opens) (decision x) → P (decision x)
        by (inl e) = subst P (sym e) refused
        by (inr h) = subst P (sym h.is) (takes h.row h.held)

    no_spots : (x : Table) → (decision x).spots ≡ []
    no_spots = either (λ d. d.spots ≡ []) refl (λ row held. refl)

    pub changes_alike : (outcome setup (view t) caller which).changes ≡ (outcome setup (view u) caller which).changes
    changes_alike =
        let none : (spot : Spot) → IsIn spot (decision t).spots → ⊥ = λ spot i. subst (IsIn spot) (no_spots t) i in
        let later : (conclude (view (behind t)) (decision t)).changes ≡ (conclude (view (behind u)) (decision u)).changes =
        concluded_alike (view (behind t)) (view (behind u)) (decision t) (woken_alike (view (behind t)) (view (behind u)) (decision t) (λ spot i. absurd (none spot i)) (λ spot i. absurd (none spot i)))
        ∙ ap (λ d. (conclude (view (behind u)) d).changes) reconnected_same in
        changes_are setup t caller which ∙ (λ i. expired_alike setup caller which t u due_alike i ++ later i) ∙ sym (changes_are setup u caller which)

    adds_none : (x : Table) → list_all adds_no_open (outcome setup (view x) caller which).changes ≡ true
    adds_none x =
        ap (list_all adds_no_open) (changes_are setup x caller which)
        ∙ list_all-append adds_no_open (expired_by setup (view x) caller which) (conclude (view (behind x)) (decision x)).changes
        ∙ and_from (list_all adds_no_open (expired_by setup (view x) caller which)) _ (expired_all adds_no_open (λ l. refl) refl setup (view x) caller which)
        (conclude_all adds_no_open (record { comes = λ w. refl; goes = λ sid call. refl; sent = λ post. refl }) refl (view (behind x)) (decision x) (either (λ d. list_all adds_no_open d.changes ≡ true) refl (λ row held. refl) x))

    from_before : (x : Table) (o : OpenRow) → IsIn o (end x).opens → (y : OpenRow) × IsIn y x.opens × (y.id ≡ o.id) × (y.file ≡ o.file)
    from_before x o i = opens_before (outcome setup (view x) caller which).changes x o (adds_none x) i

    of_file_then : (x : Table) (i : OpenId) (file : ℕ) → AreOfFile (has_id i) file x → AreOfFile (has_id i) file (end x)
    of_file_then x i file of o at e = let y = from_before x o at in sym y.3 ∙ of y.0 y.1 (ap (λ (x : OpenId). same_id x i) y.2 ∙ e)

    -- ---- where it finds none

    refused_end : (x : Table) → settle x ≡ x → decision x ≡ only_reply ObjectNameNotFound → end x ≡ behind x
    unfolding conclude
    refused_end x e is =
        outcome_table setup x caller which
        ∙ ap (λ (d : Decision). perform_all (conclude (view (behind x)) d).changes (behind x)) is
        ∙ expired_settled setup x caller which e

    -- ---- where it takes an open over

    module _ (new : IsNewNumber caller.sid.pid caller.number t) (new_other : IsNewNumber caller.sid.pid caller.number u) (alive : lives (view t) caller.sid ≡ true) (alive_other : lives (view u) caller.sid ≡ true) where
      -- its handle is new
      free : (x : Table) → IsNewNumber caller.sid.pid caller.number x → list_any (is_of_handle caller.sid caller.number) (behind x).opens ≡ false
      free x h =
          any_none (is_of_handle caller.sid caller.number) (behind x).opens (λ o i. false_from_ne_true (is_of_handle caller.sid caller.number o) (λ e.
          let p = and_parts (same_sid o.owner caller.sid) (o.handle == caller.number) e in
          h.handles o (open_was x o i) (ap (λ (sid : Sid). sid.pid) (same_sid-eq o.owner caller.sid p.0)) (eqb-true o.handle caller.number p.1)))

      module _ (row : OpenRow) (held : LeaseState) where
        abbrev over : Table → Table
        over x = taken (behind x) row.file row.id caller.sid caller.number

        abbrev Takes : Decision → Type 0
        Takes d = d ≡ record (only_reply (Granted (Some held) true)) { changes = c.TakeOver row.file row.id caller.sid caller.number ∷ [] }

        taken_end : (x : Table) → IsNewNumber caller.sid.pid caller.number x → Takes (decision x) → end x ≡ settle (over x)
        unfolding conclude
        taken_end x h is =
            outcome_table setup x caller which
            ∙ ap (λ (d : Decision). perform_all (conclude (view (behind x)) d).changes (behind x)) is
            ∙ ap settle (cond-false (list_any (is_of_handle caller.sid caller.number) (behind x).opens) (behind x) (over x) (free x h))

        shown_taken : (file : ℕ) → IsIn (file_key setup file) keys.files → file_view file (view (settle (over t))) ≡ file_view file (view (settle (over u)))
        shown_taken file i =
            let lives_both = lives_behind setup t caller which alive ∙ sym (lives_behind setup u caller which alive_other) in
            file_alike all file (lives (view (over t))) (lives (view (over u))) (c.Settle ∷ []) (over t) (over u) refl refl refl (tt, tt)
            (taken_alike row.file row.id caller.sid caller.number (behind t) (behind u) file (files_behind file i) lives_both)

        module _ (is_met : IsIn (file_key setup row.file) keys.files) (sound : IsSound (settle (over t))) (sound_other : IsSound (settle (over u))) where
          left_or_alike : (g : ℕ) → LeftOrAlike (behind t) (behind u) (settle (over t)) (settle (over u)) g
          left_or_alike g = by (row.file == g) refl
            where
              by : (b : Bool) → (row.file == g) ≡ b → LeftOrAlike (behind t) (behind u) (settle (over t)) (settle (over u)) g
              by true e = inl (shown_taken g (subst (λ f. IsIn (file_key setup f) keys.files) (eqb-true row.file g e) is_met))
              by false e = inr (
                taken_left row.file row.id caller.sid caller.number (behind t) g e (files_settled (behind t) (expired_settled setup t caller which settled) g),
                taken_left row.file row.id caller.sid caller.number (behind u) g e (files_settled (behind u) (expired_settled setup u caller which settled_other) g),
              )

          lease_taken : (name : LeaseName) → SameLease s z name → exact_lease (view (settle (over t))) name ≡ exact_lease (view (settle (over u))) name
          lease_taken name lease =
              lease_alike (behind t) (behind u) (settle (over t)) (settle (over u)) (behind_sound setup caller which t fine settled) (behind_sound setup caller which u fine_other settled_other) sound sound_other left_or_alike name
              (lease_behind setup s z t u stands.agree stands_other.agree fine fine_other name lease caller which settled settled_other due_alike)

      -- its open is of a met file
      row_met : (row : OpenRow) → IsIn row (filter (has_id id) (behind t).opens) → IsIn (file_key setup row.file) keys.files
      row_met row i =
          let at = in_filter (has_id id) (behind t).opens row i in
          let by_id = (all_of (HasOpenRecords s) ((view t).opens_of row.file) (stands.agree.opens row.file) row (in_opens t fine.sound row (open_was t row at.0))).by_id in
          met_file (record { id = row.id; file = row.file }) (sym (ap (λ (x : OpenId). s.opens x.pid x.call) (same_id-eq row.id id at.1)) ∙ by_id)

      -- ---- the tables after it

      pub shown_end : (file : ℕ) → IsIn (file_key setup file) keys.files → file_view file (view (end t)) ≡ file_view file (view (end u))
      shown_end file i = by (decides t)
        where
          by : Decided caller (filter (has_id id) (behind t).opens) (decision t) → file_view file (view (end t)) ≡ file_view file (view (end u))
          by (inl e) =
              ap (λ (x : Table). file_view file (view x)) (refused_end t settled e) ∙ files_behind file i ∙ sym (ap (λ (x : Table). file_view file (view x)) (refused_end u settled_other (sym reconnected_same ∙ e)))
          by (inr h) =
              ap (λ (x : Table). file_view file (view x)) (taken_end h.row h.held t new h.is)
              ∙ shown_taken h.row h.held file i
              ∙ sym (ap (λ (x : Table). file_view file (view x)) (taken_end h.row h.held u new_other (sym reconnected_same ∙ h.is)))

      pub lease_end : IsSound (end t) → IsSound (end u) → (name : LeaseName) → SameLease s z name → exact_lease (view (end t)) name ≡ exact_lease (view (end u)) name
      lease_end sound sound_other name lease = by (decides t)
        where
          by : Decided caller (filter (has_id id) (behind t).opens) (decision t) → exact_lease (view (end t)) name ≡ exact_lease (view (end u)) name
          by (inl e) =
              ap (λ (x : Table). exact_lease (view x) name) (refused_end t settled e)
              ∙ lease_behind setup s z t u stands.agree stands_other.agree fine fine_other name lease caller which settled settled_other due_alike
              ∙ sym (ap (λ (x : Table). exact_lease (view x) name) (refused_end u settled_other (sym reconnected_same ∙ e)))
          by (inr h) =
              let a = taken_end h.row h.held t new h.is in
              let b = taken_end h.row h.held u new_other (sym reconnected_same ∙ h.is) in
              ap (λ (x : Table). exact_lease (view x) name) a
              ∙ lease_taken h.row h.held (row_met h.row h.there) (subst IsSound a sound) (subst IsSound b sound_other) name lease
              ∙ sym (ap (λ (x : Table). exact_lease (view x) name) b)

      none_end : (x : Table) → filter (has_id id) x.opens ≡ [] → filter (has_id id) (end x).opens ≡ []
      none_end x none =
          none_in (filter (has_id id) (end x).opens) (λ o i.
          let at = in_filter (has_id id) (end x).opens o i in
          let y = from_before x o at.0 in
          subst (IsIn y.0) none (passes_in (has_id id) x.opens y.0 y.1 (ap (λ (x : OpenId). same_id x id) y.2 ∙ at.1)))

      pub ids_end : (view (end t)).opens_of_id id ≡ (view (end u)).opens_of_id id
      ids_end = by (s.opens named.pid made) refl
        where
          by : (o : Option OpenRec) → s.opens named.pid made ≡ o → (view (end t)).opens_of_id id ≡ (view (end u)).opens_of_id id
          by None is = none_end t (none_by_id setup s t stands.agree fine.sound id is) ∙ sym (none_end u (none_by_id setup z u stands_other.agree fine_other.sound id (sym open_same ∙ is)))
          by (Some r) is =
              rows_same (has_id id) r.file (end t) (end u) (of_file_then t id r.file (file_by_id setup s t stands.agree fine.sound id r is))
              (of_file_then u id r.file (file_by_id setup z u stands_other.agree fine_other.sound id r (sym open_same ∙ is))) (shown_end r.file (met_file r is))

      -- ---- open records

      pub still_end : NameTheirFiles n k (view t) → NameTheirFiles n j (view u) → record_at open_rec n k db.Opens (open_key info.pid number) ≡ None → record_at open_rec n j db.Opens (open_key info.pid number) ≡ None
          → (x : List ℕ) → IsIn x keys.opens → still_open (view (end t)) (value_at n k (place db.Opens x)) ≡ still_open (view (end u)) (value_at n j (place db.Opens x))
      still_end names_t names_u none none_other x (inl e) =
          subst (λ y. still_open (view (end t)) (value_at n k (place db.Opens y)) ≡ still_open (view (end u)) (value_at n j (place db.Opens y))) e
          (open_alike setup n k j t u stands stands_other fine fine_other keys.opens [] keys.files keys.names keys.own same (end t) (end u) shown_end (open_key named.pid made) (inl refl) (λ r is. (
            met_file r is,
            of_file_then t r.id r.file (of_named_file n k t names_t (open_key named.pid made) r is),
            of_file_then u r.id r.file (of_named_file n j u names_u (open_key named.pid made) r (sym open_same ∙ is)),
          )))
      still_end names_t names_u none none_other x (inr (inl e)) =
          subst (λ y. still_open (view (end t)) (value_at n k (place db.Opens y)) ≡ still_open (view (end u)) (value_at n j (place db.Opens y))) e
          (unread (view (end t)) (value_at n k (place db.Opens (open_key info.pid number))) none ∙ sym (unread (view (end u)) (value_at n j (place db.Opens (open_key info.pid number))) none_other))
      still_end names_t names_u none none_other x (inr (inr e)) = absurd e

-- ---- the law

module _ (setup : Setup) (n by seq number : ℕ) (moment : Moment) (worker made key : ℕ) (reply : Reply) where
  module _ (k j : Chains) (caller : Caller) (info : WorkerInfo) (by_is : declared_at setup.workers by ≡ Some info)
      (same : (p : Place) → among p (all_met (met setup n k (call_entry by seq number moment (call.Reconnect worker made key) reply))) ≡ true → value_at n k p ≡ value_at n j p) where
    owes : (o : Option WorkerInfo) → declared_at setup.workers worker ≡ o → (o ≡ None → ⊥) → IsAnsweredAlike setup n k j (call.Reconnect worker made key) caller info
    owes None is some = absurd (some refl)
    owes (Some named) is some =
        let at = at_met setup n k j (call_entry by seq number moment (call.Reconnect worker made key) reply) (met_by_reconnect setup n k info number made key named)
        (by_declared setup n k by number (call.Reconnect worker made key) info by_is ∙ ap (λ o. option_map_or (met_by_reconnect setup n k info number made key) o nothing_met) is) same in
        record {
          worker = λ t stands alive. own_register_same setup n k j (open_key named.pid made ∷ open_key info.pid number ∷ []) [] (named_at open_rec (file_of setup) n k db.Opens (open_key named.pid made ∷ []))
              (name_key (record { guid = info.guid; key = key }) ∷ []) (pid_key info.pid ∷ []) at info.pid (inl refl);
          answers = λ t u stands stands_other fine fine_other alive alive_other settled settled_other.
              ap (λ (d : Decision). d.reply) (reconnected_same setup n k j t u stands stands_other fine fine_other caller info named number worker made key is at);
        }

  pub reconnect_legal : IsLegalByFootprint setup n (call_entry by seq number moment (call.Reconnect worker made key) reply)
  reconnect_legal =
      legal_if setup n by seq number moment (call.Reconnect worker made key) reply (λ k j a caller info declared pid guid in_sets same.
      owes k j caller info declared same (declared_at setup.workers worker) refl (λ none. not_declared setup.workers worker none in_sets.0))
