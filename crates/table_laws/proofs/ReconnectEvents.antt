-- `reconnect` keeps what the databases stand for.
--
-- The open that is taken over has a new owner and handle. The records of its file and of the leases there are written, and an open record under
-- its new handle is added; the one under its id stays.
use Rattle.std.proofs.Common.{◌≡◌, ℕ, ◌<◌, ◌≤◌, ◌^◌, Bool, true, false, ◌==◌, ◌&&◌, List, [], ◌∷◌, ◌++◌, map, Option, Some, None, refl, sym, ap, ◌∙◌, subst, inl, inr, ◌⊎◌, arith}
use Rattle.std.specs.List.{list_any, list_all, AllByRecursion, flat_map}
use Rattle.std.specs.Option.{option_map, option_map_or, option_and_then}
use Rattle.std.proofs.lemmas.Bool.{and_parts, both_ways, cond_both, cond-false, eqb-true, eq-eqb, false_from_ne_true}
use Rattle.std.proofs.lemmas.List.Folds.{list_all-map}
use Rattle.sid_core.specs.declared.call.Call.{Call}
use Rattle.sid_core.specs.declared.call.Call.TheVariants.{Reconnect}
use Rattle.sid_core.specs.declared.entry.Entry.{Entry}
use Rattle.sid_core.specs.declared.entry.Event.TheVariants.{Called}
use Rattle.sid_core.specs.declared.ids.LeaseName.{LeaseName}
use Rattle.sid_core.specs.declared.ids.Moment.{Moment}
use Rattle.sid_core.specs.declared.ids.OpenId.{OpenId}
use Rattle.sid_core.specs.declared.ids.Sid.{Sid}
use Rattle.sid_core.specs.declared.reply.Reply.{Reply}
use Rattle.sid_core.specs.declared.reply.Reply.TheVariants.{Granted, ObjectNameNotFound}
use Rattle.sid_core.specs.declared.setup.Setup.{Setup}
use Rattle.sid_core.specs.declared.setup.WorkerInfo.{WorkerInfo}
use Rattle.sid_core.specs.declared.bits.LeaseState.{LeaseState}
use Rattle.sid_core.specs.Setup.{IsSetup}
use Rattle.sid_core.specs.Ids.{same_id}
use Rattle.serial_table.specs.declared.rows.OpenRow.{OpenRow}
use Rattle.serial_table.specs.declared.rows.LeaseRow.{LeaseRow}
use Rattle.serial_table.specs.declared.table.Table.{Table}
use Rattle.serial_table.specs.declared.change.Change.TheVariants as c
use Rattle.serial_table.specs.declared.decision.Caller.{Caller}
use Rattle.serial_table.specs.declared.decision.Decision.{Decision}
use Rattle.serial_table.specs.Asked.{own_lease}
use Rattle.serial_table.specs.View.{View, view, lives, carries, is_of_file, is_of_handle, has_id, leases_at}
use Rattle.serial_table.specs.File.{file_view, file_open}
use Rattle.serial_table.specs.Settle.{settle, settle_where, settle_file, row_stays}
use Rattle.serial_table.specs.Change.{perform, perform_all, is_open, new_owner}
use Rattle.serial_table.specs.Decide.{decide, outcome}
use Rattle.serial_table.specs.Decision.{conclude, only_reply}
use Rattle.serial_table.specs.Durable.{can_be_taken}
use Rattle.serial_table.specs.Expire.{names_at, names_beside, carried_by, look, is_due, due, expires, expired_by}
use Rattle.serial_table.specs.Reconnect.{take_over, reconnect_first, made_by, reconnect}
use Rattle.serial_table.specs.Step.{caller_of, declared_at}
use Rattle.serial_table.specs.History.{start, after, IsLegal, IsLegalCall}
use Rattle.serial_table.specs.Sound.{AreBelow, have_same_id}
use Rattle.serial_table.specs.InSets.{IsWorkerRow}
use Rattle.serial_table.proofs.SameIds.{same_id-eq, eqb-flip, same_id-refl}
use Rattle.serial_table.proofs.Settled.{files_settled}
use Rattle.serial_table.proofs.Alike.{after_all-append}
use Rattle.serial_table.proofs.Along.{legal_before}
use Rattle.serial_table.proofs.Callers.{is_caller_of}
use Rattle.serial_table.proofs.Concluding.{start-settled}
use Rattle.serial_table.proofs.Entries.{call_is_new}
use Rattle.serial_table.proofs.Expiring.{expired_all, settles_all, after_all-settled}
use Rattle.serial_table.proofs.Filters.{filter-map, map_left_alone}
use Rattle.serial_table.proofs.Living.{row_of}
use Rattle.serial_table.proofs.Members.{IsIn, some_same, all_each, all_of, any_of, one_of, one_in, in_filter, in_map, in_flat_map, passes_in}
use Rattle.serial_table.proofs.Views.{file-new_owner, view-perform_all}
use Rattle.serial_table.proofs.Concluding.{perform_all-append}
use Rattle.chain_map.specs.declared.db.Db.TheVariants as db
use Rattle.record_codec.specs.declared.open_rec.OpenRec.{OpenRec}
use Rattle.record_codec.specs.OpenRec.{open_rec}
use Rattle.stored_table.specs.Keys.{open_key, file_key}
use Rattle.stored_table.specs.Places.{Chains, Place, place, among}
use Rattle.stored_table.specs.Decoded.{AllRecords, records_of}
use Rattle.stored_table.specs.Met.{met_by_call, met_by_reconnect, all_met, file_of, nothing_met, record_at}
use Rattle.stored_table.specs.Move.{added, added_for, move, places_written, added_by_caller}
use Rattle.stored_table.specs.Moved.{moved}
use Rattle.stored_table.specs.Stands.{HasOpenRecords, StandsFor}
use Rattle.stored_table.proofs.Telling.{not_declared}
use Rattle.table_laws.specs.Standing.{KeepsStanding}
use Rattle.table_laws.proofs.Contained.{share_place, ranges_place, IsMetName, Contained}
use Rattle.table_laws.proofs.Exactly.{in_opens}
use Rattle.table_laws.proofs.FirstKeys.{FirstKeys, keys_of_reconnect}
use Rattle.table_laws.proofs.Meets.{flat_mapped_in, is_among, files_written, leases_met}
use Rattle.table_laws.proofs.Touching.{touches, reaches, Along, along, same_waits, same_then, waits_refl, same_refl}
use Rattle.table_laws.proofs.Deciding.{IsContained, none_new, adds_no_waiter, reply_contained}
use Rattle.table_laws.proofs.Chains.{IsFine, legal_is_fine, legal_start, old_opens, chains_stand, adds_no_open}
use Rattle.table_laws.proofs.Calls.{once_in, carried_in, lease_of_file, call_contained, call_opens, open_behind, after_call}
use Rattle.table_laws.proofs.AddedOpens.{IsNewNumber, new_above, IsTaken, added_opens}

-- ---- an open is taken over

module _ (b : Table) (file : ℕ) (id : OpenId) (owner : Sid) (handle : ℕ) where
  abbrev pub taken : Table
  taken = record b { opens = map (new_owner file id owner handle) b.opens }

  -- another file shows the same
  module _ (g : ℕ) (out : (file == g) ≡ false) where
    other_open : (o : OpenRow) → is_of_file g o ≡ true → new_owner file id owner handle o ≡ o
    unfolding new_owner
    other_open o of =
        cond-false (is_open file id o) (record o { owner = owner; handle = handle }) o
        (false_from_ne_true (is_open file id o) (λ e. both_ways (file == g) out
        (eq-eqb file g (sym (eqb-true o.file file (and_parts (o.file == file) (same_id o.id id) e).0) ∙ eqb-true o.file g of))))

    pub same_opens : (view taken).opens_of g ≡ (view b).opens_of g
    same_opens =
        filter-map (is_of_file g) (new_owner file id owner handle) (λ o. ap (λ f. f == g) (file-new_owner file id owner handle o)) b.opens
        ∙ map_left_alone (is_of_file g) (new_owner file id owner handle) other_open b.opens

    pub same_view : file_view g (view taken) ≡ file_view g (view b)
    same_view = λ i. record (file_view g (view b)) { opens = map (file_open (lives (view b))) (same_opens i) }

module _ (setup : Setup) (ps : List Place) (s : AllRecords) (here : ℕ → Bool) (t b : Table) (file : ℕ) (id : OpenId) (owner : Sid) (handle : ℕ) (within : here file ≡ true) (a : Along setup ps s here t b) where
  abbrev now : Table
  now = taken b file id owner handle

  apart : (g : ℕ) → here g ≡ false → (file == g) ≡ false
  apart g out = false_from_ne_true (file == g) (λ e. both_ways (here g) out (ap here (sym (eqb-true file g e)) ∙ within))

  taken_along : Along setup ps s here t now
  unfolding new_owner
  taken_along = record {
    others = λ g out. same_then g t b now (a.others g out) (record { opens = same_opens b file id owner handle g (apart g out); ranges = refl; pending = refl; leases = λ name. refl });
    settled = λ g out. let same = same_view b file id owner handle g (apart g out) in ap settle_file same ∙ a.settled g out ∙ sym same;
    names = λ o i e. let x = in_map (new_owner file id owner handle) b.opens o i in met x.0 x.1 o x.2 e;
    workers = a.workers;
    ended = a.ended;
    holds = a.holds;
    letters = a.letters;
    waits = same_waits setup ps s t b now refl a.waits;
  }
    where
      met : (x : OpenRow) → IsIn x b.opens → (o : OpenRow) → new_owner file id owner handle x ≡ o → here o.file ≡ true → IsMetName ps o.lease
      met x i o e h = subst (λ (y : OpenRow). here y.file ≡ true → IsMetName ps y.lease) e
          (cond_both (is_open file id x) (record x { owner = owner; handle = handle }) x (λ (y : OpenRow). here y.file ≡ true → IsMetName ps y.lease) (λ _. a.names x i) (λ _. a.names x i)) h

  pub take_along : Along setup ps s here t (perform (c.TakeOver file id owner handle) b)
  take_along = cond_both (list_any (is_of_handle owner handle) b.opens) b now (Along setup ps s here t) (λ _. a) (λ _. taken_along)

  -- an open afterwards was there before, or is the one that was taken over
  pub record IsNewOwner (o : OpenRow) : Type 0 where
    pub row : OpenRow
    pub there : IsIn row b.opens
    pub is : is_open file id row ≡ true
    pub now : record row { owner = owner; handle = handle } ≡ o

  pub open_from : (o : OpenRow) → IsIn o (perform (c.TakeOver file id owner handle) b).opens → IsIn o b.opens ⊎ IsNewOwner o
  unfolding new_owner
  open_from = cond_both (list_any (is_of_handle owner handle) b.opens) b now (λ (x : Table). (o : OpenRow) → IsIn o x.opens → IsIn o b.opens ⊎ IsNewOwner o)
      (λ _ o i. inl i)
      (λ _ o i. let x = in_map (new_owner file id owner handle) b.opens o i in by x.0 x.1 o x.2)
    where
      by : (x : OpenRow) → IsIn x b.opens → (o : OpenRow) → new_owner file id owner handle x ≡ o → IsIn o b.opens ⊎ IsNewOwner o
      by x i o e = subst (λ y. IsIn y b.opens ⊎ IsNewOwner y) e
          (cond_both (is_open file id x) (record x { owner = owner; handle = handle }) x (λ y. IsIn y b.opens ⊎ IsNewOwner y) (λ is. inr (record { row = x; there = i; is = is; now = refl })) (λ _. inl i))

-- ---- what it decides

-- it finds none, or takes over an open that the named call made
pub record TakesOver (caller : Caller) (opens : List OpenRow) (d : Decision) : Type 0 where
  pub row : OpenRow
  pub there : IsIn row opens
  pub held : LeaseState
  pub is : d ≡ record (only_reply (Granted (Some held) true)) { changes = c.TakeOver row.file row.id caller.sid caller.number ∷ [] }

abbrev pub Decided : Caller → List OpenRow → Decision → Type 0
Decided caller opens d = (d ≡ only_reply ObjectNameNotFound) ⊎ TakesOver caller opens d

pub decided : (v : View) (caller : Caller) (name : LeaseName) (opens : List OpenRow) → Decided caller opens (reconnect_first v caller name opens)
decided v caller name [] = inl refl
decided v caller name (o ∷ os) =
    cond_both (can_be_taken v caller.moment o && carries name o.lease) (take_over caller o (leases_at v name o.file)) (only_reply ObjectNameNotFound) (Decided caller (o ∷ os))
    (λ _. by (leases_at v name o.file)) (λ _. inl refl)
  where
    by : (ls : List LeaseRow) → Decided caller (o ∷ os) (take_over caller o ls)
    by [] = inl refl
    by (l ∷ ls) = inr (record { row = o; there = inl refl; held = l.held; is = refl })

-- ---- the call

-- the open record of an open
abbrev record_of : OpenRow → OpenRec
record_of o = record { id = o.id; file = o.file }

module _ (setup : Setup) (n : ℕ) (is : IsSetup setup) (before : List Entry) (by seq number : ℕ) (moment : Moment) (worker made key : ℕ) (reply : Reply) where
  abbrev call : Call
  call = Reconnect worker made key

  abbrev entry : Entry
  entry = record { by = by; seq = seq; what = Called number moment (Reconnect worker made key) reply }

  abbrev t : Table
  t = after setup before

  module _ (legal : IsLegal setup (before ++ entry ∷ [])) (caller : Caller) (from : caller_of setup (view t) by number moment ≡ Some caller)
      (answered : (outcome setup (view t) caller (Reconnect worker made key)).reply ≡ reply) (low : (1 ≤ number) × (number ≤ 20000))
      (named : WorkerInfo) (declared : declared_at setup.workers worker ≡ Some named)
      (info : WorkerInfo) (own : declared_at setup.workers by ≡ Some info) (own_pid : caller.sid.pid ≡ info.pid) (own_number : caller.number ≡ number) (alive : lives (view t) caller.sid ≡ true)
      (k : Chains) (stands : StandsFor setup n k (view t)) (fine : IsFine setup t) (settled : settle t ≡ t) where
    abbrev v : View
    v = view t

    abbrev s : AllRecords
    s = records_of setup n k

    abbrev id : OpenId
    id = record { pid = named.pid; call = made }

    abbrev b : Table
    b = perform_all (expired_by setup (view t) caller (Reconnect worker made key)) t

    abbrev ps : List Place
    ps = all_met (met_by_reconnect setup n k info number made key named)

    abbrev keys : FirstKeys
    keys = keys_of_reconnect setup n k info number made key named

    -- the file of the open that the named call made
    abbrev here : ℕ → Bool
    here file = list_any (λ o. o.file == file) ((view t).opens_of_id (record { pid = named.pid; call = made }))

    made_is : (x : View) → made_by setup x worker made ≡ x.opens_of_id id
    made_is x = ap (λ o. option_map_or (λ (info : WorkerInfo). x.opens_of_id (record { pid = info.pid; call = made })) o []) declared

    own_file : (o : OpenRow) → IsIn o (v.opens_of_id id) → here o.file ≡ true
    own_file o i = any_of (λ x. x.file == o.file) (v.opens_of_id id) o i (eq-eqb o.file o.file refl)

    recorded : (o : OpenRow) → IsIn o (v.opens_of_id id) → s.opens named.pid made ≡ Some (record { id = o.id; file = o.file })
    recorded o i =
        let at = in_filter (has_id id) t.opens o i in
        let same : o.id ≡ id = same_id-eq o.id id at.1 in
        sym (λ j. s.opens (same j).pid (same j).call) ∙ (all_of (HasOpenRecords s) (v.opens_of o.file) (stands.agree.opens o.file) o (in_opens t fine.sound o at.0)).by_id

    file_met : (o : OpenRow) → IsIn o (v.opens_of_id id) → IsIn (file_key setup o.file) keys.files
    file_met o i =
        flat_mapped_in (λ key. option_map_or (file_of setup) (record_at open_rec n k db.Opens key) []) (open_key named.pid made ∷ []) (open_key named.pid made) (file_key setup o.file) (inl refl)
        (subst (λ x. IsIn (file_key setup o.file) (option_map_or (file_of setup) x [])) (sym (recorded o i)) (inl refl))

    here_met : (file : ℕ) → here file ≡ true → IsIn (file_key setup file) keys.files
    here_met file e =
        let o = one_of (λ x. x.file == file) (v.opens_of_id id) e in subst (λ f. IsIn (file_key setup f) keys.files) (eqb-true o.0.file file o.2) (file_met o.0 o.1)

    written : (file : ℕ) → here file ≡ true → (among (share_place setup file) ps ≡ true) × (among (ranges_place setup file) ps ≡ true)
    written file e = files_written setup n k t stands.agree fine.sound fine.sets keys.opens [] keys.files keys.names keys.own file (here_met file e)

    met_names : (o : OpenRow) → IsIn o t.opens → here o.file ≡ true → IsMetName ps o.lease
    met_names o i e = leases_met setup n k t stands.agree fine.sound fine.sets keys.opens [] keys.files keys.names keys.own o.file (here_met o.file e) o (in_opens t fine.sound o i)

    -- the leases that the call looks at are of the open's file
    looked_by : (os : List OpenRow) → ((o : OpenRow) → IsIn o os → IsIn o (v.opens_of_id id)) → (l : LeaseRow) → IsIn l (due v caller.moment (names_beside v os)) → here l.file ≡ true
    looked_by [] within l i = absurd i
    looked_by (o ∷ os) within l i =
        let at = (in_filter (is_due caller.moment) (flat_map (λ name. v.leases_of name) (names_at v o.file)) l i).0 in
        let name = in_flat_map (λ name. v.leases_of name) (names_at v o.file) l at in
        let x = carried_in (v.opens_of o.file) name.0 (once_in [] (carried_by (v.opens_of o.file)) name.0 name.1) in
        let j = in_filter (is_of_file o.file) t.opens x.0 x.1 in
        ap here (lease_of_file t fine.sound x.0 name.0 l j.0 x.2 name.2 ∙ eqb-true x.0.file o.file j.1) ∙ own_file o (within o (inl refl))

    looked : (l : LeaseRow) → IsIn l (due v caller.moment (look setup v caller (Reconnect worker made key))) → here l.file ≡ true
    looked l i = looked_by (v.opens_of_id id) (λ o j. j) l (subst (λ os. IsIn l (due v caller.moment (names_beside v os))) (made_is v) i)

    first_touched : list_all (touches here) (expired_by setup v caller (Reconnect worker made key)) ≡ true
    unfolding expired_by
    first_touched =
        let rows = due v caller.moment (look setup v caller (Reconnect worker made key)) in
        settles_all (touches here) refl (map expires rows) (list_all-map (touches here) expires rows ∙ all_each (λ (l : LeaseRow). here l.file) rows looked)

    open_was : (o : OpenRow) → IsIn o b.opens → IsIn o t.opens
    open_was o i = open_behind setup ps s here t caller (Reconnect worker made key) written met_names settled looked o i

    writes : places_written setup n k entry ≡ ps
    writes =
        ap (λ o. all_met (option_map_or (λ info. met_by_call setup n k info number (Reconnect worker made key)) o nothing_met)) own
        ∙ ap (λ o. all_met (option_map_or (met_by_reconnect setup n k info number made key) o nothing_met)) declared

    after_is : after setup (before ++ entry ∷ []) ≡ perform_all (outcome setup v caller (Reconnect worker made key)).changes t
    after_is = after_all-append setup (start setup) before entry ∙ after_call setup t by number moment (Reconnect worker made key) reply caller from

    fine_after : IsFine setup (perform_all (outcome setup v caller (Reconnect worker made key)).changes t)
    fine_after = subst (IsFine setup) after_is (legal_is_fine setup (before ++ entry ∷ []) is legal)

    reply_behind : (decide setup (view b) caller (Reconnect worker made key)).reply ≡ (outcome setup v caller (Reconnect worker made key)).reply
    unfolding conclude
    reply_behind = ap (λ y. (decide setup y caller (Reconnect worker made key)).reply) (view-perform_all (expired_by setup v caller (Reconnect worker made key)) t)

    -- it finds none
    refused : decide setup (view b) caller (Reconnect worker made key) ≡ only_reply ObjectNameNotFound → StandsFor setup n (move setup n k entry (view (after setup (before ++ entry ∷ [])))) (view (after setup (before ++ entry ∷ [])))
    refused d =
        let x = perform_all (outcome setup v caller (Reconnect worker made key)).changes t in
        let h : IsContained setup ps s here t (decide setup (view b) caller (Reconnect worker made key)) = subst (IsContained setup ps s here t) (sym d) (reply_contained setup ps s here t ObjectNameNotFound) in
        let is_reply : ObjectNameNotFound ≡ reply = ap (λ (y : Decision). y.reply) (sym d) ∙ reply_behind ∙ answered in
        let none : added setup (view x) entry ≡ None = ap (λ r. added setup (view x) (record { by = by; seq = seq; what = Called number moment (Reconnect worker made key) r })) (sym is_reply) in
        subst (λ y. StandsFor setup n (move setup n k entry (view y)) (view y)) (sym after_is)
        (chains_stand setup n k entry t x is stands fine fine_after
        (subst (λ qs. Contained setup qs s t x) (sym writes) (call_contained setup ps s here t caller (Reconnect worker made key) written met_names settled looked h))
        (λ file. subst (λ y. AllByRecursion (HasOpenRecords (moved setup (places_written setup n k entry) y (view x) s)) ((view x).opens_of file)) (sym none)
        (old_opens setup (places_written setup n k entry) s t x stands.agree fine.sound
        (call_opens setup ps s here t caller (Reconnect worker made key) written met_names settled looked h (ap (λ (y : Decision). list_all adds_no_open y.changes) d)) file)))

    -- it takes an open over
    module _ (d : TakesOver caller ((view b).opens_of_id id) (decide setup (view b) caller (Reconnect worker made key))) where
      abbrev row : OpenRow
      row = d.row

      row_before : IsIn row t.opens
      row_before = open_was row (in_filter (has_id id) b.opens row d.there).0

      row_id : row.id ≡ id
      row_id = same_id-eq row.id id (in_filter (has_id id) b.opens row d.there).1

      row_here : here row.file ≡ true
      row_here = own_file row (passes_in (has_id id) t.opens row row_before (in_filter (has_id id) b.opens row d.there).1)

      abbrev x : Table
      x = perform c.Settle (perform (c.TakeOver row.file row.id caller.sid caller.number) b)

      x_is : perform_all (outcome setup v caller (Reconnect worker made key)).changes t ≡ x
      unfolding conclude
      x_is =
          ap (λ y. perform_all (expired_by setup v caller (Reconnect worker made key) ++ (conclude y (decide setup y caller (Reconnect worker made key))).changes) t) (sym (view-perform_all (expired_by setup v caller (Reconnect worker made key)) t))
          ∙ ap (λ (y : Decision). perform_all (expired_by setup v caller (Reconnect worker made key) ++ (conclude (view b) y).changes) t) d.is
          ∙ perform_all-append (expired_by setup v caller (Reconnect worker made key)) (c.TakeOver row.file row.id caller.sid caller.number ∷ c.Settle ∷ []) t

      first_along : Along setup ps s here t b
      first_along =
          along setup ps s here t t (expired_by setup v caller (Reconnect worker made key)) first_touched
          (expired_all (reaches setup ps) (λ l. refl) refl setup v caller (Reconnect worker made key))
          (none_new s (expired_by setup v caller (Reconnect worker made key)) (expired_all adds_no_waiter (λ l. refl) refl setup v caller (Reconnect worker made key)))
          (record {
            others = λ file out. same_refl file t;
            settled = λ file out. files_settled t settled file;
            names = met_names;
            workers = refl;
            ended = refl;
            holds = λ key unmet. refl;
            letters = λ sid unmet. refl;
            waits = waits_refl setup ps s t;
          })

      all_along : Along setup ps s here t x
      all_along = along setup ps s here t (perform (c.TakeOver row.file row.id caller.sid caller.number) b) (c.Settle ∷ []) refl refl (tt, tt) (take_along setup ps s here t b row.file row.id caller.sid caller.number row_here first_along)

      inside : Contained setup ps s t x
      inside = record {
        here = here;
        written = written;
        others = all_along.others;
        names_before = met_names;
        names_after = all_along.names;
        workers = all_along.workers;
        ended = all_along.ended;
        holds = all_along.holds;
        letters = all_along.letters;
        waits = all_along.waits;
      }

      fine_x : IsFine setup x
      fine_x = subst (IsFine setup) x_is fine_after

      -- an open after it was there before, or has the new owner and handle
      now_from : (o : OpenRow) → IsIn o x.opens → IsIn o t.opens ⊎ IsNewOwner setup ps s here t b row.file row.id caller.sid caller.number row_here first_along o
      unfolding settle_where
      now_from o i = from_old (open_from setup ps s here t b row.file row.id caller.sid caller.number row_here first_along o (in_filter (row_stays (λ g. true) (view (perform (c.TakeOver row.file row.id caller.sid caller.number) b))) (perform (c.TakeOver row.file row.id caller.sid caller.number) b).opens o i).0)
        where
          from_old : IsIn o b.opens ⊎ IsNewOwner setup ps s here t b row.file row.id caller.sid caller.number row_here first_along o
              → IsIn o t.opens ⊎ IsNewOwner setup ps s here t b row.file row.id caller.sid caller.number row_here first_along o
          from_old (inl j) = inl (open_was o j)
          from_old (inr h) = inr h

      pid_fits : info.pid < 2 ^ 32
      pid_fits = let r = row_of t.workers caller.sid alive in subst (λ p. p < 2 ^ 32) (r.1.pid ∙ own_pid) (all_of (IsWorkerRow setup) t.workers fine.sets.workers r.0 r.1.within).pid.number

      number_fits : number < 2 ^ 32
      number_fits = omega (arith, low.1)

      new : IsNewNumber info.pid number t
      new = new_above info.pid number t (subst (λ p. AreBelow number p t) own_pid (call_is_new setup before [] by seq number moment (Reconnect worker made key) reply caller is legal from))

      key_met : among (place db.Opens (open_key info.pid number)) ps ≡ true
      key_met = is_among (place db.Opens (open_key info.pid number)) ps (inr (inl refl))

      -- the open with the id afterwards is of the file
      file_is : (y : OpenRow) → IsIn y ((view x).opens_of_id id) → record_of y ≡ record { id = row.id; file = row.file }
      file_is y i = let at = in_filter (has_id id) x.opens y i in from_now (now_from y at.0) (same_id-eq y.id id at.1)
        where
          id_flip : (p q : OpenId) → same_id p q ≡ same_id q p
          id_flip p q = λ m. eqb-flip p.pid q.pid m && eqb-flip p.call q.call m

          from_now : IsIn y t.opens ⊎ IsNewOwner setup ps s here t b row.file row.id caller.sid caller.number row_here first_along y → y.id ≡ id → record_of y ≡ record { id = row.id; file = row.file }
          from_now (inl j) e = ap record_of (one_in have_same_id (λ p q. id_flip p.id q.id) t.opens fine.sound.rows.ids_differ y row j row_before (ap (λ m. same_id m row.id) (e ∙ sym row_id) ∙ same_id-refl row.id))
          from_now (inr h) e =
              let p = and_parts (h.row.file == row.file) (same_id h.row.id row.id) h.is in
              ap record_of (sym h.now) ∙ (λ m. let r : OpenRec = record { id = same_id-eq h.row.id row.id p.1 m; file = eqb-true h.row.file row.file p.0 m } in r)

      abbrev From : OpenRow → Type 0
      From o = IsTaken setup ps s t x stands.agree fine.sound fine.sets info.pid number pid_fits number_fits key_met new (record { id = row.id; file = row.file }) o

      -- each open has its records, with the one that is added
      opens_with : (value : OpenRec) → value ≡ record { id = row.id; file = row.file } → (file : ℕ)
          → AllByRecursion (HasOpenRecords (moved setup ps (Some (record { key = open_key info.pid number; value = value })) (view x) s)) ((view x).opens_of file)
      opens_with value e file =
          subst (λ r. AllByRecursion (HasOpenRecords (moved setup ps (Some (record { key = open_key info.pid number; value = r })) (view x) s)) ((view x).opens_of file)) (sym e)
          (added_opens setup ps s t x stands.agree fine.sound fine.sets info.pid number pid_fits number_fits key_met new (record { id = row.id; file = row.file }) (λ o i. by_new o (now_from o i)) file)
        where
          by_new : (o : OpenRow) → IsIn o t.opens ⊎ IsNewOwner setup ps s here t b row.file row.id caller.sid caller.number row_here first_along o → IsIn o t.opens ⊎ From o
          by_new o (inl i) = inl i
          by_new o (inr h) =
              let p = and_parts (h.row.file == row.file) (same_id h.row.id row.id) h.is in
              let own : h.row.id ≡ row.id = same_id-eq h.row.id row.id p.1 in
              let of : h.row.file ≡ row.file = eqb-true h.row.file row.file p.0 in
              inr (record {
                row = h.row;
                there = open_was h.row h.there;
                id = ap (λ (y : OpenRow). y.id) h.now;
                file = ap (λ (y : OpenRow). y.file) h.now;
                owner = ap (λ (y : OpenRow). y.owner.pid) (sym h.now) ∙ own_pid;
                handle = ap (λ (y : OpenRow). y.handle) (sym h.now) ∙ own_number;
                added = (λ m. let r : OpenRec = record { id = sym own m; file = sym of m } in r) ∙ ap record_of h.now;
              })

      -- where no open of the id is left, each was there before
      none_new_owner : (view x).opens_of_id id ≡ [] → (o : OpenRow) → IsIn o x.opens → IsIn o t.opens
      none_new_owner none o i = by_new (now_from o i)
        where
          by_new : IsIn o t.opens ⊎ IsNewOwner setup ps s here t b row.file row.id caller.sid caller.number row_here first_along o → IsIn o t.opens
          by_new (inl j) = j
          by_new (inr h) =
              let own : o.id ≡ id = ap (λ (y : OpenRow). y.id) (sym h.now) ∙ same_id-eq h.row.id row.id (and_parts (h.row.file == row.file) (same_id h.row.id row.id) h.is).1 ∙ row_id in
              absurd (subst (IsIn o) none (passes_in (has_id id) x.opens o i (ap (λ m. same_id m id) own ∙ same_id-refl id)))

      opens_after : (os : List OpenRow) → (view x).opens_of_id id ≡ os → (file : ℕ)
          → AllByRecursion (HasOpenRecords (moved setup ps (added_for (open_key info.pid number) os) (view x) s)) ((view x).opens_of file)
      opens_after [] e file = old_opens setup ps s t x stands.agree fine.sound (none_new_owner e) file
      opens_after (y ∷ os) e file = opens_with (record_of y) (file_is y (subst (IsIn y) (sym e) (inl refl))) file

      -- what is added after a reply that grants
      added_is : added setup (view x) entry ≡ added_for (open_key info.pid number) ((view x).opens_of_id id)
      added_is =
          ap (λ r. added setup (view x) (record { by = by; seq = seq; what = Called number moment (Reconnect worker made key) r })) (sym answered ∙ sym reply_behind ∙ ap (λ (y : Decision). y.reply) d.is)
          ∙ ap (λ o. option_and_then (λ (named : WorkerInfo). option_and_then (added_by_caller (view x) number (record { pid = named.pid; call = made })) (declared_at setup.workers by)) o) declared
          ∙ ap (λ o. option_and_then (added_by_caller (view x) number (record { pid = named.pid; call = made })) o) own

      took_over : StandsFor setup n (move setup n k entry (view (after setup (before ++ entry ∷ [])))) (view (after setup (before ++ entry ∷ [])))
      took_over =
          subst (λ y. StandsFor setup n (move setup n k entry (view y)) (view y)) (sym (after_is ∙ x_is))
          (chains_stand setup n k entry t x is stands fine fine_x
          (subst (λ qs. Contained setup qs s t x) (sym writes) inside)
          (λ file. subst (λ y. AllByRecursion (HasOpenRecords (moved setup (places_written setup n k entry) y (view x) s)) ((view x).opens_of file)) (sym added_is)
          (subst (λ qs. AllByRecursion (HasOpenRecords (moved setup qs (added_for (open_key info.pid number) ((view x).opens_of_id id)) (view x) s)) ((view x).opens_of file)) (sym writes)
          (opens_after ((view x).opens_of_id id) refl file))))

    decides : Decided caller ((view b).opens_of_id id) (decide setup (view b) caller (Reconnect worker made key))
    unfolding reconnect
    decides = subst (λ os. Decided caller ((view b).opens_of_id id) (reconnect_first (view b) caller (own_lease caller key) os)) (sym (made_is (view b))) (decided (view b) caller (own_lease caller key) ((view b).opens_of_id id))

    stands_after : Decided caller ((view b).opens_of_id id) (decide setup (view b) caller (Reconnect worker made key))
        → StandsFor setup n (move setup n k entry (view (after setup (before ++ entry ∷ [])))) (view (after setup (before ++ entry ∷ [])))
    stands_after (inl d) = refused d
    stands_after (inr d) = took_over d

  module _ (legal : IsLegal setup (before ++ entry ∷ [])) where
    here_legal : IsLegalCall setup t by number moment (Reconnect worker made key) reply
    here_legal = (legal_before setup (start setup) before [] entry legal.entries).1

    -- the named worker is declared
    with_named : (caller : Caller) → caller_of setup (view t) by number moment ≡ Some caller → (outcome setup (view t) caller (Reconnect worker made key)).reply ≡ reply
        → (o : Option WorkerInfo) → declared_at setup.workers worker ≡ o → KeepsStanding setup n before entry
    with_named caller from answered None declared = absurd (not_declared setup.workers worker declared here_legal.in_sets.0)
    with_named caller from answered (Some named) declared = λ k stands.
        let of = is_caller_of setup t by number moment caller from in
        let fine = legal_is_fine setup before is (legal_start setup before entry legal) in
        let settled = after_all-settled setup (start setup) before (start-settled setup) in
        stands_after legal caller from answered here_legal.numbered named declared of.info of.declared of.pid of.number_is of.alive k stands fine settled
        (decides legal caller from answered here_legal.numbered named declared of.info of.declared of.pid of.number_is of.alive k stands fine settled)

    by_caller : (o : Option Caller) → caller_of setup (view t) by number moment ≡ o
        → option_map (λ done. done.reply) (option_map (λ caller. outcome setup (view t) caller (Reconnect worker made key)) o) ≡ Some reply → KeepsStanding setup n before entry
    by_caller None from answered = absurd cc
    by_caller (Some caller) from answered = with_named caller from (some_same (outcome setup (view t) caller (Reconnect worker made key)).reply reply answered) (declared_at setup.workers worker) refl

    pub reconnect_stands : KeepsStanding setup n before entry
    reconnect_stands = by_caller (caller_of setup (view t) by number moment) refl here_legal.answered
