-- `open` is legal by the chains of its footprint alone.
use Rattle.std.proofs.Common.{◌≡◌, ℕ, Bool, true, false, cond, not, ◌==◌, ◌&&◌, ◌||◌, List, [], ◌∷◌, ◌++◌, map, filter, Option, Some, None, refl, sym, ap, ◌∙◌, subst, inl, inr, ◌⊎◌}
use Rattle.std.specs.Prelude.{IfSome}
use Rattle.std.specs.List.{list_any, AllByRecursion}
use Rattle.std.specs.Option.{option_map, option_map_or, option_and_then}
use Rattle.sid_core.specs.declared.bits.Access.{Access}
use Rattle.sid_core.specs.declared.bits.Share.{Share}
use Rattle.sid_core.specs.declared.call.Call.{Call}
use Rattle.sid_core.specs.declared.call.Call.TheVariants as call
use Rattle.sid_core.specs.declared.call.LeaseAsk.{LeaseAsk}
use Rattle.sid_core.specs.declared.ids.LeaseName.{LeaseName}
use Rattle.sid_core.specs.declared.ids.Moment.{Moment}
use Rattle.sid_core.specs.declared.ids.Sid.{Sid}
use Rattle.sid_core.specs.declared.reply.Reply.{Reply}
use Rattle.sid_core.specs.declared.setup.Setup.{Setup}
use Rattle.sid_core.specs.declared.setup.WorkerInfo.{WorkerInfo}
use Rattle.sid_core.specs.Ids.{same_name}
use Rattle.sid_core.specs.Values.{has}
use Rattle.serial_table.specs.declared.rows.OpenRow.{OpenRow}
use Rattle.serial_table.specs.declared.rows.LeaseRow.{LeaseRow}
use Rattle.serial_table.specs.declared.table.Table.{Table}
use Rattle.serial_table.specs.declared.change.Change.TheVariants as c
use Rattle.serial_table.specs.declared.decision.Caller.{Caller}
use Rattle.serial_table.specs.declared.decision.Decision.{Decision}
use Rattle.table_laws.proofs.Asking.{Asked}
use Rattle.serial_table.specs.Asked.{own_lease, asked_of, is_elsewhere}
use Rattle.serial_table.specs.Open.{open_by, open_file}
use Rattle.serial_table.specs.Decision.{no_longer_waits}
use Rattle.serial_table.specs.View.{View, view, lives, carries, has_name}
use Rattle.serial_table.specs.File.{FileView, FileOpen, file_open, file_view, is_under}
use Rattle.serial_table.specs.Break.{each_once}
use Rattle.serial_table.specs.Change.{perform_all}
use Rattle.serial_table.specs.Settle.{settle, settle_by_key, settle_file, settled_lease, broken_to_needed, lacks_handle, keeps_open, lease_settles, lease_stays}
use Rattle.serial_table.specs.Expire.{carried_by, asked_names, look, due, is_due, expired_by}
use Rattle.serial_table.specs.Sound.{IsSound}
use Rattle.serial_table.proofs.SameIds.{same_name-eq}
use Rattle.serial_table.proofs.Members.{IsIn, all_by, all_of, in_append, in_filter}
use Rattle.serial_table.proofs.Filters.{filter-map}
use Rattle.serial_table.proofs.Views.{name-settled_lease, file-settled_lease, view-perform}
use Rattle.serial_table.proofs.Files.{file-set_lease, file_view-perform}
use Rattle.record_codec.specs.declared.lease_rec.LeaseRec.{LeaseRec}
use Rattle.record_codec.specs.declared.lease_rec.LeaseRef.{LeaseRef}
use Rattle.record_codec.specs.Counts as counts
use Rattle.stored_table.specs.Keys.{open_key, pid_key, name_key, file_key}
use Rattle.stored_table.specs.Places.{Chains, Place, among, value_at}
use Rattle.stored_table.specs.Decoded.{AllRecords, deciding, records_of}
use Rattle.record_rows.specs.Rows.{ref_of}
use Rattle.stored_table.specs.Exact.{lease_with, opens_under, exact_lease}
use Rattle.stored_table.specs.Met.{KeyList, asked_name, met_by_open, all_met}
use Rattle.stored_table.specs.Stands.{AgreeWith, StandsFor}
use Rattle.stored_table.proofs.Telling.{lives_alike, file_tells}
use Rattle.table_laws.specs.Standing.{call_entry}
use Rattle.table_laws.specs.ByFootprint.{IsLegalByFootprint}
use Rattle.table_laws.proofs.Lists.{all_mapped, any_alike, any_in_filter, any_mapped}
use Rattle.table_laws.proofs.Chains.{IsFine}
use Rattle.table_laws.proofs.Calls.{once_in}
use Rattle.table_laws.proofs.Exactly.{refs_back, single, exact_is}
use Rattle.table_laws.proofs.Fading.{faded, expired, name_faded, settles_to}
use Rattle.table_laws.proofs.Settling.{is_left}
use Rattle.table_laws.proofs.Showing.{SameOwner, SameRefs, SameLease, lives_same, settled_same, shown_same}
use Rattle.table_laws.proofs.Footprints.{own_register_same, asked_lease_same, file_same}
use Rattle.table_laws.proofs.SameFiles.{opens_told, named_leases, flat_same}
use Rattle.table_laws.proofs.Answering.{legal_if}
use Rattle.table_laws.proofs.PlainAnswers.{at_met, by_declared}
use Rattle.table_laws.proofs.AckAnswers.{open_under, leases_same}

-- ---- what is left of a lease that has expired

pub file_faded : (rows : List LeaseRow) (y : LeaseRow) → (faded rows y).file ≡ y.file
file_faded [] y = refl
file_faded (l ∷ ls) y = file_faded ls (Rattle.serial_table.specs.Change.set_lease l.file l.name (Rattle.serial_table.specs.Expire.needed_of l) None y) ∙ file-set_lease l.file l.name (Rattle.serial_table.specs.Expire.needed_of l) None y

-- it takes what is needed where none of its opens is connected
abbrev pub taken : Bool → LeaseRow → LeaseRow
taken connected l = cond connected l (broken_to_needed l l.breaking)

-- it stays where one of its opens is connected, or it has HANDLE
abbrev pub is_left_with : (Sid → Bool) → LeaseRow → List LeaseRef → Bool
is_left_with alive l refs = list_any (λ ref. alive ref.owner || has (taken (list_any (λ (r : LeaseRef). alive r.owner) refs) l).held.0 2) refs

pub left_same : (a b : Sid → Bool) (l : LeaseRow) (refs : List LeaseRef) → AllByRecursion (λ (ref : LeaseRef). a ref.owner ≡ b ref.owner) refs → is_left_with a l refs ≡ is_left_with b l refs
left_same a b l refs all =
    let any = any_alike (λ (r : LeaseRef). a r.owner) (λ (r : LeaseRef). b r.owner) refs all in
    any_alike (λ ref. a ref.owner || has (taken (list_any (λ (r : LeaseRef). a r.owner) refs) l).held.0 2) (λ ref. b ref.owner || has (taken (list_any (λ (r : LeaseRef). b r.owner) refs) l).held.0 2) refs
    (all_mapped (λ (ref : LeaseRef). a ref.owner ≡ b ref.owner) _ (λ ref e i. e i || has (taken (any i) l).held.0 2) refs all)

module _ (t : Table) (rows : List LeaseRow) where
  abbrev v : View
  v = view t

  abbrev mid : View
  mid = view (expired rows t)

  mid_leases : (name : LeaseName) → mid.leases_of name ≡ map (faded rows) (v.leases_of name)
  mid_leases name = filter-map (has_name name) (faded rows) (λ y. ap (λ n. same_name n name) (name_faded rows y)) t.leases

  -- what the file shows then goes by what it showed
  file_expired : (file : ℕ) → file_view file mid ≡ record (file_view file v) { leases = λ name. map (faded rows) ((file_view file v).leases name) }
  file_expired file =
      let e : (name : LeaseName) → filter (λ (l : LeaseRow). l.file == file) (mid.leases_of name) ≡ map (faded rows) (filter (λ (l : LeaseRow). l.file == file) (v.leases_of name)) =
      λ name. ap (filter (λ (l : LeaseRow). l.file == file)) (mid_leases name) ∙ filter-map (λ (l : LeaseRow). l.file == file) (faded rows) (λ y. ap (λ g. g == file) (file_faded rows y)) (v.leases_of name) in
      λ i. record (file_view file v) { leases = λ name. e name i }

  pub file_settled : (file : ℕ) → file_view file (view (settle (expired rows t))) ≡ settle_file (record (file_view file v) { leases = λ name. map (faded rows) ((file_view file v).leases name) })
  file_settled file = file_view-perform file c.Settle (expired rows t) refl ∙ ap settle_file (file_expired file)

  -- the leases of a name then
  pub settled_leases : (name : LeaseName) → (view (settle (expired rows t))).leases_of name ≡ filter (lease_stays (λ file. true) mid) (map (lease_settles (λ file. true) mid) (map (faded rows) (v.leases_of name)))
  unfolding settle_by_key
  settled_leases name =
      ap (λ (x : View). x.leases_of name) (view-perform c.Settle (expired rows t))
      ∙ ap (λ ls. filter (lease_stays (λ file. true) mid) (map (lease_settles (λ file. true) mid) ls)) (mid_leases name)

  module _ (name : LeaseName) (l : LeaseRow) (is : v.leases_of name ≡ l ∷ []) where
    abbrev k : LeaseRow
    k = faded rows l

    abbrev g : ℕ
    g = l.file

    abbrev refs : List LeaseRef
    refs = map ref_of (opens_under (view t) name l.file)

    own_name : l.name ≡ name
    own_name = same_name-eq l.name name (in_filter (has_name name) t.leases l (subst (IsIn l) (sym is) (inl refl))).1

    k_name : k.name ≡ name
    k_name = name_faded rows l ∙ own_name

    under_any : (h : Bool) → list_any (λ o. is_under name o && (o.connected || h)) (file_view l.file mid).opens ≡ list_any (λ (ref : LeaseRef). lives (view t) ref.owner || h) refs
    under_any h =
        any_mapped (λ o. is_under name o && (o.connected || h)) (file_open (lives v)) (v.opens_of l.file)
        ∙ sym (any_in_filter (λ (o : OpenRow). lives v o.owner || h) (λ (o : OpenRow). carries name o.lease) (v.opens_of l.file))
        ∙ sym (any_mapped (λ (ref : LeaseRef). lives v ref.owner || h) ref_of (opens_under v name l.file))

    connected_any : list_any (λ o. is_under name o && o.connected) (file_view l.file mid).opens ≡ list_any (λ (ref : LeaseRef). lives (view t) ref.owner) refs
    connected_any =
        any_mapped (λ o. is_under name o && o.connected) (file_open (lives v)) (v.opens_of l.file)
        ∙ sym (any_in_filter (λ (o : OpenRow). lives v o.owner) (λ (o : OpenRow). carries name o.lease) (v.opens_of l.file))
        ∙ sym (any_mapped (λ (ref : LeaseRef). lives v ref.owner) ref_of (opens_under v name l.file))

    -- HANDLE of the lease once it has settled
    abbrev pub hh : Bool
    hh = has (taken (list_any (λ (ref : LeaseRef). lives (view t) ref.owner) refs) (faded rows l)).held.0 2

    pub settled_is : settled_lease (file_view l.file mid) k ≡ taken (list_any (λ (ref : LeaseRef). lives (view t) ref.owner) refs) k
    settled_is =
        ap (λ n. cond (list_any (λ o. is_under n o && o.connected) (file_view l.file mid).opens) k (broken_to_needed k k.breaking)) k_name
        ∙ ap (λ b. taken b k) connected_any

    not_lacking : (b : Bool) → not (not b || false) ≡ b
    not_lacking true = refl
    not_lacking false = refl

    its_leases : (file_view l.file mid).leases name ≡ k ∷ []
    its_leases =
        ap (filter (λ (x : LeaseRow). x.file == l.file)) (mid_leases name ∙ ap (map (faded rows)) is)
        ∙ ap (λ b. cond b (k ∷ []) []) (Rattle.std.proofs.lemmas.Bool.eq-eqb k.file l.file (file_faded rows l))

    holds : not (list_any (lacks_handle (file_view l.file mid)) ((file_view l.file mid).leases name)) ≡ hh
    holds =
        ap (λ ls. not (list_any (lacks_handle (file_view l.file mid)) ls)) its_leases
        ∙ not_lacking (has (settled_lease (file_view l.file mid) k).held.0 2)
        ∙ ap (λ (x : LeaseRow). has x.held.0 2) settled_is

    pub keeps_under : (o : FileOpen) → (is_under name o && keeps_open (file_view l.file mid) o) ≡ (is_under name o && (o.connected || hh))
    keeps_under o = by o.row.lease
      where
        named : (own : LeaseName) (b : Bool) → same_name own name ≡ b
            → (b && (o.connected || not (list_any (lacks_handle (file_view l.file mid)) ((file_view l.file mid).leases own)))) ≡ (b && (o.connected || hh))
        named own false e = refl
        named own true e =
            ap (λ n. o.connected || not (list_any (lacks_handle (file_view l.file mid)) ((file_view l.file mid).leases n))) (same_name-eq own name e)
            ∙ ap (λ b. o.connected || b) holds

        by : (lease : Option LeaseName)
            → (carries name lease && (o.connected || not (option_map_or (λ n. list_any (lacks_handle (file_view l.file mid)) ((file_view l.file mid).leases n)) lease false))) ≡ (carries name lease && (o.connected || hh))
        by None = refl
        by (Some own) = named own (same_name own name) refl

    pub stays_is : lease_stays (λ file. true) mid (lease_settles (λ file. true) mid k) ≡ is_left_with (lives (view t)) (faded rows l) refs
    stays_is =
        let f = file_view k.file mid in
        let settled = settled_lease f k in
        (λ i. list_any (λ o. is_under ((name-settled_lease f k ∙ k_name) i) o && keeps_open (file_view ((file-settled_lease f k ∙ file_faded rows l) i) mid) o) (file_view ((file-settled_lease f k ∙ file_faded rows l) i) mid).opens)
        ∙ any_alike (λ o. is_under name o && keeps_open (file_view l.file mid) o) (λ o. is_under name o && (o.connected || hh)) (file_view l.file mid).opens (all_by _ (file_view l.file mid).opens (λ o i. keeps_under o))
        ∙ under_any hh

    -- whether the name is then of another file than this
    elsewhere_is : (file : ℕ) → list_any (λ (x : LeaseRow). not (x.file == file)) ((view (settle (expired rows t))).leases_of name) ≡ (is_left_with (lives (view t)) (faded rows l) refs && not (l.file == file))
    elsewhere_is file =
        let K = lease_settles (λ file. true) mid k in
        ap (list_any (λ (x : LeaseRow). not (x.file == file))) (settled_leases name ∙ ap (λ ls. filter (lease_stays (λ file. true) mid) (map (lease_settles (λ file. true) mid) (map (faded rows) ls))) is)
        ∙ here (lease_stays (λ file. true) mid K) (not (K.file == file)) K refl
        ∙ (λ i. stays_is i && not ((file-settled_lease (file_view k.file mid) k ∙ file_faded rows l) i == file))
      where
        here : (b d : Bool) (x : LeaseRow) → not (x.file == file) ≡ d → list_any (λ (x : LeaseRow). not (x.file == file)) (cond b (x ∷ []) []) ≡ (b && d)
        here true d x e = or_none (not (x.file == file)) ∙ e
          where
            or_none : (b : Bool) → (b || false) ≡ b
            or_none true = refl
            or_none false = refl
        here false d x e = refl

  none_elsewhere : (name : LeaseName) (file : ℕ) → v.leases_of name ≡ [] → list_any (λ (x : LeaseRow). not (x.file == file)) ((view (settle (expired rows t))).leases_of name) ≡ false
  none_elsewhere name file none =
      ap (list_any (λ (x : LeaseRow). not (x.file == file))) (settled_leases name ∙ ap (λ ls. filter (lease_stays (λ file. true) mid) (map (lease_settles (λ file. true) mid) (map (faded rows) ls))) none)

-- ---- two tables that show the same of the file and of the asked lease

module _ (setup : Setup) (caller : Caller) (file : ℕ) (access : Access) (share : Share) (lease : Option LeaseAsk) (durable : ℕ) (overwrite delete : Bool) where
  abbrev which : Call
  which = call.OpenFile file access share lease durable overwrite delete

  abbrev asked : Asked
  asked = asked_of caller file access share lease durable overwrite delete

  abbrev rows_of : Table → List LeaseRow
  rows_of t = due (view t) caller.moment (look setup (view t) caller (call.OpenFile file access share lease durable overwrite delete))

  abbrev pub behind_open : Table → Table
  behind_open t = perform_all (expired_by setup (view t) caller (call.OpenFile file access share lease durable overwrite delete)) t

  behind_is : (t : Table) → settle t ≡ t → behind_open t ≡ settle (expired (rows_of t) t)
  unfolding expired_by
  behind_is t settled = settles_to (rows_of t) t settled

  module _ (t u : Table) (sound : IsSound t) (sound_other : IsSound u) (settled : settle t ≡ t) (settled_other : settle u ≡ u) (same : file_view file (view t) ≡ file_view file (view u))
      (names : (name : LeaseName) → IsIn name (asked_names caller lease) → (view t).leases_of name ≡ (view u).leases_of name)
      (refs : (name : LeaseName) → IsIn name (asked_names caller lease) → (l : LeaseRow) → (view t).leases_of name ≡ l ∷ [] → (view u).leases_of name ≡ l ∷ []
      → (map ref_of (opens_under (view t) name l.file) ≡ map ref_of (opens_under (view u) name l.file)) × AllByRecursion (λ (ref : LeaseRef). lives (view t) ref.owner ≡ lives (view u) ref.owner) (map ref_of (opens_under (view t) name l.file))) where
    opens_same : (view t).opens_of file ≡ (view u).opens_of file
    opens_same = sym (opens_told file (view t)) ∙ ap (λ (f : FileView). map (λ (o : FileOpen). o.row) f.opens) same ∙ opens_told file (view u)

    looked_same : (name : LeaseName) → IsIn name (carried_by ((view t).opens_of file)) ⊎ IsIn name (asked_names caller lease) → (view t).leases_of name ≡ (view u).leases_of name
    looked_same name (inl i) =
        named_leases t sound file name i ∙ ap (λ (f : FileView). f.leases name) same ∙ sym (named_leases u sound_other file name (subst (λ os. IsIn name (carried_by os)) opens_same i))
    looked_same name (inr i) = names name i

    rows_same : rows_of t ≡ rows_of u
    rows_same =
        ap (filter (is_due caller.moment)) (flat_same (view t) (view u) (look setup (view t) caller which) (λ name i.
        looked_same name (in_append (carried_by ((view t).opens_of file)) (asked_names caller lease) name (once_in [] (carried_by ((view t).opens_of file) ++ asked_names caller lease) name i))))
        ∙ ap (λ os. due (view u) caller.moment (each_once [] (carried_by os ++ asked_names caller lease))) opens_same

    view_same : file_view file (view (settle (expired (rows_of t) t))) ≡ file_view file (view (settle (expired (rows_of u) u)))
    view_same =
        file_settled t (rows_of t) file
        ∙ (λ i. settle_file (record (same i) { leases = λ name. map (faded (rows_same i)) ((same i).leases name) }))
        ∙ sym (file_settled u (rows_of u) file)

    elsewhere_by : (name : LeaseName) → IsIn name (asked_names caller lease) → (ls : List LeaseRow) → (view t).leases_of name ≡ ls
        → list_any (λ (x : LeaseRow). not (x.file == file)) ((view (settle (expired (rows_of t) t))).leases_of name) ≡ list_any (λ (x : LeaseRow). not (x.file == file)) ((view (settle (expired (rows_of u) u))).leases_of name)
    elsewhere_by name i [] is = none_elsewhere t (rows_of t) name file is ∙ sym (none_elsewhere u (rows_of u) name file (sym (names name i) ∙ is))
    elsewhere_by name i (l ∷ ls) is =
        let one : (view t).leases_of name ≡ l ∷ [] = single t sound name l (subst (IsIn l) (sym is) (inl refl)) in
        let other : (view u).leases_of name ≡ l ∷ [] = sym (names name i) ∙ one in
        let r = refs name i l one other in
        elsewhere_is t (rows_of t) name l one file
        ∙ ap (λ b. b && not (l.file == file)) (left_same (lives (view t)) (lives (view u)) (faded (rows_of t) l) (map ref_of (opens_under (view t) name l.file)) r.1
        ∙ (λ m. is_left_with (lives (view u)) (faded (rows_same m) l) (r.0 m)))
        ∙ sym (elsewhere_is u (rows_of u) name l other file)

    elsewhere_same : is_elsewhere (view (settle (expired (rows_of t) t))) asked ≡ is_elsewhere (view (settle (expired (rows_of u) u))) asked
    elsewhere_same = by lease refl
      where
        by : (q : Option LeaseAsk) → lease ≡ q
            → option_map_or (λ name. list_any (λ (x : LeaseRow). not (x.file == file)) ((view (settle (expired (rows_of t) t))).leases_of name)) (option_map (λ (ask : LeaseAsk). own_lease caller ask.key) q) false
            ≡ option_map_or (λ name. list_any (λ (x : LeaseRow). not (x.file == file)) ((view (settle (expired (rows_of u) u))).leases_of name)) (option_map (λ (ask : LeaseAsk). own_lease caller ask.key) q) false
        by None e = refl
        by (Some ask) e =
            let name = own_lease caller ask.key in
            elsewhere_by name (subst (λ o. IsIn name (asked_names caller o)) (sym e) (inl refl)) ((view t).leases_of name) refl

    opened_same : open_file (view (settle (expired (rows_of t) t))) caller asked ≡ open_file (view (settle (expired (rows_of u) u))) caller asked
    unfolding open_file
    opened_same = λ i. no_longer_waits caller (view_same i).open_watches (open_by (elsewhere_same i) (view_same i) caller asked)

    pub open_same : open_file (view (behind_open t)) caller asked ≡ open_file (view (behind_open u)) caller asked
    open_same = ap (λ (x : Table). open_file (view x) caller asked) (behind_is t settled) ∙ opened_same ∙ sym (ap (λ (x : Table). open_file (view x) caller asked) (behind_is u settled_other))

-- ---- the references of a lease whose record is the same

module _ (setup : Setup) (s z : AllRecords) (t u : Table) (agree : AgreeWith setup s (view t)) (agree_other : AgreeWith setup z (view u)) (fine : IsFine setup t) (fine_other : IsFine setup u)
    (name : LeaseName) (same : SameLease s z name) (l : LeaseRow) (is : (view t).leases_of name ≡ l ∷ []) (other : (view u).leases_of name ≡ l ∷ []) where
  abbrev refs_of : Table → List LeaseRef
  refs_of x = map ref_of (opens_under (view x) name l.file)

  exact_of : (x : Table) → IsSound x → (view x).leases_of name ≡ l ∷ [] → exact_lease (view x) name ≡ Some (lease_with l l.breaking (map ref_of (opens_under (view x) name l.file)))
  exact_of x sound e = let o = open_under x sound name l (subst (IsIn l) (sym e) (inl refl)) in exact_is x sound name l o.0 o.1

  exact_same : exact_lease (view t) name ≡ exact_lease (view u) name
  exact_same = sym (agree.leases name) ∙ settled_same s z (s.leases name) same.1 ∙ ap (option_and_then (counts.settled_lease (deciding z))) same.0 ∙ agree_other.leases name

  refs_told : (x : Table) → IsSound x → (view x).leases_of name ≡ l ∷ [] → option_map_or (λ (r : LeaseRec). r.refs) (exact_lease (view x) name) [] ≡ map ref_of (opens_under (view x) name l.file)
  refs_told x sound e = ap (λ o. option_map_or (λ (r : LeaseRec). r.refs) o []) (exact_of x sound e) ∙ refs_back l l.breaking (map ref_of (opens_under (view x) name l.file))

  pub refs_same : map ref_of (opens_under (view t) name l.file) ≡ map ref_of (opens_under (view u) name l.file)
  refs_same = sym (refs_told t fine.sound is) ∙ ap (λ o. option_map_or (λ (r : LeaseRec). r.refs) o []) exact_same ∙ refs_told u fine_other.sound other

  owner_lives : (o : Option LeaseRec) → s.leases name ≡ o → IfSome o (SameRefs s z) → (ref : LeaseRef) → IsIn ref (map ref_of (opens_under (view t) name l.file)) → SameOwner s z ref.owner
  owner_lives None e h ref i = absurd (no_record (ap (option_and_then (counts.settled_lease (deciding s))) (sym e) ∙ agree.leases name ∙ exact_of t fine.sound is))
    where
      no_record : ◌≡◌ {A = Option LeaseRec} None (Some (lease_with l l.breaking (map ref_of (opens_under (view t) name l.file)))) → ⊥
      no_record x = cc
  owner_lives (Some raw) e h ref i =
      let left = is_left (deciding s) raw (lease_with l l.breaking (map ref_of (opens_under (view t) name l.file))) (ap (option_and_then (counts.settled_lease (deciding s))) (sym e) ∙ agree.leases name ∙ exact_of t fine.sound is) in
      all_of (λ (r : LeaseRef). SameOwner s z r.owner) raw.refs h ref
      (in_filter (counts.ref_counts (deciding s) raw) raw.refs ref (subst (IsIn ref) (sym (refs_back l l.breaking (map ref_of (opens_under (view t) name l.file))) ∙ left.refs) i)).0

  pub owners_live_same : AllByRecursion (λ (ref : LeaseRef). lives (view t) ref.owner ≡ lives (view u) ref.owner) (map ref_of (opens_under (view t) name l.file))
  owners_live_same =
      all_by (λ (ref : LeaseRef). lives (view t) ref.owner ≡ lives (view u) ref.owner) (map ref_of (opens_under (view t) name l.file)) (λ ref i.
      sym (lives_alike setup s t agree fine.sets fine.sound ref.owner)
      ∙ lives_same s z ref.owner (owner_lives (s.leases name) refl same.1 ref i)
      ∙ lives_alike setup z u agree_other fine_other.sets fine_other.sound ref.owner)

-- ---- the law

module _ (setup : Setup) (n by seq number : ℕ) (moment : Moment) (file : ℕ) (access : Access) (share : Share) (lease : Option LeaseAsk) (durable : ℕ) (overwrite delete : Bool) (reply : Reply) where
  abbrev opening : Call
  opening = call.OpenFile file access share lease durable overwrite delete

  module _ (k j : Chains) (caller : Caller) (info : WorkerInfo) (guid : caller.guid ≡ info.guid)
      (same : (p : Place) → among p (all_met (met_by_open setup n k info number file lease)) ≡ true → value_at n k p ≡ value_at n j p)
      (t u : Table) (stands : StandsFor setup n k (view t)) (stands_other : StandsFor setup n j (view u)) (fine : IsFine setup t) (fine_other : IsFine setup u) (settled : settle t ≡ t) (settled_other : settle u ≡ u) where
    abbrev s : AllRecords
    s = records_of setup n k

    abbrev z : AllRecords
    z = records_of setup n j

    abbrev names : KeyList
    names = asked_name info lease

    asked_lease : (name : LeaseName) → IsIn name (asked_names caller lease) → SameLease s z name
    asked_lease name i = which_ask lease refl i
      where
        which_ask : (q : Option LeaseAsk) → lease ≡ q → IsIn name (asked_names caller q) → SameLease s z name
        which_ask None e i = absurd i
        which_ask (Some ask) e (inr i) = absurd i
        which_ask (Some ask) e (inl i) =
            let declared : LeaseName = record { guid = info.guid; key = ask.key } in
            let it : declared ≡ name = sym (λ m. record { guid = guid m; key = ask.key }) ∙ i in
            subst (SameLease s z) it
            (asked_lease_same setup n k j (open_key info.pid number ∷ []) [] (file_key setup file ∷ []) names (pid_key info.pid ∷ []) same declared (subst (λ o. IsIn (name_key declared) (asked_name info o)) (sym e) (inl refl)))

    file_shown : file_view file (view t) ≡ file_view file (view u)
    file_shown =
        sym (file_tells setup s t stands.agree fine.sets fine.sound file)
        ∙ shown_same s z file (file_same setup n k j (open_key info.pid number ∷ []) [] (file_key setup file ∷ []) names (pid_key info.pid ∷ []) same file (inl refl))
        ∙ file_tells setup z u stands_other.agree fine_other.sets fine_other.sound file

    asked_leases : (name : LeaseName) → IsIn name (asked_names caller lease) → (view t).leases_of name ≡ (view u).leases_of name
    asked_leases name i = leases_same setup s z t u stands.agree stands_other.agree fine.sound fine_other.sound name (asked_lease name i)

    asked_refs : (name : LeaseName) → IsIn name (asked_names caller lease) → (l : LeaseRow) → (view t).leases_of name ≡ l ∷ [] → (view u).leases_of name ≡ l ∷ []
        → (map ref_of (opens_under (view t) name l.file) ≡ map ref_of (opens_under (view u) name l.file)) × AllByRecursion (λ (ref : LeaseRef). lives (view t) ref.owner ≡ lives (view u) ref.owner) (map ref_of (opens_under (view t) name l.file))
    asked_refs name i l is other = (
      refs_same setup s z t u stands.agree stands_other.agree fine fine_other name (asked_lease name i) l is other,
      owners_live_same setup s z t u stands.agree stands_other.agree fine fine_other name (asked_lease name i) l is other,
    )

    -- the leases that expire before it
    pub due_alike : due (view t) caller.moment (look setup (view t) caller opening) ≡ due (view u) caller.moment (look setup (view u) caller opening)
    due_alike = rows_same setup caller file access share lease durable overwrite delete t u fine.sound fine_other.sound settled settled_other file_shown asked_leases asked_refs

    pub open_decided : open_file (view (behind_open setup caller file access share lease durable overwrite delete t)) caller (asked_of caller file access share lease durable overwrite delete)
        ≡ open_file (view (behind_open setup caller file access share lease durable overwrite delete u)) caller (asked_of caller file access share lease durable overwrite delete)
    open_decided = open_same setup caller file access share lease durable overwrite delete t u fine.sound fine_other.sound settled settled_other file_shown asked_leases asked_refs

  pub open_legal : IsLegalByFootprint setup n (call_entry by seq number moment opening reply)
  open_legal =
      legal_if setup n by seq number moment opening reply (λ k j a caller info declared pid guid in_sets same.
      let at = at_met setup n k j (call_entry by seq number moment opening reply) (met_by_open setup n k info number file lease) (by_declared setup n k by number opening info declared) same in
      record {
        worker = λ t stands alive. own_register_same setup n k j (open_key info.pid number ∷ []) [] (file_key setup file ∷ []) (asked_name info lease) (pid_key info.pid ∷ []) at info.pid (inl refl);
        answers = λ t u stands stands_other fine fine_other alive alive_other settled settled_other. ap (λ (d : Decision). d.reply) (open_decided k j caller info guid at t u stands stands_other fine fine_other settled settled_other);
      })
