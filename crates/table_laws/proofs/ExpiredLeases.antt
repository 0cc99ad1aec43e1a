-- Two tables where the same leases expire before a call: what files show behind it goes by what they showed, and what is left of the record of
-- a lease goes by the record, and by which owners of its opens live.
use Rattle.std.proofs.Common.{◌≡◌, ℕ, Bool, true, false, cond, ◌&&◌, ◌||◌, List, [], ◌∷◌, map, filter, Option, None, refl, sym, ap, ◌∙◌, subst, inl}
use Rattle.std.specs.List.{AllByRecursion, list_any}
use Rattle.std.proofs.lemmas.Bool.{eqb-true}
use Rattle.sid_core.specs.declared.call.Call.{Call}
use Rattle.sid_core.specs.declared.ids.LeaseName.{LeaseName}
use Rattle.sid_core.specs.declared.ids.Sid.{Sid}
use Rattle.sid_core.specs.declared.setup.Setup.{Setup}
use Rattle.sid_core.specs.Values.{has}
use Rattle.serial_table.specs.declared.rows.OpenRow.{OpenRow}
use Rattle.serial_table.specs.declared.rows.LeaseRow.{LeaseRow}
use Rattle.serial_table.specs.declared.table.Table.{Table}
use Rattle.serial_table.specs.declared.decision.Caller.{Caller}
use Rattle.serial_table.specs.View.{View, view, lives, carries, is_of_file}
use Rattle.serial_table.specs.File.{file_open, file_view}
use Rattle.serial_table.specs.Change.{perform_all}
use Rattle.serial_table.specs.Expire.{look, due, expires, then_settles, expired_by}
use Rattle.serial_table.specs.Settle.{keeps_open, settled_lease, row_stays, lease_stays, lease_settles, settle_where, settle}
use Rattle.serial_table.specs.Sound.{IsSound}
use Rattle.serial_table.proofs.Consistent.{consistent-perform_all}
use Rattle.serial_table.proofs.Expiring.{expired_all, expired_settled}
use Rattle.serial_table.proofs.ExpiringFits.{expired_fits}
use Rattle.serial_table.proofs.Filters.{filter-filter}
use Rattle.serial_table.proofs.Members.{IsIn, in_filter}
use Rattle.serial_table.proofs.SettledSound.{settled-sound}
use Rattle.serial_table.proofs.Views.{file-settled_lease}
use Rattle.record_codec.specs.declared.lease_rec.LeaseRec.{LeaseRec}
use Rattle.record_codec.specs.declared.lease_rec.LeaseRef.{LeaseRef}
use Rattle.record_rows.specs.Rows.{ref_of}
use Rattle.stored_table.specs.Decoded.{AllRecords}
use Rattle.stored_table.specs.Exact.{lease_record, lease_of, opens_under, exact_lease}
use Rattle.stored_table.specs.Stands.{AgreeWith}
use Rattle.table_laws.proofs.Lists.{all_mapped, any_alike, filter_each, filter_mapped, filter_twice}
use Rattle.table_laws.proofs.AckAnswers.{leases_same}
use Rattle.table_laws.proofs.Chains.{IsFine, adds_no_open}
use Rattle.table_laws.proofs.Exactly.{single}
use Rattle.table_laws.proofs.Fading.{faded, expired, settles_to}
use Rattle.table_laws.proofs.FilesAlike.{none_comes, file_alike}
use Rattle.table_laws.proofs.OpenAnswers.{file_faded, taken, is_left_with, left_same, settled_leases, hh, settled_is, keeps_under, stays_is, refs_same, owners_live_same}
use Rattle.table_laws.proofs.Showing.{SameLease, filter_alike}
use Rattle.table_laws.proofs.Touching.{touches}

-- ---- the leases that expire before a call

-- every file
abbrev pub all : ℕ → Bool
all file = true

module _ (setup : Setup) (caller : Caller) (which : Call) where
  abbrev pub behind_first : Table → Table
  behind_first x = perform_all (expired_by setup (view x) caller which) x

  pub behind_sound : (x : Table) → IsFine setup x → settle x ≡ x → IsSound (behind_first x)
  behind_sound x fine settled =
      settled-sound (behind_first x) (consistent-perform_all (expired_by setup (view x) caller which) x fine.sound.rows (expired_fits setup x caller which fine.sound.rows)) (expired_settled setup x caller which settled)

  module _ (t u : Table) (rows : due (view t) caller.moment (look setup (view t) caller which) ≡ due (view u) caller.moment (look setup (view u) caller which)) where
    pub expired_alike : expired_by setup (view t) caller which ≡ expired_by setup (view u) caller which
    unfolding expired_by
    expired_alike = ap (λ ls. then_settles (map expires ls)) rows

    pub shown_behind : (file : ℕ) → file_view file (view t) ≡ file_view file (view u) → file_view file (view (behind_first t)) ≡ file_view file (view (behind_first u))
    shown_behind file same =
        let first = expired_by setup (view t) caller which in
        file_alike all file (lives (view t)) (lives (view u)) first t u refl refl (expired_all (touches all) (λ l. refl) refl setup (view t) caller which)
        (none_comes (lives (view t)) (lives (view u)) first (expired_all adds_no_open (λ l. refl) refl setup (view t) caller which)) same
        ∙ ap (λ cs. file_view file (view (perform_all cs u))) expired_alike

-- ---- what is left of a record

-- of a lease with these references, by who lives
abbrev left_record : (Sid → Bool) → LeaseRow → List LeaseRef → Option LeaseRec
left_record alive l refs =
    cond (is_left_with alive l refs)
    (lease_record (taken (list_any (λ (ref : LeaseRef). alive ref.owner) refs) l) (filter (λ (ref : LeaseRef). alive ref.owner || has (taken (list_any (λ (r : LeaseRef). alive r.owner) refs) l).held.0 2) refs))
    None

left_record_same : (a b : Sid → Bool) (l : LeaseRow) (refs : List LeaseRef) → AllByRecursion (λ (ref : LeaseRef). a ref.owner ≡ b ref.owner) refs → left_record a l refs ≡ left_record b l refs
left_record_same a b l refs all =
    let any = any_alike (λ (r : LeaseRef). a r.owner) (λ (r : LeaseRef). b r.owner) refs all in
    let left : filter (λ (ref : LeaseRef). a ref.owner || has (taken (list_any (λ (r : LeaseRef). a r.owner) refs) l).held.0 2) refs ≡ filter (λ (ref : LeaseRef). b ref.owner || has (taken (list_any (λ (r : LeaseRef). b r.owner) refs) l).held.0 2) refs =
    filter_alike _ _ refs (all_mapped (λ (ref : LeaseRef). a ref.owner ≡ b ref.owner) _ (λ ref e i. e i || has (taken (any i) l).held.0 2) refs all) in
    λ i. cond (left_same a b l refs all i) (lease_record (taken (any i) l) (left i)) None

-- ---- the record where leases have expired

swapped : (a b : Bool) → (a && b) ≡ (b && a)
swapped true true = refl
swapped true false = refl
swapped false true = refl
swapped false false = refl

module _ (t : Table) (rows : List LeaseRow) where
  abbrev v : View
  v = view t

  -- the table before it settles, and after
  abbrev mid : View
  mid = view (expired rows t)

  abbrev w : View
  w = view (settle (expired rows t))

  opens_left : (file : ℕ) → w.opens_of file ≡ filter (row_stays (λ file. true) mid) (v.opens_of file)
  unfolding settle_where
  opens_left file = filter-filter (is_of_file file) (row_stays (λ file. true) mid) t.opens

  module _ (name : LeaseName) (l : LeaseRow) (is : v.leases_of name ≡ l ∷ []) where
    abbrev k : LeaseRow
    k = faded rows l

    abbrev refs : List LeaseRef
    refs = map ref_of (opens_under (view t) name l.file)

    abbrev holds : Bool
    holds = hh t rows name l is

    open_left : (o : OpenRow) → IsIn o (v.opens_of l.file) → (row_stays (λ file. true) mid o && carries name o.lease) ≡ (carries name o.lease && (lives v o.owner || holds))
    open_left o i =
        let of = eqb-true o.file l.file (in_filter (is_of_file l.file) t.opens o i).1 in
        swapped (row_stays (λ file. true) mid o) (carries name o.lease)
        ∙ ap (λ f. carries name o.lease && keeps_open (file_view f mid) (file_open (lives v) o)) of
        ∙ keeps_under t rows name l is (file_open (lives v) o)

    refs_left : map ref_of (opens_under w name l.file) ≡ filter (λ (ref : LeaseRef). lives v ref.owner || holds) refs
    refs_left =
        ap (λ os. map ref_of (filter (λ (o : OpenRow). carries name o.lease) os)) (opens_left l.file)
        ∙ ap (map ref_of)
        (filter_twice (row_stays (λ file. true) mid) (λ (o : OpenRow). carries name o.lease) (v.opens_of l.file)
        ∙ filter_each (λ (o : OpenRow). row_stays (λ file. true) mid o && carries name o.lease) (λ (o : OpenRow). carries name o.lease && (lives v o.owner || holds)) (v.opens_of l.file) open_left
        ∙ sym (filter_twice (λ (o : OpenRow). carries name o.lease) (λ (o : OpenRow). lives v o.owner || holds) (v.opens_of l.file)))
        ∙ sym (filter_mapped (λ (ref : LeaseRef). lives v ref.owner || holds) ref_of (opens_under v name l.file))

    -- the lease once it has settled
    abbrev settled : LeaseRow
    settled = lease_settles (λ file. true) mid k

    settled_row : settled ≡ taken (list_any (λ (ref : LeaseRef). lives v ref.owner) refs) k
    settled_row = ap (λ f. settled_lease (file_view f mid) k) (file_faded rows l) ∙ settled_is t rows name l is

    its_file : settled.file ≡ l.file
    its_file = file-settled_lease (file_view k.file mid) k ∙ file_faded rows l

    first_of : (b : Bool) → lease_of w name (cond b (settled ∷ []) []) ≡ cond b (lease_record settled (map ref_of (opens_under w name settled.file))) None
    first_of true = refl
    first_of false = refl

    record_left : exact_lease w name ≡ left_record (lives v) (faded rows l) refs
    record_left =
        ap (lease_of w name) (settled_leases t rows name ∙ ap (λ ls. filter (lease_stays (λ file. true) mid) (map (lease_settles (λ file. true) mid) (map (faded rows) ls))) is)
        ∙ first_of (lease_stays (λ file. true) mid settled)
        ∙ (λ i. cond (stays_is t rows name l is i) (lease_record (settled_row i) (map ref_of (opens_under w name (its_file i)))) None)
        ∙ ap (λ rs. cond (is_left_with (lives v) (faded rows l) refs) (lease_record (taken (list_any (λ (ref : LeaseRef). lives v ref.owner) refs) k) rs) None) refs_left

  none_left : (name : LeaseName) → v.leases_of name ≡ [] → exact_lease w name ≡ None
  none_left name none = ap (lease_of w name) (settled_leases t rows name ∙ ap (λ ls. filter (lease_stays (λ file. true) mid) (map (lease_settles (λ file. true) mid) (map (faded rows) ls))) none)

-- ---- two tables, where the lease's record is the same, and those of its owners

module _ (setup : Setup) (s z : AllRecords) (t u : Table) (agree : AgreeWith setup s (view t)) (agree_other : AgreeWith setup z (view u)) (fine : IsFine setup t) (fine_other : IsFine setup u)
    (name : LeaseName) (same : SameLease s z name) where
  rows_of_name : (view t).leases_of name ≡ (view u).leases_of name
  rows_of_name = leases_same setup s z t u agree agree_other fine.sound fine_other.sound name same

  left_alike : (rows : List LeaseRow) → exact_lease (view (settle (expired rows t))) name ≡ exact_lease (view (settle (expired rows u))) name
  left_alike rows = by ((view t).leases_of name) refl
    where
      by : (ls : List LeaseRow) → (view t).leases_of name ≡ ls → exact_lease (view (settle (expired rows t))) name ≡ exact_lease (view (settle (expired rows u))) name
      by [] e = none_left t rows name e ∙ sym (none_left u rows name (sym rows_of_name ∙ e))
      by (l ∷ ls) e =
          let one : (view t).leases_of name ≡ l ∷ [] = single t fine.sound name l (subst (IsIn l) (sym e) (inl refl)) in
          let other : (view u).leases_of name ≡ l ∷ [] = sym rows_of_name ∙ one in
          record_left t rows name l one
          ∙ left_record_same (lives (view t)) (lives (view u)) (faded rows l) (map ref_of (opens_under (view t) name l.file)) (owners_live_same setup s z t u agree agree_other fine fine_other name same l one other)
          ∙ ap (left_record (lives (view u)) (faded rows l)) (refs_same setup s z t u agree agree_other fine fine_other name same l one other)
          ∙ sym (record_left u rows name l other)

  -- behind the leases that expire before a call, where they are the same
  pub lease_behind : (caller : Caller) (which : Call) → settle t ≡ t → settle u ≡ u → due (view t) caller.moment (look setup (view t) caller which) ≡ due (view u) caller.moment (look setup (view u) caller which)
      → exact_lease (view (behind_first setup caller which t)) name ≡ exact_lease (view (behind_first setup caller which u)) name
  unfolding expired_by
  lease_behind caller which settled settled_other rows =
      ap (λ (x : Table). exact_lease (view x) name) (settles_to (due (view t) caller.moment (look setup (view t) caller which)) t settled)
      ∙ left_alike (due (view t) caller.moment (look setup (view t) caller which))
      ∙ ap (λ ls. exact_lease (view (settle (expired ls u))) name) rows
      ∙ sym (ap (λ (x : Table). exact_lease (view x) name) (settles_to (due (view u) caller.moment (look setup (view u) caller which)) u settled_other))
