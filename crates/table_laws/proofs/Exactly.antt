-- The exact records of a sound table count whole.
use Rattle.std.proofs.Common.{◌≡◌, ℕ, Bool, true, false, cond, not, ◌==◌, ◌&&◌, ◌||◌, List, [], ◌∷◌, map, Option, Some, None, refl, sym, ap, ◌∙◌, subst, inl, inr}
use Rattle.std.specs.Prelude.{is_some}
use Rattle.std.specs.List.{list_any, IsDistinct}
use Rattle.std.specs.Option.{option_map_or, option_and_then}
use Rattle.std.proofs.lemmas.Bool.{and_parts, and_from, or_left, or_right, both_ways, eqb-true, eq-eqb}
use Rattle.sid_core.specs.declared.ids.Sid.{Sid}
use Rattle.sid_core.specs.declared.ids.OpenId.{OpenId}
use Rattle.sid_core.specs.declared.ids.LeaseName.{LeaseName}
use Rattle.sid_core.specs.Ids.{same_id, same_name}
use Rattle.sid_core.specs.Values.{has}
use Rattle.serial_table.specs.declared.rows.OpenRow.{OpenRow}
use Rattle.serial_table.specs.declared.rows.LeaseRow.{LeaseRow}
use Rattle.serial_table.specs.declared.rows.Breaking.{Breaking}
use Rattle.serial_table.specs.declared.table.Table.{Table}
use Rattle.serial_table.specs.View as table
use Rattle.serial_table.specs.View.{View, view, is_of_file, has_name, carries, leases_at}
use Rattle.serial_table.specs.Sound.{IsSound, has_its_lease, have_same_name, is_durable, lasts, may_stay, holds_handle, may_break, is_open_under}
use Rattle.serial_table.proofs.SameIds.{same_id-eq, same_id-refl, same_name-eq, same_name-refl}
use Rattle.serial_table.proofs.Members.{IsIn, each, any_of, one_of, in_filter, passes_in, mapped_in, in_map, distinct_filtered}
use Rattle.record_codec.specs.declared.lease_rec.LeaseRef.{LeaseRef}
use Rattle.record_codec.specs.declared.lease_rec.LeaseRec.{LeaseRec}
use Rattle.record_codec.specs.Counts.{Records, lives, is_connected, is_unanswered, settled_state, ref_counts, settled_lease, keeps, is_kept, entry_counts}
use Rattle.record_rows.specs.Rows.{entry_of, ref_of}
use Rattle.stored_table.specs.Exact.{is_empty, lease_with, lease_record, opens_under, lease_of, exact_lease}
use Rattle.table_laws.proofs.Settling.{is_left, stays_settled}

-- ---- parts of exact lease records

pub held_back : (l : LeaseRow) (b : Option Breaking) (refs : List LeaseRef) → (lease_with l b refs).held ≡ l.held
held_back l None refs = refl
held_back l (Some b) refs = refl

pub file_back : (l : LeaseRow) (b : Option Breaking) (refs : List LeaseRef) → (lease_with l b refs).file ≡ l.file
file_back l None refs = refl
file_back l (Some b) refs = refl

pub refs_back : (l : LeaseRow) (b : Option Breaking) (refs : List LeaseRef) → (lease_with l b refs).refs ≡ refs
refs_back l None refs = refl
refs_back l (Some b) refs = refl

breaks_back : (l : LeaseRow) (b : Option Breaking) (refs : List LeaseRef) → is_some b ≡ false → (lease_with l b refs).breaking ≡ false
breaks_back l None refs e = refl
breaks_back l (Some b) refs e = absurd cc

some_record : (l : LeaseRow) (refs : List LeaseRef) (ref : LeaseRef) → IsIn ref refs → lease_record l refs ≡ Some (lease_with l l.breaking refs)
some_record l [] ref i = absurd i
some_record l (x ∷ refs) ref i = refl

-- ---- one lease of a name

one_lease : (name : LeaseName) (ls : List LeaseRow) (l : LeaseRow) → IsDistinct have_same_name ls → ((x : LeaseRow) → IsIn x ls → x.name ≡ name) → IsIn l ls → ls ≡ l ∷ []
unfolding IsDistinct
one_lease name [] l d names i = absurd i
one_lease name (x ∷ []) l d names (inl e) = ap (λ y. y ∷ []) e
one_lease name (x ∷ []) l d names (inr i) = absurd i
one_lease name (x ∷ (y ∷ ls)) l d names i =
    absurd (both_ways (have_same_name x y) d.0.0
    ((λ j. same_name (names x (inl refl) j) (names y (inr (inl refl)) j)) ∙ same_name-refl name))

module _ (t : Table) (sound : IsSound t) where
  abbrev v : View
  v = view t

  named : (name : LeaseName) (l : LeaseRow) → IsIn l (v.leases_of name) → IsIn l t.leases × (l.name ≡ name)
  named name l i = let k = in_filter (has_name name) t.leases l i in (k.0, same_name-eq l.name name k.1)

  pub single : (name : LeaseName) (l : LeaseRow) → IsIn l (v.leases_of name) → v.leases_of name ≡ l ∷ []
  single name l i = one_lease name (v.leases_of name) l (distinct_filtered have_same_name (has_name name) t.leases sound.rows.leases_differ) (λ x j. (named name x j).1) i

  pub in_leases : (name : LeaseName) (l : LeaseRow) → IsIn l t.leases → l.name ≡ name → IsIn l (v.leases_of name)
  in_leases name l i e = passes_in (has_name name) t.leases l i (ap (λ n. same_name n name) e ∙ same_name-refl name)

  pub in_opens : (o : OpenRow) → IsIn o t.opens → IsIn o (v.opens_of o.file)
  in_opens o i = passes_in (is_of_file o.file) t.opens o i (eq-eqb o.file o.file refl)

  pub of_file : (g : ℕ) (o : OpenRow) → IsIn o (v.opens_of g) → IsIn o t.opens × (o.file ≡ g)
  of_file g o i = let k = in_filter (is_of_file g) t.opens o i in (k.0, eqb-true o.file g k.1)

  -- an open that is under the lease of the name
  pub record IsUnder (name : LeaseName) (l : LeaseRow) (o : OpenRow) : Type 0 where
    pub lease : IsIn l (v.leases_of name)
    pub row : IsIn o (v.opens_of l.file)
    pub carried : carries name o.lease ≡ true

  pub in_refs : (name : LeaseName) (l : LeaseRow) (o : OpenRow) → IsUnder name l o → IsIn (ref_of o) (map ref_of (opens_under v name l.file))
  in_refs name l o u = mapped_in ref_of (opens_under v name l.file) o (passes_in (λ x. carries name x.lease) (v.opens_of l.file) o u.row u.carried)

  pub exact_is : (name : LeaseName) (l : LeaseRow) (o : OpenRow) → IsUnder name l o → exact_lease v name ≡ Some (lease_with l l.breaking (map ref_of (opens_under v name l.file)))
  exact_is name l o u = ap (lease_of v name) (single name l u.lease) ∙ some_record l (map ref_of (opens_under v name l.file)) (ref_of o) (in_refs name l o u)

  -- Whatever settles to the exact lease record keeps the opens that are under the lease, where it holds HANDLE.
  pub kept_by_lease : (r : Records) (x : Option LeaseRec) (name : LeaseName) (l : LeaseRow) (o : OpenRow) → option_and_then (settled_lease r) x ≡ exact_lease v name → IsUnder name l o
      → has l.held.0 2 ≡ true → keeps r l.file o.id x ≡ true
  kept_by_lease r x name l o e u handle = by_record x (e ∙ exact_is name l o u)
    where
      by_record : (x : Option LeaseRec) → option_and_then (settled_lease r) x ≡ Some (lease_with l l.breaking (map ref_of (opens_under v name l.file))) → keeps r l.file o.id x ≡ true
      by_record None e = absurd cc
      by_record (Some raw) e =
          let left = is_left r raw (lease_with l l.breaking (map ref_of (opens_under v name l.file))) e in
          and_from ((raw.file == l.file) && list_any (λ ref. same_id ref.id o.id) raw.refs) (has (settled_state r raw).0 2)
          (and_from (raw.file == l.file) (list_any (λ ref. same_id ref.id o.id) raw.refs)
          (eq-eqb raw.file l.file (sym left.file ∙ file_back l l.breaking (map ref_of (opens_under v name l.file))))
          (any_of (λ ref. same_id ref.id o.id) raw.refs (ref_of o)
          (in_filter (ref_counts r raw) raw.refs (ref_of o)
          (subst (IsIn (ref_of o)) (sym (refs_back l l.breaking (map ref_of (opens_under v name l.file))) ∙ left.refs) (in_refs name l o u))).0
          (same_id-refl o.id)))
          (ap (λ (s : Rattle.sid_core.specs.declared.bits.LeaseState.LeaseState). has s.0 2) (sym left.held ∙ held_back l l.breaking (map ref_of (opens_under v name l.file))) ∙ handle)

  -- ---- opens that are disconnected

  durable_if : (o : OpenRow) → IsIn o t.opens → table.lives v o.owner ≡ false → is_durable o ≡ true
  durable_if o i dead = later (table.lives v o.owner) (is_durable o) dead (each (lasts v) t.opens sound.rows.opens_last o i)
    where
      later : (a b : Bool) → a ≡ false → (a || b) ≡ true → b ≡ true
      later false b d e = e
      later true b d e = absurd cc

  -- a disconnected open is under a lease that holds HANDLE
  pub record HasHandle (o : OpenRow) : Type 0 where
    pub name : LeaseName
    pub is : o.lease ≡ Some name
    pub row : LeaseRow
    pub lease : IsIn row (v.leases_of name)
    pub file : row.file ≡ o.file
    pub handle : has row.held.0 2 ≡ true

  handle_by : (o : OpenRow) (lease : Option LeaseName) → o.lease ≡ lease
      → option_map_or (λ name. list_any (λ l. (l.file == o.file) && (same_name l.name name && has l.held.0 2)) t.leases) lease false ≡ true → HasHandle o
  handle_by o None is e = absurd cc
  handle_by o (Some name) is e =
      let l = one_of (λ l. (l.file == o.file) && (same_name l.name name && has l.held.0 2)) t.leases e in
      let p = and_parts (l.0.file == o.file) (same_name l.0.name name && has l.0.held.0 2) l.2 in
      let q = and_parts (same_name l.0.name name) (has l.0.held.0 2) p.1 in
      record { name = name; is = is; row = l.0; lease = passes_in (has_name name) t.leases l.0 l.1 q.0; file = eqb-true l.0.file o.file p.0; handle = q.1 }

  pub has_handle : (o : OpenRow) → IsIn o t.opens → table.lives v o.owner ≡ false → HasHandle o
  has_handle o i dead = handle_by o o.lease refl (later (table.lives v o.owner) (holds_handle t.leases o) dead (each (may_stay t) t.opens sound.disconnected_hold_handle o i))
    where
      later : (a b : Bool) → a ≡ false → (a || b) ≡ true → b ≡ true
      later false b d e = e
      later true b d e = absurd cc

  under_handle : (o : OpenRow) → IsIn o t.opens → (h : HasHandle o) → IsUnder h.name h.row o
  under_handle o i h = record {
    lease = h.lease;
    row = subst (λ g. IsIn o (v.opens_of g)) (sym h.file) (in_opens o i);
    carried = ap (carries h.name) h.is ∙ same_name-refl h.name;
  }

  -- ---- all of an exact share mode record counts

  module _ (r : Records) (living : (sid : Sid) → lives r sid ≡ table.lives v sid) where
    pub entry_exact : ((name : LeaseName) → option_and_then (settled_lease r) (r.lease name) ≡ exact_lease v name) → (g : ℕ) (o : OpenRow) → IsIn o (v.opens_of g) → entry_counts r g (entry_of o) ≡ true
    entry_exact leases g o i = by_owner (table.lives v o.owner) refl
      where
        by_owner : (b : Bool) → table.lives v o.owner ≡ b → entry_counts r g (entry_of o) ≡ true
        by_owner true e = or_left (lives r o.owner) _ (living o.owner ∙ e)
        by_owner false e =
            let row = of_file g o i in
            let h = has_handle o row.0 e in
            or_right (lives r o.owner) (not (o.durable == 0) && is_kept r g o.id o.lease)
            (and_from (not (o.durable == 0)) (is_kept r g o.id o.lease) (durable_if o row.0 e)
            (ap (is_kept r g o.id) h.is
            ∙ ap (λ f. keeps r f o.id (r.lease h.name)) (sym (h.file ∙ row.1))
            ∙ kept_by_lease r (r.lease h.name) h.name h.row o (leases h.name) (under_handle o row.0 h) h.handle))

    -- ---- exact lease records are settled

    module _ (name : LeaseName) (l : LeaseRow) (within : IsIn l (v.leases_of name)) where
      abbrev refs : List LeaseRef
      refs = map ref_of (opens_under v name l.file)

      abbrev whole : LeaseRec
      whole = lease_with l l.breaking refs

      own_name : l.name ≡ name
      own_name = (named name l within).1

      connected : list_any (λ o. is_open_under l o && table.lives v o.owner) t.opens ≡ true → list_any (is_connected r) refs ≡ true
      connected e =
          let o = one_of (λ o. is_open_under l o && table.lives v o.owner) t.opens e in
          let p = and_parts (is_open_under l o.0) (table.lives v o.0.owner) o.2 in
          let q = and_parts (o.0.file == l.file) (carries l.name o.0.lease) p.0 in
          any_of (is_connected r) refs (ref_of o.0)
          (in_refs name l o.0 (record {
            lease = within;
            row = passes_in (is_of_file l.file) t.opens o.0 o.1 q.0;
            carried = ap (λ n. carries n o.0.lease) (sym own_name) ∙ q.1;
          }))
          (living o.0.owner ∙ p.1)

      answered_by : (b : Bool) → is_some l.breaking ≡ b → is_unanswered r whole ≡ false
      answered_by false e = ap (λ x. x && not (list_any (is_connected r) whole.refs)) (breaks_back l l.breaking refs e)
      answered_by true e =
          let any = connected (later (is_some l.breaking) _ e (each (may_break t) t.leases sound.breaking_are_connected l (named name l within).0)) in
          ap (λ rs. whole.breaking && not (list_any (is_connected r) rs)) (refs_back l l.breaking refs)
          ∙ ap (λ x. whole.breaking && not x) any ∙ none whole.breaking
        where
          later : (a b : Bool) → a ≡ true → (not a || b) ≡ true → b ≡ true
          later true b d e = e
          later false b d e = absurd cc

          none : (b : Bool) → (b && false) ≡ false
          none true = refl
          none false = refl

      pub answered : is_unanswered r whole ≡ false
      answered = answered_by (is_some l.breaking) refl

      pub state_held : settled_state r whole ≡ l.held
      state_held = ap (λ b. cond b whole.needed whole.held) answered ∙ held_back l l.breaking refs

      ref_exact : (o : OpenRow) → IsIn o (v.opens_of l.file) → carries name o.lease ≡ true → ref_counts r whole (ref_of o) ≡ true
      ref_exact o i e = by_owner (table.lives v o.owner) refl
        where
          first_is : (a b : LeaseRow) → ◌≡◌ {A = List LeaseRow} (a ∷ []) (b ∷ []) → a ≡ b
          first_is a b e = cc

          by_owner : (b : Bool) → table.lives v o.owner ≡ b → ref_counts r whole (ref_of o) ≡ true
          by_owner true d = or_left (lives r o.owner) _ (living o.owner ∙ d)
          by_owner false d =
              let row = of_file l.file o i in
              let h = has_handle o row.0 d in
              let same : h.name ≡ name = same_name-eq h.name name (ap (carries name) (sym h.is) ∙ e) in
              let one : h.row ≡ l = first_is h.row l (sym (single name h.row (subst (λ n. IsIn h.row (v.leases_of n)) same h.lease)) ∙ single name l within) in
              or_right (lives r o.owner) (not (o.durable == 0) && has (settled_state r whole).0 2)
              (and_from (not (o.durable == 0)) (has (settled_state r whole).0 2) (durable_if o row.0 d)
              (ap (λ (s : Rattle.sid_core.specs.declared.bits.LeaseState.LeaseState). has s.0 2) (state_held ∙ ap (λ (x : LeaseRow). x.held) (sym one)) ∙ h.handle))

      whole_settled : is_empty refs ≡ false → settled_lease r whole ≡ Some whole
      whole_settled some =
          stays_settled r whole answered
          (λ ref i.
          let o = in_map ref_of (opens_under v name l.file) ref (subst (IsIn ref) (refs_back l l.breaking refs) i) in
          let k = in_filter (λ x. carries name x.lease) (v.opens_of l.file) o.0 o.1 in
          subst (λ x. ref_counts r whole x ≡ true) o.2 (ref_exact o.0 k.0 k.1))
          (ap is_empty (refs_back l l.breaking refs) ∙ some)

    settled_record : (l : LeaseRow) (rs : List LeaseRef) → (is_empty rs ≡ false → settled_lease r (lease_with l l.breaking rs) ≡ Some (lease_with l l.breaking rs))
        → option_and_then (settled_lease r) (lease_record l rs) ≡ lease_record l rs
    settled_record l [] h = refl
    settled_record l (ref ∷ rs) h = h refl

    by_leases : (name : LeaseName) (ls : List LeaseRow) → ((l : LeaseRow) → IsIn l ls → IsIn l (v.leases_of name)) → option_and_then (settled_lease r) (lease_of v name ls) ≡ lease_of v name ls
    by_leases name [] h = refl
    by_leases name (l ∷ ls) h = settled_record l (map ref_of (opens_under v name l.file)) (whole_settled name l (h l (inl refl)))

    pub exact_settled : (name : LeaseName) → option_and_then (settled_lease r) (exact_lease v name) ≡ exact_lease v name
    exact_settled name = by_leases name (v.leases_of name) (λ l i. i)

  -- ---- which opens the exact lease records keep

  -- what an exact lease record keeps is under the lease, which holds HANDLE
  pub record IsKeptBy (name : LeaseName) (g : ℕ) (id : OpenId) : Type 0 where
    pub row : LeaseRow
    pub open_row : OpenRow
    pub under : IsUnder name row open_row
    pub file : row.file ≡ g
    pub handle : has row.held.0 2 ≡ true
    pub same : open_row.id ≡ id

  module _ (r : Records) (living : (sid : Sid) → lives r sid ≡ table.lives v sid) (name : LeaseName) (g : ℕ) (id : OpenId) where
    shown_record : (l : LeaseRow) (rs : List LeaseRef) → keeps r g id (lease_record l rs) ≡ true → keeps r g id (Some (lease_with l l.breaking rs)) ≡ true
    shown_record l [] e = absurd cc
    shown_record l (ref ∷ rs) e = e

    kept_of : (l : LeaseRow) (within : IsIn l (v.leases_of name)) → keeps r g id (Some (lease_with l l.breaking (map ref_of (opens_under v name l.file)))) ≡ true → IsKeptBy name g id
    kept_of l within e =
        let refs = map ref_of (opens_under v name l.file) in
        let raw = lease_with l l.breaking refs in
        let p = and_parts ((raw.file == g) && list_any (λ ref. same_id ref.id id) raw.refs) (has (settled_state r raw).0 2) e in
        let q = and_parts (raw.file == g) (list_any (λ ref. same_id ref.id id) raw.refs) p.0 in
        let ref = one_of (λ ref. same_id ref.id id) refs (ap (list_any (λ (ref : LeaseRef). same_id ref.id id)) (sym (refs_back l l.breaking refs)) ∙ q.1) in
        let o = in_map ref_of (opens_under v name l.file) ref.0 ref.1 in
        let k = in_filter (λ x. carries name x.lease) (v.opens_of l.file) o.0 o.1 in
        record {
          row = l;
          open_row = o.0;
          under = record { lease = within; row = k.0; carried = k.1 };
          file = sym (file_back l l.breaking refs) ∙ eqb-true raw.file g q.0;
          handle = ap (λ (s : Rattle.sid_core.specs.declared.bits.LeaseState.LeaseState). has s.0 2) (sym (state_held r living name l within)) ∙ p.1;
          same = same_id-eq o.0.id id (ap (λ (x : LeaseRef). same_id x.id id) o.2 ∙ ref.2);
        }

    kept_among : (ls : List LeaseRow) → ((l : LeaseRow) → IsIn l ls → IsIn l (v.leases_of name)) → keeps r g id (lease_of v name ls) ≡ true → IsKeptBy name g id
    kept_among [] h e = absurd cc
    kept_among (l ∷ ls) h e = kept_of l (h l (inl refl)) (shown_record l (map ref_of (opens_under v name l.file)) e)

    pub kept_by : keeps r g id (exact_lease v name) ≡ true → IsKeptBy name g id
    kept_by e = kept_among (v.leases_of name) (λ l i. i) e

  -- the lease that an open carries, of its file
  pub lease_row_of : (o : OpenRow) (name : LeaseName) → IsIn o t.opens → o.lease ≡ Some name → (l : LeaseRow) × IsIn l (v.leases_of name) × (l.file ≡ o.file)
  lease_row_of o name i is =
      let own = one_of (λ x. (x.file == o.file) && same_name x.name name) t.leases
      (ap (λ lease. option_map_or (λ n. list_any (λ x. (x.file == o.file) && same_name x.name n) t.leases) lease true) (sym is) ∙ each (has_its_lease t.leases) t.opens sound.rows.opens_have_leases o i) in
      let p = and_parts (own.0.file == o.file) (same_name own.0.name name) own.2 in
      (own.0, passes_in (has_name name) t.leases own.0 own.1 p.1, eqb-true own.0.file o.file p.0)
