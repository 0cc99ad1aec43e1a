-- Opens that go one after another are those that go by the leases before.
use Rattle.std.proofs.Common.{◌≡◌, ◌&&◌, ◌||◌, ◌==◌, not, ℕ, ◌+◌, Bool, true, false, cond, List, [], ◌∷◌, length, filter, map, Option, Some, None, refl, ap, sym, ◌∙◌, arith}
use Rattle.std.proofs.Math.Bool.{and-false}
use Rattle.std.specs.Prelude.{nat_le, find}
use Rattle.std.specs.List.{list_any, AllByRecursion, IsDistinct}
use Rattle.std.specs.Option.{option_map, option_map_or}
use Rattle.std.specs.Ordering.{nat_cmp}
use Rattle.std.specs.FinMap as finmap
use Rattle.std.specs.FinMap.{FinMap}
use Rattle.std.proofs.lemmas.Bool.{and_parts, and_from, false≢true}
use Rattle.std.proofs.lemmas.List.{length-map}
use Rattle.std.proofs.lemmas.List.Filters.{length-filter_both}
use Rattle.sid_core.specs.declared.ids.OpenId.{OpenId}
use Rattle.sid_core.specs.declared.ids.LeaseName.{LeaseName}
use Rattle.sid_core.specs.declared.ids.Moment.{Moment}
use Rattle.sid_core.specs.Ids.{same_id, same_sid}
use Rattle.sid_core.specs.Values.{has}
use Rattle.serial_table.specs.declared.rows.OpenRow.{OpenRow}
use Rattle.serial_table.specs.declared.rows.WorkerRow.{WorkerRow}
use Rattle.serial_table.specs.View as table
use Rattle.serial_table.specs.View.{View, carries}
use Rattle.serial_table.specs.Durable.{deadline, is_expired}
use Rattle.serial_table.proofs.SameIds.{same_id-eq, same_name-eq}
use Rattle.record_codec.specs.declared.share_rec.ShareEntry.{ShareEntry}
use Rattle.record_codec.specs.declared.lease_rec.LeaseRec.{LeaseRec}
use Rattle.record_codec.specs.declared.register_rec.RegisterRec.{RegisterRec}
use Rattle.record_codec.specs.Counts.{is_connected, settled_state, keeps, is_kept, entry_counts}
use Rattle.server_ids.specs.Sessions.{registered}
use Rattle.leases_db.specs.Refs.{is_of, without}
use Rattle.leases_db.proofs.Lists.{any_of_filter, filter_of_map, filter_of_filter}
use Rattle.record_rows.specs.Rows.{open_row}
use Rattle.durable_open.specs.Deadlines.{ShowsSessions, sessions_of}
use Rattle.durable_open.specs.Keeping.{is_kept_by}
use Rattle.durable_open.specs.Naming.{recorded}
use Rattle.durable_open.specs.Sweep.{is_kept_at, is_kept_among, has_expired, goes, once_gone, after_one, kept_of, has_living_ref, is_held_on, Agree, ShowsOpens}
use Rattle.durable_open.proofs.Reconnects.{lives_by}

-- ---- lists

neither : (a b : Bool) → (a || b) ≡ false → (a ≡ false) × (b ≡ false)
neither true b e = absurd cc
neither false b e = (refl, e)

beside : (a b : Bool) → (a && b) ≡ false → (not a && b) ≡ b
beside true b e = sym e
beside false b e = refl

module _ {X : Type 0} where
  any_alike : (p q : X → Bool) → ((x : X) → p x ≡ q x) → (xs : List X) → list_any p xs ≡ list_any q xs
  any_alike p q h xs = ap (λ (f : X → Bool). list_any f xs) (λ i x. h x i)

  any_beside : (p q : X → Bool) (xs : List X) → list_any (λ x. p x && q x) xs ≡ false → list_any (λ x. not (p x) && q x) xs ≡ list_any q xs
  any_beside p q [] e = refl
  any_beside p q (x ∷ xs) e =
      let parts : ((p x && q x) ≡ false) × (list_any (λ x. p x && q x) xs ≡ false) = neither (p x && q x) (list_any (λ x. p x && q x) xs) e in
      λ i. beside (p x) (q x) parts.0 i || any_beside p q xs parts.1 i

  never : (xs : List X) → list_any (λ x. false) xs ≡ false
  never [] = refl
  never (x ∷ xs) = never xs

  fewer_at : (p : X → Bool) (b : Bool) (x : X) (ys : List X) → p x ≡ false → list_any p ys ≡ false → list_any p (cond b (x ∷ ys) ys) ≡ false
  fewer_at p true x ys e none = ap (λ c. c || list_any p ys) e ∙ none
  fewer_at p false x ys e none = none

  none_of_fewer : (p q : X → Bool) (xs : List X) → list_any p xs ≡ false → list_any p (filter q xs) ≡ false
  none_of_fewer p q [] e = refl
  none_of_fewer p q (x ∷ xs) e =
      let parts : (p x ≡ false) × (list_any p xs ≡ false) = neither (p x) (list_any p xs) e in
      fewer_at p (q x) x (filter q xs) parts.0 (none_of_fewer p q xs parts.1)

  alike_on : (p q : X → Bool) (xs : List X) → AllByRecursion (λ x. p x ≡ q x) xs → filter p xs ≡ filter q xs
  alike_on p q [] all = refl
  alike_on p q (x ∷ xs) all = λ i. cond (all.0 i) (x ∷ alike_on p q xs all.1 i) (alike_on p q xs all.1 i)

  each_of : (P Q : X → Type 0) → ((x : X) → P x → Q x) → (xs : List X) → AllByRecursion P xs → AllByRecursion Q xs
  each_of P Q h [] all = tt
  each_of P Q h (x ∷ xs) all = (h x all.0, each_of P Q h xs all.1)

  turned : (b : Bool) (x : X) (ks fs : List X) → ks ≡ fs → cond b ks (x ∷ ks) ≡ cond (not b) (x ∷ fs) fs
  turned true x ks fs e = e
  turned false x ks fs e = ap (λ ys. x ∷ ys) e

  -- what is said of those that pass is said of each that does
  of_passing_at : (P : X → Type 0) (q : X → Bool) (x : X) (xs : List X) (b : Bool) → q x ≡ b → AllByRecursion P (cond b (x ∷ filter q xs) (filter q xs))
      → (AllByRecursion P (filter q xs) → AllByRecursion (λ x. q x ≡ true → P x) xs) → AllByRecursion (λ x. q x ≡ true → P x) (x ∷ xs)
  of_passing_at P q x xs true e all rest = (λ _. all.0, rest all.1)
  of_passing_at P q x xs false e all rest = (λ h. absurd (false≢true (sym e ∙ h)), rest all)

  of_passing : (P : X → Type 0) (q : X → Bool) (xs : List X) → AllByRecursion P (filter q xs) → AllByRecursion (λ x. q x ≡ true → P x) xs
  of_passing P q [] all = tt
  of_passing P q (x ∷ xs) all = of_passing_at P q x xs (q x) refl all (of_passing P q xs)

-- ---- ids

other_id : (r a b : OpenId) (x y : Bool) → same_id a b ≡ false → same_id r a ≡ x → same_id r b ≡ y → (not x && y) ≡ y
other_id r a b true true h ex ey = absurd (false≢true (sym h ∙ (ap (λ z. same_id z b) (sym (same_id-eq r a ex)) ∙ ey)))
other_id r a b true false h ex ey = refl
other_id r a b false y h ex ey = refl

not_both : (s : Bool) → (not s && s) ≡ false
not_both true = refl
not_both false = refl

module _ (register : FinMap nat_cmp RegisterRec) (file : ℕ) (now : Moment) where
  -- ---- a lease without the reference to another open

  state_same : (id : OpenId) (rec : LeaseRec) → has_living_ref register id rec ≡ false → settled_state (registered register) (without id rec) ≡ settled_state (registered register) rec
  state_same id rec none =
      ap (λ b. cond (rec.breaking && not b) rec.needed rec.held)
      (any_of_filter (is_connected (registered register)) (λ ref. not (is_of id ref)) rec.refs ∙ any_beside (is_of id) (is_connected (registered register)) rec.refs none)

  kept_same : (id : OpenId) (rec : LeaseRec) (e : ShareEntry) → has_living_ref register id rec ≡ false → same_id id e.id ≡ false → is_kept_by register (without id rec) file e ≡ is_kept_by register rec file e
  kept_same id rec e none other =
      let refs : list_any (λ ref. same_id ref.id e.id) (without id rec).refs ≡ list_any (λ ref. same_id ref.id e.id) rec.refs =
      any_of_filter (λ ref. same_id ref.id e.id) (λ ref. not (is_of id ref)) rec.refs
      ∙ any_alike (λ ref. not (is_of id ref) && same_id ref.id e.id) (λ ref. same_id ref.id e.id) (λ ref. other_id ref.id id e.id (same_id ref.id id) (same_id ref.id e.id) other refl refl) rec.refs in
      λ i. not (e.durable == 0) && ((rec.file == file) && refs i && has (state_same id rec none i).0 2)

  lacking : (d f h : Bool) → (d && (f && false && h)) ≡ false
  lacking true true h = refl
  lacking true false h = refl
  lacking false f h = refl

  kept_none : (id : OpenId) (rec : LeaseRec) (e : ShareEntry) → same_id id e.id ≡ true → is_kept_by register (without id rec) file e ≡ false
  kept_none id rec e same =
      let refs : list_any (λ ref. same_id ref.id e.id) (without id rec).refs ≡ false =
      any_of_filter (λ ref. same_id ref.id e.id) (λ ref. not (is_of id ref)) rec.refs
      ∙ any_alike (λ ref. not (is_of id ref) && same_id ref.id e.id) (λ ref. false) (λ ref. ap (λ z. not (same_id ref.id z) && same_id ref.id e.id) (same_id-eq id e.id same) ∙ not_both (same_id ref.id e.id)) rec.refs
      ∙ never rec.refs in
      ap (λ b. not (e.durable == 0) && ((rec.file == file) && b && has (settled_state (registered register) (without id rec)).0 2)) refs ∙ lacking (not (e.durable == 0)) (rec.file == file) _

  -- ---- the leases after one open

  at_lease : (f : Option LeaseRec → Bool) (L : LeaseName → Option LeaseRec) (n : LeaseName) (o : Option LeaseName) (l : Option LeaseRec) → carries n o ≡ true → L n ≡ l → option_map_or (λ name. f (L name)) o false ≡ f l
  at_lease f L n None l h has = absurd cc
  at_lease f L n (Some own) l h has = ap (λ m. f (L m)) (same_name-eq own n h) ∙ ap f has

  by_test : (L : LeaseName → Option LeaseRec) (d e : ShareEntry) (n : LeaseName) (rec : LeaseRec) (c s : Bool) → L n ≡ Some rec → (has_expired register file now d && (carries n d.lease && is_kept_by register rec file d)) ≡ c → same_id d.id e.id ≡ s
      → (goes register file now L d ≡ true → is_held_on register L d ≡ false) → (goes register file now L d ≡ true → same_id d.id e.id ≡ true → (has_expired register file now e && is_kept_by register rec file e) ≡ false)
      → (has_expired register file now e && is_kept_by register (cond c (without d.id rec) rec) file e) ≡ (has_expired register file now e && is_kept_by register rec file e)
  by_test L d e n rec false s at is same ended differ = refl
  by_test L d e n rec true s at is same ended differ =
      let parts = and_parts (has_expired register file now d) (carries n d.lease && is_kept_by register rec file d) is in
      let more = and_parts (carries n d.lease) (is_kept_by register rec file d) parts.1 in
      let gone : goes register file now L d ≡ true = and_from (has_expired register file now d) (is_kept_among register L file d) parts.0 (at_lease (λ l. is_kept_at register l file d) L n d.lease (Some rec) more.0 at ∙ more.1) in
      let none : has_living_ref register d.id rec ≡ false = sym (at_lease (λ l. option_map_or (has_living_ref register d.id) l false) L n d.lease (Some rec) more.0 at) ∙ ended gone in
      by_id s same gone none differ
    where
      by_id : (t : Bool) → same_id d.id e.id ≡ t → goes register file now L d ≡ true → has_living_ref register d.id rec ≡ false
          → (goes register file now L d ≡ true → same_id d.id e.id ≡ true → (has_expired register file now e && is_kept_by register rec file e) ≡ false)
          → (has_expired register file now e && is_kept_by register (without d.id rec) file e) ≡ (has_expired register file now e && is_kept_by register rec file e)
      by_id true same gone none differ = ap (λ b. has_expired register file now e && b) (kept_none d.id rec e same) ∙ and-false (has_expired register file now e) ∙ sym (differ gone same)
      by_id false same gone none differ = ap (λ b. has_expired register file now e && b) (kept_same d.id rec e none same)

  by_record : (L : LeaseName → Option LeaseRec) (d e : ShareEntry) (n : LeaseName) (l : Option LeaseRec) → L n ≡ l
      → (goes register file now L d ≡ true → is_held_on register L d ≡ false) → (goes register file now L d ≡ true → same_id d.id e.id ≡ true → (has_expired register file now e && is_kept_at register l file e) ≡ false)
      → (has_expired register file now e && is_kept_at register (option_map (once_gone register file now d n) l) file e) ≡ (has_expired register file now e && is_kept_at register l file e)
  by_record L d e n None at ended differ = refl
  by_record L d e n (Some rec) at ended differ = by_test L d e n rec (has_expired register file now d && (carries n d.lease && is_kept_by register rec file d)) (same_id d.id e.id) at refl refl ended differ

  by_name : (L : LeaseName → Option LeaseRec) (d e : ShareEntry) (o : Option LeaseName)
      → (goes register file now L d ≡ true → is_held_on register L d ≡ false) → (goes register file now L d ≡ true → same_id d.id e.id ≡ true → (has_expired register file now e && option_map_or (λ name. is_kept_at register (L name) file e) o false) ≡ false)
      → (has_expired register file now e && option_map_or (λ name. is_kept_at register (after_one register file now d L name) file e) o false) ≡ (has_expired register file now e && option_map_or (λ name. is_kept_at register (L name) file e) o false)
  by_name L d e None ended differ = refl
  by_name L d e (Some n) ended differ = by_record L d e n (L n) refl ended differ

  -- what goes, goes also after another
  goes_still : (L : LeaseName → Option LeaseRec) (d e : ShareEntry) → (goes register file now L d ≡ true → is_held_on register L d ≡ false) → (goes register file now L d ≡ true → same_id d.id e.id ≡ true → goes register file now L e ≡ false)
      → goes register file now (after_one register file now d L) e ≡ goes register file now L e
  goes_still L d e ended differ = by_name L d e e.lease ended differ

  -- ---- no reference comes

  ref_at : (id : OpenId) (c : Bool) (d : ShareEntry) (rec : LeaseRec) → has_living_ref register id rec ≡ false → has_living_ref register id (cond c (without d.id rec) rec) ≡ false
  ref_at id true d rec none = none_of_fewer (λ ref. is_of id ref && is_connected (registered register) ref) (λ ref. not (is_of d.id ref)) rec.refs none
  ref_at id false d rec none = none

  refs_at : (d e : ShareEntry) (n : LeaseName) (l : Option LeaseRec) → option_map_or (has_living_ref register e.id) l false ≡ false → option_map_or (has_living_ref register e.id) (option_map (once_gone register file now d n) l) false ≡ false
  refs_at d e n None none = refl
  refs_at d e n (Some rec) none = ref_at e.id (has_expired register file now d && (carries n d.lease && is_kept_by register rec file d)) d rec none

  refs_by : (L : LeaseName → Option LeaseRec) (d e : ShareEntry) (o : Option LeaseName) → option_map_or (λ name. option_map_or (has_living_ref register e.id) (L name) false) o false ≡ false
      → option_map_or (λ name. option_map_or (has_living_ref register e.id) (after_one register file now d L name) false) o false ≡ false
  refs_by L d e None none = refl
  refs_by L d e (Some n) none = refs_at d e n (L n) none

  -- ---- one after another

  abbrev Apart : (LeaseName → Option LeaseRec) → List ShareEntry → Type 0
  Apart L [] = Unit {0}
  Apart L (e ∷ es) = (goes register file now L e ≡ true → AllByRecursion (λ f. same_id e.id f.id ≡ true → goes register file now L f ≡ false) es) × (goes register file now L e ≡ true → is_held_on register L e ≡ false) × Apart L es

  same_after : (L : LeaseName → Option LeaseRec) (d : ShareEntry) (es : List ShareEntry) → (goes register file now L d ≡ true → AllByRecursion (λ f. same_id d.id f.id ≡ true → goes register file now L f ≡ false) es)
      → (goes register file now L d ≡ true → is_held_on register L d ≡ false) → AllByRecursion (λ e. goes register file now (after_one register file now d L) e ≡ goes register file now L e) es
  same_after L d [] differ ended = tt
  same_after L d (e ∷ es) differ ended = (goes_still L d e ended (λ g. (differ g).0), same_after L d es (λ g. (differ g).1) ended)

  differ_after : (L : LeaseName → Option LeaseRec) (d e : ShareEntry) (es : List ShareEntry) → AllByRecursion (λ f. goes register file now (after_one register file now d L) f ≡ goes register file now L f) es
      → AllByRecursion (λ f. same_id e.id f.id ≡ true → goes register file now L f ≡ false) es → AllByRecursion (λ f. same_id e.id f.id ≡ true → goes register file now (after_one register file now d L) f ≡ false) es
  differ_after L d e [] same differ = tt
  differ_after L d e (f ∷ es) same differ = (λ h. same.0 ∙ differ.0 h, differ_after L d e es same.1 differ.1)

  apart_after : (L : LeaseName → Option LeaseRec) (d : ShareEntry) (es : List ShareEntry) → AllByRecursion (λ f. goes register file now (after_one register file now d L) f ≡ goes register file now L f) es → Apart L es → Apart (after_one register file now d L) es
  apart_after L d [] same apart = tt
  apart_after L d (e ∷ es) same apart =
      (λ g. differ_after L d e es same.1 (apart.0 (sym same.0 ∙ g)), λ g. refs_by L d e e.lease (apart.1 (sym same.0 ∙ g)), apart_after L d es same.1 apart.2)

  left_over : (L : LeaseName → Option LeaseRec) (es : List ShareEntry) → Apart L es → kept_of register file now L es ≡ filter (λ e. not (goes register file now L e)) es
  left_over L [] apart = refl
  left_over L (e ∷ es) apart =
      let same : AllByRecursion (λ f. goes register file now (after_one register file now e L) f ≡ goes register file now L f) es = same_after L e es apart.0 apart.1 in
      turned (goes register file now L e) e (kept_of register file now (after_one register file now e L) es) (filter (λ f. not (goes register file now L f)) es)
      (left_over (after_one register file now e L) es (apart_after L e es same apart.2)
      ∙ alike_on (λ f. not (goes register file now (after_one register file now e L) f)) (λ f. not (goes register file now L f)) es (each_of _ _ (λ f h. ap not h) es same))

  held_parts : (g h : Bool) → (g && h) ≡ false → g ≡ true → h ≡ false
  held_parts true h e t = e
  held_parts false h e t = absurd cc

  distinct_at : (L : LeaseName → Option LeaseRec) (e : ShareEntry) (es : List ShareEntry) (b : Bool) → goes register file now L e ≡ b
      → IsDistinct (λ (a c : ShareEntry). same_id a.id c.id) (cond b (e ∷ filter (goes register file now L) es) (filter (goes register file now L) es))
      → (goes register file now L e ≡ true → AllByRecursion (λ f. goes register file now L f ≡ true → same_id e.id f.id ≡ false) es) × IsDistinct (λ (a c : ShareEntry). same_id a.id c.id) (filter (goes register file now L) es)
  unfolding IsDistinct
  distinct_at L e es true is d = (λ _. of_passing (λ f. same_id e.id f.id ≡ false) (goes register file now L) es d.0, d.1)
  distinct_at L e es false is d = (λ g. absurd (false≢true (sym is ∙ g)), d)

  swapped : (g s : Bool) → (g ≡ true → s ≡ false) → s ≡ true → g ≡ false
  swapped true s h t = absurd (false≢true (sym (h refl) ∙ t))
  swapped false s h t = refl

  apart : (L : LeaseName → Option LeaseRec) (es : List ShareEntry) → IsDistinct (λ (a c : ShareEntry). same_id a.id c.id) (filter (goes register file now L) es) → list_any (λ e. goes register file now L e && is_held_on register L e) es ≡ false → Apart L es
  apart L [] d none = tt
  apart L (e ∷ es) d none =
      let parts = neither (goes register file now L e && is_held_on register L e) (list_any (λ e. goes register file now L e && is_held_on register L e) es) none in
      let ids = distinct_at L e es (goes register file now L e) refl d in (
        λ g. each_of (λ f. goes register file now L f ≡ true → same_id e.id f.id ≡ false) (λ f. same_id e.id f.id ≡ true → goes register file now L f ≡ false) (λ f h. swapped (goes register file now L f) (same_id e.id f.id) h) es (ids.0 g),
        held_parts (goes register file now L e) (is_held_on register L e) parts.0,
        apart L es ids.1 parts.1,
      )

  pub left_are : (L : LeaseName → Option LeaseRec) (es : List ShareEntry) → Agree register file now L es → kept_of register file now L es ≡ filter (λ e. not (goes register file now L e)) es
  left_are L es agree = left_over L es (apart L es agree.ids_differ agree.refs_ended)

  -- ---- what the table has

  kept_at_split : (L : LeaseName → Option LeaseRec) (e : ShareEntry) (l : Option LeaseRec) → is_kept_at register l file e ≡ (not (e.durable == 0) && keeps (recorded register L) file e.id l)
  kept_at_split L e None = sym (and-false (not (e.durable == 0)))
  kept_at_split L e (Some rec) = refl

  kept_split : (L : LeaseName → Option LeaseRec) (e : ShareEntry) (o : Option LeaseName) → option_map_or (λ name. is_kept_at register (L name) file e) o false ≡ (not (e.durable == 0) && is_kept (recorded register L) file e.id o)
  kept_split L e None = sym (and-false (not (e.durable == 0)))
  kept_split L e (Some n) = kept_at_split L e (L n)

  counted_law : (l d u : Bool) → ((not l && d) && u) ≡ ((l || u) && (not l && d))
  counted_law true d u = refl
  counted_law false true true = refl
  counted_law false true false = refl
  counted_law false false true = refl
  counted_law false false false = refl

  goes_is : (L : LeaseName → Option LeaseRec) (e : ShareEntry) → goes register file now L e ≡ (entry_counts (recorded register L) file e && has_expired register file now e)
  goes_is L e =
      ap (λ b. has_expired register file now e && b) (kept_split L e e.lease)
      ∙ counted_law (table.lives (sessions_of register) e.owner) (option_map_or (λ last. nat_le last now.0) (deadline (sessions_of register) (open_row file e)) false) (not (e.durable == 0) && is_kept (recorded register L) file e.id e.lease)
      ∙ ap (λ b. (b || (not (e.durable == 0) && is_kept (recorded register L) file e.id e.lease)) && has_expired register file now e) (lives_by e.owner.pid e.owner.session (finmap.get register e.owner.pid))

  expired_same : (v : View) (o : OpenRow) → ShowsSessions register v o.owner.pid → is_expired v now o ≡ is_expired (sessions_of register) now o
  expired_same v o shows = λ i.
      not (option_map_or (λ (w : WorkerRow). w.alive && (w.session == o.owner.session)) (shows.worker i) false)
      && option_map_or (λ last. nat_le last now.0) (option_map (λ ended. ended.moment.0 + o.durable) (find (λ ended. same_sid ended.sid o.owner) (shows.ended i))) false

  pub rows_that_go : (L : LeaseName → Option LeaseRec) (es : List ShareEntry) (v : View) → ShowsOpens register file L es v → filter (is_expired v now) (v.opens_of file) ≡ map (open_row file) (filter (goes register file now L) es)
  rows_that_go L es v shows =
      ap (filter (is_expired v now)) shows.opens_are
      ∙ filter_of_map (is_expired v now) (open_row file) (filter (entry_counts (recorded register L) file) es)
      ∙ ap (map (open_row file)) (filter_of_filter (λ e. is_expired v now (open_row file e)) (entry_counts (recorded register L) file) es
      ∙ alike_on (λ e. entry_counts (recorded register L) file e && is_expired v now (open_row file e)) (goes register file now L) es
      (each_of (λ (e : ShareEntry). ShowsSessions register v e.owner.pid) (λ e. (entry_counts (recorded register L) file e && is_expired v now (open_row file e)) ≡ goes register file now L e)
      (λ e h. ap (λ b. entry_counts (recorded register L) file e && b) (expired_same v (open_row file e) h) ∙ sym (goes_is L e)) es shows.sessions_shown))

  pub count_is : (L : LeaseName → Option LeaseRec) (es : List ShareEntry) (v : View) (count : ℕ) → Agree register file now L es → ShowsOpens register file L es v → count + length (kept_of register file now L es) ≡ length es
      → count ≡ length (filter (is_expired v now) (v.opens_of file))
  count_is L es v count agree shows e =
      let kept : length (kept_of register file now L es) ≡ length (filter (λ e. not (goes register file now L e)) es) = ap length (left_are L es agree) in
      let both : length (filter (goes register file now L) es) + length (filter (λ e. not (goes register file now L e)) es) ≡ length es = length-filter_both (goes register file now L) (λ e. not (goes register file now L e)) (λ e. refl) es in
      let n : count ≡ length (filter (goes register file now L) es) = omega (arith, kept, both, e) in
      n ∙ sym (ap length (rows_that_go L es v shows) ∙ length-map (filter (goes register file now L) es) (open_row file))

  stays_law : (c x : Bool) → (not (c && x) && c) ≡ (c && not x)
  stays_law true true = refl
  stays_law true false = refl
  stays_law false x = refl

  pub rows_that_stay : (L : LeaseName → Option LeaseRec) (es : List ShareEntry) (v : View) → Agree register file now L es → ShowsOpens register file L es v
      → map (open_row file) (filter (entry_counts (recorded register L) file) (kept_of register file now L es)) ≡ filter (λ o. not (is_expired v now o)) (v.opens_of file)
  rows_that_stay L es v agree shows =
      ap (λ (ks : List ShareEntry). map (open_row file) (filter (entry_counts (recorded register L) file) ks)) (left_are L es agree)
      ∙ ap (map (open_row file)) (filter_of_filter (entry_counts (recorded register L) file) (λ e. not (goes register file now L e)) es
      ∙ alike_on (λ e. not (goes register file now L e) && entry_counts (recorded register L) file e) (λ e. entry_counts (recorded register L) file e && not (is_expired v now (open_row file e))) es
      (each_of (λ (e : ShareEntry). ShowsSessions register v e.owner.pid) (λ e. (not (goes register file now L e) && entry_counts (recorded register L) file e) ≡ (entry_counts (recorded register L) file e && not (is_expired v now (open_row file e))))
      (λ e h. ap (λ b. not b && entry_counts (recorded register L) file e) (goes_is L e) ∙ stays_law (entry_counts (recorded register L) file e) (has_expired register file now e)
      ∙ ap (λ b. entry_counts (recorded register L) file e && not b) (sym (expired_same v (open_row file e) h))) es shows.sessions_shown)
      ∙ sym (filter_of_filter (λ e. not (is_expired v now (open_row file e))) (entry_counts (recorded register L) file) es))
      ∙ sym (filter_of_map (λ o. not (is_expired v now o)) (open_row file) (filter (entry_counts (recorded register L) file) es))
      ∙ sym (ap (filter (λ o. not (is_expired v now o))) shows.opens_are)
