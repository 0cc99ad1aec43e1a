-- A consistent table that has settled is sound.
use Rattle.std.proofs.Common.{◌≡◌, ◌==◌, ◌≤◌, ◌&&◌, ◌||◌, not, ℕ, suc, Bool, true, false, cond, List, [], ◌∷◌, length, filter, map, Option, Some, None, refl, sym, ap, ◌∙◌, subst, arith, inl, inr}
use Rattle.std.specs.Prelude.{is_some}
use Rattle.std.specs.List.{list_any}
use Rattle.std.specs.Option.{option_map_or}
use Rattle.std.proofs.lemmas.Bool.{eqb-true, and_parts, and_from, or_left, or_right, not-true, not-false}
use Rattle.std.proofs.lemmas.List.{length-map}
use Rattle.sid_core.specs.declared.ids.LeaseName.{LeaseName}
use Rattle.sid_core.specs.Ids.{same_name}
use Rattle.sid_core.specs.Values.{has}
use Rattle.serial_table.specs.declared.rows.OpenRow.{OpenRow}
use Rattle.serial_table.specs.declared.rows.LeaseRow.{LeaseRow}
use Rattle.serial_table.specs.declared.rows.Breaking.{Breaking}
use Rattle.serial_table.specs.declared.table.Table.{Table}
use Rattle.serial_table.specs.View.{View, view, lives, has_name, is_of_file, carries}
use Rattle.serial_table.specs.File.{FileOpen, file_view, file_open, is_under}
use Rattle.serial_table.specs.Settle.{settle, settle_where, broken_to_needed, settled_lease, lacks_handle, keeps_open, row_stays, lease_settles, lease_stays, pending_stays}
use Rattle.serial_table.specs.Sound.{IsConsistent, IsSound, has_its_lease, holds_handle, is_leased_if_durable, is_durable, lasts, is_open_under, has_open, is_opened, may_stay, may_break}
use Rattle.serial_table.proofs.Counting.{length_filtered}
use Rattle.serial_table.proofs.Members.{IsIn, each, all_each, any_of, one_of, none_of, in_filter, passes_in, in_map}

module _ {X : Type 0} where
  whole_here : (b : Bool) (x : X) (xs kept : List X) → length kept ≤ length xs → suc (length xs) ≤ length (cond b (x ∷ kept) kept) → (length xs ≤ length kept → kept ≡ xs) → cond b (x ∷ kept) kept ≡ x ∷ xs
  whole_here true x xs kept short long h = ap (λ ys. x ∷ ys) (h (omega arith))
  whole_here false x xs kept short long h = absurd (omega arith)

  -- a filter that leaves as many keeps all
  whole : (p : X → Bool) (xs : List X) → length xs ≤ length (filter p xs) → filter p xs ≡ xs
  whole p [] h = refl
  whole p (x ∷ xs) h = whole_here (p x) x xs (filter p xs) (length_filtered p xs) h (whole p xs)

  head_same : (x y : X) (xs ys : List X) → x ∷ xs ≡ y ∷ ys → x ≡ y
  head_same x y xs ys e = cc

  tail_same : (x y : X) (xs ys : List X) → x ∷ xs ≡ y ∷ ys → xs ≡ ys
  tail_same x y xs ys e = cc

  map_same : (f : X → X) (xs : List X) → map f xs ≡ xs → (x : X) → IsIn x xs → f x ≡ x
  map_same f [] e x i = absurd i
  map_same f (y ∷ ys) e x (inl h) = ap f (sym h) ∙ head_same (f y) y (map f ys) ys e ∙ h
  map_same f (y ∷ ys) e x (inr h) = map_same f ys (tail_same (f y) y (map f ys) ys e) x h

  -- A map and a filter that leave a list as it is leave each row as it is, and keep it.
  left_alone : (p : X → Bool) (f : X → X) (xs : List X) → filter p (map f xs) ≡ xs → (x : X) → IsIn x xs → (f x ≡ x) × (p x ≡ true)
  left_alone p f xs e x i =
      let all : filter p (map f xs) ≡ map f xs = whole p (map f xs) (omega (arith, length-map xs f, ap length e)) in (
        map_same f xs (sym all ∙ e) x i,
        (in_filter p (map f xs) x (subst (IsIn x) (sym e) i)).1,
      )

module _ (t : Table) (k : IsConsistent t) (settled : settle t ≡ t) where
  abbrev v : View
  v = view t

  open_stays : (o : OpenRow) → IsIn o t.opens → row_stays (λ file. true) v o ≡ true
  unfolding settle_where
  open_stays o i = (in_filter (row_stays (λ file. true) v) t.opens o (subst (IsIn o) (sym (ap (λ (s : Table). s.opens) settled)) i)).1

  lease_rests : (l : LeaseRow) → IsIn l t.leases → (settled_lease (file_view l.file v) l ≡ l) × (lease_stays (λ file. true) v l ≡ true)
  unfolding settle_where
  lease_rests l i = left_alone (lease_stays (λ file. true) v) (lease_settles (λ file. true) v) t.leases (ap (λ (s : Table). s.leases) settled) l i

  -- ---- what is disconnected holds HANDLE

  lease_holds : (o : OpenRow) (l : LeaseRow) (name : LeaseName) → IsIn l t.leases → (l.file == o.file) ≡ true → same_name l.name name ≡ true
      → list_any (lacks_handle (file_view o.file v)) ((file_view o.file v).leases name) ≡ false → has l.held.0 2 ≡ true
  lease_holds o l name i file named none =
      let f = file_view o.file v in
      let within : IsIn l (f.leases name) = passes_in (λ (l : LeaseRow). l.file == o.file) (v.leases_of name) l (passes_in (has_name name) t.leases l i named) file in
      let rests : settled_lease f l ≡ l = ap (λ g. settled_lease (file_view g v) l) (sym (eqb-true l.file o.file file)) ∙ (lease_rests l i).0 in
      not-false (has l.held.0 2) (ap (λ (m : LeaseRow). not (has m.held.0 2)) (sym rests) ∙ none_of (lacks_handle f) (f.leases name) none l within)

  handle_held : (o : OpenRow) (lease : Option LeaseName) → is_some lease ≡ true
      → option_map_or (λ name. list_any (λ l. (l.file == o.file) && same_name l.name name) t.leases) lease true ≡ true
      → not (option_map_or (λ name. list_any (lacks_handle (file_view o.file v)) ((file_view o.file v).leases name)) lease false) ≡ true
      → option_map_or (λ name. list_any (λ l. (l.file == o.file) && (same_name l.name name && has l.held.0 2)) t.leases) lease false ≡ true
  handle_held o None some there keeps = absurd cc
  handle_held o (Some name) some there keeps =
      let l = one_of (λ l. (l.file == o.file) && same_name l.name name) t.leases there in
      let both = and_parts (l.0.file == o.file) (same_name l.0.name name) l.2 in
      any_of (λ l. (l.file == o.file) && (same_name l.name name && has l.held.0 2)) t.leases l.0 l.1
      (and_from (l.0.file == o.file) (same_name l.0.name name && has l.0.held.0 2) both.0 (and_from (same_name l.0.name name) (has l.0.held.0 2) both.1
      (lease_holds o l.0 name l.1 both.0 both.1 (not-true (list_any (lacks_handle (file_view o.file v)) ((file_view o.file v).leases name)) keeps))))

  is_leased : (d s : Bool) → d ≡ true → (not d || s) ≡ true → s ≡ true
  is_leased true s e h = h
  is_leased false s e h = absurd cc

  stays_by : (o : OpenRow) → IsIn o t.opens → (b : Bool) → lives v o.owner ≡ b → may_stay t o ≡ true
  stays_by o i true e = or_left (lives v o.owner) (holds_handle t.leases o) e
  stays_by o i false e =
      or_right (lives v o.owner) (holds_handle t.leases o)
      (handle_held o o.lease
      (is_leased (is_durable o) (is_some o.lease) (ap (λ b. b || is_durable o) (sym e) ∙ each (lasts v) t.opens k.opens_last o i) (each is_leased_if_durable t.opens k.durable_are_leased o i))
      (each (has_its_lease t.leases) t.opens k.opens_have_leases o i)
      (ap (λ b. b || not (option_map_or (λ name. list_any (lacks_handle (file_view o.file v)) ((file_view o.file v).leases name)) o.lease false)) (sym e) ∙ open_stays o i))

  -- ---- each lease has an open, and a connected one where it is breaking

  open_under : (l : LeaseRow) (also : FileOpen → Bool) → list_any (λ o. is_under l.name o && also o) (file_view l.file v).opens ≡ true
      → (o : OpenRow) × IsIn o t.opens × (is_open_under l o ≡ true) × (also (file_open (lives v) o) ≡ true)
  open_under l also e =
      let x = one_of (λ o. is_under l.name o && also o) (file_view l.file v).opens e in
      let o = in_map (file_open (lives v)) (v.opens_of l.file) x.0 x.1 in
      let within = in_filter (is_of_file l.file) t.opens o.0 o.1 in
      let both = and_parts (is_under l.name (file_open (lives v) o.0)) (also (file_open (lives v) o.0)) (ap (λ o. is_under l.name o && also o) o.2 ∙ x.2) in
      (o.0, within.0, and_from (o.0.file == l.file) (carries l.name o.0.lease) within.1 both.0, both.1)

  has_its : (l : LeaseRow) → IsIn l t.leases → has_open t.opens l ≡ true
  has_its l i = let o = open_under l (keeps_open (file_view l.file v)) (lease_rests l i).1 in any_of (is_open_under l) t.opens o.0 o.1 o.2

  breaking_by : (l : LeaseRow) (breaking : Option Breaking) (b : Bool) → l.breaking ≡ breaking → list_any (λ o. is_under l.name o && o.connected) (file_view l.file v).opens ≡ b
      → cond b l (broken_to_needed l breaking) ≡ l → may_break t l ≡ true
  breaking_by l breaking true is e rests =
      let o = open_under l (λ o. o.connected) e in
      or_right (not (is_some l.breaking)) (list_any (λ o. is_open_under l o && lives v o.owner) t.opens)
      (any_of (λ o. is_open_under l o && lives v o.owner) t.opens o.0 o.1 (and_from (is_open_under l o.0) (lives v o.0.owner) o.2 o.3))
  breaking_by l None false is e rests = or_left (not (is_some l.breaking)) (list_any (λ o. is_open_under l o && lives v o.owner) t.opens) (ap (λ b. not (is_some b)) is)
  breaking_by l (Some b) false is e rests = absurd (none_breaks (ap (λ (m : LeaseRow). m.breaking) rests ∙ is))
    where
      none_breaks : ◌≡◌ {A = Option Breaking} None (Some b) → ⊥
      none_breaks h = cc

  -- ---- each file that is to go has an open

  file_opened : (file : ℕ) → IsIn file t.pending → is_opened t.opens file ≡ true
  unfolding settle_where
  file_opened file i =
      let stays : pending_stays (λ file. true) v file ≡ true = (in_filter (pending_stays (λ file. true) v) t.pending file (subst (IsIn file) (sym (ap (λ (s : Table). s.pending) settled)) i)).1 in
      let x = one_of (keeps_open (file_view file v)) (file_view file v).opens stays in
      let o = in_map (file_open (lives v)) (v.opens_of file) x.0 x.1 in
      let within = in_filter (is_of_file file) t.opens o.0 o.1 in
      any_of (is_of_file file) t.opens o.0 within.0 within.1

  pub settled-sound : IsSound t
  settled-sound = record {
    rows = k;
    disconnected_hold_handle = all_each (may_stay t) t.opens (λ o i. stays_by o i (lives v o.owner) refl);
    leases_have_opens = all_each (has_open t.opens) t.leases has_its;
    breaking_are_connected = all_each (may_break t) t.leases
        (λ l i. breaking_by l l.breaking (list_any (λ o. is_under l.name o && o.connected) (file_view l.file v).opens) refl refl (lease_rests l i).0);
    pending_have_opens = all_each (is_opened t.opens) t.pending file_opened;
  }
