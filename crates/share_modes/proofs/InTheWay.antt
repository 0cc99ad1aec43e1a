-- What an open meets, by the entries of the record and by what these show of the file.
use Rattle.std.proofs.Common.{◌≡◌, ◌==◌, length, cond, Bool, true, false, List, [], ◌∷◌, ◌&&◌, ◌||◌, not, filter, map, Option, Some, None, refl, sym, ap, ◌∙◌, arith}
use Rattle.std.specs.Prelude.{find, is_some}
use Rattle.std.specs.List.{list_any, filter_map, cons_option}
use Rattle.std.specs.Option.{option_map, option_map_or}
use Rattle.std.proofs.Math.Bool.{or-false}
use Rattle.std.proofs.lemmas.Bool.{eqb-true, false_from_ne_true}
use Rattle.sid_core.specs.declared.ids.LeaseName.{LeaseName}
use Rattle.sid_core.specs.declared.call.LeaseAsk.{LeaseAsk}
use Rattle.sid_core.specs.Ids.{same_name}
use Rattle.sid_core.specs.Values.{has}
use Rattle.serial_table.specs.View.{carries}
use Rattle.serial_table.specs.File.{FileOpen, file_open, is_under}
use Rattle.serial_table.specs.Break.{names_of, each_once}
use Rattle.serial_table.specs.Asked.{own_lease, asked_of, conflicts, holds_handle, is_asked_and_connected}
use Rattle.serial_table.proofs.InPlace.{any_in_map}
use Rattle.serial_table.proofs.SameIds.{same_name-eq}
use Rattle.serial_table.proofs.Broken.{filter_map-map}
use Rattle.record_codec.specs.declared.share_rec.ShareEntry.{ShareEntry}
use Rattle.record_codec.specs.declared.lease_rec.LeaseRef.{LeaseRef}
use Rattle.record_codec.specs.declared.lease_rec.LeaseRec.{LeaseRec}
use Rattle.record_codec.specs.Counts.{Records, lives}
use Rattle.leases_db.specs.Rows.{rows_with, leases_by}
use Rattle.record_rows.specs.Rows.{open_row}
use Rattle.share_modes.specs.Sharing as specs
use Rattle.share_modes.specs.Sharing.{is_refused, Meets, IsBreaks, OpenCall, AsksLease, conflicting, refuses, shown, has_refs, keeps_handle, entry_conflicts, is_held_under, is_own_held, refuses_under, entry_refuses, first_refusal, conflict_lease}
use Rattle.share_modes.specs.declared.asked.Asked.{Asked}
use Rattle.share_modes.specs.declared.asked.Violates.{Violates}
use Rattle.share_modes.specs.declared.asked.Violates.TheVariants.{Nothing, Refused, Breaks, OutOfMemory}

-- ---- lists

module _ {X Y : Type 0} where
  pushed : (b : Bool) (g : X → Y) (x : X) (ys : List Y) (xs : List X) → ys ≡ map g xs → cond b (g x ∷ ys) ys ≡ map g (cond b (x ∷ xs) xs)
  pushed true g x ys xs e = ap (λ zs. g x ∷ zs) e
  pushed false g x ys xs e = e

  pub filtered_in_map : (g : X → Y) (q : Y → Bool) (xs : List X) → filter q (map g xs) ≡ map g (filter (λ x. q (g x)) xs)
  filtered_in_map g q [] = refl
  filtered_in_map g q (x ∷ xs) = pushed (q (g x)) g x (filter q (map g xs)) (filter (λ x. q (g x)) xs) (filtered_in_map g q xs)

  first_of : (b : Bool) (g : X → Y) (x : X) (o : Option Y) (p : Option X) → o ≡ option_map g p → cond b (Some (g x)) o ≡ option_map g (cond b (Some x) p)
  first_of true g x o p e = refl
  first_of false g x o p e = e

  pub found_in_map : (g : X → Y) (q : Y → Bool) (xs : List X) → find q (map g xs) ≡ option_map g (find (λ x. q (g x)) xs)
  found_in_map g q [] = refl
  found_in_map g q (x ∷ xs) = first_of (q (g x)) g x (find q (map g xs)) (find (λ x. q (g x)) xs) (found_in_map g q xs)

  put_in : (b : Bool) (l : Option Y) (h : X → Option Y) (x : X) (xs : List X) (ys : List Y) → h x ≡ l → filter_map h xs ≡ ys → filter_map h (cond b (x ∷ xs) xs) ≡ cons_option (cond b l None) ys
  put_in true l h x xs ys e f = λ i. cons_option (e i) (f i)
  put_in false l h x xs ys e f = f

  pub mapped_in_filter : (h : X → Option Y) (p : X → Bool) (xs : List X) → filter_map h (filter p xs) ≡ filter_map (λ x. cond (p x) (h x) None) xs
  mapped_in_filter h p [] = refl
  mapped_in_filter h p (x ∷ xs) = put_in (p x) (h x) h x (filter p xs) (filter_map (λ x. cond (p x) (h x) None) xs) refl (mapped_in_filter h p xs)

module _ {X : Type 0} where
  find_kept : (b : Bool) (q : X → Bool) (x : X) (xs : List X) (o : Option X) → find q xs ≡ o → find q (cond b (x ∷ xs) xs) ≡ cond (b && q x) (Some x) o
  find_kept true q x xs o e = ap (cond (q x) (Some x)) e
  find_kept false q x xs o e = e

  pub found_in_filter : (p q : X → Bool) (xs : List X) → find q (filter p xs) ≡ find (λ x. p x && q x) xs
  found_in_filter p q [] = refl
  found_in_filter p q (x ∷ xs) = find_kept (p x) q x (filter p xs) (find (λ x. p x && q x) xs) (found_in_filter p q xs)

  pub found_same : (p q : X → Bool) (xs : List X) → ((x : X) → p x ≡ q x) → find p xs ≡ find q xs
  found_same p q [] h = refl
  found_same p q (x ∷ xs) h = λ i. cond (h x i) (Some x) (found_same p q xs h i)

  here : (b : Bool) (x : X) (a : Bool) (o : Option X) → a ≡ is_some o → (b || a) ≡ is_some (cond b (Some x) o)
  here true x a o e = refl
  here false x a o e = e

  pub any_is_found : (p : X → Bool) (xs : List X) → list_any p xs ≡ is_some (find p xs)
  any_is_found p [] = refl
  any_is_found p (x ∷ xs) = here (p x) x (list_any p xs) (find p xs) (any_is_found p xs)

-- ---- truth values

when : (b x y : Bool) → (b ≡ true → x ≡ y) → (b && x) ≡ (b && y)
when true x y h = h refl
when false x y h = refl

-- ---- the opens in the way

module _ (records : Records) (call : OpenCall) (asked : Asked) (valid : List ShareEntry) (same : AsksLease call asked) where
  handle_in : (name : LeaseName) (r : LeaseRec) (refs : List LeaseRef) → list_any (λ lease. has lease.held.0 2) (rows_with name r refs) ≡ (has_refs refs && has r.held.0 2)
  handle_in name r [] = refl
  handle_in name r (ref ∷ refs) = or-false (has r.held.0 2)

  handle_is : (name : LeaseName) (o : Option LeaseRec) → list_any (λ lease. has lease.held.0 2) (leases_by name o) ≡ keeps_handle o
  handle_is name None = refl
  handle_is name (Some r) = handle_in name r r.refs

  under_is : (name : LeaseName) → list_any (λ (o : FileOpen). is_under name o && o.connected) (shown records call.file valid).opens ≡ list_any (is_held_under (lives records) name) valid
  under_is name = any_in_map (λ e. file_open (lives records) (open_row call.file e)) (λ (o : FileOpen). is_under name o && o.connected) valid

  own_is : (name : LeaseName) (lease : Option LeaseName)
      → (carries name lease && list_any (λ (o : FileOpen). is_under name o && o.connected) (shown records call.file valid).opens) ≡ (carries name lease && is_own_held (lives records) lease valid)
  own_is name None = refl
  own_is name (Some own) = when (same_name own name) _ _ (λ e. under_is name ∙ ap (λ n. list_any (is_held_under (lives records) n) valid) (sym (same_name-eq own name e)))

  refused_by : (lease : Option LeaseName)
      → option_map_or (λ name. not (holds_handle (shown records call.file valid) name) || is_asked_and_connected (shown records call.file valid) (asked_of call.caller call.file asked.access asked.share call.lease call.durable call.overwrite call.delete) name) lease true
      ≡ option_map_or (refuses_under records asked (is_own_held (lives records) asked.lease valid)) lease true
  refused_by None = refl
  refused_by (Some name) = λ i. not (handle_is name (records.lease name) i) || (own_is name (option_map (λ (ask : LeaseAsk). own_lease call.caller ask.key) call.lease) ∙ ap (λ l. carries name l && is_own_held (lives records) l valid) (sym same)) i

  pub in_conflict_is : conflicting (shown records call.file valid) call asked ≡ map (λ e. file_open (lives records) (open_row call.file e)) (filter (entry_conflicts asked) valid)
  in_conflict_is = filtered_in_map (λ e. file_open (lives records) (open_row call.file e)) (conflicts (asked_of call.caller call.file asked.access asked.share call.lease call.durable call.overwrite call.delete)) valid

  pub found_is : find (refuses (shown records call.file valid) call asked) (conflicting (shown records call.file valid) call asked)
      ≡ option_map (λ e. file_open (lives records) (open_row call.file e)) (find (λ e. entry_conflicts asked e && entry_refuses records asked (is_own_held (lives records) asked.lease valid) e) valid)
  found_is =
      found_in_filter (conflicts (asked_of call.caller call.file asked.access asked.share call.lease call.durable call.overwrite call.delete)) (refuses (shown records call.file valid) call asked) (shown records call.file valid).opens
      ∙ found_in_map (λ e. file_open (lives records) (open_row call.file e)) (λ o. conflicts (asked_of call.caller call.file asked.access asked.share call.lease call.durable call.overwrite call.delete) o && refuses (shown records call.file valid) call asked o) valid
      ∙ ap (option_map (λ e. file_open (lives records) (open_row call.file e))) (found_same _ _ valid (λ e. ap (λ b. entry_conflicts asked e && b) (refused_by e.lease)))

  id_is : (o : Option ShareEntry) → option_map (λ (o : FileOpen). o.row.id) (option_map (λ e. file_open (lives records) (open_row call.file e)) o) ≡ option_map (λ e. e.id) o
  id_is None = refl
  id_is (Some e) = refl

  some_is : (o : Option ShareEntry) → is_some (option_map (λ e. file_open (lives records) (open_row call.file e)) o) ≡ is_some (option_map (λ (e : ShareEntry). e.id) o)
  some_is None = refl
  some_is (Some e) = refl

  -- the first open that refuses
  pub first_is : option_map (λ (o : FileOpen). o.row.id) (find (refuses (shown records call.file valid) call asked) (conflicting (shown records call.file valid) call asked))
      ≡ first_refusal records asked (is_own_held (lives records) asked.lease valid) valid
  first_is = ap (option_map (λ (o : FileOpen). o.row.id)) found_is ∙ id_is _

  pub refused_is : list_any (refuses (shown records call.file valid) call asked) (conflicting (shown records call.file valid) call asked)
      ≡ is_some (first_refusal records asked (is_own_held (lives records) asked.lease valid) valid)
  refused_is = any_is_found (refuses (shown records call.file valid) call asked) (conflicting (shown records call.file valid) call asked) ∙ ap is_some found_is ∙ some_is _

  -- the leases of those that conflict
  pub names_are : names_of (conflicting (shown records call.file valid) call asked) ≡ each_once [] (filter_map (conflict_lease asked) valid)
  names_are = ap names_of in_conflict_is
      ∙ ap (each_once []) (filter_map-map (λ (o : FileOpen). o.row.lease) (λ e. file_open (lives records) (open_row call.file e)) (filter (entry_conflicts asked) valid)
      ∙ mapped_in_filter (λ (e : ShareEntry). e.lease) (entry_conflicts asked) valid)

-- ---- where no open refuses

once_none : (names : List LeaseName) → each_once [] names ≡ [] → names ≡ []
once_none [] e = refl
once_none (name ∷ names) e = absurd cc

once_some : (names : List LeaseName) → specs.is_some (each_once [] names) ≡ specs.is_some names
once_some [] = refl
once_some (name ∷ names) = refl

none_at : (b : Bool) (l : Option LeaseName) (u : LeaseName → Bool) (e : ShareEntry) (o : Option ShareEntry) (names : List LeaseName) (es : List ShareEntry)
    → cond (b && option_map_or u l true) (Some e) o ≡ None → cons_option (cond b l None) names ≡ [] → (o ≡ None → names ≡ [] → es ≡ []) → cond b (e ∷ es) es ≡ []
none_at true None u e o names es p q h = absurd cc
none_at true (Some name) u e o names es p q h = absurd cc
none_at false l u e o names es p q h = h p q

module _ (records : Records) (asked : Asked) (held : Bool) where
  none_by : (valid : List ShareEntry) → find (λ e. entry_conflicts asked e && entry_refuses records asked held e) valid ≡ None
      → filter_map (conflict_lease asked) valid ≡ [] → filter (entry_conflicts asked) valid ≡ []
  none_by [] p q = refl
  none_by (e ∷ es) p q =
      none_at (entry_conflicts asked e) e.lease (refuses_under records asked held) e (find (λ e. entry_conflicts asked e && entry_refuses records asked held e) es) (filter_map (conflict_lease asked) es)
      (filter (entry_conflicts asked) es) p q (none_by es)

  some_at : (b : Bool) (l : Option LeaseName) (names : List LeaseName) (e : ShareEntry) (es : List ShareEntry) → specs.is_some (cons_option (cond b l None) names) ≡ true
      → (specs.is_some names ≡ true → specs.is_some es ≡ true) → specs.is_some (cond b (e ∷ es) es) ≡ true
  some_at true l names e es p h = refl
  some_at false l names e es p h = h p

  some_by : (valid : List ShareEntry) → specs.is_some (filter_map (conflict_lease asked) valid) ≡ true → specs.is_some (filter (entry_conflicts asked) valid) ≡ true
  some_by [] p = absurd cc
  some_by (e ∷ es) p = some_at (entry_conflicts asked e) e.lease (filter_map (conflict_lease asked) es) e (filter (entry_conflicts asked) es) p (some_by es)

  -- None refuses, and there is no lease to break: none conflicts.
  pub none_conflicts : (valid : List ShareEntry) → find (λ e. entry_conflicts asked e && entry_refuses records asked held e) valid ≡ None
      → each_once [] (filter_map (conflict_lease asked) valid) ≡ [] → filter (entry_conflicts asked) valid ≡ []
  none_conflicts valid p q = none_by valid p (once_none _ q)

  -- There is a lease to break: some conflicts.
  pub some_conflicts : (valid : List ShareEntry) → specs.is_some (each_once [] (filter_map (conflict_lease asked) valid)) ≡ true → specs.is_some (filter (entry_conflicts asked) valid) ≡ true
  some_conflicts valid p = some_by valid (sym (once_some (filter_map (conflict_lease asked) valid)) ∙ p)

-- ---- the answer

none_mapped : {X Y : Type 0} (g : X → Y) (o : Option X) → option_map g o ≡ None → o ≡ None
none_mapped g None e = refl
none_mapped g (Some x) e = absurd cc

module _ (records : Records) (call : OpenCall) (asked : Asked) (valid : List ShareEntry) (same : AsksLease call asked) where
  some_mapped : (es : List ShareEntry) → specs.is_some (map (λ e. file_open (lives records) (open_row call.file e)) es) ≡ specs.is_some es
  some_mapped [] = refl
  some_mapped (e ∷ es) = refl

  pub none_refuses : first_refusal records asked (is_own_held (lives records) asked.lease valid) valid ≡ None
      → find (refuses (shown records call.file valid) call asked) (conflicting (shown records call.file valid) call asked) ≡ None
  none_refuses e = found_is records call asked valid same ∙ ap (option_map (λ e. file_open (lives records) (open_row call.file e))) (none_mapped _ _ e)

  -- where no open refuses
  pub breaks_meet : (result : Violates) → first_refusal records asked (is_own_held (lives records) asked.lease valid) valid ≡ None
      → IsBreaks (each_once [] (filter_map (conflict_lease asked) valid)) result → Meets (refuses (shown records call.file valid) call asked) (conflicting (shown records call.file valid) call asked) result
  breaks_meet Nothing e b = in_conflict_is records call asked valid same ∙ ap (map (λ e. file_open (lives records) (open_row call.file e))) (none_conflicts records asked (is_own_held (lives records) asked.lease valid) valid (none_mapped _ _ e) b)
  breaks_meet (Refused id) e b = absurd b
  breaks_meet (Breaks names) e b = (none_refuses e, b.0 ∙ sym (names_are records call asked valid same), ap specs.is_some (in_conflict_is records call asked valid same) ∙ (some_mapped (filter (entry_conflicts asked) valid) ∙ some_conflicts records asked (is_own_held (lives records) asked.lease valid) valid b.1))
  breaks_meet OutOfMemory e b = tt

  pub breaks_refuse_not : (result : Violates) → first_refusal records asked (is_own_held (lives records) asked.lease valid) valid ≡ None
      → IsBreaks (each_once [] (filter_map (conflict_lease asked) valid)) result
      → is_refused result ≡ list_any (refuses (shown records call.file valid) call asked) (conflicting (shown records call.file valid) call asked)
  breaks_refuse_not Nothing e b = sym (refused_is records call asked valid same ∙ ap is_some e)
  breaks_refuse_not (Refused id) e b = absurd b
  breaks_refuse_not (Breaks names) e b = sym (refused_is records call asked valid same ∙ ap is_some e)
  breaks_refuse_not OutOfMemory e b = sym (refused_is records call asked valid same ∙ ap is_some e)

-- ---- lists that are tested for being empty

not_empty : {X : Type 0} (x : X) (xs : List X) → (length (x ∷ xs) == 0) ≡ false
not_empty x xs = false_from_ne_true _ (λ e. let none : length (x ∷ xs) ≡ 0 = eqb-true (length (x ∷ xs)) 0 e in absurd (omega arith))

pub some_refs : (refs : List LeaseRef) → not (length refs == 0) ≡ has_refs refs
some_refs [] = refl
some_refs (ref ∷ refs) = ap not (not_empty ref refs)

pub none_of : (names : List LeaseName) → (length names == 0) ≡ true → names ≡ []
none_of [] e = refl
none_of (name ∷ names) e = absurd (let no : (length (name ∷ names) == 0) ≡ false = not_empty name names in cc)

pub some_of : (names : List LeaseName) → (length names == 0) ≡ false → specs.is_some names ≡ true
some_of [] e = absurd cc
some_of (name ∷ names) e = refl
