-- What expires before a call fits, lies in its sets, and takes bits from leases, if anything.
use Rattle.std.proofs.Common.{◌≡◌, ◌==◌, ◌≤◌, ℕ, true, ◌&&◌, List, [], ◌∷◌, map, Option, Some, None, refl, sym, ap, ◌∙◌, inl, inr, ◌⊎◌, arith}
use Rattle.std.specs.Option.{option_map_or}
use Rattle.std.proofs.lemmas.Bool.{and_parts, cond_both}
use Rattle.std.proofs.lemmas.List.Sums.{sum_by-cons}
use Rattle.sid_core.specs.declared.call.Call.{Call}
use Rattle.sid_core.specs.declared.setup.Setup.{Setup}
use Rattle.sid_core.specs.Ids.{same_name}
use Rattle.sid_core.specs.Values.{is_state, is_part_of}
use Rattle.serial_table.specs.declared.rows.LeaseRow.{LeaseRow}
use Rattle.serial_table.specs.declared.rows.Breaking.{Breaking}
use Rattle.serial_table.specs.declared.table.Table.{Table}
use Rattle.serial_table.specs.declared.change.Change.TheVariants as c
use Rattle.serial_table.specs.declared.decision.Caller.{Caller}
use Rattle.serial_table.specs.View.{view}
use Rattle.serial_table.specs.Change.{perform, perform_all, is_lease, set_lease}
use Rattle.serial_table.specs.Expire.{needed_of, expires, due, then_settles, expired_by}
use Rattle.serial_table.specs.Sound.{IsConsistent, AllAlong, AllFit, have_same_name, breaks_well, states_agree}
use Rattle.serial_table.specs.InSets.{Brings, AllBring}
use Rattle.serial_table.proofs.Members.{IsIn, each, one_in}
use Rattle.serial_table.proofs.SameIds.{same_name-flip}
use Rattle.serial_table.proofs.Consistent.{consistent-perform_all}
use Rattle.serial_table.proofs.Concluding.{perform_all-append}
use Rattle.serial_table.proofs.Fitting.{along_mapped}
use Rattle.serial_table.proofs.Numbered.{Numbers}
use Rattle.serial_table.proofs.Losing.{bits, goal_of, to_lose, bits_part, bits-perform}
use Rattle.serial_table.proofs.Expiring.{due_there, expired_along}

-- ---- what is needed

-- what is needed of a lease is a state, and part of what it is broken to
needed_well : (held : ℕ) (breaking : Option Breaking) (l : LeaseRow) → l.breaking ≡ breaking → l.held.0 ≡ held → states_agree held breaking ≡ true
    → (is_state (needed_of l).0 ≡ true) × (bits (needed_of l).0 ≤ bits (goal_of l))
needed_well held None l is h e =
    let n : (needed_of l).0 ≡ held = ap (λ o. (option_map_or (λ (b : Breaking). b.needed) o l.held).0) is ∙ h in
    let g : goal_of l ≡ held = ap (λ o. option_map_or (λ (b : Breaking). b.asked.0) o l.held.0) is ∙ h in
    (ap is_state n ∙ (and_parts (is_state held) true e).0, let same : bits (needed_of l).0 ≡ bits (goal_of l) = ap bits (n ∙ sym g) in omega arith)
needed_well held (Some b) l is h e =
    let rest = and_parts (is_state held) (breaks_well held (Some b)) e in
    let asked = and_parts (is_state b.asked.0) _ rest.1 in
    let needed = and_parts (is_state b.needed.0) _ asked.1 in
    let part = and_parts (is_part_of b.needed.0 b.asked.0) _ needed.1 in
    let n : (needed_of l).0 ≡ b.needed.0 = ap (λ o. (option_map_or (λ (b : Breaking). b.needed) o l.held).0) is in
    let g : goal_of l ≡ b.asked.0 = ap (λ o. option_map_or (λ (b : Breaking). b.asked.0) o l.held.0) is in
    let less : bits b.needed.0 ≤ bits b.asked.0 = bits_part b.needed.0 b.asked.0 needed.0 asked.0 part.0 in
    (ap is_state n ∙ needed.0, let own : bits (needed_of l).0 ≡ bits b.needed.0 = ap bits n in let all : bits (goal_of l) ≡ bits b.asked.0 = ap bits g in omega arith)

needed_there : (t : Table) → IsConsistent t → (l : LeaseRow) → IsIn l t.leases → (is_state (needed_of l).0 ≡ true) × (bits (needed_of l).0 ≤ bits (goal_of l))
needed_there t k l i = needed_well l.held.0 l.breaking l refl refl (each (λ l. states_agree l.held.0 l.breaking) t.leases k.leases_agree l i)

-- ---- it fits

pub expired_fits : (setup : Setup) (t : Table) (caller : Caller) (call : Call) → IsConsistent t → AllFit (expired_by setup (view t) caller call) t
expired_fits setup t caller call k =
    expired_along _ (λ u. tt) setup t caller call (λ l i e u. ap (λ b. b && true) (needed_there t k l i).0)

pub expired_numbers : (low : ℕ → ℕ) (setup : Setup) (t : Table) (caller : Caller) (call : Call) → AllAlong (Numbers low) (expired_by setup (view t) caller call) t
expired_numbers low setup t caller call = expired_along (Numbers low) (λ u. tt) setup t caller call (λ l i e u. tt)

pub expired_brings : (setup : Setup) (t : Table) (caller : Caller) (call : Call) → IsConsistent t → AllBring setup (expired_by setup (view t) caller call) t
expired_brings setup t caller call k =
    expired_along (Brings setup) (λ u. tt) setup t caller call (λ l i e u. ((needed_there t k l i).0, tt))

-- ---- it takes bits, if anything

-- a lease once these have expired, one after another
abbrev pub each_expired : List LeaseRow → LeaseRow → LeaseRow
each_expired [] x = x
each_expired (l ∷ ls) x = each_expired ls (set_lease l.file l.name (needed_of l) None x)

pub map_twice : (f g : LeaseRow → LeaseRow) (xs : List LeaseRow) → map g (map f xs) ≡ map (λ x. g (f x)) xs
map_twice f g [] = refl
map_twice f g (x ∷ xs) = ap (λ ys. g (f x) ∷ ys) (map_twice f g xs)

pub map_same : (xs : List LeaseRow) → xs ≡ map (λ x. x) xs
map_same [] = refl
map_same (x ∷ xs) = ap (λ ys. x ∷ ys) (map_same xs)

leases_expired : (ls : List LeaseRow) (t : Table) → (perform_all (map expires ls) t).leases ≡ map (each_expired ls) t.leases
leases_expired [] t = map_same t.leases
leases_expired (l ∷ ls) t = leases_expired ls (perform (expires l) t) ∙ map_twice (set_lease l.file l.name (needed_of l) None) (each_expired ls) t.leases

abbrev at_end : LeaseRow → LeaseRow
at_end x = record x { held = needed_of x; breaking = None }

-- it is as it was, or holds what was needed
abbrev IsLeftOf : LeaseRow → LeaseRow → Type 0
IsLeftOf x y = (y ≡ x) ⊎ (y ≡ at_end x)

left_name : (x y : LeaseRow) → IsLeftOf x y → y.name ≡ x.name
left_name x y (inl e) = ap (λ (l : LeaseRow). l.name) e
left_name x y (inr e) = ap (λ (l : LeaseRow). l.name) e

left_ended : (x y l : LeaseRow) → IsLeftOf x y → x ≡ l → record y { held = needed_of l; breaking = None } ≡ at_end x
left_ended x y l (inl e) same = λ i. record (e i) { held = needed_of (sym same i); breaking = None }
left_ended x y l (inr e) same = λ i. record (e i) { held = needed_of (sym same i); breaking = None }

module _ (t : Table) (k : IsConsistent t) (x : LeaseRow) (here : IsIn x t.leases) where
  one_left : (l : LeaseRow) → IsIn l t.leases → (y : LeaseRow) → IsLeftOf x y → IsLeftOf x (set_lease l.file l.name (needed_of l) None y)
  unfolding set_lease
  one_left l there y left =
      cond_both (is_lease l.file l.name y) (record y { held = needed_of l; breaking = None }) y (IsLeftOf x)
      (λ e. inr (left_ended x y l left
      (one_in have_same_name (λ a b. same_name-flip a.name b.name) t.leases k.leases_differ x l here there
      (ap (λ n. same_name n l.name) (sym (left_name x y left)) ∙ (and_parts (y.file == l.file) (same_name y.name l.name) e).1))))
      (λ _. left)

  all_left : (ls : List LeaseRow) → ((l : LeaseRow) → IsIn l ls → IsIn l t.leases) → (y : LeaseRow) → IsLeftOf x y → IsLeftOf x (each_expired ls y)
  all_left [] there y left = left
  all_left (l ∷ ls) there y left = all_left ls (λ m i. there m (inr i)) (set_lease l.file l.name (needed_of l) None y) (one_left l (there l (inl refl)) y left)

  left_bits : (y : LeaseRow) → IsLeftOf x y → bits (goal_of y) ≤ bits (goal_of x)
  left_bits y (inl e) = let same : bits (goal_of y) ≡ bits (goal_of x) = ap (λ (l : LeaseRow). bits (goal_of l)) e in omega arith
  left_bits y (inr e) =
      let same : bits (goal_of y) ≡ bits (needed_of x).0 = ap (λ (l : LeaseRow). bits (goal_of l)) e in
      let less : bits (needed_of x).0 ≤ bits (goal_of x) = (needed_there t k x here).1 in
      omega arith

fewer_bits : (f : LeaseRow → LeaseRow) (xs : List LeaseRow) → ((x : LeaseRow) → IsIn x xs → bits (goal_of (f x)) ≤ bits (goal_of x)) → to_lose (map f xs) ≤ to_lose xs
fewer_bits f [] h = omega arith
fewer_bits f (x ∷ xs) h =
    let here = h x (inl refl) in
    let rest : to_lose (map f xs) ≤ to_lose xs = fewer_bits f xs (λ y i. h y (inr i)) in
    omega (arith, sum_by-cons (λ lease. bits (goal_of lease)) (f x) (map f xs), sum_by-cons (λ lease. bits (goal_of lease)) x xs)

each_bits : (ls : List LeaseRow) (t : Table) → IsConsistent t → ((l : LeaseRow) → IsIn l ls → IsIn l t.leases) → to_lose (perform_all (map expires ls) t).leases ≤ to_lose t.leases
each_bits ls t k there =
    let is : to_lose (perform_all (map expires ls) t).leases ≡ to_lose (map (each_expired ls) t.leases) = ap to_lose (leases_expired ls t) in
    let less = fewer_bits (each_expired ls) t.leases (λ x i. left_bits t k x i (each_expired ls x) (all_left t k x i ls there x (inl refl))) in
    omega arith

settles_bits : (ls : List LeaseRow) (t : Table) → IsConsistent t → ((l : LeaseRow) → IsIn l ls → IsIn l t.leases) → to_lose (perform_all (then_settles (map expires ls)) t).leases ≤ to_lose t.leases
settles_bits [] t k there = omega arith
settles_bits (l ∷ ls) t k there =
    let u = perform_all (map expires (l ∷ ls)) t in
    let fits : AllFit (map expires (l ∷ ls)) t = along_mapped _ expires (l ∷ ls) t (λ m i w. ap (λ b. b && true) (needed_there t k m (there m i)).0) in
    let is : to_lose (perform_all (then_settles (map expires (l ∷ ls))) t).leases ≡ to_lose (perform c.Settle u).leases =
    ap (λ (w : Table). to_lose w.leases) (perform_all-append (map expires (l ∷ ls)) (c.Settle ∷ []) t) in
    omega (arith, is, bits-perform c.Settle u (consistent-perform_all (map expires (l ∷ ls)) t k fits), each_bits (l ∷ ls) t k there)

pub expired_bits : (setup : Setup) (t : Table) (caller : Caller) (call : Call) → IsConsistent t → to_lose (perform_all (expired_by setup (view t) caller call) t).leases ≤ to_lose t.leases
unfolding expired_by
expired_bits setup t caller call k = settles_bits (due (view t) caller.moment _) t k (λ l i. (due_there t caller.moment _ l i).0)
