-- How often leases can still be broken: each break letter takes a bit at least from what its lease holds or was asked to keep.
use Rattle.std.proofs.Common.{◌≡◌, ◌==◌, ◌≤◌, ◌+◌, ℕ, Bool, true, false, cond, not, ◌&&◌, ◌||◌, List, [], ◌∷◌, ◌++◌, filter, map, Option, Some, None, refl, sym, ap, ◌∙◌, subst, inl, inr, ◌⊎◌, arith, eq-eqb}
use Rattle.std.specs.Prelude.{nat_le}
use Rattle.std.specs.List.{IsDistinct, AllByRecursion, list_any, list_all, sum_by}
use Rattle.std.specs.Option.{option_map_or}
use Rattle.std.proofs.lemmas.Bool.{eqb-true, leb-true, and_parts, or_cases, and_from, cond_both, cond-true, cond-false, both_ways, false_from_ne_true}
use Rattle.std.proofs.lemmas.List.Sums.{sum_by-cons, sum_by_push}
use Rattle.sid_core.specs.declared.ids.LeaseName.{LeaseName}
use Rattle.sid_core.specs.declared.bits.LeaseState.{LeaseState}
use Rattle.sid_core.specs.Ids.{same_name}
use Rattle.sid_core.specs.Values.{has, is_part_of, is_state}
use Rattle.serial_table.specs.declared.rows.LeaseRow.{LeaseRow}
use Rattle.serial_table.specs.declared.rows.Breaking.{Breaking}
use Rattle.serial_table.specs.declared.rows.WaiterRow.{WaiterRow}
use Rattle.serial_table.specs.declared.table.Table.{Table}
use Rattle.serial_table.specs.declared.decision.Decision.{Decision}
use Rattle.sid_core.specs.declared.entry.Post.{Post}
use Rattle.serial_table.specs.Wake.{wake}
use Rattle.serial_table.specs.Decision.{waits_no_more, waits_now, settling, finishing, woken_by, conclude}
use Rattle.serial_table.proofs.Concluding.{perform_all-append}
use Rattle.serial_table.proofs.Waits.{drops_are}
use Rattle.serial_table.specs.declared.change.Change.{Change}
use Rattle.serial_table.specs.declared.change.Change.TheVariants as c
use Rattle.serial_table.specs.View.{view, is_of_handle}
use Rattle.serial_table.specs.File.{FileView, file_view, is_under}
use Rattle.serial_table.specs.Settle.{settle_where, broken_to_needed, settled_lease, lease_settles, lease_stays}
use Rattle.serial_table.specs.Change.{perform, perform_all, new_owner, is_lease, set_lease}
use Rattle.serial_table.specs.Sound.{IsConsistent, AllFit, have_same_name, breaks_well, states_agree}
use Rattle.serial_table.proofs.SameIds.{same_name-eq, same_name-refl}
use Rattle.serial_table.proofs.Members.{IsIn, all_of}
use Rattle.serial_table.proofs.Consistent.{consistent-perform}

-- READ, HANDLE and WRITE, as many as the state has
abbrev pub bits : ℕ → ℕ
bits state = cond (has state 1) 1 0 + (cond (has state 2) 1 0 + cond (has state 4) 1 0)

-- what the lease holds, or was asked to keep where it is breaking
abbrev pub goal_of : LeaseRow → ℕ
goal_of lease = option_map_or (λ (breaking : Breaking). breaking.asked.0) lease.breaking lease.held.0

-- the bits that leases can still lose
abbrev pub to_lose : List LeaseRow → ℕ
to_lose leases = sum_by (λ lease. bits (goal_of lease)) leases

bit_most : (b : Bool) → cond b 1 0 ≤ 1
bit_most true = omega arith
bit_most false = omega arith

pub bits_most : (state : ℕ) → bits state ≤ 3
bits_most state = omega (arith, bit_most (has state 1), bit_most (has state 2), bit_most (has state 4))

-- ---- a part of a state has no more bits

by_state : (P : ℕ → Type 0) (n : ℕ) → is_state n ≡ true → P 0 → P 1 → P 3 → P 5 → P 7 → P n
by_state P n e p0 p1 p3 p5 p7 = first (or_cases (0 == n) ((1 == n) || ((3 == n) || ((5 == n) || ((7 == n) || false)))) e)
  where
    last : ((7 == n) ≡ true) ⊎ (false ≡ true) → P n
    last (inl h) = subst P (eqb-true 7 n h) p7
    last (inr h) = absurd cc

    fourth : ((5 == n) ≡ true) ⊎ (((7 == n) || false) ≡ true) → P n
    fourth (inl h) = subst P (eqb-true 5 n h) p5
    fourth (inr h) = last (or_cases (7 == n) false h)

    third : ((3 == n) ≡ true) ⊎ (((5 == n) || ((7 == n) || false)) ≡ true) → P n
    third (inl h) = subst P (eqb-true 3 n h) p3
    third (inr h) = fourth (or_cases (5 == n) ((7 == n) || false) h)

    second : ((1 == n) ≡ true) ⊎ (((3 == n) || ((5 == n) || ((7 == n) || false))) ≡ true) → P n
    second (inl h) = subst P (eqb-true 1 n h) p1
    second (inr h) = third (or_cases (3 == n) ((5 == n) || ((7 == n) || false)) h)

    first : ((0 == n) ≡ true) ⊎ (((1 == n) || ((3 == n) || ((5 == n) || ((7 == n) || false)))) ≡ true) → P n
    first (inl h) = subst P (eqb-true 0 n h) p0
    first (inr h) = second (or_cases (1 == n) ((3 == n) || ((5 == n) || ((7 == n) || false))) h)

abbrev no_more_bits : ℕ → ℕ → Bool
no_more_bits part whole = not (is_part_of part whole) || nat_le (bits part) (bits whole)

all_states : (part whole : ℕ) → is_state part ≡ true → is_state whole ≡ true → no_more_bits part whole ≡ true
all_states part whole ep ew =
    by_state (λ a. no_more_bits a whole ≡ true) part ep
    (by_state (λ b. no_more_bits 0 b ≡ true) whole ew refl refl refl refl refl)
    (by_state (λ b. no_more_bits 1 b ≡ true) whole ew refl refl refl refl refl)
    (by_state (λ b. no_more_bits 3 b ≡ true) whole ew refl refl refl refl refl)
    (by_state (λ b. no_more_bits 5 b ≡ true) whole ew refl refl refl refl refl)
    (by_state (λ b. no_more_bits 7 b ≡ true) whole ew refl refl refl refl refl)

pub bits_part : (part whole : ℕ) → is_state part ≡ true → is_state whole ≡ true → is_part_of part whole ≡ true → bits part ≤ bits whole
bits_part part whole ep ew e = leb-true (bits part) (bits whole) (ap (λ b. not b || nat_le (bits part) (bits whole)) (sym e) ∙ all_states part whole ep ew)

-- ---- settling takes bits, if anything

broken_less : (l : LeaseRow) (breaking : Option Breaking) → l.breaking ≡ breaking → states_agree l.held.0 breaking ≡ true → bits (goal_of (broken_to_needed l breaking)) ≤ bits (goal_of l)
broken_less l None is e = omega arith
broken_less l (Some b) is e =
    let rest = and_parts (is_state l.held.0) (breaks_well l.held.0 (Some b)) e in
    let asked = and_parts (is_state b.asked.0) _ rest.1 in
    let needed = and_parts (is_state b.needed.0) _ asked.1 in
    let part = and_parts (is_part_of b.needed.0 b.asked.0) _ needed.1 in
    subst (λ o. bits b.needed.0 ≤ bits (option_map_or (λ (x : Breaking). x.asked.0) o l.held.0)) (sym is) (bits_part b.needed.0 b.asked.0 needed.0 asked.0 part.0)

settled_less : (f : FileView) (l : LeaseRow) → states_agree l.held.0 l.breaking ≡ true → bits (goal_of (settled_lease f l)) ≤ bits (goal_of l)
settled_less f l e =
    cond_both (list_any (λ o. is_under l.name o && o.connected) f.opens) l (broken_to_needed l l.breaking) (λ (x : LeaseRow). bits (goal_of x) ≤ bits (goal_of l)) (λ _. omega arith) (λ _. broken_less l l.breaking refl e)

kept_less : (b : Bool) (l : LeaseRow) (ls : List LeaseRow) → to_lose (cond b (l ∷ ls) ls) ≤ bits (goal_of l) + to_lose ls
kept_less true l ls = omega (arith, sum_by-cons (λ lease. bits (goal_of lease)) l ls)
kept_less false l ls = omega arith

all_settled_less : (stays : LeaseRow → Bool) (f : LeaseRow → LeaseRow) (ls : List LeaseRow) → AllByRecursion (λ l. bits (goal_of (f l)) ≤ bits (goal_of l)) ls → to_lose (filter stays (map f ls)) ≤ to_lose ls
all_settled_less stays f [] less = omega arith
all_settled_less stays f (l ∷ ls) less =
    let rest : to_lose (filter stays (map f ls)) ≤ to_lose ls = all_settled_less stays f ls less.1 in
    let here : bits (goal_of (f l)) ≤ bits (goal_of l) = less.0 in
    omega (arith, kept_less (stays (f l)) (f l) (filter stays (map f ls)), sum_by-cons (λ lease. bits (goal_of lease)) l ls)

-- ---- one lease is set

unset_here : (file : ℕ) (name : LeaseName) (held : LeaseState) (breaking : Option Breaking) (l : LeaseRow) → same_name l.name name ≡ false → set_lease file name held breaking l ≡ l
unfolding set_lease
unset_here file name held breaking l e = cond-false (is_lease file name l) (record l { held = held; breaking = breaking }) l (other (l.file == file))
  where
    other : (b : Bool) → (b && same_name l.name name) ≡ false
    other true = e
    other false = refl

unset_all : (file : ℕ) (name : LeaseName) (held : LeaseState) (breaking : Option Breaking) (ls : List LeaseRow) → AllByRecursion (λ l. same_name l.name name ≡ false) ls → map (set_lease file name held breaking) ls ≡ ls
unset_all file name held breaking [] all = refl
unset_all file name held breaking (l ∷ ls) all = λ i. unset_here file name held breaking l all.0 i ∷ unset_all file name held breaking ls all.1 i

others_named : (l : LeaseRow) (name : LeaseName) (ls : List LeaseRow) → same_name l.name name ≡ true → AllByRecursion (λ other. have_same_name l other ≡ false) ls → AllByRecursion (λ other. same_name other.name name ≡ false) ls
others_named l name [] e all = tt
others_named l name (other ∷ ls) e all =
    let own : l.name ≡ name = same_name-eq l.name name e in (
      false_from_ne_true (same_name other.name name) (λ h. both_ways (have_same_name l other) all.0 ((λ i. same_name (own i) (same_name-eq other.name name h i)) ∙ same_name-refl name)),
      others_named l name ls e all.1,
    )

set_here : (file : ℕ) (name : LeaseName) (held : LeaseState) (breaking : Option Breaking) (l : LeaseRow) (ls : List LeaseRow) (b : Bool) → same_name l.name name ≡ b
    → AllByRecursion (λ other. have_same_name l other ≡ false) ls → to_lose (map (set_lease file name held breaking) ls) ≤ to_lose ls + 3 → to_lose (map (set_lease file name held breaking) (l ∷ ls)) ≤ to_lose (l ∷ ls) + 3
set_here file name held breaking l ls true e others later =
    let rest : to_lose (map (set_lease file name held breaking) ls) ≡ to_lose ls = ap to_lose (unset_all file name held breaking ls (others_named l name ls e others)) in
    omega (
      arith,
      sum_by-cons (λ lease. bits (goal_of lease)) (set_lease file name held breaking l) (map (set_lease file name held breaking) ls),
      sum_by-cons (λ lease. bits (goal_of lease)) l ls,
      bits_most (goal_of (set_lease file name held breaking l)),
    )
set_here file name held breaking l ls false e others later =
    let same : bits (goal_of (set_lease file name held breaking l)) ≡ bits (goal_of l) = ap (λ (x : LeaseRow). bits (goal_of x)) (unset_here file name held breaking l e) in
    omega (arith, sum_by-cons (λ lease. bits (goal_of lease)) (set_lease file name held breaking l) (map (set_lease file name held breaking) ls), sum_by-cons (λ lease. bits (goal_of lease)) l ls)

-- A name names one lease, so at most three bits come to it.
set_most : (file : ℕ) (name : LeaseName) (held : LeaseState) (breaking : Option Breaking) (ls : List LeaseRow) → IsDistinct have_same_name ls → to_lose (map (set_lease file name held breaking) ls) ≤ to_lose ls + 3
unfolding IsDistinct
set_most file name held breaking [] d = omega arith
set_most file name held breaking (l ∷ ls) d = set_here file name held breaking l ls (same_name l.name name) refl d.0 (set_most file name held breaking ls d.1)

set_itself : (l : LeaseRow) (held : LeaseState) (breaking : Option Breaking) → set_lease l.file l.name held breaking l ≡ record l { held = held; breaking = breaking }
unfolding set_lease
set_itself l held breaking =
    cond-true (is_lease l.file l.name l) (record l { held = held; breaking = breaking }) l (and_from (l.file == l.file) (same_name l.name l.name) (eq-eqb l.file l.file refl) (same_name-refl l.name))

-- exactly its own bits come and go
pub set_one : (l : LeaseRow) (held : LeaseState) (breaking : Option Breaking) (ls : List LeaseRow) → IsDistinct have_same_name ls → IsIn l ls
    → to_lose (map (set_lease l.file l.name held breaking) ls) + bits (goal_of l) ≡ to_lose ls + bits (goal_of (record l { held = held; breaking = breaking }))
unfolding IsDistinct
set_one l held breaking [] d i = absurd i
set_one l held breaking (x ∷ ls) d (inl e) =
    let rest : to_lose (map (set_lease l.file l.name held breaking) ls) ≡ to_lose ls =
    ap to_lose (unset_all l.file l.name held breaking ls (others_named x l.name ls (ap (λ (y : LeaseRow). same_name y.name l.name) e ∙ same_name-refl l.name) d.0)) in
    let here : bits (goal_of (set_lease l.file l.name held breaking x)) ≡ bits (goal_of (record l { held = held; breaking = breaking })) =
    ap (λ (y : LeaseRow). bits (goal_of y)) (ap (set_lease l.file l.name held breaking) e ∙ set_itself l held breaking) in
    let own : bits (goal_of x) ≡ bits (goal_of l) = ap (λ (y : LeaseRow). bits (goal_of y)) e in
    omega (arith, sum_by-cons (λ lease. bits (goal_of lease)) (set_lease l.file l.name held breaking x) (map (set_lease l.file l.name held breaking) ls), sum_by-cons (λ lease. bits (goal_of lease)) x ls)
set_one l held breaking (x ∷ ls) d (inr i) =
    let other : same_name x.name l.name ≡ false = all_of (λ other. have_same_name x other ≡ false) ls d.0 l i in
    let here : bits (goal_of (set_lease l.file l.name held breaking x)) ≡ bits (goal_of x) = ap (λ (y : LeaseRow). bits (goal_of y)) (unset_here l.file l.name held breaking x other) in
    omega (arith, set_one l held breaking ls d.1 i, sum_by-cons (λ lease. bits (goal_of lease)) (set_lease l.file l.name held breaking x) (map (set_lease l.file l.name held breaking) ls), sum_by-cons (λ lease. bits (goal_of lease)) x ls)

-- ---- what a decision's changes leave stays as it concludes

sent_leases : (posts : List Post) (t : Table) → (perform_all (map (λ post. c.Send post) posts) t).leases ≡ t.leases
sent_leases [] t = refl
sent_leases (post ∷ posts) t = sent_leases posts (perform (c.Send post) t)

waiting_leases : (waits : Option WaiterRow) (t : Table) → (perform_all (waits_now waits) t).leases ≡ t.leases
waiting_leases None t = refl
waiting_leases (Some waiter) t = refl

pub concluded_leases : (t : Table) (d : Decision) → (perform_all (conclude (view t) d).changes t).leases ≡ (perform_all (settling d) t).leases
unfolding conclude
concluded_leases t d =
    let woken = woken_by (view t) d in
    let posts = d.posts ++ map wake woken in
    let u = perform_all (settling d) t in
    let u1 = perform_all (map waits_no_more woken) u in
    ap (λ (w : Table). w.leases)
    (perform_all-append (settling d) (finishing woken d.waits posts) t
    ∙ perform_all-append (map waits_no_more woken) (waits_now d.waits ++ map (λ post. c.Send post) posts) u
    ∙ perform_all-append (waits_now d.waits) (map (λ post. c.Send post) posts) u1)
    ∙ sent_leases posts (perform_all (waits_now d.waits) u1) ∙ waiting_leases d.waits u1 ∙ ap (λ (w : Table). w.leases) (drops_are woken u)

-- ---- what a change adds to the bits that can be lost

abbrev pub adds_bits : Change → ℕ
adds_bits (c.AddLease lease) = 3
adds_bits (c.SetLease file name held breaking) = 3
adds_bits (c.Acknowledge file name state) = 3
adds_bits _ = 0

pub bits-perform : (change : Change) (t : Table) → IsConsistent t → to_lose (perform change t).leases ≤ to_lose t.leases + adds_bits change
unfolding settle_where
bits-perform (c.AddLease lease) t k = omega (arith, sum_by_push (λ lease. bits (goal_of lease)) t.leases lease, bits_most (goal_of lease))
bits-perform (c.SetLease file name held breaking) t k = set_most file name held breaking t.leases k.leases_differ
bits-perform (c.Acknowledge file name state) t k = set_most file name state None t.leases k.leases_differ
bits-perform (c.TakeOver file id owner handle) t k =
    cond_both (list_any (is_of_handle owner handle) t.opens) t (record t { opens = map (new_owner file id owner handle) t.opens }) (λ (u : Table). to_lose u.leases ≤ to_lose t.leases + 0) (λ _. omega arith) (λ _. omega arith)
bits-perform c.Settle t k =
    omega (arith, all_settled_less (lease_stays (λ file. true) (view t)) (lease_settles (λ file. true) (view t)) t.leases (each_less t.leases k.leases_agree))
  where
    each_less : (ls : List LeaseRow) → list_all (λ l. states_agree l.held.0 l.breaking) ls ≡ true → AllByRecursion (λ l. bits (goal_of (lease_settles (λ file. true) (view t) l)) ≤ bits (goal_of l)) ls
    each_less [] e = tt
    each_less (l ∷ ls) e =
        let both = and_parts (states_agree l.held.0 l.breaking) (list_all (λ l. states_agree l.held.0 l.breaking) ls) e in (settled_less (file_view l.file (view t)) l both.0, each_less ls both.1)
bits-perform _ t k = omega arith

pub bits-perform_all : (cs : List Change) (t : Table) → IsConsistent t → AllFit cs t → to_lose (perform_all cs t).leases ≤ to_lose t.leases + sum_by adds_bits cs
bits-perform_all [] t k fit = omega arith
bits-perform_all (change ∷ cs) t k fit =
    omega (arith, bits-perform change t k, bits-perform_all cs (perform change t) (consistent-perform change t k fit.0) fit.1, sum_by-cons adds_bits change cs)
