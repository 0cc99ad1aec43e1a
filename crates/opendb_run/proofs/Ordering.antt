-- What the calls in one thread's order have of the calls of a phase: each worker's are the same, in the same order.
use Rattle.std.proofs.Common.{◌≡◌, ◌==◌, ◌≤◌, ◌<◌, ℕ, zero, suc, ◌+◌, Bool, true, false, cond, ◌&&◌, IsTrue, List, [], ◌∷◌, ◌++◌, length, length-append, is_some, refl, sym, ap, ◌∙◌, subst, append-nil, zero-add, arith}
use Rattle.std.specs.Prelude.{nat_le}
use Rattle.std.specs.List.{AllByRecursion}
use Rattle.std.proofs.lemmas.Bool.{eqb-true}
use Rattle.std.proofs.lemmas.Bool.Decides.{nat_tests}
use Rattle.std.proofs.lemmas.List.Elements.{filter-append}
use Rattle.sid_core.specs.declared.setup.Setup.{Setup}
use Rattle.sid_core.specs.Setup.{IsDeclared}
use Rattle.worker_script.specs.declared.script.Planned.{Planned}
use Rattle.worker_script.specs.Script.{own_number, numbers_of, DiesLast, IsPlanned}
use Rattle.worker_script.specs.Fits.{own_plan, planned_of, stops_of}
use Rattle.opendb_run.specs.Order.{is_by, calls_by, in_turn, in_order}

-- ---- what holds of each call

pub all-append : {X : Type 0} (P : X → Type 0) (xs ys : List X) → AllByRecursion P xs → AllByRecursion P ys → AllByRecursion P (xs ++ ys)
all-append P [] ys a b = b
all-append P (x ∷ xs) ys a b = (a.0, all-append P xs ys a.1 b)

all-by_step : (P : Planned → Type 0) (p : Planned) (own : List Planned) (b : Bool) → P p → AllByRecursion P own → AllByRecursion P (cond b (p ∷ own) own)
all-by_step P p own true here all = (here, all)
all-by_step P p own false here all = all

all-by : (P : Planned → Type 0) (worker : ℕ) (calls : List Planned) → AllByRecursion P calls → AllByRecursion P (calls_by worker calls)
all-by P worker [] all = tt
all-by P worker (p ∷ calls) all = all-by_step P p (calls_by worker calls) (p.worker == worker) all.0 (all-by P worker calls all.1)

all-in_turn : (P : Planned → Type 0) (worker others : ℕ) (calls : List Planned) → AllByRecursion P calls → AllByRecursion P (in_turn worker others calls)
all-in_turn P worker zero calls all = tt
all-in_turn P worker (suc others) calls all =
    all-append P (calls_by worker calls) (in_turn (suc worker) others calls) (all-by P worker calls all) (all-in_turn P (suc worker) others calls all)

pub all-in_order : (P : Planned → Type 0) (setup : Setup) (calls : List Planned) → AllByRecursion P calls → AllByRecursion P (in_order setup calls)
all-in_order P setup calls all = all-in_turn P 1 (length setup.workers) calls all

-- ---- one worker's among those of one worker

by_step : (w v : ℕ) (p : Planned) (own : List Planned) (b : Bool) → (p.worker == v) ≡ b → (v == w) ≡ false → calls_by w own ≡ [] → calls_by w (cond b (p ∷ own) own) ≡ []
by_step w v p own true e apart ih =
    let other : (p.worker == w) ≡ false = grind (arith, nat_tests) in
    rw other ih
by_step w v p own false e apart ih = ih

by_others : (w v : ℕ) (calls : List Planned) → (v == w) ≡ false → calls_by w (calls_by v calls) ≡ []
by_others w v [] apart = refl
by_others w v (p ∷ calls) apart = by_step w v p (calls_by v calls) (p.worker == v) refl apart (by_others w v calls apart)

again_step : (w : ℕ) (p : Planned) (own : List Planned) (b : Bool) → (p.worker == w) ≡ b → calls_by w own ≡ own → calls_by w (cond b (p ∷ own) own) ≡ cond b (p ∷ own) own
again_step w p own true e ih = rw e (ap (λ ps. p ∷ ps) ih)
again_step w p own false e ih = ih

by_again : (w : ℕ) (calls : List Planned) → calls_by w (calls_by w calls) ≡ calls_by w calls
by_again w [] = refl
by_again w (p ∷ calls) = again_step w p (calls_by w calls) (p.worker == w) refl (by_again w calls)

-- ---- one worker's among those of several

before : (w v others : ℕ) (calls : List Planned) → w < v → calls_by w (in_turn v others calls) ≡ []
before w v zero calls h = refl
before w v (suc others) calls h =
    let apart : (v == w) ≡ false = grind (arith, nat_tests) in
    filter-append (is_by w) (calls_by v calls) (in_turn (suc v) others calls)
    ∙ ap (λ ps. ps ++ calls_by w (in_turn (suc v) others calls)) (by_others w v calls apart)
    ∙ before w (suc v) others calls (omega (arith, h))

behind : (w v others : ℕ) (calls : List Planned) → v + others ≤ w → calls_by w (in_turn v others calls) ≡ []
behind w v zero calls h = refl
behind w v (suc others) calls h =
    let less : v < w = omega (arith, h) in
    let apart : (v == w) ≡ false = grind (arith, nat_tests) in
    filter-append (is_by w) (calls_by v calls) (in_turn (suc v) others calls)
    ∙ ap (λ ps. ps ++ calls_by w (in_turn (suc v) others calls)) (by_others w v calls apart)
    ∙ behind w (suc v) others calls (omega (arith, h))

among_step : (w v others : ℕ) (calls : List Planned) (b : Bool) → (v == w) ≡ b → (v < w → calls_by w (in_turn (suc v) others calls) ≡ calls_by w calls) → v ≤ w
    → calls_by w (calls_by v calls) ++ calls_by w (in_turn (suc v) others calls) ≡ calls_by w calls
among_step w v others calls true e rest low =
    let same : v ≡ w = grind (arith, nat_tests) in
    let none : calls_by w (in_turn (suc v) others calls) ≡ [] = before w (suc v) others calls (omega (arith, same)) in
    rw none (append-nil (calls_by w (calls_by v calls)) ∙ ap (λ x. calls_by w (calls_by x calls)) same ∙ by_again w calls)
among_step w v others calls false e rest low =
    let less : v < w = grind (arith, nat_tests) in
    rw (by_others w v calls e) (rest less)

among : (w v others : ℕ) (calls : List Planned) → v ≤ w → w < v + others → calls_by w (in_turn v others calls) ≡ calls_by w calls
among w v zero calls low high = absurd (omega (arith, low, high))
among w v (suc others) calls low high =
    filter-append (is_by w) (calls_by v calls) (in_turn (suc v) others calls)
    ∙ among_step w v others calls (v == w) refl (λ less. among w (suc v) others calls (omega (arith, less)) (omega (arith, high))) low

-- ---- where all workers are declared

none_step : (w : ℕ) (p : Planned) (own : List Planned) (b : Bool) → (p.worker == w) ≡ b → ((p.worker ≡ w) → ⊥) → own ≡ [] → cond b (p ∷ own) own ≡ []
none_step w p own true e apart ih = let same : p.worker ≡ w = grind (arith, nat_tests) in absurd (apart same)
none_step w p own false e apart ih = ih

none_by : (setup : Setup) (w : ℕ) (calls : List Planned) → AllByRecursion (IsPlanned setup) calls → (IsDeclared setup.workers w → ⊥) → calls_by w calls ≡ []
none_by setup w [] all undeclared = refl
none_by setup w (p ∷ calls) all undeclared =
    none_step w p (calls_by w calls) (p.worker == w) refl (λ same. undeclared (subst (IsDeclared setup.workers) same all.0.worker)) (none_by setup w calls all.1 undeclared)

-- Each worker's calls are those of the phase, in their order.
pub order_keeps : (setup : Setup) (w : ℕ) (calls : List Planned) → AllByRecursion (IsPlanned setup) calls → calls_by w (in_order setup calls) ≡ calls_by w calls
order_keeps setup w calls all = low (nat_le 1 w) refl (nat_le w (length setup.workers)) refl
  where
    low : (a : Bool) → nat_le 1 w ≡ a → (b : Bool) → nat_le w (length setup.workers) ≡ b → calls_by w (in_order setup calls) ≡ calls_by w calls
    low false e b f =
        let under : w < 1 = grind (arith, nat_tests) in
        before w 1 (length setup.workers) calls under ∙ sym (none_by setup w calls all (λ d. let one : 1 ≤ w = d.0 in omega (arith, one, under)))
    low true e false f =
        let over : length setup.workers < w = grind (arith, nat_tests) in
        behind w 1 (length setup.workers) calls (omega (arith, over)) ∙ sym (none_by setup w calls all (λ d. let most : w ≤ length setup.workers = d.1 in omega (arith, most, over)))
    low true e true f =
        let one : 1 ≤ w = grind (arith, nat_tests) in
        let most : w ≤ length setup.workers = grind (arith, nat_tests) in
        among w 1 (length setup.workers) calls one (omega (arith, most))

-- ---- what goes by a worker's calls alone

numbers_step : (w : ℕ) (p : Planned) (own calls : List Planned) (b : Bool) → (p.worker == w) ≡ b → numbers_of w own ≡ numbers_of w calls
    → numbers_of w (cond b (p ∷ own) own) ≡ own_number w p ++ numbers_of w calls
numbers_step w p own calls true e ih = ap (λ ns. own_number w p ++ ns) ih
numbers_step w p own calls false e ih = rw e ih

numbers_by : (w : ℕ) (calls : List Planned) → numbers_of w (calls_by w calls) ≡ numbers_of w calls
numbers_by w [] = refl
numbers_by w (p ∷ calls) = numbers_step w p (calls_by w calls) calls (p.worker == w) refl (numbers_by w calls)

planned_step : (w : ℕ) (p : Planned) (own calls : List Planned) (b : Bool) → (p.worker == w) ≡ b → planned_of w own ≡ planned_of w calls
    → planned_of w (cond b (p ∷ own) own) ≡ own_plan w p ++ planned_of w calls
planned_step w p own calls true e ih = ap (λ ps. own_plan w p ++ ps) ih
planned_step w p own calls false e ih = rw e ih

planned_by : (w : ℕ) (calls : List Planned) → planned_of w (calls_by w calls) ≡ planned_of w calls
planned_by w [] = refl
planned_by w (p ∷ calls) = planned_step w p (calls_by w calls) calls (p.worker == w) refl (planned_by w calls)

stops_step : (w : ℕ) (p : Planned) (own calls : List Planned) (b : Bool) → (p.worker == w) ≡ b → stops_of w own ≡ stops_of w calls
    → stops_of w (cond b (p ∷ own) own) ≡ cond ((p.worker == w) && is_some p.stop) 1 0 + stops_of w calls
stops_step w p own calls true e ih = ap (λ n. cond ((p.worker == w) && is_some p.stop) 1 0 + n) ih
stops_step w p own calls false e ih = rw e (ih ∙ sym (zero-add (stops_of w calls)))

stops_by : (w : ℕ) (calls : List Planned) → stops_of w (calls_by w calls) ≡ stops_of w calls
stops_by w [] = refl
stops_by w (p ∷ calls) = stops_step w p (calls_by w calls) calls (p.worker == w) refl (stops_by w calls)

pub planned_in_order : (setup : Setup) (w : ℕ) (calls : List Planned) → AllByRecursion (IsPlanned setup) calls → planned_of w (in_order setup calls) ≡ planned_of w calls
planned_in_order setup w calls all = sym (planned_by w (in_order setup calls)) ∙ ap (planned_of w) (order_keeps setup w calls all) ∙ planned_by w calls

pub stops_in_order : (setup : Setup) (w : ℕ) (calls : List Planned) → AllByRecursion (IsPlanned setup) calls → stops_of w (in_order setup calls) ≡ stops_of w calls
stops_in_order setup w calls all = sym (stops_by w (in_order setup calls)) ∙ ap (stops_of w) (order_keeps setup w calls all) ∙ stops_by w calls

-- ---- that a worker's stop is its last call

dies_step : (w : ℕ) (p : Planned) (own calls : List Planned) (b : Bool) → (p.worker == w) ≡ b → numbers_of w own ≡ numbers_of w calls → DiesLast w own → DiesLast w (p ∷ calls)
    → DiesLast w (cond b (p ∷ own) own)
dies_step w p own calls true e same ih last = (λ stop. same ∙ last.0 stop, ih)
dies_step w p own calls false e same ih last = ih

dies_by : (w : ℕ) (calls : List Planned) → DiesLast w calls → DiesLast w (calls_by w calls)
dies_by w [] last = tt
dies_by w (p ∷ calls) last = dies_step w p (calls_by w calls) calls (p.worker == w) refl (numbers_by w calls) (dies_by w calls last.1) last

not_by : (a b : Bool) → a ≡ false → IsTrue (a && b) → ⊥
not_by true b e f = cc
not_by false b e f = cc

undo_step : (w : ℕ) (p : Planned) (own calls : List Planned) (b : Bool) → (p.worker == w) ≡ b → numbers_of w own ≡ numbers_of w calls → (DiesLast w own → DiesLast w calls)
    → DiesLast w (cond b (p ∷ own) own) → DiesLast w (p ∷ calls)
undo_step w p own calls true e same ih last = (λ stop. sym same ∙ last.0 stop, ih last.1)
undo_step w p own calls false e same ih last = (λ stop. absurd (not_by (p.worker == w) (is_some p.stop) e stop), ih last)

dies_of_by : (w : ℕ) (calls : List Planned) → DiesLast w (calls_by w calls) → DiesLast w calls
dies_of_by w [] last = tt
dies_of_by w (p ∷ calls) last = undo_step w p (calls_by w calls) calls (p.worker == w) refl (numbers_by w calls) (dies_of_by w calls) last

-- It goes by the worker's calls alone, so the order of the others doesn't matter.
pub dies_in_order : (setup : Setup) (w : ℕ) (calls later : List Planned) → AllByRecursion (IsPlanned setup) calls → DiesLast w (calls ++ later) → DiesLast w (in_order setup calls ++ later)
dies_in_order setup w calls later all last =
    let same : calls_by w (in_order setup calls ++ later) ≡ calls_by w (calls ++ later) =
    filter-append (is_by w) (in_order setup calls) later ∙ ap (λ ps. ps ++ calls_by w later) (order_keeps setup w calls all) ∙ sym (filter-append (is_by w) calls later) in
    dies_of_by w (in_order setup calls ++ later) (subst (DiesLast w) (sym same) (dies_by w (calls ++ later) last))

-- ---- how many there are

-- one call more is one more at most, and none where all of these workers come after its own
one_more : (worker others : ℕ) (p : Planned) (calls : List Planned) → (length (in_turn worker others (p ∷ calls)) ≤ length (in_turn worker others calls) + 1)
    × (p.worker < worker → length (in_turn worker others (p ∷ calls)) ≡ length (in_turn worker others calls))
one_more worker zero p calls = (omega arith, λ h. refl)
one_more worker (suc others) p calls =
    let rest = one_more (suc worker) others p calls in
    let before = length-append (calls_by worker calls) (in_turn (suc worker) others calls) in
    let after = length-append (calls_by worker (p ∷ calls)) (in_turn (suc worker) others (p ∷ calls)) in
    here (p.worker == worker) refl rest before after
  where
    here : (b : Bool) → (p.worker == worker) ≡ b
        → (length (in_turn (suc worker) others (p ∷ calls)) ≤ length (in_turn (suc worker) others calls) + 1) × (p.worker < suc worker → length (in_turn (suc worker) others (p ∷ calls)) ≡ length (in_turn (suc worker) others calls))
        → length (in_turn worker (suc others) calls) ≡ length (calls_by worker calls) + length (in_turn (suc worker) others calls)
        → length (in_turn worker (suc others) (p ∷ calls)) ≡ length (calls_by worker (p ∷ calls)) + length (in_turn (suc worker) others (p ∷ calls))
        → (length (in_turn worker (suc others) (p ∷ calls)) ≤ length (in_turn worker (suc others) calls) + 1) × (p.worker < worker → length (in_turn worker (suc others) (p ∷ calls)) ≡ length (in_turn worker (suc others) calls))
    here true e rest before after =
        let own : p.worker ≡ worker = eqb-true p.worker worker e in
        let more : length (calls_by worker (p ∷ calls)) ≡ length (calls_by worker calls) + 1 = ap (λ b. length (cond b (p ∷ calls_by worker calls) (calls_by worker calls))) e ∙ omega arith in
        let same : length (in_turn (suc worker) others (p ∷ calls)) ≡ length (in_turn (suc worker) others calls) = rest.1 (omega arith) in
        (omega arith, λ h. absurd (omega arith))
    here false e rest before after =
        let same : length (calls_by worker (p ∷ calls)) ≡ length (calls_by worker calls) = ap (λ b. length (cond b (p ∷ calls_by worker calls) (calls_by worker calls))) e in
        (omega (arith, rest.0), λ h. let later : length (in_turn (suc worker) others (p ∷ calls)) ≡ length (in_turn (suc worker) others calls) = rest.1 (omega arith) in omega arith)

no_more_in_turn : (worker others : ℕ) (calls : List Planned) → length (in_turn worker others calls) ≤ length calls
no_more_in_turn worker others [] = none worker others
  where
    none : (w n : ℕ) → length (in_turn w n []) ≤ 0
    none w zero = omega arith
    none w (suc n) = none (suc w) n
no_more_in_turn worker others (p ∷ calls) = omega (arith, (one_more worker others p calls).0, no_more_in_turn worker others calls)

pub no_more_in_order : (setup : Setup) (calls : List Planned) → length (in_order setup calls) ≤ length calls
no_more_in_order setup calls = no_more_in_turn 1 (length setup.workers) calls
