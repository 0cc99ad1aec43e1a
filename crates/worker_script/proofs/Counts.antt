-- The planned calls, when one more is planned.
use Rattle.std.proofs.Common.{IsTrue, ◌≡◌, ℕ, ◌+◌, ◌≤◌, Bool, true, false, cond, eqb, ◌&&◌, ◌||◌, List, [], ◌∷◌, ◌++◌, length, Option, Some, None, is_some, refl, ap, sym, ◌∙◌, append_assoc, length-append, append-nil, arith}
use Rattle.std.proofs.lemmas.Bool.{or_parts, both_ways}
use Rattle.std.proofs.lemmas.Bool.Decides.{nat_tests}
use Rattle.std.specs.Option.{option_to_list, IsSome}
use Rattle.worker_script.specs.declared.script.Planned.{Planned}
use Rattle.worker_script.specs.declared.script.Phase.{Phase}
use Rattle.worker_script.specs.Script.{all_calls, own_number, numbers_of, DiesLast}
use Rattle.worker_script.specs.Calls.{has_stopped}
use Rattle.worker_script.specs.Lines.{with_planned}

pub all_calls-append : (xs ys : List Phase) → all_calls (xs ++ ys) ≡ all_calls xs ++ all_calls ys
all_calls-append [] ys = refl
all_calls-append (x ∷ xs) ys = ap (λ zs. x.calls ++ zs) (all_calls-append xs ys) ∙ sym (append_assoc x.calls (all_calls xs) (all_calls ys))

pub numbers_of-append : (worker : ℕ) (xs ys : List Planned) → numbers_of worker (xs ++ ys) ≡ numbers_of worker xs ++ numbers_of worker ys
numbers_of-append worker [] ys = refl
numbers_of-append worker (x ∷ xs) ys = rw (numbers_of-append worker xs ys) (sym (append_assoc (own_number worker x) (numbers_of worker xs) (numbers_of worker ys)))

-- The call stands behind all others.
pub all_calls-push : (phases : List Phase) (current : Option Phase) (planned : Planned) → IsSome current
    → all_calls (phases ++ option_to_list (with_planned current planned)) ≡ all_calls (phases ++ option_to_list current) ++ planned ∷ []
all_calls-push phases None planned some = cc
all_calls-push phases (Some phase) planned some = simp (all_calls-append, append-nil, append_assoc)

pub planned-more : (phases : List Phase) (current : Option Phase) (planned : Planned) → IsSome current
    → length (all_calls (phases ++ option_to_list (with_planned current planned))) ≡ length (all_calls (phases ++ option_to_list current)) + 1
planned-more phases current planned some = rw (all_calls-push phases current planned some) (simp length-append)

pub own_number-own : (worker : ℕ) (planned : Planned) → planned.worker ≡ worker → own_number worker planned ≡ planned.number ∷ []
own_number-own worker planned own = grind (arith, nat_tests)

-- It is its worker's last.
pub numbers-push : (worker : ℕ) (phases : List Phase) (current : Option Phase) (planned : Planned) → IsSome current → planned.worker ≡ worker
    → numbers_of worker (all_calls (phases ++ option_to_list (with_planned current planned)))
    ≡ numbers_of worker (all_calls (phases ++ option_to_list current)) ++ planned.number ∷ []
numbers-push worker phases current planned some own =
    rw (all_calls-push phases current planned some, numbers_of-append, own_number-own worker planned own) refl

pub own_number-other : (worker : ℕ) (planned : Planned) → eqb planned.worker worker ≡ false → own_number worker planned ≡ []
own_number-other worker planned other = rw other refl

-- The calls of other workers stay.
pub numbers-others : (worker : ℕ) (phases : List Phase) (current : Option Phase) (planned : Planned) → IsSome current → eqb planned.worker worker ≡ false
    → numbers_of worker (all_calls (phases ++ option_to_list (with_planned current planned)))
    ≡ numbers_of worker (all_calls (phases ++ option_to_list current))
numbers-others worker phases current planned some other =
    rw (all_calls-push phases current planned some, numbers_of-append, own_number-other worker planned other) (append-nil _)

own-few : (n : ℕ) (b : Bool) (ns : List ℕ) → length (cond b (n ∷ []) [] ++ ns) ≤ 1 + length ns
own-few n true ns = omega arith
own-few n false ns = omega arith

-- No worker has more calls than there are.
pub numbers-few : (worker : ℕ) (calls : List Planned) → length (numbers_of worker calls) ≤ length calls
numbers-few worker [] = omega arith
numbers-few worker (planned ∷ calls) =
    let own = own-few planned.number (eqb planned.worker worker) (numbers_of worker calls) in
    let others = numbers-few worker calls in omega arith

-- A new phase has no calls.
pub all_calls-new : (phases : List Phase) (phase : Phase) → phase.calls ≡ [] → all_calls (phases ++ phase ∷ []) ≡ all_calls phases
all_calls-new phases phase none = rw (all_calls-append, none) (append-nil _)

-- ---- where a worker is to die

-- The worker had no stop, and has its next call.
pub dies-push : (worker : ℕ) (calls : List Planned) (planned : Planned) → has_stopped worker calls ≡ false → DiesLast worker (calls ++ planned ∷ [])
dies-push worker [] planned e = (λ stop. refl, tt)
dies-push worker (x ∷ calls) planned e =
    let parts = or_parts (eqb x.worker worker && is_some x.stop) (has_stopped worker calls) e in
    (λ stop. absurd (both_ways (eqb x.worker worker && is_some x.stop) parts.0 stop), dies-push worker calls planned parts.1)

-- Another worker has its next call.
pub dies-others : (worker : ℕ) (calls : List Planned) (planned : Planned) → eqb planned.worker worker ≡ false → DiesLast worker calls → DiesLast worker (calls ++ planned ∷ [])
dies-others worker [] planned e last = (λ stop. refl, tt)
dies-others worker (x ∷ calls) planned e last =
    (λ stop. rw (numbers_of-append worker calls (planned ∷ []), own_number-other worker planned e) (append-nil (numbers_of worker calls) ∙ last.0 stop), dies-others worker calls planned e last.1)

no-tail : (ms ns : List ℕ) → ms ++ ns ≡ [] → ns ≡ []
no-tail [] ns e = e
no-tail (m ∷ ms) ns e = cc

has-number : (worker : ℕ) (before calls : List Planned) (planned : Planned) → planned.worker ≡ worker → numbers_of worker (before ++ planned ∷ calls) ≡ [] → ⊥
has-number worker [] calls planned own none =
    let own_first : numbers_of worker (planned ∷ calls) ≡ planned.number ∷ numbers_of worker calls = rw (own_number-own worker planned own) refl in cc
has-number worker (x ∷ before) calls planned own none =
    has-number worker before calls planned own (no-tail (own_number worker x) (numbers_of worker (before ++ planned ∷ calls)) none)

alive-step : (worker : ℕ) (before calls : List Planned) (planned : Planned) (stops others : Bool) → planned.worker ≡ worker
    → (IsTrue stops → numbers_of worker (before ++ planned ∷ calls) ≡ []) → others ≡ false → (stops || others) ≡ false
alive-step worker before calls planned true others own none e = absurd (has-number worker before calls planned own (none refl))
alive-step worker before calls planned false others own none e = e

-- A worker that has a call hasn't had its stop before it.
pub dies-alive : (worker : ℕ) (before calls : List Planned) (planned : Planned) → planned.worker ≡ worker → DiesLast worker (before ++ planned ∷ calls) → has_stopped worker before ≡ false
dies-alive worker [] calls planned own last = refl
dies-alive worker (x ∷ before) calls planned own last =
    alive-step worker before calls planned (eqb x.worker worker && is_some x.stop) (has_stopped worker before) own last.0 (dies-alive worker before calls planned own last.1)
