-- What is planned for each worker, when one call more is planned.
use Rattle.std.proofs.Common.{◌≡◌, ℕ, ◌+◌, ◌-◌, ◌<◌, ◌≤◌, Bool, true, false, cond, eqb, ◌&&◌, ◌||◌, List, [], ◌∷◌, ◌++◌, length, get_or, set, is_some, refl, ap, sym, ◌∙◌, length-append, append-nil, arith}
use Rattle.std.proofs.Math.Bool.{or-false, or_assoc}
use Rattle.std.specs.List.{fold}
use Rattle.std.proofs.lemmas.Bool.Decides.{nat_tests}
use Rattle.std.proofs.lemmas.List.{get_or-set_same, get_or-set_other}
use Rattle.worker_script.specs.declared.script.Planned.{Planned}
use Rattle.worker_script.specs.declared.reader.Tally.{Tally}
use Rattle.worker_script.specs.Script.{numbers_of, is_status_call, statuses_in}
use Rattle.worker_script.specs.Calls.{has_stopped}
use Rattle.worker_script.specs.Reader.{tally_in, no_tally}
use Rattle.worker_script.proofs.Counts.{numbers_of-append, own_number-own, own_number-other}

stopped-push : (worker : ℕ) (calls : List Planned) (planned : Planned)
    → has_stopped worker (calls ++ planned ∷ []) ≡ (has_stopped worker calls || (eqb planned.worker worker && is_some planned.stop))
stopped-push worker [] planned = or-false (eqb planned.worker worker && is_some planned.stop)
stopped-push worker (x ∷ calls) planned =
    ap (λ b. (eqb x.worker worker && is_some x.stop) || b) (stopped-push worker calls planned)
    ∙ sym (or_assoc (eqb x.worker worker && is_some x.stop) (has_stopped worker calls) (eqb planned.worker worker && is_some planned.stop))

same-tally : (m n : ℕ) (a b : Bool) → m ≡ n → a ≡ b → ◌≡◌ {A = Tally} (record { made = m; stopped = a }) (record { made = n; stopped = b })
same-tally m n a b e f = cc

stops-own : (t a b : Bool) → t ≡ true → (a || (t && b)) ≡ (a || b)
stops-own t a b e = rw e refl

stops-other : (t a b : Bool) → t ≡ false → (a || (t && b)) ≡ a
stops-other t a b e = rw e (or-false a)

-- Its worker has one call more, and dies where it has a stop.
pub tally-own : (worker : ℕ) (calls : List Planned) (planned : Planned) → planned.worker ≡ worker
    → tally_in (calls ++ planned ∷ []) worker ≡ record { made = length (numbers_of worker calls) + 1; stopped = has_stopped worker calls || is_some planned.stop }
tally-own worker calls planned own =
    let same : eqb planned.worker worker ≡ true = grind (arith, nat_tests) in
    let numbers : numbers_of worker (calls ++ planned ∷ []) ≡ numbers_of worker calls ++ planned.number ∷ [] =
    rw (numbers_of-append worker calls (planned ∷ []), own_number-own worker planned own) refl in
    same-tally (length (numbers_of worker (calls ++ planned ∷ []))) (length (numbers_of worker calls) + 1)
    (has_stopped worker (calls ++ planned ∷ [])) (has_stopped worker calls || is_some planned.stop)
    (rw numbers (length-append (numbers_of worker calls) (planned.number ∷ [])))
    (stopped-push worker calls planned ∙ stops-own (eqb planned.worker worker) (has_stopped worker calls) (is_some planned.stop) same)

-- The other workers have what they had.
pub tally-other : (worker : ℕ) (calls : List Planned) (planned : Planned) → eqb planned.worker worker ≡ false
    → tally_in (calls ++ planned ∷ []) worker ≡ tally_in calls worker
tally-other worker calls planned other =
    let numbers : numbers_of worker (calls ++ planned ∷ []) ≡ numbers_of worker calls =
    rw (numbers_of-append worker calls (planned ∷ []), own_number-other worker planned other) (append-nil (numbers_of worker calls)) in
    same-tally (length (numbers_of worker (calls ++ planned ∷ []))) (length (numbers_of worker calls))
    (has_stopped worker (calls ++ planned ∷ [])) (has_stopped worker calls)
    (ap length numbers)
    (stopped-push worker calls planned ∙ stops-other (eqb planned.worker worker) (has_stopped worker calls) (is_some planned.stop) other)

fold-push : {X Y : Type 0} (f : Y → X → Y) (a : Y) (xs : List X) (x : X) → fold f a (xs ++ x ∷ []) ≡ f (fold f a xs) x
fold-push f a [] x = refl
fold-push f a (y ∷ xs) x = fold-push f (f a y) xs x

-- A `status` call more, or not.
pub statuses-push : (calls : List Planned) (planned : Planned)
    → statuses_in (calls ++ planned ∷ []) ≡ statuses_in calls + cond (is_status_call planned.call) 1 0
statuses-push calls planned = fold-push (λ (n : ℕ) (p : Planned). n + cond (is_status_call p.call) 1 0) 0 calls planned

-- a worker's tally with this call
abbrev pub raised : List Planned → Planned → Tally
raised calls planned = record { made = length (numbers_of planned.worker calls) + 1; stopped = has_stopped planned.worker calls || is_some planned.stop }

-- Each worker has a tally with what is planned for it.
pub record AreTallies (tallies : List Tally) (calls : List Planned) : Type 0 where
  pub each : (i : ℕ) → i < length tallies → get_or tallies i no_tally ≡ tally_in calls (i + 1)

tally-step : (tallies : List Tally) (calls : List Planned) (planned : Planned) (i : ℕ) (own : Bool) → eqb planned.worker (i + 1) ≡ own
    → 1 ≤ planned.worker → planned.worker ≤ length tallies → i < length tallies → AreTallies tallies calls
    → get_or (set tallies (planned.worker - 1) (record { made = length (numbers_of planned.worker calls) + 1; stopped = has_stopped planned.worker calls || is_some planned.stop })) i no_tally
    ≡ tally_in (calls ++ planned ∷ []) (i + 1)
tally-step tallies calls planned i true e some within here are =
    let same : planned.worker ≡ i + 1 = grind (arith, nat_tests) in
    let place : planned.worker - 1 ≡ i = omega arith in
    let put : get_or (set tallies (planned.worker - 1) (raised calls planned)) i no_tally ≡ raised calls planned =
    rw place (get_or-set_same tallies i (raised calls planned) no_tally here) in
    put ∙ (sym (tally-own planned.worker calls planned refl) ∙ ap (λ (w : ℕ). tally_in (calls ++ planned ∷ []) w) same)
tally-step tallies calls planned i false e some within here are =
    let apart : i ≡ planned.worker - 1 → ⊥ = λ eq. absurd (grind (arith, nat_tests)) in
    get_or-set_other tallies (planned.worker - 1) i _ no_tally apart ∙ are.each i here ∙ sym (tally-other (i + 1) calls planned e)

-- One call more.
pub tallies-plan : (tallies : List Tally) (calls : List Planned) (planned : Planned) → 1 ≤ planned.worker → planned.worker ≤ length tallies → AreTallies tallies calls
    → (i : ℕ) → i < length tallies
    → get_or (set tallies (planned.worker - 1) (record { made = length (numbers_of planned.worker calls) + 1; stopped = has_stopped planned.worker calls || is_some planned.stop })) i no_tally
    ≡ tally_in (calls ++ planned ∷ []) (i + 1)
tallies-plan tallies calls planned some within are i here = tally-step tallies calls planned i (eqb planned.worker (i + 1)) refl some within here are
