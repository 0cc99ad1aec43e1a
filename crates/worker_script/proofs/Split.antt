-- A line while it is split.
use Rattle.std.proofs.Common.{◌≡◌, ◌≢◌, ℕ, zero, suc, ◌+◌, ◌-◌, ◌<◌, ◌≤◌, Bool, true, false, cond, eqb, ltb, List, [], ◌∷◌, length, set, refl, sym, ap, ◌∙◌, arith}
use Rattle.std.proofs.lemmas.Bool.Decides.{nat_tests}
use Rattle.std.proofs.lemmas.Option.{IfSome_then}
use Rattle.std.specs.Prelude.{slice_get, IfSome}
use Rattle.std.specs.Borrow.{Bor}
use Rattle.worker_script.specs.Text.{token}
use Rattle.worker_script.specs.Calls.{last_token}
use Rattle.worker_script.specs.Line.{IsLine}

-- So many of the tokens were found, and these are left. The first nine are kept, and the last.
pub record Splitting (ts left : List (List ℕ)) (count : ℕ) (first : List (Bor (List ℕ))) (last : List ℕ) : Type 0 where
  pub ahead : (index : ℕ) → token (count + index) ts ≡ token index left
  pub counted : count + length left ≡ length ts
  pub kept : (index : ℕ) → index < 9 → IfSome (slice_get first index) (λ t. t.now ≡ cond (ltb index count) (token index ts) [])
  pub none : count ≡ 0 → last ≡ []
  pub some : 0 < count → last ≡ token (count - 1) ts

-- ---- what an array holds after one of its items is set

set-same : {X : Type 0} (xs : List X) (i : ℕ) (x : X) (P : X → Type 0) → P x → IfSome (slice_get (set xs i x) i) P
set-same [] i x P p = tt
set-same (y ∷ ys) zero x P p = p
set-same (y ∷ ys) (suc i) x P p = set-same ys i x P p

set-other : {X : Type 0} (xs : List X) (i j : ℕ) (x : X) (P : X → Type 0) → j ≢ i → IfSome (slice_get xs j) P → IfSome (slice_get (set xs i x) j) P
set-other [] i j x P other old = old
set-other (y ∷ ys) zero zero x P other old = absurd (other refl)
set-other (y ∷ ys) zero (suc j) x P other old = old
set-other (y ∷ ys) (suc i) zero x P other old = old
set-other (y ∷ ys) (suc i) (suc j) x P other old = set-other ys i j x P (λ e. other (ap suc e)) old

-- ---- one step

at-same : (ts : List (List ℕ)) (a b : ℕ) → a ≡ b → token a ts ≡ token b ts
at-same ts a b e = ap (λ i. token i ts) e

-- An empty part changes nothing.
pub split-skip : (ts a b : List (List ℕ)) (count : ℕ) (first : List (Bor (List ℕ))) (last : List ℕ) → a ≡ b → Splitting ts a count first last → Splitting ts b count first last
split-skip ts a b count first last e s = rw (sym e) s

same-test : (index count : ℕ) → index ≢ count → ltb index count ≡ ltb index (count + 1)
same-test index count other = grind (arith, nat_tests)

other-kept : (ts : List (List ℕ)) (index count : ℕ) (first : List (Bor (List ℕ))) → index ≢ count
    → IfSome (slice_get first index) (λ t. t.now ≡ cond (ltb index count) (token index ts) [])
    → IfSome (slice_get first index) (λ t. t.now ≡ cond (ltb index (count + 1)) (token index ts) [])
other-kept ts index count first other old = rw (sym (same-test index count other)) old

next-at : (ts : List (List ℕ)) (index count : ℕ) (first : List (Bor (List ℕ))) (new : Bor (List ℕ)) (here : Bool) → eqb index count ≡ here
    → new.now ≡ token count ts
    → IfSome (slice_get first index) (λ t. t.now ≡ cond (ltb index count) (token index ts) [])
    → IfSome (slice_get (set first count new) index) (λ t. t.now ≡ cond (ltb index (count + 1)) (token index ts) [])
next-at ts index count first new true here is old =
    let same : index ≡ count = grind (arith, nat_tests) in
    let test : ltb count (count + 1) ≡ true = grind (arith, nat_tests) in
    rw same (set-same first count new (λ t. t.now ≡ cond (ltb count (count + 1)) (token count ts) []) (rw test is))
next-at ts index count first new false here is old =
    let other : index ≢ count = grind (arith, nat_tests) in
    set-other first count index new (λ t. t.now ≡ cond (ltb index (count + 1)) (token index ts) []) other (other-kept ts index count first other old)

token-here : (ts left : List (List ℕ)) (part : List ℕ) (count : ℕ) → ((index : ℕ) → token (count + index) ts ≡ token index (part ∷ left)) → token count ts ≡ part
token-here ts left part count ahead = at-same ts count (count + 0) (grind arith) ∙ ahead 0

next-token : (part : List ℕ) (left : List (List ℕ)) (index : ℕ) → token (index + 1) (part ∷ left) ≡ token index left
next-token part left index = grind (arith, nat_tests)

token-later : (ts left : List (List ℕ)) (part : List ℕ) (count : ℕ) → ((index : ℕ) → token (count + index) ts ≡ token index (part ∷ left)) → (index : ℕ) → token (count + 1 + index) ts ≡ token index left
token-later ts left part count ahead index = at-same ts (count + 1 + index) (count + (index + 1)) (grind arith) ∙ (ahead (index + 1) ∙ next-token part left index)

-- The next token is the last so far, and is kept where there is room.
pub split-kept : (ts left : List (List ℕ)) (count : ℕ) (first : List (Bor (List ℕ))) (new : Bor (List ℕ)) (last : List ℕ)
    → Splitting ts (new.now ∷ left) count first last → Splitting ts left (count + 1) (set first count new) new.now
split-kept ts left count first new last s =
    let here = token-here ts left new.now count s.ahead in
    let counted = s.counted in
    record {
      ahead = token-later ts left new.now count s.ahead;
      counted = grind arith;
      kept = λ index small. next-at ts index count first new (eqb index count) refl (sym here) (s.kept index small);
      none = λ zero. absurd (omega arith);
      some = λ some. sym here ∙ at-same ts count (count + 1 - 1) (grind arith);
    }

pub split-full : (ts left : List (List ℕ)) (count : ℕ) (first : List (Bor (List ℕ))) (new last : List ℕ) → 9 ≤ count
    → Splitting ts (new ∷ left) count first last → Splitting ts left (count + 1) first new
split-full ts left count first new last full s =
    let here = token-here ts left new count s.ahead in
    let counted = s.counted in
    record {
      ahead = token-later ts left new count s.ahead;
      counted = grind arith;
      kept = λ index small. other-kept ts index count first (λ e. absurd (omega arith)) (s.kept index small);
      none = λ zero. absurd (omega arith);
      some = λ some. sym here ∙ at-same ts count (count + 1 - 1) (grind arith);
    }

-- ---- the end

beyond : (ts : List (List ℕ)) (index count : ℕ) (within : Bool) → ltb index count ≡ within → ((i : ℕ) → token (count + i) ts ≡ []) → cond within (token index ts) [] ≡ token index ts
beyond ts index count true e none = refl
beyond ts index count false e none =
    let past : count + (index - count) ≡ index = grind (arith, nat_tests) in
    sym (none (index - count)) ∙ at-same ts (count + (index - count)) index past

the-count : (count all : ℕ) → count + 0 ≡ all → count ≡ all
the-count count all e = grind arith

no-token : (ts : List (List ℕ)) → ((i : ℕ) → token (0 + i) ts ≡ []) → last_token ts ≡ []
no-token ts none = at-same ts (length ts - 1) (0 + (length ts - 1)) (grind arith) ∙ none (length ts - 1)

ends : (ts : List (List ℕ)) (count : ℕ) (first : List (Bor (List ℕ))) (last : List ℕ) → Splitting ts [] count first last → last ≡ last_token ts
ends ts zero first last s = s.none refl ∙ sym (no-token ts s.ahead)
ends ts (suc count) first last s = (let counted = s.counted in s.some (omega arith) ∙ ap (λ n. token (n - 1) ts) (the-count (suc count) (length ts) counted))

-- With no part left, all is found.
pub split-done : (ts : List (List ℕ)) (count : ℕ) (first : List (Bor (List ℕ))) (last : List ℕ) → Splitting ts [] count first last → IsLine ts count first last
split-done ts count first last s =
    let counted = s.counted in
    record {
      counted = grind arith;
      kept = λ index small. IfSome_then (slice_get first index) (s.kept index small) (λ t is. is ∙ beyond ts index count (ltb index count) refl s.ahead);
      ends = ends ts count first last s;
    }
