-- Numbers that count, and numbers that rise.
use Rattle.std.specs.Prelude.{◌≡◌, ℕ, ◌+◌, ◌<◌, ◌≤◌, List, [], ◌∷◌}

-- n, n + 1, n + 2 and so on
abbrev pub CountsFrom : ℕ → List ℕ → Type 0
CountsFrom n [] = Unit {0}
CountsFrom n (m ∷ ms) = (m ≡ n) × CountsFrom (n + 1) ms

-- each number is above the one before it
abbrev pub RisesAbove : ℕ → List ℕ → Type 0
RisesAbove low [] = Unit {0}
RisesAbove low (n ∷ ns) = (low < n) × RisesAbove n ns

-- m, and none below the one before
abbrev pub NeverFallsFrom : ℕ → List ℕ → Type 0
NeverFallsFrom m [] = Unit {0}
NeverFallsFrom m (n ∷ ns) = (m ≤ n) × NeverFallsFrom n ns
