-- The code's own: what is found of the first line. No rule is stated here.
use Rattle.std.specs.Prelude.{◌≡◌, ℕ, ◌+◌, ◌<◌, true, false, if◌then◌else◌, List, [], ◌∷◌, length}
use Rattle.std.specs.List.{list_all}
use Rattle.worker_script.specs.Text.{lines, is_plain}

-- how many bytes that a line may have stand in front
abbrev pub plain_before : List ℕ → ℕ
plain_before [] = 0
plain_before (b ∷ bytes) = if is_plain b then plain_before bytes + 1 else 0

-- the first line, which has no other byte, and what comes behind its end
pub record IsFirstLine (bytes line after : List ℕ) : Type 0 where
  pub split : lines bytes ≡ line ∷ lines after
  pub plain : list_all is_plain line ≡ true
  pub less : length after < length bytes

-- the first line has a byte that no line may have
pub record HasBadFirst (bytes : List ℕ) : Type 0 where
  pub line : List ℕ
  pub others : List (List ℕ)
  pub split : lines bytes ≡ line ∷ others
  pub bad : list_all is_plain line ≡ false
