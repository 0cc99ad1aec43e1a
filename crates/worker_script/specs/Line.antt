-- The code's own: what is kept of a line that was split.
use Rattle.std.specs.Prelude.{◌≡◌, ℕ, ◌<◌, List, length, slice_get, IfSome}
use Rattle.std.specs.Borrow.{Bor}
use Rattle.worker_script.specs.Text.{token}
use Rattle.worker_script.specs.Calls.{last_token}

-- the number of the tokens, the first nine and the last, or nothing where there are fewer
pub record IsLine (ts : List (List ℕ)) (count : ℕ) (first : List (Bor (List ℕ))) (last : List ℕ) : Type 0 where
  pub counted : count ≡ length ts
  pub kept : (index : ℕ) → index < 9 → IfSome (slice_get first index) (λ t. t.now ≡ token index ts)
  pub ends : last ≡ last_token ts
