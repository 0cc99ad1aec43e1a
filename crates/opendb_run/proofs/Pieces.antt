-- A text that grew by one piece after another.
use Rattle.std.proofs.Common.{◌≡◌, ℕ, List, ◌++◌, Result, ap, ◌∙◌, append_assoc}
use Rattle.std.proofs.lemmas.Result.{on_ok_weaker}
use Rattle.std.specs.Result.{OnOk}

-- two pieces, of which the last may have failed
pub on_ok_after : {T E : Type 0} (r : Result T E) (old mid new first last : List ℕ) → mid ≡ old ++ first → OnOk r (new ≡ mid ++ last) → OnOk r (new ≡ old ++ (first ++ last))
on_ok_after r old mid new first last before then = on_ok_weaker r (λ after. after ∙ ap (λ l. l ++ last) before ∙ append_assoc old first last) then
