-- What steps append, one after the other.
use Rattle.std.proofs.Common.{◌≡◌, ℕ, List, ◌++◌, ap, ◌∙◌, append_assoc}

pub appended : (old first last a b : List ℕ) → first ≡ old ++ a → last ≡ first ++ b → last ≡ old ++ (a ++ b)
appended old first last a b e f = f ∙ ap (λ (l : List ℕ). l ++ b) e ∙ append_assoc old a b

-- four parts in one step, and then one more
pub appended_to_four : (old first last a b c d e : List ℕ) → first ≡ old ++ (a ++ (b ++ (c ++ d))) → last ≡ first ++ e → last ≡ old ++ (a ++ (b ++ (c ++ (d ++ e))))
appended_to_four old first last a b c d e f g =
    let parts : (a ++ (b ++ (c ++ d))) ++ e ≡ a ++ (b ++ (c ++ (d ++ e))) = append_assoc a (b ++ (c ++ d)) e ∙ ap (λ (l : List ℕ). a ++ l) (append_assoc b (c ++ d) e ∙ ap (λ (l : List ℕ). b ++ l) (append_assoc c d e)) in
    appended old first last (a ++ (b ++ (c ++ d))) e f g ∙ ap (λ (l : List ℕ). old ++ l) parts
