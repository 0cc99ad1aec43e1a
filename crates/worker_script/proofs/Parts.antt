-- Parts and tokens, one after another.
use Rattle.std.proofs.Common.{◌≡◌, ◌≢◌, ℕ, ◌+◌, ◌<◌, Bool, true, false, cond, eqb, List, [], ◌∷◌, length, take, drop, refl, ap, ◌∙◌, add-one, arith}
use Rattle.std.specs.List.{onto_first}
use Rattle.worker_script.specs.Text.{parts, tokens, before}

parts-step : (sep b : ℕ) (bytes : List ℕ) (t : Bool)
    → (0 < length bytes → parts sep bytes ≡ take (before sep bytes) bytes ∷ parts sep (drop 1 (drop (before sep bytes) bytes)))
    → cond t ([] ∷ parts sep bytes) (onto_first b (parts sep bytes))
    ≡ take (cond t 0 (before sep bytes + 1)) (b ∷ bytes) ∷ parts sep (drop 1 (drop (cond t 0 (before sep bytes + 1)) (b ∷ bytes)))
parts-step sep b bytes true ih = refl
parts-step sep b [] false ih = refl
parts-step sep b (c ∷ bytes) false ih = rw (add-one, ih (omega arith)) refl

-- The first part ends at the first separator.
pub parts-before : (sep : ℕ) (bytes : List ℕ) → 0 < length bytes
    → parts sep bytes ≡ take (before sep bytes) bytes ∷ parts sep (drop 1 (drop (before sep bytes) bytes))
parts-before sep [] h = absurd (omega arith)
parts-before sep (b ∷ bytes) h = parts-step sep b bytes (eqb b sep) (λ more. parts-before sep bytes more)

pub first_part-more : (sep end : ℕ) (bytes part rest : List ℕ) → 0 < length bytes → end ≡ before sep bytes → part ≡ take end bytes → rest ≡ drop end bytes
    → parts sep bytes ≡ part ∷ parts sep (drop 1 rest)
first_part-more sep end bytes part rest some found front back = rw (back, front, found) (parts-before sep bytes some)

drop-none : (rest : List ℕ) → length rest ≡ 0 → drop 1 rest ≡ rest
drop-none [] e = refl
drop-none (b ∷ rest) e = absurd (omega arith)

pub first_part-last : (sep end : ℕ) (bytes part rest : List ℕ) → 0 < length bytes → end ≡ before sep bytes → part ≡ take end bytes → rest ≡ drop end bytes
    → length rest ≡ 0 → parts sep bytes ≡ part ∷ parts sep rest
first_part-last sep end bytes part rest some found front back none =
    first_part-more sep end bytes part rest some found front back ∙ ap (λ r. part ∷ parts sep r) (drop-none rest none)

-- An empty part is no token.
pub tokens-skip : (bytes part after : List ℕ) → parts 32 bytes ≡ part ∷ parts 32 after → length part ≡ 0 → tokens bytes ≡ tokens after
unfolding tokens
tokens-skip bytes [] after e none = rw e refl
tokens-skip bytes (b ∷ part) after e none = absurd (omega arith)

-- Another part is the next token.
pub tokens-next : (bytes part after : List ℕ) → parts 32 bytes ≡ part ∷ parts 32 after → length part ≢ 0 → tokens bytes ≡ part ∷ tokens after
unfolding tokens
tokens-next bytes [] after e some = absurd (some refl)
tokens-next bytes (b ∷ part) after e some = rw e refl

pub tokens-none : (rest : List ℕ) → length rest ≡ 0 → tokens rest ≡ []
unfolding tokens
tokens-none [] e = refl
tokens-none (b ∷ rest) e = absurd (omega arith)
