-- Lines that are written are split into their tokens again, and a text into its lines.
use Rattle.std.proofs.Common.{◌≡◌, ℕ, ◌+◌, Bool, true, false, not, cond, eqb, leb, ◌&&◌, List, [], ◌∷◌, ◌++◌, length, Result, Ok, Err, refl, sym, subst, ap, ◌∙◌, append-nil, arith}
use Rattle.std.specs.List.{list_all, filter}
use Rattle.std.proofs.lemmas.Bool.{and_parts, not-true, and_from}
use Rattle.std.proofs.lemmas.List.Folds.{list_all-append}
use Rattle.std.proofs.lemmas.Bool.Decides.{nat_tests}
use Rattle.worker_script.specs.declared.reason.Reason.{Reason}
use Rattle.worker_script.specs.declared.reason.Reason.TheVariants as reason
use Rattle.worker_script.specs.declared.script.Script.{Script}
use Rattle.worker_script.specs.Text.{parts, lines, tokens, is_empty, is_plain, before}
use Rattle.worker_script.specs.Lines.{Draft, nothing, script_of}
use Rattle.worker_script.specs.Reading.{word_line, read_line, BadLine, script_from, script}
use Rattle.worker_script.specs.Spelling.{spaced, line_text, ended}

-- a byte of a token, and a token
abbrev pub is_printable : ℕ → Bool
is_printable b = leb 0x21 b && leb b 0x7E

abbrev pub is_token : List ℕ → Bool
is_token t = not (is_empty t) && list_all is_printable t

-- ---- tests of all bytes

pub all-weaker : {X : Type 0} (p q : X → Bool) → ((x : X) → p x ≡ true → q x ≡ true) → (t : List X) → list_all p t ≡ true → list_all q t ≡ true
all-weaker p q weaker [] e = refl
all-weaker p q weaker (b ∷ t) e =
    let both = and_parts (p b) (list_all p t) e in and_from (q b) (list_all q t) (weaker b both.0) (all-weaker p q weaker t both.1)

pub all-append : {X : Type 0} (p : X → Bool) (s t : List X) → list_all p s ≡ true → list_all p t ≡ true → list_all p (s ++ t) ≡ true
all-append p s t e f = rw list_all-append (and_from (list_all p s) (list_all p t) e f)

abbrev pub is_other : ℕ → ℕ → Bool
is_other separator b = not (eqb b separator)

no-space : (b : ℕ) → is_printable b ≡ true → is_other 32 b ≡ true
no-space b e = let both = and_parts (leb 0x21 b) (leb b 0x7E) e in let low = both.0 in grind (arith, nat_tests)

no-end : (b : ℕ) → is_plain b ≡ true → is_other 10 b ≡ true
no-end b e = let both = and_parts (leb 0x20 b) (leb b 0x7E) e in let low = both.0 in grind (arith, nat_tests)

printable-plain : (b : ℕ) → is_printable b ≡ true → is_plain b ≡ true
printable-plain b e =
    let both = and_parts (leb 0x21 b) (leb b 0x7E) e in
    let low = both.0 in
    and_from (leb 0x20 b) (leb b 0x7E) (grind (arith, nat_tests)) both.1

-- ---- parts

other : (separator b : ℕ) (t : List ℕ) → list_all (is_other separator) (b ∷ t) ≡ true → (eqb b separator ≡ false) × (list_all (is_other separator) t ≡ true)
other separator b t e = let both = and_parts (is_other separator b) (list_all (is_other separator) t) e in (not-true (eqb b separator) both.0, both.1)

-- A part ends at its separator.
pub parts-ended : (separator : ℕ) (t rest : List ℕ) → list_all (is_other separator) t ≡ true → parts separator (t ++ (separator ∷ rest)) ≡ t ∷ parts separator rest
parts-ended separator [] rest e = let same : eqb separator separator ≡ true = grind (arith, nat_tests) in rw same refl
parts-ended separator (b ∷ t) rest e = let o = other separator b t e in rw (o.0, parts-ended separator t rest o.1) refl

parts-last : (separator b : ℕ) (t : List ℕ) → list_all (is_other separator) (b ∷ t) ≡ true → parts separator (b ∷ t) ≡ (b ∷ t) ∷ []
parts-last separator b [] e = let o = other separator b [] e in rw o.0 refl
parts-last separator b (c ∷ t) e = let o = other separator b (c ∷ t) e in rw (o.0, parts-last separator c t o.1) refl

-- So many bytes stand before it.
pub before-ended : (separator : ℕ) (t rest : List ℕ) → list_all (is_other separator) t ≡ true → before separator (t ++ (separator ∷ rest)) ≡ length t
before-ended separator [] rest e = let same : eqb separator separator ≡ true = grind (arith, nat_tests) in rw same refl
before-ended separator (b ∷ t) rest e = let o = other separator b t e in rw (o.0, before-ended separator t rest o.1) (grind arith)

-- ---- the tokens of a line

token-parts : (t : List ℕ) (ts : List (List ℕ)) → list_all is_token (t ∷ ts) ≡ true → (list_all is_printable t ≡ true) × (list_all is_token ts ≡ true)
token-parts t ts e =
    let both = and_parts (is_token t) (list_all is_token ts) e in
    ((and_parts (not (is_empty t)) (list_all is_printable t) both.0).1, both.1)

parts-spaced : (t : List ℕ) (ts : List (List ℕ)) → list_all is_token (t ∷ ts) ≡ true → parts 32 (t ++ spaced ts) ≡ t ∷ ts
parts-spaced [] [] e = cc
parts-spaced (b ∷ t) [] e =
    rw (append-nil t) (parts-last 32 b t (all-weaker is_printable (is_other 32) no-space (b ∷ t) (token-parts (b ∷ t) [] e).0))
parts-spaced t (u ∷ ts) e =
    let both = token-parts t (u ∷ ts) e in
    parts-ended 32 t (u ++ spaced ts) (all-weaker is_printable (is_other 32) no-space t both.0) ∙ ap (λ ps. t ∷ ps) (parts-spaced u ts both.1)

filter-tokens : (ts : List (List ℕ)) → list_all is_token ts ≡ true → filter (λ part. not (is_empty part)) ts ≡ ts
filter-tokens [] e = refl
filter-tokens ([] ∷ ts) e = cc
filter-tokens ((b ∷ t) ∷ ts) e = ap (λ us. (b ∷ t) ∷ us) (filter-tokens ts (token-parts (b ∷ t) ts e).1)

tokens-back : (t : List ℕ) (ts : List (List ℕ)) → list_all is_token (t ∷ ts) ≡ true → tokens (t ++ spaced ts) ≡ t ∷ ts
unfolding tokens
tokens-back t ts e = rw (parts-spaced t ts e) (filter-tokens (t ∷ ts) e)

plain-spaced : (ts : List (List ℕ)) → list_all is_token ts ≡ true → list_all is_plain (spaced ts) ≡ true
plain-spaced [] e = refl
plain-spaced (t ∷ ts) e =
    let both = token-parts t ts e in all-append is_plain t (spaced ts) (all-weaker is_printable is_plain printable-plain t both.0) (plain-spaced ts both.1)

-- A line is read as its tokens are.
pub line-back : (draft after : Draft) (t : List ℕ) (ts : List (List ℕ)) → list_all is_token (t ∷ ts) ≡ true → word_line draft (t ∷ ts) ≡ Ok after
    → read_line draft (line_text (t ∷ ts)) ≡ Ok after
unfolding read_line
line-back draft after t ts e reads =
    let both = token-parts t ts e in
    rw (all-append is_plain t (spaced ts) (all-weaker is_printable is_plain printable-plain t both.0) (plain-spaced ts both.1), tokens-back t ts e) reads

-- ---- the lines of a text

-- One after another, these lines lead from one draft to another.
abbrev pub Takes : Draft → List (List ℕ) → Draft → Type 0
Takes draft [] after = draft ≡ after
Takes draft (line ∷ others) after = (next : Draft) × (read_line draft line ≡ Ok next) × Takes next others after

pub takes-append : (a b c : Draft) (some more : List (List ℕ)) → Takes a some b → Takes b more c → Takes a (some ++ more) c
takes-append a b c [] more first then = subst (λ d. Takes d more c) (sym first) then
takes-append a b c (line ∷ some) more first then = (first.0, first.1, takes-append first.0 b c some more first.2 then)

plain-step : (line : List ℕ) (plain : Bool) (answer : Result Draft Reason) (next : Draft) → list_all is_plain line ≡ plain → cond plain answer (Err reason.NotPlain) ≡ Ok next → list_all is_plain line ≡ true
plain-step line true answer next e reads = e
plain-step line false answer next e reads = cc

read-plain : (draft next : Draft) (line : List ℕ) → read_line draft line ≡ Ok next → list_all is_plain line ≡ true
unfolding read_line
read-plain draft next line reads = plain-step line (list_all is_plain line) (word_line draft (tokens line)) next refl reads

takes-lines : (a b : Draft) (ls : List (List ℕ)) → Takes a ls b → lines (ended ls) ≡ ls
takes-lines a b [] all = refl
takes-lines a b (line ∷ ls) all =
    parts-ended 10 line (ended ls) (all-weaker is_plain (is_other 10) no-end line (read-plain a all.0 line all.1))
    ∙ ap (λ ms. line ∷ ms) (takes-lines all.0 b ls all.2)

takes-script : (number : ℕ) (a b : Draft) (ls : List (List ℕ)) → Takes a ls b → script_from number a ls ≡ Ok (script_of b)
takes-script number a b [] all = ap (λ d. Ok (script_of d)) all
takes-script number a b (line ∷ ls) all =
    ap (λ r. elim r as (λ x. Result Script BadLine) [
      | Ok after ↦ script_from (number + 1) after ls
      | Err fault ↦ Err (record { line = number; reason = fault })
    ]) all.1
    ∙ takes-script (number + 1) all.0 b ls all.2

-- A text is read as its lines are.
pub text-back : (b : Draft) (ls : List (List ℕ)) → Takes nothing ls b → script (ended ls) ≡ Ok (script_of b)
text-back b ls all = rw (takes-lines nothing b ls all) (takes-script 1 nothing b ls all)
