-- What is found in front of the bytes: a plain line, or a byte that no line may have; the first byte of a line that counts.
use Rattle.std.proofs.Common.{◌≡◌, ◌≢◌, ℕ, ◌+◌, ◌<◌, Bool, true, false, not, cond, eqb, leb, List, [], ◌∷◌, length, take, drop, get_or, Result, Ok, Err, refl, sym, ap, ◌∙◌, add-one, arith}
use Rattle.std.specs.List.{list_all, filter, onto_first}
use Rattle.std.proofs.lemmas.Bool.{and_parts}
use Rattle.std.proofs.lemmas.List.{at_drop_more}
use Rattle.std.proofs.lemmas.Bool.Decides.{nat_tests}
use Rattle.worker_script.specs.declared.script.Script.{Script}
use Rattle.worker_script.specs.declared.reason.Reason.TheVariants as reason
use Rattle.worker_script.specs.Text.{lines, parts, tokens, token, is_empty, is_plain, is_skipped, before}
use Rattle.worker_script.specs.Search.{plain_before, HasBadFirst}
use Rattle.worker_script.specs.Lines.{Draft}
use Rattle.worker_script.specs.Reading.{word_line, read_line, BadLine, script_from, script}
use Rattle.worker_script.proofs.Parts.{parts-before}

-- ---- one byte of a line more

plain-here : (bytes : List ℕ) (i : ℕ) → i < length bytes → is_plain (get_or bytes i 0) ≡ true → plain_before (drop i bytes) ≡ plain_before (drop (i + 1) bytes) + 1
plain-here bytes i h e = rw (at_drop_more plain_before bytes i 0 h, e) refl

plain-ends : (bytes : List ℕ) (i : ℕ) → i < length bytes → is_plain (get_or bytes i 0) ≡ false → plain_before (drop i bytes) ≡ 0
plain-ends bytes i h e = rw (at_drop_more plain_before bytes i 0 h, e) refl

not-end : (b : ℕ) → is_plain b ≡ true → eqb b 10 ≡ false
not-end b e =
    let both = and_parts (leb 32 b) (leb b 126) e in
    let low = both.0 in grind (arith, nat_tests)

-- ---- where the plain bytes end at the end of a line, that is the line

ends-step : (b : ℕ) (bytes : List ℕ) (plain : Bool) → is_plain b ≡ plain
    → ((plain_before bytes < length bytes → get_or bytes (plain_before bytes) 0 ≡ 10) → before 10 bytes ≡ plain_before bytes)
    → (cond plain (plain_before bytes + 1) 0 < length (b ∷ bytes) → get_or (b ∷ bytes) (cond plain (plain_before bytes + 1) 0) 0 ≡ 10)
    → cond (eqb b 10) 0 (before 10 bytes + 1) ≡ cond plain (plain_before bytes + 1) 0
ends-step b bytes true e ih stop =
    let rest = ih (λ more. let there = stop (omega (arith, more)) in rw add-one at there) in
    rw (not-end b e, rest) refl
ends-step b bytes false e ih stop = let here : b ≡ 10 = stop (omega arith) in rw here refl

pub same-end : (bytes : List ℕ) → (plain_before bytes < length bytes → get_or bytes (plain_before bytes) 0 ≡ 10) → before 10 bytes ≡ plain_before bytes
same-end [] stop = refl
same-end (b ∷ bytes) stop = ends-step b bytes (is_plain b) refl (same-end bytes) stop

plain-step : (b : ℕ) (bytes : List ℕ) (plain : Bool) → is_plain b ≡ plain → list_all is_plain (take (plain_before bytes) bytes) ≡ true
    → list_all is_plain (take (cond plain (plain_before bytes + 1) 0) (b ∷ bytes)) ≡ true
plain-step b bytes true e ih = rw (add-one, e) ih
plain-step b bytes false e ih = refl

pub front-plain : (bytes : List ℕ) → list_all is_plain (take (plain_before bytes) bytes) ≡ true
front-plain [] = refl
front-plain (b ∷ bytes) = plain-step b bytes (is_plain b) refl (front-plain bytes)

-- ---- where they end elsewhere, the line is bad

bad-step : (b : ℕ) (bytes : List ℕ) (plain : Bool) → is_plain b ≡ plain
    → (plain_before bytes < length bytes → get_or bytes (plain_before bytes) 0 ≢ 10 → list_all is_plain (take (before 10 bytes) bytes) ≡ false)
    → cond plain (plain_before bytes + 1) 0 < length (b ∷ bytes) → get_or (b ∷ bytes) (cond plain (plain_before bytes + 1) 0) 0 ≢ 10
    → list_all is_plain (take (cond (eqb b 10) 0 (before 10 bytes + 1)) (b ∷ bytes)) ≡ false
bad-step b bytes true e ih more other =
    rw (not-end b e, add-one, e) (ih (omega (arith, more)) (λ same. other (rw add-one same)))
bad-step b bytes false e ih more other =
    let no : eqb b 10 ≡ false = grind (arith, nat_tests, other) in rw (no, add-one, e) refl

front-bad : (bytes : List ℕ) → plain_before bytes < length bytes → get_or bytes (plain_before bytes) 0 ≢ 10 → list_all is_plain (take (before 10 bytes) bytes) ≡ false
front-bad [] more other = absurd (omega (arith, more))
front-bad (b ∷ bytes) more other = bad-step b bytes (is_plain b) refl (front-bad bytes) more other

pub has-bad : (bytes : List ℕ) → plain_before bytes < length bytes → get_or bytes (plain_before bytes) 0 ≢ 10 → HasBadFirst bytes
has-bad bytes more other = record {
  line = take (before 10 bytes) bytes;
  others = parts 10 (drop 1 (drop (before 10 bytes) bytes));
  split = parts-before 10 bytes (omega (arith, more));
  bad = front-bad bytes more other;
}

told-step : (number : ℕ) (draft : Draft) (line : List ℕ) (others : List (List ℕ)) (plain : Bool) → plain ≡ false
    → elim (cond plain (word_line draft (tokens line)) (Err reason.NotPlain)) as (λ x. Result Script BadLine) [
      | Ok after ↦ script_from (number + 1) after others
      | Err fault ↦ Err (record { line = number; reason = fault })
    ] ≡ Err (record { line = number; reason = reason.NotPlain })
told-step number draft line others true e = cc
told-step number draft line others false e = refl

bad-script : (rest : List ℕ) (number : ℕ) (draft : Draft) → HasBadFirst rest → script_from number draft (lines rest) ≡ Err (record { line = number; reason = reason.NotPlain })
unfolding read_line
bad-script rest number draft h = ap (λ ls. script_from number draft ls) h.split ∙ told-step number draft h.line h.others (list_all is_plain h.line) h.bad

-- A bad line is told with its number.
pub bad-told : (bytes rest : List ℕ) (number : ℕ) (draft : Draft) → HasBadFirst rest → script_from number draft (lines rest) ≡ script bytes
    → script bytes ≡ Err (record { line = number; reason = reason.NotPlain })
bad-told bytes rest number draft h e = sym e ∙ bad-script rest number draft h

-- ---- the same, at the place that was found

pub has-bad-at : (bytes : List ℕ) (end : ℕ) → end ≡ plain_before bytes → end < length bytes → get_or bytes end 0 ≢ 10 → HasBadFirst bytes
has-bad-at bytes end e more other = has-bad bytes (rw (sym e) more) (rw (sym e) other)

pub same-end-at : (bytes : List ℕ) (end : ℕ) → end ≡ plain_before bytes → (end < length bytes → get_or bytes end 0 ≡ 10) → end ≡ before 10 bytes
same-end-at bytes end e stop = e ∙ sym (same-end bytes (rw (sym e) stop))

pub front-at : (bytes part : List ℕ) (end : ℕ) → end ≡ plain_before bytes → part ≡ take end bytes → list_all is_plain part ≡ true
front-at bytes part end e f = rw (f, e) (front-plain bytes)

-- ---- the first byte of a line that isn't a space

skip-step : (b : ℕ) (line : List ℕ) (space : Bool) → eqb b 32 ≡ space → space ≡ true → is_skipped (token 0 (tokens (b ∷ line))) ≡ is_skipped (token 0 (tokens line))
unfolding tokens
skip-step b line true e is = rw e refl
skip-step b line false e is = cc

pub skip-space : (line : List ℕ) (i : ℕ) → i < length line → get_or line i 0 ≡ 32 → is_skipped (token 0 (tokens (drop i line))) ≡ is_skipped (token 0 (tokens (drop (i + 1) line)))
skip-space line i h e =
    at_drop_more (λ (l : List ℕ). is_skipped (token 0 (tokens l))) line i 0 h
    ∙ skip-step (get_or line i 0) (drop (i + 1) line) (eqb (get_or line i 0) 32) refl (grind (arith, nat_tests))

onto-token : (b : ℕ) (ps : List (List ℕ)) → is_skipped (token 0 (filter (λ part. not (is_empty part)) (onto_first b ps))) ≡ eqb b 35
onto-token b [] = refl
onto-token b (p ∷ ps) = refl

first-step : (b : ℕ) (line : List ℕ) (space : Bool) → eqb b 32 ≡ space → space ≡ false → is_skipped (token 0 (tokens (b ∷ line))) ≡ eqb b 35
unfolding tokens
first-step b line true e is = cc
first-step b line false e is = rw e (onto-token b (parts 32 line))

pub skip-first : (line : List ℕ) (i : ℕ) → i < length line → get_or line i 0 ≢ 32 → is_skipped (token 0 (tokens (drop i line))) ≡ eqb (get_or line i 0) 35
skip-first line i h other =
    at_drop_more (λ (l : List ℕ). is_skipped (token 0 (tokens l))) line i 0 h
    ∙ first-step (get_or line i 0) (drop (i + 1) line) (eqb (get_or line i 0) 32) refl (grind (arith, nat_tests, other))

drop-all : (line : List ℕ) → drop (length line) line ≡ []
drop-all [] = refl
drop-all (b ∷ line) = drop-all line

pub skip-end : (line : List ℕ) (i : ℕ) → i ≡ length line → is_skipped (token 0 (tokens (drop i line))) ≡ true
unfolding tokens
skip-end line i e = rw (e, drop-all line) refl
