-- What the tests on tokens say.
use Rattle.std.proofs.Common.{◌≡◌, ℕ, ◌≤◌, Bool, true, false, not, cond, eqb, leb, ltb, bit_and, ◌&&◌, List, [], ◌∷◌, length, Option, Some, None, is_none, unwrap_or, refl, arith}
use Rattle.std.proofs.lemmas.Bool.{and_parts}
use Rattle.std.specs.List.{AllByRecursion, list_all, filter, onto_first}
use Rattle.std.proofs.lemmas.Bool.Decides.{nat_tests}
use Rattle.sid_core.specs.declared.bits.Share.{Share}
use Rattle.sid_core.specs.declared.limits.TheConstants.{ACCESS_MASK}
use Rattle.sid_core.specs.Values.{IsPrintable, IsText, IsAccess, IsShare}
use Rattle.sid_core.specs.Words.{share_text, share_bits, read_share}
use Rattle.sid_core.proofs.Spelling.{share-spelled}
use Rattle.std.specs.Option.{IfSome}
use Rattle.worker_script.specs.Text.{parts, tokens, token, is_empty, is_plain}
use Rattle.worker_script.specs.Values.{value, is_number, is_numeral, is_short, known_access, access, hex_after}

-- A number lies in its range.
pub number-range : (low high : ℕ) (t : List ℕ) → is_number low high t ≡ true → (low ≤ value t) × (value t ≤ high)
unfolding is_number
number-range low high t e =
    let outer = and_parts (is_numeral t && leb low (value t)) (leb (value t) high) e in
    let inner = and_parts (is_numeral t) (leb low (value t)) outer.0 in
    let low' = inner.1 in let high' = outer.1 in
    (grind (arith, nat_tests), grind (arith, nat_tests))

abbrev pub IsToken : List ℕ → Type 0
IsToken t = (1 ≤ length t) × AllByRecursion IsPrintable t

plain-printable : (b : ℕ) → is_plain b ≡ true → eqb b 32 ≡ false → IsPrintable b
plain-printable b plain no_space = let p = and_parts (leb 32 b) (leb b 126) plain in let low = p.0 in let high = p.1 in (grind (arith, nat_tests), grind (arith, nat_tests))

onto-printable : (b : ℕ) (ps : List (List ℕ)) → IsPrintable b → AllByRecursion (AllByRecursion IsPrintable) ps → AllByRecursion (AllByRecursion IsPrintable) (onto_first b ps)
onto-printable b [] here all = ((here, tt), tt)
onto-printable b (p ∷ ps) here all = ((here, all.0), all.1)

part-step : (b : ℕ) (ps : List (List ℕ)) (space : Bool) → eqb b 32 ≡ space → is_plain b ≡ true → AllByRecursion (AllByRecursion IsPrintable) ps
    → AllByRecursion (AllByRecursion IsPrintable) (cond space ([] ∷ ps) (onto_first b ps))
part-step b ps true e plain all = (tt, all)
part-step b ps false e plain all = onto-printable b ps (plain-printable b plain e) all

parts-printable : (line : List ℕ) → list_all is_plain line ≡ true → AllByRecursion (AllByRecursion IsPrintable) (parts 32 line)
parts-printable [] e = tt
parts-printable (b ∷ line) e =
    let both = and_parts (is_plain b) (list_all is_plain line) e in
    part-step b (parts 32 line) (eqb b 32) refl both.0 (parts-printable line both.1)

filter-tokens : (ps : List (List ℕ)) → AllByRecursion (AllByRecursion IsPrintable) ps → AllByRecursion IsToken (filter (λ part. not (is_empty part)) ps)
filter-tokens [] all = tt
filter-tokens ([] ∷ ps) all = filter-tokens ps all.1
filter-tokens ((b ∷ p) ∷ ps) all = ((omega arith, all.0), filter-tokens ps all.1)

-- The tokens of a plain line are printable and not empty.
pub tokens-printable : (line : List ℕ) → list_all is_plain line ≡ true → AllByRecursion IsToken (tokens line)
unfolding tokens
tokens-printable line e = filter-tokens (parts 32 line) (parts-printable line e)

pub text-short : (t : List ℕ) → IsToken t → is_short t ≡ true → IsText t
text-short t token short = record { some = token.0; short = grind (arith, nat_tests); printable = token.1 }

known-step : (n : ℕ) (b : Bool) → (b ≡ true → IsAccess n) → is_none (cond b (Some n) None) ≡ false → IsAccess (unwrap_or (cond b (Some n) None) 0)
known-step n true good some = good refl
known-step n false good some = cc

known-good : (n : ℕ) → (ltb 0 n && eqb (bit_and n ACCESS_MASK) n) ≡ true → IsAccess n
known-good n e =
    let both = and_parts (ltb 0 n) (eqb (bit_and n ACCESS_MASK) n) e in
    let some = both.0 in let same = both.1 in
    record { some = grind (arith, nat_tests); known = grind (arith, nat_tests) }

known-access : (o : Option ℕ) → is_none (known_access o) ≡ false → IsAccess (unwrap_or (known_access o) 0)
known-access None some = cc
known-access (Some n) some = known-step n (ltb 0 n && eqb (bit_and n ACCESS_MASK) n) (known-good n) some

tested-access : (b : Bool) (o : Option ℕ) → (is_none o ≡ false → IsAccess (unwrap_or o 0)) → is_none (cond b o None) ≡ false → IsAccess (unwrap_or (cond b o None) 0)
tested-access true o good some = good some
tested-access false o good some = cc

-- What an access token spells is a set of known access rights.
pub access-known : (t : List ℕ) → is_none (access t) ≡ false → IsAccess (unwrap_or (access t) 0)
unfolding access
access-known [] some = cc
access-known (a ∷ []) some = cc
access-known (a ∷ b ∷ digits) some =
    tested-access (eqb a 48 && eqb b 120 && leb 1 (length digits) && leb (length digits) 8) (known_access (hex_after 0 digits)) (known-access (hex_after 0 digits)) some

share-found : (t : List ℕ) (o : Option Share) → IfSome o (λ s. (t ≡ share_text s.0) × IsShare s.0) → is_none o ≡ false → IsShare (unwrap_or o (share_bits 0)).0
share-found t None is some = cc
share-found t (Some s) is some = is.1

-- What a share token spells is a set of share bits.
pub share-known : (t : List ℕ) → is_none (read_share t) ≡ false → IsShare (unwrap_or (read_share t) (share_bits 0)).0
share-known t some = share-found t (read_share t) (share-spelled t) some
