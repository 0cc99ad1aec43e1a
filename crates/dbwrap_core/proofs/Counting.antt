-- An entry that has the next number of its pass.
use Rattle.std.proofs.Common.{◌≡◌, ℕ, suc, ◌+◌, Bool, true, false, cond, eqb, ne_eqb, eq-eqb, List, [], ◌∷◌, ◌++◌, length, map, sym, refl, ap, ◌∙◌, subst, arith}
use Rattle.std.proofs.lemmas.List.{length-map, map-append}
use mathlib.Core.Logic.{dite}
use native.Mathlib.Decide.{ℕ_discrete}
use Rattle.sid_core.specs.declared.entry.Entry.{Entry}
use Rattle.sid_core.specs.Counting.{CountsFrom}
use Rattle.turn_types.specs.Journal.{of_pass}
use Rattle.dbwrap_core.specs.Counted.{IsCounted}

pub pass_more : (n : ℕ) (js : List Entry) (e : Entry) → e.by ≡ n → of_pass n (js ++ e ∷ []) ≡ of_pass n js ++ e ∷ []
pass_more n [] e by = ap (λ t. cond t (e ∷ []) []) (eq-eqb e.by n by)
pass_more n (x ∷ js) e by = ap (λ (t : List Entry). cond (eqb x.by n) (x ∷ t) t) (pass_more n js e by) ∙ both (eqb x.by n) where
  both : (t : Bool) → cond t (x ∷ (of_pass n js ++ e ∷ [])) (of_pass n js ++ e ∷ []) ≡ cond t (x ∷ of_pass n js) (of_pass n js) ++ e ∷ []
  both true = refl
  both false = refl

pub pass_else : (n : ℕ) (js : List Entry) (e : Entry) → (e.by ≡ n → ⊥) → of_pass n (js ++ e ∷ []) ≡ of_pass n js
pass_else n [] e by = ap (λ t. cond t (e ∷ []) []) (ne_eqb e.by n by)
pass_else n (x ∷ js) e by = ap (λ (t : List Entry). cond (eqb x.by n) (x ∷ t) t) (pass_else n js e by)

counts_more : (low : ℕ) (ns : List ℕ) (n : ℕ) → CountsFrom low ns → n ≡ low + length ns → CountsFrom low (ns ++ n ∷ [])
counts_more low [] n counts e = (let f : n ≡ low + 0 = e in omega arith, tt)
counts_more low (m ∷ ms) n counts e = (counts.0, counts_more (low + 1) ms n counts.1 (let f : n ≡ low + suc (length ms) = e in omega arith))

pub counted_more : (js : List Entry) (e : Entry) → IsCounted js → e.seq ≡ length (of_pass e.by js) + 1 → IsCounted (js ++ e ∷ [])
counted_more js e counted next n = dite (ℕ_discrete e.by n)
    (λ is.
    let own : e.seq ≡ length (of_pass n js) + 1 = next ∙ ap (λ m. length (of_pass m js) + 1) is in
    let many = length-map (of_pass n js) (λ (x : Entry). x.seq) in
    subst (CountsFrom 1) (sym (ap (map (λ (x : Entry). x.seq)) (pass_more n js e is) ∙ map-append (λ (x : Entry). x.seq) (of_pass n js) (e ∷ [])))
    (counts_more 1 (map (λ (x : Entry). x.seq) (of_pass n js)) e.seq (counted n) (omega (arith, own, many))))
    (λ other. subst (λ (t : List Entry). CountsFrom 1 (map (λ (x : Entry). x.seq) t)) (sym (pass_else n js e other)) (counted n))
