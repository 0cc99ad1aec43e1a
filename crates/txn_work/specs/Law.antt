-- The law of the rule of stamps.
use Rattle.std.proofs.Common.{◌≡◌, ℕ, zero, suc, ◌+◌, ◌≤◌, Bool, false, [], ◌∷◌, length, sym, refl, ap, ◌∙◌, arith}
use mathlib.Core.Option as maybe
use mathlib.Core.Option.{none, some}
use lib.ListN.{get_elem?}
use Rattle.chain_map.specs.Pairs.{Pairs}
use Rattle.turn_types.specs.Journal.{Chains, Lawful, RiseWithin, has}
use Rattle.txn_work.specs.Stamps.{stamp_if, stamped, stamped_from, stamped_chains, numbers_from}

abbrev pub if_there : (Pairs → Pairs) → maybe.Option Pairs → maybe.Option Pairs
if_there f none = none
if_there f (some x) = some (f x)

at_from : (c n w : ℕ) (k : Chains) → get_elem? (stamped_from c n k) w ≡ if_there (stamp_if (has (n + w) (stamped_chains c)) (n + w)) (get_elem? k w)
at_from c n w [] = refl
at_from c n zero (x ∷ k) = ap (λ (m : ℕ). some (stamp_if (has m (stamped_chains c)) m x)) (omega arith)
at_from c n (suc w) (x ∷ k) = at_from c (n + 1) w k ∙ ap (λ (m : ℕ). if_there (stamp_if (has m (stamped_chains c)) m) (get_elem? k w)) (omega arith)

-- what the step makes of a chain
pub stamped_at : (c w : ℕ) (k : Chains) → get_elem? (stamped c k) w ≡ if_there (stamp_if (has w (stamped_chains c)) w) (get_elem? k w)
stamped_at c w k = at_from c 0 w k ∙ ap (λ (m : ℕ). if_there (stamp_if (has m (stamped_chains c)) m) (get_elem? k w)) (omega arith)

length_from : (c n : ℕ) (k : Chains) → length (stamped_from c n k) ≡ length k
length_from c n [] = refl
length_from c n (x ∷ k) = ap suc (length_from c (n + 1) k)

pub stamped_length : (c : ℕ) (k : Chains) → length (stamped c k) ≡ length k
stamped_length c k = length_from c 0 k

untouched : (n : ℕ) (x : maybe.Option Pairs) → if_there (stamp_if false n) x ≡ x
untouched n none = refl
untouched n (some x) = refl

pub rises : (n c low m : ℕ) → low ≤ n → n + c ≤ m → RiseWithin low m (numbers_from n c)
rises n zero low m l h = tt
rises n (suc c) low m l h = (l, omega arith, rises (n + 1) c (n + 1) m (omega arith) (omega arith))

pub stamping_lawful : (c : ℕ) → Lawful (λ k. Unit {0}) (λ k e. stamped c k) (λ k e. 32 + c ≤ length k) (λ k e. stamped_chains c) (λ js e. Unit {0})
stamping_lawful c = record {
  local = λ k l e a b same agree. (refl, λ h. omega arith);
  made = λ k l e a b same agree may. λ w is. stamped_at c w k ∙ ap (if_there (stamp_if (has w (stamped_chains c)) w)) (agree w is) ∙ sym (stamped_at c w l);
  frame = λ k e a may. (stamped_length c k, λ w no. stamped_at c w k ∙ ap (λ (b : Bool). if_there (stamp_if b w) (get_elem? k w)) no ∙ untouched w (get_elem? k w));
  named = λ k e a may. rises 32 c 0 (length k) (omega arith) may;
}
