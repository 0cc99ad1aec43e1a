use Rattle.std.proofs.Common.{◌≡◌, ◌<◌, ◌-◌, ◌+◌, ◌/◌, ℕ, List, length, get_or, refl, sym, ap, ◌∙◌, arith}
use Rattle.std.specs.declared.cmp.Ordering.{Ordering}
use Rattle.chain_map.specs.Pairs.{Pairs, byte_order}
use Rattle.chain_map.specs.Place.{pair_at}
use Rattle.chain_map.proofs.Place.{pair_at_from}
use Rattle.chain_map.proofs.Found.{at_from, gap_from, less_up_to, greater_from}
use Rattle.chain_map.proofs.sorted.search.Goals as goal

-- what a comparison with the pair that was read says of the pair at its place
told : (key : List ℕ) (pairs : Pairs) (at : ℕ) (pair : List ℕ × List ℕ) (r o : Ordering) → at < length pairs → pair ≡ get_or pairs at pair
    → r ≡ byte_order pair.0 key → r ≡ o → byte_order (pair_at pairs at).0 key ≡ o
told key pairs at pair r o in_range is by answer =
    ap (λ (p : List ℕ × List ℕ). byte_order p.0 key) (sym (pair_at_from pairs pairs at pair refl in_range is)) ∙ sym by ∙ answer

pub loop-low-init : goal.loop-low-init
loop-low-init c = (omega arith, (omega arith, ((λ i low. absurd (omega arith)), (λ i high here. absurd (omega arith)))))

pub loop-low-preserved-in-Less : goal.loop-low-preserved-in-Less
loop-low-preserved-in-Less c =
    let pairs = c.args.pairs.now in
    let key = c.args.key.now in
    let mid = c.loop-low.low + (c.loop-low.high - c.loop-low.low) / 2 in
    let within : mid < length pairs = omega (arith, c.loop-low-test.true, c.loop-low.invariant.1.0) in (
      omega (arith, c.loop-low-test.true),
      (
        c.loop-low.invariant.1.0,
        (
          less_up_to key pairs mid c.requires within (told key pairs mid c.index-pairs-mid.result _ _ within c.index-pairs-mid.is c.cmp_key.ensures c.in-Less.is),
          c.loop-low.invariant.1.1.1,
        ),
      ),
    )

pub returns-in-Equal-clause-found : goal.returns-in-Equal-clause-found
returns-in-Equal-clause-found c =
    let pairs = c.args.pairs.now in
    let key = c.args.key.now in
    let mid = c.loop-low.low + (c.loop-low.high - c.loop-low.low) / 2 in
    let within : mid < length pairs = omega (arith, c.loop-low-test.true, c.loop-low.invariant.1.0) in
    at_from key pairs mid _ c.requires within (told key pairs mid c.index-pairs-mid.result _ _ within c.index-pairs-mid.is c.cmp_key.ensures c.in-Equal.is)

pub loop-low-preserved : goal.loop-low-preserved
loop-low-preserved c =
    let pairs = c.args.pairs.now in
    let key = c.args.key.now in
    let mid = c.loop-low.low + (c.loop-low.high - c.loop-low.low) / 2 in
    let within : mid < length pairs = omega (arith, c.loop-low-test.true, c.loop-low.invariant.1.0) in (
      omega (arith, c.loop-low-test.true),
      (
        omega (arith, within),
        (
          c.loop-low.invariant.1.1.0,
          greater_from key pairs mid c.requires (told key pairs mid c.index-pairs-mid.result _ _ within c.index-pairs-mid.is c.cmp_key.ensures c.in-Greater.is),
        ),
      ),
    )

pub returns-clause-absent : goal.returns-clause-absent
returns-clause-absent c =
    let low = c.loop-low.low in
    let same : c.loop-low.high ≡ low = omega (arith, c.loop-low-test.false, c.loop-low.invariant.0) in
    gap_from c.args.key.now c.args.pairs.now low (omega (arith, same, c.loop-low.invariant.1.0)) c.loop-low.invariant.1.1.0
    (λ i high here. c.loop-low.invariant.1.1.1 i (omega (arith, same)) here)
