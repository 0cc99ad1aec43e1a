use Rattle.std.proofs.Common.{◌≡◌, ℕ, List, [], true, false, get_or, Some, ap, subst, sym, arith, length, ◌∙◌}
use Rattle.std.specs.Option.{option_copied}
use Rattle.std.proofs.lemmas.List.{get_or_default}
use Rattle.chain_map.specs.Marks.{is_gone}
use Rattle.chain_map.proofs.Place.{IsAt-in_range}
use Rattle.chain_map.proofs.Each.{none_each, spot_live, spot_gone, IsRising-leaf}
use Rattle.chain_map.proofs.chain.find_below.Goals as goal

pub returns-in_err-leaf : goal.returns-in_err-leaf
returns-in_err-leaf c = ap option_copied c.from_residual.ensures ∙ sym (none_each c.args.key.now c.args.leaves.now c.args.marks.now c.in_err-leaf.ensures.none)

pub bounds-pairs-place : goal.bounds-pairs-place
bounds-pairs-place c =
    let leaf : c.index-leaves-leaf.result ≡ get_or c.args.leaves.now c.in_ok-leaf.leaf [] = c.index-leaves-leaf.is ∙ get_or_default c.args.leaves.now c.in_ok-leaf.leaf c.index-leaves-leaf.result [] c.in_ok-leaf.ensures.leaf in
    omega (arith, IsAt-in_range c.args.key.now _ c.in_ok-leaf.place c.in_ok-leaf.ensures.some.1, ap length c.as_slice-pairs.ensures.pairs, ap length leaf)

pub returns-then-is_gone : goal.returns-then-is_gone
returns-then-is_gone c =
    let gone : is_gone (get_or c.args.marks.now c.in_ok-leaf.leaf 0) c.in_ok-leaf.place ≡ true = subst (λ mark. is_gone mark c.in_ok-leaf.place ≡ true) c.of.ensures (sym c.is_gone.ensures ∙ c.if-is_gone.true) in
    sym (spot_gone c.args.key.now c.args.leaves.now c.args.marks.now c.in_ok-leaf.leaf c.in_ok-leaf.place c.in_ok-leaf.ensures.some (IsRising-leaf c.args.leaves.now c.in_ok-leaf.leaf c.requires.rising) gone)

pub returns-else-is_gone : goal.returns-else-is_gone
returns-else-is_gone c =
    let live : is_gone (get_or c.args.marks.now c.in_ok-leaf.leaf 0) c.in_ok-leaf.place ≡ false = subst (λ mark. is_gone mark c.in_ok-leaf.place ≡ false) c.of.ensures (sym c.is_gone.ensures ∙ c.if-is_gone.false) in
    let leaf : c.index-leaves-leaf.result ≡ get_or c.args.leaves.now c.in_ok-leaf.leaf [] = c.index-leaves-leaf.is ∙ get_or_default c.args.leaves.now c.in_ok-leaf.leaf c.index-leaves-leaf.result [] c.in_ok-leaf.ensures.leaf in
    let pair : c.index-pairs-place.result ≡ get_or (get_or c.args.leaves.now c.in_ok-leaf.leaf []) c.in_ok-leaf.place c.index-pairs-place.result =
    c.index-pairs-place.is ∙ ap (λ pairs. get_or pairs c.in_ok-leaf.place c.index-pairs-place.result) (c.as_slice-pairs.ensures.pairs ∙ leaf) in
    ap Some (c.value.ensures ∙ ap (λ (pair : List ℕ × List ℕ). pair.1) pair)
    ∙ sym (spot_live c.args.key.now c.args.leaves.now c.args.marks.now c.in_ok-leaf.leaf c.in_ok-leaf.place c.in_ok-leaf.ensures.some c.index-pairs-place.result live)
