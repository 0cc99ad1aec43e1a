use Rattle.std.proofs.Common.{◌≡◌, ◌^◌, [], true, false, get_or, set, ap, subst, sym, arith, ◌∙◌}
use Rattle.std.specs.Prelude.{is_some}
use Rattle.std.specs.Int.RustNames.{bit_or}
use Rattle.chain_map.specs.Leaves.{joined}
use Rattle.chain_map.specs.Marks.{is_gone, kept_each}
use Rattle.chain_map.proofs.Kept.{without_none}
use Rattle.chain_map.proofs.Each.{none_each, spot_live, spot_gone, spot_marked, IsRising-leaf}
use Rattle.chain_map.proofs.chain.take_out.Goals as goal

pub returns-in_default-clause-found : goal.returns-in_default-clause-found
returns-in_default-clause-found c = sym (ap is_some (none_each c.args.key.now c.args.leaves.now c.args.marks.now c.in_default.ensures.none))

pub returns-in_default-clause-others : goal.returns-in_default-clause-others
returns-in_default-clause-others c = sym (without_none c.args.key.now _ (none_each c.args.key.now c.args.leaves.now c.args.marks.now c.in_default.ensures.none))

pub returns-then-is_gone-clause-found : goal.returns-then-is_gone-clause-found
returns-then-is_gone-clause-found c =
    let gone : is_gone (get_or c.args.marks.now c.in-Some.leaf 0) c.in-Some.place ≡ true = subst (λ mark. is_gone mark c.in-Some.place ≡ true) c.of-mark.ensures (sym c.is_gone.ensures ∙ c.if-is_gone.true) in
    sym (ap is_some (spot_gone c.args.key.now c.args.leaves.now c.args.marks.now c.in-Some.leaf c.in-Some.place c.in-Some.ensures.some (IsRising-leaf c.args.leaves.now c.in-Some.leaf c.requires.rising) gone))

pub returns-then-is_gone-clause-others : goal.returns-then-is_gone-clause-others
returns-then-is_gone-clause-others c =
    let gone : is_gone (get_or c.args.marks.now c.in-Some.leaf 0) c.in-Some.place ≡ true = subst (λ mark. is_gone mark c.in-Some.place ≡ true) c.of-mark.ensures (sym c.is_gone.ensures ∙ c.if-is_gone.true) in
    sym (without_none c.args.key.now _
    (spot_gone c.args.key.now c.args.leaves.now c.args.marks.now c.in-Some.leaf c.in-Some.place c.in-Some.ensures.some (IsRising-leaf c.args.leaves.now c.in-Some.leaf c.requires.rising) gone))

pub returns-clause-found : goal.returns-clause-found
returns-clause-found c =
    let live : is_gone (get_or c.args.marks.now c.in-Some.leaf 0) c.in-Some.place ≡ false = subst (λ mark. is_gone mark c.in-Some.place ≡ false) c.of-mark.ensures (sym c.is_gone.ensures ∙ c.if-is_gone.false) in
    sym (ap is_some (spot_live c.args.key.now c.args.leaves.now c.args.marks.now c.in-Some.leaf c.in-Some.place c.in-Some.ensures.some ([], []) live))

pub returns-clause-others : goal.returns-clause-others
returns-clause-others c =
    let leaves = c.args.leaves.now in
    let marks = c.args.marks.now in
    let new : c.set.new.self ≡ set marks c.in-Some.leaf (bit_or (get_or marks c.in-Some.leaf 0) (2 ^ c.in-Some.place)) =
    c.set.ensures ∙ ap (set marks c.in-Some.leaf) (c.with_gone.ensures ∙ ap (λ mark. bit_or mark (2 ^ c.in-Some.place)) c.of-mark.ensures) in
    ap (λ words. joined (kept_each leaves words)) new
    ∙ spot_marked c.args.key.now leaves marks c.in-Some.leaf c.in-Some.place c.in-Some.ensures.some (IsRising-leaf leaves c.in-Some.leaf c.requires.rising) (omega (arith, c.in-Some.ensures.leaf, c.requires.fits))
