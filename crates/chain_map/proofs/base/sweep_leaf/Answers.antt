use Rattle.std.proofs.Common.{◌≡◌, [], get_or, set, refl, ap, subst, sym, ◌∙◌}
use Rattle.std.specs.List.{remove}
use Rattle.std.proofs.lemmas.List.{get_or_default, get_or-set_same}
use Rattle.chain_map.specs.Pairs.{IsRising}
use Rattle.chain_map.specs.Leaves.{joined, IsFilled}
use Rattle.chain_map.specs.Marks.{kept}
use Rattle.chain_map.proofs.Homes.{IsFilled-set, IsFilled-remove, joined-remove_set, remove-set, filled_from_test, empty_from_test}
use Rattle.chain_map.proofs.Each.{each_swept, each_emptied, IsRising-swept}
use Rattle.chain_map.proofs.base.sweep_leaf.Goals as goal

-- what the leaf keeps, in both branches
pub returns-else-is_empty-clause-pairs : goal.returns-else-is_empty-clause-pairs
returns-else-is_empty-clause-pairs c =
    let leaves = c.args.leaves.now.items in
    let leaf : c.index_mut.result.now ≡ get_or leaves c.args.at [] = c.index_mut.ensures.value ∙ get_or_default leaves c.args.at c.index_mut.result.now [] c.requires.at in
    let new : c.sweep.new.self ≡ kept (get_or c.args.marks.now c.args.at 0) 0 (get_or leaves c.args.at []) = c.if-not-sweep.ensures.swept refl ∙ (λ i. kept (c.of-mark.ensures i) 0 (leaf i)) in
    rw (new, c.set.ensures) (ap joined (each_swept leaves c.args.marks.now c.args.at c.requires.at c.requires.fits))

pub returns-else-is_empty-clause-rising : goal.returns-else-is_empty-clause-rising
returns-else-is_empty-clause-rising c =
    let leaves = c.args.leaves.now.items in
    let leaf : c.index_mut.result.now ≡ get_or leaves c.args.at [] = c.index_mut.ensures.value ∙ get_or_default leaves c.args.at c.index_mut.result.now [] c.requires.at in
    let new : c.sweep.new.self ≡ kept (get_or c.args.marks.now c.args.at 0) 0 (get_or leaves c.args.at []) = c.if-not-sweep.ensures.swept refl ∙ (λ i. kept (c.of-mark.ensures i) 0 (leaf i)) in
    rw new (IsRising-swept (get_or c.args.marks.now c.args.at 0) leaves c.args.at c.requires.rising)

pub returns-else-is_empty-clause-filled : goal.returns-else-is_empty-clause-filled
returns-else-is_empty-clause-filled c =
    let leaves = c.args.leaves.now.items in
    let here : c.index.result.now ≡ c.sweep.new.self = c.index.ensures ∙ get_or-set_same leaves c.args.at c.sweep.new.self c.index.result.now c.requires.at in
    IsFilled-set leaves c.args.at c.sweep.new.self c.requires.filled
    (filled_from_test c.sweep.new.self c.as_slice.result.now (sym c.is_empty.ensures ∙ c.if-is_empty.false) (c.as_slice.ensures.pairs ∙ here))

-- the leaf goes
emptied : (c : goal.After-remove-then-is_empty) → c.sweep.new.self ≡ []
emptied c =
    let here : c.index.result.now ≡ c.sweep.new.self = c.index.ensures ∙ get_or-set_same c.args.leaves.now.items c.args.at c.sweep.new.self c.index.result.now c.requires.at in
    empty_from_test c.sweep.new.self c.as_slice.result.now (sym c.is_empty.ensures ∙ c.if-is_empty.true) (c.as_slice.ensures.pairs ∙ here)

keeps_none : (c : goal.After-remove-then-is_empty) → kept (get_or c.args.marks.now c.args.at 0) 0 (get_or c.args.leaves.now.items c.args.at []) ≡ []
keeps_none c =
    let leaves = c.args.leaves.now.items in
    let leaf : c.index_mut.result.now ≡ get_or leaves c.args.at [] = c.index_mut.ensures.value ∙ get_or_default leaves c.args.at c.index_mut.result.now [] c.requires.at in
    let new : c.sweep.new.self ≡ kept (get_or c.args.marks.now c.args.at 0) 0 (get_or leaves c.args.at []) = c.if-not-sweep.ensures.swept refl ∙ (λ i. kept (c.of-mark.ensures i) 0 (leaf i)) in
    sym new ∙ emptied c

pub returns-then-is_empty-clause-pairs : goal.returns-then-is_empty-clause-pairs
returns-then-is_empty-clause-pairs c =
    let leaves = c.args.leaves.now.items in
    let left : c.remove.new.self.items ≡ remove leaves c.args.at = c.remove.ensures.items ∙ remove-set leaves c.args.at c.sweep.new.self in
    rw (left, c.remove-then-is_empty.ensures) (each_emptied leaves c.args.marks.now c.args.at c.requires.at c.requires.fits (keeps_none c))

pub returns-then-is_empty-clause-rising : goal.returns-then-is_empty-clause-rising
returns-then-is_empty-clause-rising c =
    let leaves = c.args.leaves.now.items in
    let swept : IsRising (joined (set leaves c.args.at [])) = subst (λ leaf. IsRising (joined (set leaves c.args.at leaf))) (keeps_none c) (IsRising-swept (get_or c.args.marks.now c.args.at 0) leaves c.args.at c.requires.rising) in
    let left : c.remove.new.self.items ≡ remove (set leaves c.args.at []) c.args.at = c.remove.ensures.items ∙ ap (λ leaf. remove (set leaves c.args.at leaf) c.args.at) (emptied c) in
    subst (λ leaves. IsRising (joined leaves)) (sym left) (subst IsRising (sym (joined-remove_set leaves c.args.at)) swept)

pub returns-then-is_empty-clause-filled : goal.returns-then-is_empty-clause-filled
returns-then-is_empty-clause-filled c = subst IsFilled (sym c.remove.ensures.items) (IsFilled-remove c.args.leaves.now.items c.args.at c.sweep.new.self c.requires.filled)
