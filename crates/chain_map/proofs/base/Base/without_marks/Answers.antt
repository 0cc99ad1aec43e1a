use Rattle.std.proofs.Common.{◌≡◌, ◌<◌, ◌≤◌, ◌++◌, ◌+◌, drop, [], get_or, ap, subst, sym, arith, length, append-nil, append_assoc, ◌∙◌}
use Rattle.std.proofs.lemmas.List.{get_or_default}
use Rattle.chain_map.specs.Pairs.{Pairs, IsRising}
use Rattle.chain_map.specs.Leaves.{joined}
use Rattle.chain_map.specs.Marks.{kept, kept_each}
use Rattle.chain_map.proofs.Each.{each_from, each_past, IsRising-each}
use Rattle.chain_map.proofs.base.Base.without_marks.Goals as goal

-- all leaves were taken over
all : (c : goal.After-loop-at) → joined c.loop-at.leaves.items ≡ joined (kept_each c.args.self.now c.args.marks.now)
all c =
    let past : length c.args.self.now ≤ c.loop-at.at = omega (arith, c.loop-at-test.false, c.len-in-loop-at.ensures, ap length c.self.view_is) in
    sym (append-nil (joined c.loop-at.leaves.items))
    ∙ ap (λ rest. joined c.loop-at.leaves.items ++ rest) (sym (each_past c.args.self.now c.args.marks.now c.loop-at.at past))
    ∙ c.loop-at.invariant.pairs

pub invariant_of-result : goal.invariant_of-result
invariant_of-result c = (
  subst IsRising (sym (all c)) (IsRising-each c.args.self.now c.args.marks.now (subst (λ leaves. IsRising (joined leaves)) c.self.view_is c.self.invariant.0)),
  c.loop-at.invariant.filled,
)

pub returns : goal.returns
returns c = all c

pub loop-at-preserved : goal.loop-at-preserved
loop-at-preserved c =
    let leaves = c.args.self.now in
    let marks = c.args.marks.now in
    let at = c.loop-at.at in
    let within : at < length leaves = omega (arith, c.loop-at-test.true, c.len-in-loop-at.ensures, ap length c.self.view_is) in
    let here : c.index.result.now ≡ get_or leaves at [] = c.index.ensures ∙ ap (λ all. get_or all at c.index.result.now) c.self.view_is ∙ get_or_default leaves at c.index.result.now [] within in
    let leaf : c.in_ok-leaf.leaf ≡ kept (get_or marks at 0) 0 (get_or leaves at []) = c.in_ok-leaf.ensures ∙ (λ i. kept (c.of.ensures i) 0 (here i)) in
    let before : Pairs = joined c.loop-at.leaves.items in
    let mine : Pairs = kept (get_or marks at 0) 0 (get_or leaves at []) in
    let after : Pairs = joined (kept_each (drop (at + 1) leaves) (drop (at + 1) marks)) in
    let regrouped : (before ++ mine) ++ after ≡ before ++ (mine ++ after) = simp append_assoc in
    record {
      pairs = ap (λ front. front ++ after) (c.in_ok-push_filled.ensures.pairs ∙ ap (λ last. before ++ last) leaf) ∙ regrouped
          ∙ ap (λ rest. before ++ rest) (sym (each_from leaves marks at within (omega (arith, within, c.requires)))) ∙ c.loop-at.invariant.pairs;
      filled = c.in_ok-push_filled.ensures.filled c.loop-at.invariant.filled;
      within = omega (arith, within);
    }
