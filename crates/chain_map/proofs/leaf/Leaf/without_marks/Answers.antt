use Rattle.std.proofs.Common.{◌≡◌, subst, sym, ◌∙◌}
use Rattle.chain_map.specs.Marks.{kept}
use Rattle.chain_map.proofs.Kept.{kept_all}
use Rattle.chain_map.proofs.leaf.Leaf.without_marks.Goals as goal

pub returns-then-mark-eq0 : goal.returns-then-mark-eq0
returns-then-mark-eq0 c = subst (λ mark. c.in_ok-clone.field-0 ≡ kept mark 0 c.args.self.now) (sym c.if-mark-eq0.true) (c.in_ok-clone.ensures.cases ∙ sym (kept_all 0 c.args.self.now))
