use Rattle.std.proofs.Common.{◌≡◌, Some, None, ap, subst, sym, ◌∙◌}
use Rattle.std.specs.Option.{option_copied}
use Rattle.chain_map.specs.Pairs.{IsRising, find}
use Rattle.chain_map.specs.Leaves.{joined}
use Rattle.chain_map.specs.Marks.{kept_each}
use Rattle.chain_map.proofs.Each.{IsRising-each}
use Rattle.chain_map.proofs.Laid.{find_over, find_under, IsRising-laid}
use Rattle.chain_map.proofs.chain.Chain.find.Goals as goal

pub returns-in-Some-clause-value : goal.returns-in-Some-clause-value
returns-in-Some-clause-value c =
    let found : find c.args.key.now c.self.inside.over ≡ Some c.in-Some.value.now = sym c.find.ensures ∙ ap option_copied c.in-Some.is in
    sym (ap (find c.args.key.now) (sym c.self.view_is) ∙ find_over c.args.key.now c.self.inside.over _ c.in-Some.value.now found)

pub returns-in-Some-clause-rising : goal.returns-in-Some-clause-rising
returns-in-Some-clause-rising c = subst IsRising c.self.view_is (IsRising-laid c.self.inside.over _ (IsRising-each _ c.self.inside.marks c.leaves_of-leaves.ensures.rising))

pub returns-in-None-clause-value : goal.returns-in-None-clause-value
returns-in-None-clause-value c =
    let none : find c.args.key.now c.self.inside.over ≡ None = sym c.find.ensures ∙ ap option_copied c.in-None.is in
    c.find_below.ensures ∙ ap (λ leaves. find c.args.key.now (joined (kept_each leaves c.self.inside.marks))) c.leaves_of-leaves.ensures.leaves
    ∙ sym (ap (find c.args.key.now) (sym c.self.view_is) ∙ find_under c.args.key.now c.self.inside.over _ none)

pub returns-in-None-clause-rising : goal.returns-in-None-clause-rising
returns-in-None-clause-rising c = subst IsRising c.self.view_is (IsRising-laid c.self.inside.over _ (IsRising-each _ c.self.inside.marks c.leaves_of-leaves.ensures.rising))
