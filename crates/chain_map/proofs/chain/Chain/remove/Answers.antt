use Rattle.std.proofs.Common.{◌≡◌, ap, sym, ◌∙◌}
use Rattle.std.specs.Prelude.{is_some, ◌||◌}
use Rattle.chain_map.specs.Pairs.{find, without}
use Rattle.chain_map.specs.Leaves.{joined}
use Rattle.chain_map.specs.Marks.{kept_each}
use Rattle.chain_map.specs.Laid.{laid}
use Rattle.chain_map.proofs.Each.{IsRising-each}
use Rattle.chain_map.proofs.Laid.{found_either, laid_without}
use Rattle.chain_map.proofs.chain.Chain.remove.Goals as goal

pub returns-clause-found : goal.returns-clause-found
returns-clause-found c =
    let below : c.take_out-below.result ≡ is_some (find c.args.key.now (joined (kept_each _ c.self.inside.marks))) = c.take_out-below.ensures.found ∙ ap (λ leaves. is_some (find c.args.key.now (joined (kept_each leaves c.self.inside.marks)))) c.leaves_of.ensures.leaves in
    (λ i. c.remove-over.ensures.found i || below i) ∙ found_either c.args.key.now c.self.inside.over _ ∙ ap (λ pairs. is_some (find c.args.key.now pairs)) c.self.view_is

pub returns-clause-others : goal.returns-clause-others
returns-clause-others c =
    let below = ap (λ leaves. joined (kept_each leaves c.take_out-below.new.marks)) (sym c.leaves_of.ensures.leaves) ∙ c.take_out-below.ensures.others ∙ ap (λ leaves. without c.args.key.now (joined (kept_each leaves c.self.inside.marks))) c.leaves_of.ensures.leaves in
    (λ i. laid (c.remove-over.ensures.others i) (below i)) ∙ laid_without c.args.key.now c.self.inside.over _ (IsRising-each _ c.self.inside.marks c.leaves_of.ensures.rising) ∙ ap (without c.args.key.now) c.self.view_is
