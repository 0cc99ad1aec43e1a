use Rattle.std.proofs.Common.{◌≡◌, [], ◌∷◌, ◌++◌, refl, ap, sym, ◌∙◌, append-nil}
use Rattle.std.specs.List.{remove}
use Rattle.chain_map.specs.Pairs.{put}
use Rattle.chain_map.specs.Place.{pair_at}
use Rattle.chain_map.specs.Leaves.{joined}
use Rattle.chain_map.specs.Laid.{laid}
use Rattle.chain_map.proofs.Laid.{laid_moved}
use Rattle.chain_map.proofs.base.Base.start.Goals as goal

pub returns-then-take_in-clause-same : goal.returns-then-take_in-clause-same
returns-then-take_in-clause-same c =
    let pair = pair_at c.args.over.now c.args.at in
    let all : c.push_reserved.new.self.items ≡ c.take_in.new.self ∷ [] = c.push_reserved.ensures.items ∙ ap (λ leaves. leaves ++ c.take_in.new.self ∷ []) (c.in_ok-reserve_exact.ensures.items ∙ c.self.view_is ∙ c.requires.none) in
    let leaf : c.take_in.new.self ≡ put pair.0 pair.1 [] = c.if-take_in.ensures.moved refl ∙ ap (put pair.0 pair.1) c.in_ok-leaf.ensures in
    (λ i. laid (c.if-take_in.ensures.taken refl i) (joined (all i)))
    ∙ ap (laid (remove c.args.over.now c.args.at)) (append-nil c.take_in.new.self ∙ leaf)
    ∙ laid_moved c.args.over.now [] c.args.at c.as_slice-rising.ensures.rising refl c.requires.at
    ∙ ap (λ leaves. laid c.args.over.now (joined leaves)) (sym c.requires.none)
