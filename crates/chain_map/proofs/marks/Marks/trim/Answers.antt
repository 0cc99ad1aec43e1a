use Rattle.std.proofs.Common.{◌≡◌, true, ◌∷◌, subst, sym}
use Rattle.chain_map.specs.Marks.{no_marks}
use Rattle.chain_map.proofs.Each.{clean_trimmed}
use Rattle.chain_map.proofs.marks.Marks.trim.Goals as goal

pub returns-clause-clean : goal.returns-clause-clean
returns-clause-clean c =
    subst (λ words. no_marks (c.self.inside.first ∷ words) ≡ true) (sym c.truncate.ensures.items) (clean_trimmed c.saturating_sub.result c.self.inside.first c.self.inside.rest.items c.args.self.now c.self.view_is c.requires.clean)

pub invariant_of-self : goal.invariant_of-self
invariant_of-self c t =
    subst (λ words. no_marks (c.self.inside.first ∷ words) ≡ true) (sym c.truncate.ensures.items) (clean_trimmed c.saturating_sub.result c.self.inside.first c.self.inside.rest.items c.args.self.now c.self.view_is c.requires.clean)
