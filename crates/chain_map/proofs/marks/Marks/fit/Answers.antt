use Rattle.std.proofs.Common.{◌≡◌, true, ◌==◌, ◌&&◌, ◌∷◌, subst, sym}
use Rattle.chain_map.specs.Marks.{no_marks}
use Rattle.chain_map.proofs.Each.{clean_more}
use Rattle.chain_map.proofs.marks.Marks.fit.Goals as goal

pub returns-in_ok-push-clause-clean : goal.returns-in_ok-push-clause-clean
returns-in_ok-push-clause-clean c =
    let first = c.self.inside.first in
    let rest = c.self.inside.rest.items in
    subst (λ words. ((first == 0) && no_marks words) ≡ true) (sym c.in_ok-push.ensures.items) (clean_more (first ∷ rest) (subst (λ words. no_marks words ≡ true) (sym c.self.view_is) c.requires.clean))

pub invariant_of-self : goal.invariant_of-self
invariant_of-self c t =
    let first = c.self.inside.first in
    let rest = c.self.inside.rest.items in
    subst (λ words. ((first == 0) && no_marks words) ≡ true) (sym c.in_ok-push.ensures.items) (clean_more (first ∷ rest) (subst (λ words. no_marks words ≡ true) (sym c.self.view_is) c.requires.clean))
