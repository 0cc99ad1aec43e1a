use Rattle.std.proofs.Common.{[], ◌∷◌, refl, sym, ap, ◌∙◌}
use Rattle.std.specs.Prelude.{is_some}
use Rattle.chain_map.proofs.Place.{at_one, not_one, find_at, remove_at}
use Rattle.chain_map.proofs.over.Over.remove_one.Goals as goal

pub returns-then-is_eq-clause-found : goal.returns-then-is_eq-clause-found
returns-then-is_eq-clause-found c =
    let stands = at_one c.args.key.now c.args.one c.cmp_key.result c.cmp_key.ensures (sym c.is_eq.ensures ∙ c.if-is_eq.true) in
    sym (ap is_some (find_at c.args.key.now (c.args.one ∷ []) 0 ([], []) stands))

pub returns-then-is_eq-clause-others : goal.returns-then-is_eq-clause-others
returns-then-is_eq-clause-others c =
    let stands = at_one c.args.key.now c.args.one c.cmp_key.result c.cmp_key.ensures (sym c.is_eq.ensures ∙ c.if-is_eq.true) in
    c.requires ∙ remove_at c.args.key.now (c.args.one ∷ []) 0 refl stands

pub returns-clause-found : goal.returns-clause-found
returns-clause-found c =
    sym (ap is_some (not_one c.args.key.now c.args.one c.cmp_key.result c.cmp_key.ensures (sym c.is_eq.ensures ∙ c.if-is_eq.false)).0)

pub returns-clause-others : goal.returns-clause-others
returns-clause-others c =
    sym (not_one c.args.key.now c.args.one c.cmp_key.result c.cmp_key.ensures (sym c.is_eq.ensures ∙ c.if-is_eq.false)).1
