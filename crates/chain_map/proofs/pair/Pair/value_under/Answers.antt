use Rattle.std.proofs.Common.{Some, [], ◌∷◌, sym, ap, ◌∙◌}
use Rattle.chain_map.proofs.Place.{at_one, not_one, find_at}
use Rattle.chain_map.proofs.pair.Pair.value_under.Goals as goal

pub returns-then-is_eq : goal.returns-then-is_eq
returns-then-is_eq c =
    ap Some c.value.ensures
    ∙ sym (find_at c.args.key.now (c.args.self.now ∷ []) 0 ([], []) (at_one c.args.key.now c.args.self.now c.cmp_key.result c.cmp_key.ensures (sym c.is_eq.ensures ∙ c.if-is_eq.true)))

pub returns-else-is_eq : goal.returns-else-is_eq
returns-else-is_eq c = sym (not_one c.args.key.now c.args.self.now c.cmp_key.result c.cmp_key.ensures (sym c.is_eq.ensures ∙ c.if-is_eq.false)).0
