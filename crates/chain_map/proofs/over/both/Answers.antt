use Rattle.std.proofs.Common.{◌≡◌, [], ◌∷◌, ◌++◌, sym, ap, subst, ◌∙◌}
use Rattle.std.specs.declared.cmp.Ordering.TheVariants.{Equal, Greater}
use Rattle.chain_map.specs.Pairs.{byte_order, IsRising}
use Rattle.chain_map.proofs.Order.{turned}
use Rattle.chain_map.proofs.Place.{set_at}
use Rattle.chain_map.proofs.Laid.{rising_two}
use Rattle.chain_map.proofs.over.both.Goals as goal

pub from_vec-requires-in-Greater : goal.from_vec-requires-in-Greater
from_vec-requires-in-Greater c =
    let greater : byte_order c.args.pair.0 c.args.one.0 ≡ Greater = ap (byte_order c.args.pair.0) (sym c.key.ensures) ∙ sym c.cmp_key.ensures ∙ c.in-Greater.is in
    let first : c.push_reserved-in-Greater.new.self.items ≡ c.args.one ∷ [] = c.push_reserved-in-Greater.ensures.items ∙ ap (λ pairs. pairs ++ c.args.one ∷ []) c.in-Ok.ensures.items in
    subst IsRising (sym (c.push_reserved-in-Greater-2.ensures.items ∙ ap (λ pairs. pairs ++ c.args.pair ∷ []) first))
    (rising_two c.args.one c.args.pair (turned c.args.pair.0 c.args.one.0 Greater greater))

pub returns-in-Equal-clause-ok : goal.returns-in-Equal-clause-ok
returns-in-Equal-clause-ok c =
    let equal : byte_order c.args.pair.0 c.args.one.0 ≡ Equal = ap (byte_order c.args.pair.0) (sym c.key.ensures) ∙ sym c.cmp_key.ensures ∙ c.in-Equal.is in
    c.from_vec-in-Equal.ensures
    ∙ c.push_reserved-in-Equal.ensures.items
    ∙ ap (λ pairs. pairs ++ c.args.pair ∷ []) c.in-Ok.ensures.items
    ∙ set_at c.args.pair.0 c.args.pair.1 (c.args.one ∷ []) 0 equal
