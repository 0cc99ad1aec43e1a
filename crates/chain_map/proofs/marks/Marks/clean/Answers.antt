use Rattle.chain_map.proofs.Each.{cleaned}
use Rattle.chain_map.proofs.marks.Marks.clean.Goals as goal

pub returns-clause-clean : goal.returns-clause-clean
returns-clause-clean c = cleaned _ _ _ _ c.in_ok-rest.ensures.items c.in_ok-resize.ensures.items

pub invariant_of-result : goal.invariant_of-result
invariant_of-result c = λ t. cleaned _ _ _ _ c.in_ok-rest.ensures.items c.in_ok-resize.ensures.items
