use Rattle.chain_map.proofs.Order.{IsRising-put, IsRising-without}
use Rattle.chain_map.proofs.laws.edits_keep_order.Goals as goal

pub returns-clause-put : goal.returns-clause-put
returns-clause-put c = IsRising-put

pub returns-clause-remove : goal.returns-clause-remove
returns-clause-remove c = IsRising-without
