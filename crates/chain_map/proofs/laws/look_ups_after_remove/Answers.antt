use Rattle.chain_map.proofs.Order.{find-without_same, find-without_other}
use Rattle.chain_map.proofs.laws.look_ups_after_remove.Goals as goal

pub returns-clause-same_key : goal.returns-clause-same_key
returns-clause-same_key c = find-without_same

pub returns-clause-other_key : goal.returns-clause-other_key
returns-clause-other_key c = find-without_other
