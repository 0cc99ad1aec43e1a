use Rattle.chain_map.proofs.Order.{find-put_same, find-put_other}
use Rattle.chain_map.proofs.laws.look_ups_after_put.Goals as goal

pub returns-clause-same_key : goal.returns-clause-same_key
returns-clause-same_key c = find-put_same

pub returns-clause-other_key : goal.returns-clause-other_key
returns-clause-other_key c = find-put_other
