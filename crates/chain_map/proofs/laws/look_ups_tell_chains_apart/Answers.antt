use Rattle.chain_map.proofs.Order.{same_pairs}
use Rattle.chain_map.proofs.laws.look_ups_tell_chains_apart.Goals as goal

pub returns : goal.returns
returns c = same_pairs
