use Rattle.chain_map.proofs.Homes.{only_home}
use Rattle.chain_map.proofs.base.home.Goals as goal

pub returns-then-leaves-eq1-clause-home : goal.returns-then-leaves-eq1-clause-home
returns-then-leaves-eq1-clause-home c = only_home c.args.key.now c.args.leaves.now c.if-leaves-eq1.true
