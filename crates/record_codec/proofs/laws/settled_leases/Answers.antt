use Rattle.record_codec.proofs.Settled.{settled}
use Rattle.record_codec.proofs.laws.settled_leases.Goals as goal

pub returns : goal.returns
returns c = settled
