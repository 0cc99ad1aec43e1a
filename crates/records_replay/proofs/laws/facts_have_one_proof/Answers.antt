use Rattle.records_replay.proofs.Lawful.{single}
use Rattle.records_replay.proofs.laws.facts_have_one_proof.Goals as goal

pub returns : goal.returns
returns c = single
