use Rattle.record_txn.proofs.Hands.{chains_changed}
use Rattle.record_txn.proofs.laws.changes_in_hand.Goals as goal

pub returns : goal.returns
returns c = λ n y hand. chains_changed n y hand
