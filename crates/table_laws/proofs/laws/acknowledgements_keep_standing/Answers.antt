use Rattle.table_laws.proofs.AckEvents.{ack_stands}
use Rattle.table_laws.proofs.laws.acknowledgements_keep_standing.Goals as goal

pub returns : goal.returns
returns c = λ setup n before by seq number moment key state reply is legal. ack_stands setup n is before by seq number moment key state reply legal
