use Rattle.table_laws.proofs.AckAnswers.{ack_legal}
use Rattle.table_laws.proofs.laws.acknowledgements_go_by_the_footprint.Goals as goal

pub returns : goal.returns
returns c = λ setup n by seq number moment key state reply. ack_legal setup n by seq number moment key state reply
