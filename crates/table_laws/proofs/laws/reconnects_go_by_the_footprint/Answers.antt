use Rattle.table_laws.proofs.ReconnectAnswers.{reconnect_legal}
use Rattle.table_laws.proofs.laws.reconnects_go_by_the_footprint.Goals as goal

pub returns : goal.returns
returns c = λ setup n by seq number moment worker made key reply. reconnect_legal setup n by seq number moment worker made key reply
