use Rattle.table_laws.proofs.ReconnectEvents.{reconnect_stands}
use Rattle.table_laws.proofs.laws.reconnects_keep_standing.Goals as goal

pub returns : goal.returns
returns c = λ setup n before by seq number moment worker made key reply is legal. reconnect_stands setup n is before by seq number moment worker made key reply legal
