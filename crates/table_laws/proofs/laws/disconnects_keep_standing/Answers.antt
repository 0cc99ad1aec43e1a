use Rattle.table_laws.proofs.SessionEvents.{disconnect_stands}
use Rattle.table_laws.proofs.laws.disconnects_keep_standing.Goals as goal

pub returns : goal.returns
returns c = λ setup n before by seq number moment reply is legal. disconnect_stands setup n is before by seq number moment reply legal
