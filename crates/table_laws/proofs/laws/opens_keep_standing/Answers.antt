use Rattle.table_laws.proofs.OpenEvents.{open_stands}
use Rattle.table_laws.proofs.laws.opens_keep_standing.Goals as goal

pub returns : goal.returns
returns c = λ setup n before by seq number moment file access share lease durable overwrite delete reply is legal. open_stands setup n is before by seq number moment file access share lease durable overwrite delete reply legal
