use Rattle.table_laws.proofs.OpenAnswers.{open_legal}
use Rattle.table_laws.proofs.laws.opens_go_by_the_footprint.Goals as goal

pub returns : goal.returns
returns c = λ setup n by seq number moment file access share lease durable overwrite delete reply. open_legal setup n by seq number moment file access share lease durable overwrite delete reply
