use Rattle.table_laws.proofs.HandleEvents.{close_stands, delete_stands, unlock_stands, read_stands}
use Rattle.table_laws.proofs.WriteEvents.{write_stands}
use Rattle.table_laws.proofs.laws.calls_by_handle_keep_standing.Goals as goal

pub returns : goal.returns
returns c = record {
  close = λ setup n before by seq number moment handle reply is legal. close_stands setup n is before by seq number moment handle reply legal;
  delete = λ setup n before by seq number moment handle on reply is legal. delete_stands setup n is before by seq number moment handle reply on legal;
  unlock = λ setup n before by seq number moment handle span reply is legal. unlock_stands setup n is before by seq number moment handle reply span legal;
  read = λ setup n before by seq number moment handle span reply is legal. read_stands setup n is before by seq number moment handle reply span legal;
  write = λ setup n before by seq number moment handle span reply is legal. write_stands setup n is before by seq number moment handle reply span legal;
}
