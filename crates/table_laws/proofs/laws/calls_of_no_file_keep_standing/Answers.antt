use Rattle.table_laws.proofs.CallerEvents.{recv_stands, tidy_stands, status_stands}
use Rattle.table_laws.proofs.LockEvents.{gunlock_stands}
use Rattle.table_laws.proofs.laws.calls_of_no_file_keep_standing.Goals as goal

pub returns : goal.returns
returns c = record {
  recv = λ setup n before by seq number moment reply is legal. recv_stands setup n is before by seq number moment reply legal;
  gunlock = λ setup n before by seq number moment key reply is legal. gunlock_stands setup n is before by seq number moment key reply legal;
  tidy = λ setup n before by seq number moment reply is legal. tidy_stands setup n is before by seq number moment reply legal;
  status = λ setup n before by seq number moment tables reply is legal. status_stands setup n is before by seq number moment reply tables legal;
}
