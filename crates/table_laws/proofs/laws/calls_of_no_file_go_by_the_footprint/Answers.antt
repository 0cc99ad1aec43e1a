use Rattle.table_laws.proofs.PlainAnswers.{glock_legal, gunlock_legal, recv_legal, disconnect_legal, tidy_legal, status_legal}
use Rattle.table_laws.proofs.laws.calls_of_no_file_go_by_the_footprint.Goals as goal

pub returns : goal.returns
returns c = record {
  glock = λ setup n by seq number moment key mode wait reply. glock_legal setup n by seq number moment key reply mode wait;
  gunlock = λ setup n by seq number moment key reply. gunlock_legal setup n by seq number moment key reply;
  recv = λ setup n by seq number moment reply. recv_legal setup n by seq number moment reply;
  disconnect = λ setup n by seq number moment reply. disconnect_legal setup n by seq number moment reply;
  tidy = λ setup n by seq number moment reply. tidy_legal setup n by seq number moment reply;
  status = λ setup n by seq number moment tables reply. status_legal setup n by seq number moment reply tables;
}
