use Rattle.table_laws.proofs.HandleAnswers.{close_legal, delete_legal, lock_legal, unlock_legal, read_legal, write_legal}
use Rattle.table_laws.proofs.laws.calls_by_handle_go_by_the_footprint.Goals as goal

pub returns : goal.returns
returns c = record {
  close = λ setup n by seq number moment handle reply. close_legal setup n by seq number moment handle reply;
  delete = λ setup n by seq number moment handle on reply. delete_legal setup n by seq number moment handle reply on;
  lock = λ setup n by seq number moment handle span mode wait reply. lock_legal setup n by seq number moment handle reply span mode wait;
  unlock = λ setup n by seq number moment handle span reply. unlock_legal setup n by seq number moment handle reply span;
  read = λ setup n by seq number moment handle span reply. read_legal setup n by seq number moment handle reply span;
  write = λ setup n by seq number moment handle span reply. write_legal setup n by seq number moment handle reply span;
}
