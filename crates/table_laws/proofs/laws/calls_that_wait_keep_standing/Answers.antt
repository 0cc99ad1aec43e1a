use Rattle.table_laws.proofs.WaitEvents.{glock_stands, lock_stands}
use Rattle.table_laws.proofs.laws.calls_that_wait_keep_standing.Goals as goal

pub returns : goal.returns
returns c = record {
  glock = λ setup n before by seq number moment key mode wait reply is legal. glock_stands setup n is before by seq number moment reply key mode wait legal;
  lock = λ setup n before by seq number moment handle span mode wait reply is legal. lock_stands setup n is before by seq number moment handle reply span mode wait legal;
}
