use Rattle.table_laws.proofs.PlainAnswers.{died_legal, tidied_legal}
use Rattle.table_laws.proofs.laws.deaths_go_by_the_footprint.Goals as goal

pub returns : goal.returns
returns c = record {
  died = λ setup n by seq worker moment. died_legal setup n by seq worker moment;
  tidied = λ setup n by seq chain. tidied_legal setup n by seq chain;
}
