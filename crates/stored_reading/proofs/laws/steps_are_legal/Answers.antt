use Rattle.stored_reading.proofs.Stepping.{legal_alike, legal_step_single}
use Rattle.stored_reading.proofs.laws.steps_are_legal.Goals as goal

pub returns : goal.returns
returns c = record {
  alike = λ setup n before e k is legal stands. legal_alike setup n is before e k legal stands;
  single = legal_step_single;
}
