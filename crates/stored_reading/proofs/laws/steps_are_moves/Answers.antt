use Rattle.stored_reading.proofs.Stepping.{step_is_move, steps_move, steps_stand}
use Rattle.stored_reading.proofs.laws.steps_are_moves.Goals as goal

pub returns : goal.returns
returns c = record {
  entry = λ setup n before e is legal. step_is_move setup n is before e legal;
  history = λ setup n history is some legal. steps_move setup n is some history legal;
  stands = λ setup n history is some legal. steps_stand setup n is some history legal;
}
