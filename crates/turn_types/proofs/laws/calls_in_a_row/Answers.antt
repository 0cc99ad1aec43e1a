use Rattle.turn_types.proofs.Rows.{nothing, together}
use Rattle.turn_types.proofs.laws.calls_in_a_row.Goals as goal

pub returns-clause-none : goal.returns-clause-none
returns-clause-none g c shown b told = nothing shown b told

pub returns-clause-two : goal.returns-clause-two
returns-clause-two g c before between after b d e same p q = together before between after b d e same p q
