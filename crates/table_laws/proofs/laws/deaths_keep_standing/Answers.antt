use Rattle.table_laws.proofs.DeathEvents.{death_stands}
use Rattle.table_laws.proofs.laws.deaths_keep_standing.Goals as goal

pub returns : goal.returns
returns c = λ setup n before by seq worker moment is legal. death_stands setup n is before by seq worker moment legal
