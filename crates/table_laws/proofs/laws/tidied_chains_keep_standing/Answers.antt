use Rattle.table_laws.proofs.CallerEvents.{tidied_stands}
use Rattle.table_laws.proofs.laws.tidied_chains_keep_standing.Goals as goal

pub returns : goal.returns
returns c = λ setup n before by seq chain is legal. tidied_stands setup n is before by seq chain legal
