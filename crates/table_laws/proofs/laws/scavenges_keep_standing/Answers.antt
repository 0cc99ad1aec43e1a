use Rattle.table_laws.proofs.ScavengeEvents.{scavenge_stands}
use Rattle.table_laws.proofs.laws.scavenges_keep_standing.Goals as goal

pub returns : goal.returns
returns c = λ setup n before by seq number moment reply is legal. scavenge_stands setup n is before by seq number moment reply legal
