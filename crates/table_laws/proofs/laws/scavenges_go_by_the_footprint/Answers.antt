use Rattle.table_laws.proofs.ScavengeAnswers.{scavenge_legal}
use Rattle.table_laws.proofs.laws.scavenges_go_by_the_footprint.Goals as goal

pub returns : goal.returns
returns c = λ setup n by seq number moment reply. scavenge_legal setup n by seq number moment reply
