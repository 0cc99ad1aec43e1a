use Rattle.table_laws.proofs.HistoryEvents.{history_stands}
use Rattle.table_laws.proofs.laws.histories_stand.Goals as goal

pub returns : goal.returns
returns c = λ setup n history is some legal. history_stands setup n is history some legal
