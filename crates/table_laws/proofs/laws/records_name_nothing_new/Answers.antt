use Rattle.table_laws.proofs.HistoryEvents.{name_nothing_new}
use Rattle.table_laws.proofs.laws.records_name_nothing_new.Goals as goal

pub returns : goal.returns
returns c = λ setup n before by seq number moment which reply is some legal caller from. name_nothing_new setup n is before by seq number moment which reply some legal caller from
