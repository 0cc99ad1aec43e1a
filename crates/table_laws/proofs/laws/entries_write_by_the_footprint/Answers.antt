use Rattle.table_laws.proofs.EntryWrites.{entry_written}
use Rattle.table_laws.proofs.laws.entries_write_by_the_footprint.Goals as goal

pub returns : goal.returns
returns c = λ setup n e. entry_written setup n e
