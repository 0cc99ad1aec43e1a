use Rattle.stored_table.proofs.Writing.{value_at-write_all}
use Rattle.stored_table.proofs.laws.look_ups_after_writes.Goals as goal

pub returns : goal.returns
returns c = value_at-write_all
