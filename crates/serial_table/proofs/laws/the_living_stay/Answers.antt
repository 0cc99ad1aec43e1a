use Rattle.serial_table.proofs.Standing.{alive_at_start, alive_after_call, alive_after_death}
use Rattle.serial_table.proofs.laws.the_living_stay.Goals as goal

pub returns-clause-start : goal.returns-clause-start
returns-clause-start c = alive_at_start

pub returns-clause-call : goal.returns-clause-call
returns-clause-call c = alive_after_call

pub returns-clause-death : goal.returns-clause-death
returns-clause-death c = alive_after_death
