use Rattle.serial_table.proofs.Standing.{sessions_at_start, sessions_after, caller_session}
use Rattle.serial_table.proofs.laws.sessions_rise_by_one.Goals as goal

pub returns : goal.returns
returns c = record { start = sessions_at_start; event = sessions_after; caller = caller_session }
