use Rattle.serial_table.proofs.Alike.{view-after_event}
use Rattle.serial_table.proofs.laws.what_happens_shows.Goals as goal

pub returns : goal.returns
returns c = view-after_event
