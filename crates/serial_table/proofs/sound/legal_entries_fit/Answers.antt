use Rattle.serial_table.proofs.Entries.{entry_fits}
use Rattle.serial_table.proofs.sound.legal_entries_fit.Goals as goal

pub returns : goal.returns
returns c = entry_fits
