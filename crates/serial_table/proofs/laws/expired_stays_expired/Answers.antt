use Rattle.serial_table.proofs.ExpiredTwice.{expire-expire}
use Rattle.serial_table.proofs.laws.expired_stays_expired.Goals as goal

pub returns : goal.returns
returns c = expire-expire
