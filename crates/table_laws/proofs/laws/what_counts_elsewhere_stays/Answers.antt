use Rattle.table_laws.proofs.Reaching.{same_parts_count, elsewhere}
use Rattle.table_laws.proofs.laws.what_counts_elsewhere_stays.Goals as goal

pub returns : goal.returns
returns c = record { alike = same_parts_count; moved = elsewhere }
