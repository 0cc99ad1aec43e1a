use Rattle.stored_table.proofs.Locality.{same_met_by_footprint, same_footprint}
use Rattle.stored_table.proofs.laws.footprints_are_local.Goals as goal

pub returns : goal.returns
returns c = record { met = same_met_by_footprint; footprint = same_footprint }
