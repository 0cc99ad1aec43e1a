-- Tests of whether two names are the same.
use Rattle.std.specs.Prelude.{Bool, false, ◌==◌, ◌&&◌}
use Rattle.sid_core.specs.declared.ids.Sid.{Sid}
use Rattle.sid_core.specs.declared.ids.OpenId.{OpenId}
use Rattle.sid_core.specs.declared.ids.LeaseName.{LeaseName}
use Rattle.sid_core.specs.declared.ids.Spot.{Spot}
use Rattle.sid_core.specs.declared.ids.Spot.TheVariants.{OpenOf, RangesOf, LockOf}

abbrev pub same_sid : Sid → Sid → Bool
same_sid a b = (a.pid == b.pid) && (a.session == b.session)

abbrev pub same_id : OpenId → OpenId → Bool
same_id a b = (a.pid == b.pid) && (a.call == b.call)

abbrev pub same_name : LeaseName → LeaseName → Bool
same_name a b = (a.guid == b.guid) && (a.key == b.key)

abbrev pub same_spot : Spot → Spot → Bool
same_spot (OpenOf f) (OpenOf g) = f == g
same_spot (RangesOf f) (RangesOf g) = f == g
same_spot (LockOf k) (LockOf l) = k == l
same_spot (OpenOf f) (RangesOf g) = false
same_spot (OpenOf f) (LockOf l) = false
same_spot (RangesOf f) (OpenOf g) = false
same_spot (RangesOf f) (LockOf l) = false
same_spot (LockOf k) (OpenOf g) = false
same_spot (LockOf k) (RangesOf g) = false
