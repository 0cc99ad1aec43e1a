-- What becomes of the map of which a record is lent.
use Rattle.std.specs.Prelude.{◌≡◌, Option, OnSome}
use Rattle.std.specs.Borrow.{LendsSo, MutBor, Fml}
use Rattle.std.specs.FinMap as map
use Rattle.sid_core.specs.declared.ids.LeaseName.{LeaseName}
use denote.RattleType.{RattleType}
use Rattle.leases_db.specs.contracts.by_name.ByName.{the_row}
use Rattle.leases_db.specs.Names.{name_cmp}

-- it ends with the record as it is left, or as it was where the name has none
abbrev pub LendsNamed : (T : RattleType) → MutBor (map.FinMap name_cmp T.Denot) → LeaseName → Option (MutBor T.Denot) → Fml
LendsNamed T m name r = LendsSo (the_row T) T m r (λ after rec. OnSome r (after ≡ map.insert m.now name rec)) (λ after. after ≡ m.now)
