-- The rule of the seven databases: what entries make of their chains, by a setup.
use Rattle.std.specs.Prelude.{◌≡◌, ℕ, ◌/◌, ◌<◌, ◌≤◌, List, length, Option, Some, None}
use Rattle.std.specs.List.{AllByRecursion}
use Rattle.sid_core.specs.declared.entry.Entry.{Entry}
use Rattle.sid_core.specs.declared.entry.Event.{Event}
use Rattle.sid_core.specs.declared.entry.Event.TheVariants.{Called, Died, Tidied}
use Rattle.sid_core.specs.declared.setup.Setup.{Setup}
use Rattle.sid_core.specs.Setup.{IsSetup}
use Rattle.serial_table.specs.History.{numbers_of}
use Rattle.stored_table.specs.Places.{Chains}
use Rattle.stored_table.specs.Footprint.{footprint}
use Rattle.stored_table.specs.Move.{first_chains}
use Rattle.stored_reading.specs.Steps as steps

-- how many chains each of the seven databases has
abbrev pub per_database : Chains → ℕ
per_database k = length k / 7

-- The register records of the declared workers and nothing else, in 1 to 64 chains per database. A script can declare the setup.
pub record IsFirst (setup : Setup) (k : Chains) : Type 0 where
  pub declared : IsSetup setup
  pub some : 1 ≤ per_database k
  pub few : per_database k ≤ 64
  pub is : k ≡ first_chains setup (per_database k)

abbrev pub step : Setup → Chains → Entry → Chains
step setup k e = steps.step setup (per_database k) k e

abbrev pub IsLegalStep : Setup → Chains → Entry → Type 0
IsLegalStep setup k e = steps.IsLegalStep setup (per_database k) k e

abbrev pub names : Setup → Chains → Entry → List ℕ
names setup k e = footprint setup (per_database k) k e

-- A call follows calls with lower numbers, and everything else always follows.
abbrev pub FollowsAs : ℕ → List Entry → Event → Type 0
FollowsAs by before (Called number moment call reply) = AllByRecursion (λ earlier. earlier < number) (numbers_of by before)
FollowsAs by before (Died worker moment) = Unit {0}
FollowsAs by before (Tidied chain) = Unit {0}

abbrev pub Follows : List Entry → Entry → Type 0
Follows before e = FollowsAs e.by before e.what

-- A death buries its worker's pass.
abbrev pub buried_by : Event → Option ℕ
buried_by (Called number moment call reply) = None
buried_by (Died worker moment) = Some worker
buried_by (Tidied chain) = None

abbrev pub buries : Entry → Option ℕ
buries e = buried_by e.what
