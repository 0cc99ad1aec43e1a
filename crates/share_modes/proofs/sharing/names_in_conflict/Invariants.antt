use Rattle.std.proofs.Common.{◌≡◌, ℕ, ◌++◌, List, [], drop, reverse}
use Rattle.std.specs.List.{filter_map}
use Rattle.std.specs.FinMap.{FinMap}
use Rattle.sid_core.specs.declared.ids.LeaseName.{LeaseName}
use Rattle.serial_table.specs.Break.{each_once}
use Rattle.record_codec.specs.declared.share_rec.ShareEntry.{ShareEntry}
use Rattle.leases_db.specs.Names.{name_cmp}
use Rattle.share_modes.specs.declared.asked.Asked.{Asked}
use Rattle.share_modes.specs.Sharing.{conflict_lease, AreMet}
use Rattle.share_modes.proofs.sharing.names_in_conflict.Given as goal

pub record IsListed (listed : List LeaseName) (seen : FinMap name_cmp (Unit {0})) (asked : Asked) (valid : List ShareEntry) (i : ℕ) : Type 0 where
  pub names : listed ++ each_once (reverse listed) (filter_map (conflict_lease asked) (drop i valid)) ≡ each_once [] (filter_map (conflict_lease asked) valid)
  pub met : AreMet listed seen

abbrev pub invariant-loop-entry : goal.invariant-loop-entry
invariant-loop-entry l = IsListed l.names.items l.met l.asked l.valid l.entry-index
