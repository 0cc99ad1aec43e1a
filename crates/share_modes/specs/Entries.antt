-- The entries of a share mode record, as a table has them, and how they come and go.
use Rattle.std.specs.Prelude.{Bool, not, [], ◌∷◌, ◌++◌, None, filter}
use Rattle.std.specs.Ordering.{nat_cmp}
use Rattle.std.specs.FinMap as map
use Rattle.std.specs.FinMap.{FinMap}
use Rattle.sid_core.specs.declared.ids.OpenId.{OpenId}
use Rattle.sid_core.specs.Ids.{same_id}
use Rattle.record_codec.specs.declared.share_rec.ShareEntry.{ShareEntry}
use Rattle.record_codec.specs.declared.share_rec.ShareRec.{ShareRec}
use Rattle.record_codec.specs.declared.lease_rec.LeaseRec.{LeaseRec}
use Rattle.record_codec.specs.declared.register_rec.RegisterRec.{RegisterRec}
use Rattle.record_codec.specs.Counts.{Records}
use Rattle.leases_db.specs.Names.{name_cmp}

-- the lease and register records, as what decides which entries count
abbrev pub known : FinMap name_cmp LeaseRec → FinMap nat_cmp RegisterRec → Records
known leases register = record { register = map.get register; mail = λ _. None; lease = map.get leases; share = λ _. None }

-- the lease records alone
abbrev pub leased : FinMap name_cmp LeaseRec → Records
leased leases = record { register = λ _. None; mail = λ _. None; lease = map.get leases; share = λ _. None }

-- a new open comes behind the others
abbrev pub with_entry : ShareEntry → ShareRec → ShareRec
with_entry entry rec = record rec { entries = rec.entries ++ entry ∷ [] }

abbrev pub other_open : OpenId → ShareEntry → Bool
other_open id e = not (same_id e.id id)

-- an open goes
abbrev pub without_open : OpenId → ShareRec → ShareRec
without_open id rec = record rec { entries = filter (other_open id) rec.entries }
