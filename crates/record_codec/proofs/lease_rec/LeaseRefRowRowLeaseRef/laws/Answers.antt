use Rattle.record_codec.proofs.LeaseExact.{lease_ref_exact, lease_ref_set, lease_ref_size}
use Rattle.record_codec.proofs.lease_rec.LeaseRefRowRowLeaseRef.laws.Goals as goal

pub returns : goal.returns
returns c = record { exact = lease_ref_exact; sets = lease_ref_set; sized = lease_ref_size }
