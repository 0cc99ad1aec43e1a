use Rattle.record_codec.specs.LeaseRec.{lease_rec}
use Rattle.record_codec.proofs.Whole.{exact_is_grammar}
use Rattle.record_codec.proofs.LeaseExact.{lease_exact, lease_fields_set, lease_set, lease_size}
use Rattle.record_codec.proofs.lease_rec.LeaseRecPacked.laws.Goals as goal

pub returns : goal.returns
returns c = record { grammar = exact_is_grammar lease_rec lease_exact; sets = lease_set; older = λ version x v. (lease_fields_set x).1 v.1; sized = lease_size }
