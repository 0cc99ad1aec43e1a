use Rattle.record_codec.specs.Fields.{is_moment}
use Rattle.record_codec.proofs.Fields.{u64_in_exact}
use Rattle.record_codec.proofs.RegisterExact.{ended_set, ended_size}
use Rattle.record_codec.proofs.register_rec.EndedRowRowU64.laws.Goals as goal

pub returns : goal.returns
returns c = record { exact = u64_in_exact 8 is_moment; sets = ended_set; sized = ended_size }
