use Rattle.record_codec.specs.RegisterRec.{register_rec}
use Rattle.record_codec.proofs.Whole.{exact_is_grammar}
use Rattle.record_codec.proofs.RegisterExact.{register_exact, register_fields_set, register_set, register_size}
use Rattle.record_codec.proofs.register_rec.RegisterRecPacked.laws.Goals as goal

pub returns : goal.returns
returns c = record { grammar = exact_is_grammar register_rec register_exact; sets = register_set; older = λ version x v. (register_fields_set x).1 v.1; sized = register_size }
