use Rattle.record_codec.specs.GLockRec.{glock_rec}
use Rattle.record_codec.proofs.Whole.{exact_is_grammar}
use Rattle.record_codec.proofs.GLockExact.{glock_exact, glock_fields_set, glock_set, glock_size}
use Rattle.record_codec.proofs.glock_rec.GLockRecPacked.laws.Goals as goal

pub returns : goal.returns
returns c = record { grammar = exact_is_grammar glock_rec glock_exact; sets = glock_set; older = λ version x v. (glock_fields_set x).1 v.1; sized = glock_size }
