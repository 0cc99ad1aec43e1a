use Rattle.record_codec.specs.OpenRec.{open_rec}
use Rattle.record_codec.proofs.Whole.{exact_is_grammar}
use Rattle.record_codec.proofs.OpenExact.{open_exact, open_fields_set, open_set, open_size}
use Rattle.record_codec.proofs.open_rec.OpenRecPacked.laws.Goals as goal

pub returns : goal.returns
returns c = record { grammar = exact_is_grammar open_rec open_exact; sets = open_set; older = λ version x v. (open_fields_set x).1 v.1; sized = open_size }
