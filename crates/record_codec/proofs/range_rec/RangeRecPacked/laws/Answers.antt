use Rattle.record_codec.specs.RangeRec.{range_rec}
use Rattle.record_codec.proofs.Whole.{exact_is_grammar}
use Rattle.record_codec.proofs.RangeExact.{range_exact, range_fields_set, range_set, range_size}
use Rattle.record_codec.proofs.range_rec.RangeRecPacked.laws.Goals as goal

pub returns : goal.returns
returns c = record { grammar = exact_is_grammar range_rec range_exact; sets = range_set; older = λ version x v. (range_fields_set x).1 v.1; sized = range_size }
