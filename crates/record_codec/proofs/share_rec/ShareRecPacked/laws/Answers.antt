use Rattle.record_codec.specs.ShareRec.{share_rec}
use Rattle.record_codec.proofs.Whole.{exact_is_grammar}
use Rattle.record_codec.proofs.ShareExact.{share_exact, each_version_set, share_set, share_size}
use Rattle.record_codec.proofs.share_rec.ShareRecPacked.laws.Goals as goal

pub returns : goal.returns
returns c = record { grammar = exact_is_grammar share_rec share_exact; sets = share_set; older = λ version x v. each_version_set version x v.1; sized = share_size }
