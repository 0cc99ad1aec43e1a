use Rattle.record_codec.proofs.ShareExact.{old_share_set, share_set}
use Rattle.record_codec.proofs.Versions.{one_version, two_versions}
use Rattle.record_codec.proofs.laws.versions_of_records.Goals as goal

pub returns : goal.returns
returns c = record {
  share_1 = old_share_set;
  share_2 = share_set;
  share = λ version x v. two_versions version v.0.1.1;
  lease = λ version x v. one_version 2 version v.0.1.1;
  open_ = λ version x v. one_version 1 version v.0.1.1;
  glock = λ version x v. one_version 1 version v.0.1.1;
  register = λ version x v. one_version 1 version v.0.1.1;
  ranges = λ version x v. one_version 1 version v.0.1.1;
  mail = λ version x v. one_version 1 version v.0.1.1;
}
