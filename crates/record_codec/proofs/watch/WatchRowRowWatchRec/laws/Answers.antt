use Rattle.record_codec.proofs.Fields.{watch_exact}
use Rattle.std.proofs.Common.{refl}
use Rattle.record_codec.proofs.Sets.{watch_set}
use Rattle.record_codec.proofs.watch.WatchRowRowWatchRec.laws.Goals as goal

pub returns : goal.returns
returns c = record { exact = watch_exact 0 0 0; sets = watch_set 0 0 0; sized = λ w. refl }
