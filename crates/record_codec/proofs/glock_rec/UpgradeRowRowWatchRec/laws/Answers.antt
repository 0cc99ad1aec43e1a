use Rattle.record_codec.proofs.GLockExact.{upgrade_watch_exact, upgrade_watch_set, upgrade_watch_size}
use Rattle.record_codec.proofs.glock_rec.UpgradeRowRowWatchRec.laws.Goals as goal

pub returns : goal.returns
returns c = record { exact = upgrade_watch_exact; sets = upgrade_watch_set; sized = upgrade_watch_size }
