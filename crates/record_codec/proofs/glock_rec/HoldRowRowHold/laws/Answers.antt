use Rattle.record_codec.proofs.GLockExact.{hold_exact, hold_set, hold_size}
use Rattle.record_codec.proofs.glock_rec.HoldRowRowHold.laws.Goals as goal

pub returns : goal.returns
returns c = record { exact = hold_exact; sets = hold_set; sized = hold_size }
