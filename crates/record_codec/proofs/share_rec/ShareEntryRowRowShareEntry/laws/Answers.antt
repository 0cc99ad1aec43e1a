use Rattle.record_codec.proofs.ShareExact.{share_entry_exact, share_entry_set, share_entry_size}
use Rattle.record_codec.proofs.share_rec.ShareEntryRowRowShareEntry.laws.Goals as goal

pub returns : goal.returns
returns c = record { exact = share_entry_exact; sets = share_entry_set; sized = share_entry_size }
