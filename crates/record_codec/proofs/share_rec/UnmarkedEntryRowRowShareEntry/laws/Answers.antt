use Rattle.record_codec.proofs.ShareExact.{unmarked_entry_exact, unmarked_entry_set, unmarked_entry_size}
use Rattle.record_codec.proofs.share_rec.UnmarkedEntryRowRowShareEntry.laws.Goals as goal

pub returns : goal.returns
returns c = record { exact = unmarked_entry_exact 7; sets = unmarked_entry_set 7; sized = unmarked_entry_size 7 }
