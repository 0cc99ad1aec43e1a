use Rattle.record_codec.proofs.RangeExact.{range_item_exact, range_item_set, range_item_size}
use Rattle.record_codec.proofs.range_rec.RangeRowRowRangeItem.laws.Goals as goal

pub returns : goal.returns
returns c = record { exact = range_item_exact; sets = range_item_set; sized = range_item_size }
