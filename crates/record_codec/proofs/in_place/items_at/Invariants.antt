use Rattle.std.proofs.Common.{◌≡◌, ◌-◌, List}
use Rattle.record_codec.specs.Codec.{times_read}
use Rattle.record_codec.proofs.Loop.{with_front}
use Rattle.record_codec.proofs.in_place.items_at.Given as goal

-- the items so far, which aren't kept
abbrev pub invariant-loop : goal.invariant-loop
invariant-loop g l = (front : List g.row.T.Denot) × (with_front front (times_read g.R.Row.codec.read (l.count - l.counter) l.rest) ≡ times_read g.R.Row.codec.read l.count l.bytes)
