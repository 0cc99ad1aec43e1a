use Rattle.std.proofs.Common.{◌≡◌, ◌-◌, vec_len, vec_capacity}
use Rattle.record_codec.specs.Codec.{times_read}
use Rattle.record_codec.proofs.Loop.{with_front}
use Rattle.record_codec.proofs.rows.rows_at.Given as goal

abbrev pub invariant-loop : goal.invariant-loop
invariant-loop g l = record {
  so_far : with_front l.rows.items (times_read g.R.Row.codec.read (l.count - l.counter) l.rest) ≡ times_read g.R.Row.codec.read l.count l.bytes;
  len : vec_len l.rows ≡ l.counter;
  room : vec_capacity l.rows ≡ l.count;
}
