use Rattle.std.proofs.Common.{◌≡◌, ◌+◌, ◌*◌, ◌++◌, ◌≤◌, length, take, vec_len, vec_capacity}
use Rattle.std.specs.List.{flat_map}
use Rattle.byteorder.specs.Endian.{little_bytes}
use Rattle.record_codec.proofs.rows.put_list.Given as goal

abbrev pub invariant-loop-row : goal.invariant-loop-row
invariant-loop-row g l = record {
  items : l.out.items ≡ l.fn.out.items ++ (little_bytes 4 (length l.rows) ++ flat_map g.R.Row.codec.spell (take l.row-index l.rows));
  len : vec_len l.out ≡ vec_len l.fn.out + (4 + g.R.Row.SIZE * l.row-index);
  room : vec_capacity l.fn.out ≤ vec_capacity l.out;
}
