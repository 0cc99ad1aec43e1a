use Rattle.std.proofs.Common.{◌≡◌, ◌+◌, ◌++◌, map, take, vec_len, vec_capacity}
use Rattle.serial_table.specs.Wake.{wake}
use Rattle.serial_table.proofs.conclude.push_wakes.Given as goal

abbrev pub invariant-loop-watch : goal.invariant-loop-watch
invariant-loop-watch l = record {
  items : l.posts.items ≡ l.fn.posts.items ++ map wake (take l.watch-index l.woken);
  len : vec_len l.posts ≡ vec_len l.fn.posts + l.watch-index;
  room : vec_capacity l.posts ≡ vec_capacity l.fn.posts;
}
