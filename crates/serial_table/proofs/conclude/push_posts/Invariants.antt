use Rattle.std.proofs.Common.{◌≡◌, ◌+◌, ◌++◌, take, vec_len, vec_capacity}
use Rattle.serial_table.proofs.conclude.push_posts.Given as goal

abbrev pub invariant-loop-post : goal.invariant-loop-post
invariant-loop-post l = record {
  items : l.posts.items ≡ l.fn.posts.items ++ take l.post-index l.more;
  len : vec_len l.posts ≡ vec_len l.fn.posts + l.post-index;
  room : vec_capacity l.posts ≡ vec_capacity l.fn.posts;
}
