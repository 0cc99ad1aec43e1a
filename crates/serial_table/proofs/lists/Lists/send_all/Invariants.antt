use Rattle.std.proofs.Common.{◌≡◌, ◌+◌, map, take, vec_len, vec_capacity}
use Rattle.serial_table.specs.declared.change.Change.TheVariants.{Send}
use Rattle.serial_table.specs.Change.{perform_all}
use Rattle.serial_table.specs.InPlace.{table_of}
use Rattle.serial_table.proofs.lists.Lists.send_all.Given as goal

abbrev pub invariant-loop-post : goal.invariant-loop-post
invariant-loop-post l = record {
  table : table_of l.self ≡ perform_all (map (λ post. Send post) (take l.post-index l.posts)) (table_of l.fn.self);
  len : vec_len l.self.letters ≡ vec_len l.fn.self.letters + l.post-index;
  room : vec_capacity l.self.letters ≡ vec_capacity l.fn.self.letters;
}
