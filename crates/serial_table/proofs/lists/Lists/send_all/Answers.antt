use Rattle.std.proofs.Common.{arith}
use Rattle.serial_table.specs.declared.change.Change.TheVariants.{Send}
use Rattle.serial_table.specs.InPlace.{table_of}
use Rattle.serial_table.proofs.Woken.{performed_of}
use Rattle.serial_table.proofs.lists.Lists.send_all.Goals as goal

pub loop-post-preserved : goal.loop-post-preserved
loop-post-preserved c = record {
  table = performed_of (λ post. Send post) c.args.posts.now c.loop-post.post-index _ (table_of c.args.self.now) (table_of c.loop-post.self) (table_of c.send.new.self) c.loop-post-test.true c.loop-post.invariant.table c.send.ensures.table;
  len = omega (arith, c.send.ensures.len, c.loop-post.invariant.len);
  room = omega (arith, c.send.ensures.room, c.loop-post.invariant.room);
}
