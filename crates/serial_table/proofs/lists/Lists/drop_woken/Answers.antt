use Rattle.serial_table.specs.Decision.{waits_no_more}
use Rattle.serial_table.specs.InPlace.{table_of}
use Rattle.serial_table.proofs.Woken.{performed_of}
use Rattle.serial_table.proofs.lists.Lists.drop_woken.Goals as goal

pub loop-watch-preserved : goal.loop-watch-preserved
loop-watch-preserved c = record {
  table = performed_of waits_no_more c.args.woken.now c.loop-watch.watch-index _ (table_of c.args.self.now) (table_of c.loop-watch.self) (table_of c.drop_wait.new.self) c.loop-watch-test.true c.loop-watch.invariant.table c.drop_wait.ensures.table;
  room = λ more room. c.drop_wait.ensures.room more (c.loop-watch.invariant.room more room);
}
