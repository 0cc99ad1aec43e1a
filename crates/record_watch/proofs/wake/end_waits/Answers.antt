use Rattle.record_watch.proofs.Boxes.{waits_none, waits_more}
use Rattle.record_watch.proofs.wake.end_waits.Goals as goal

pub loop-watch-init : goal.loop-watch-init
loop-watch-init c = waits_none c.args.mails.now

pub loop-watch-preserved : goal.loop-watch-preserved
loop-watch-preserved c =
    waits_more c.args.watches.now c.loop-watch.watch-index _ c.args.mails.now c.loop-watch.mails c.end_wait.new.mails c.loop-watch-test.true c.loop-watch.invariant c.end_wait.ensures
