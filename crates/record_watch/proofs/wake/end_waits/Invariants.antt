use Rattle.std.proofs.Common.{map, take}
use Rattle.record_rows.specs.Rows.{watch_row}
use Rattle.record_watch.specs.Mails.{without_waits, ChangesEach}
use Rattle.record_watch.proofs.wake.end_waits.Given as goal

abbrev pub invariant-loop-watch : goal.invariant-loop-watch
invariant-loop-watch l = ChangesEach (without_waits (map watch_row (take l.watch-index l.watches))) l.fn.mails l.mails
