use Rattle.std.proofs.Common.{◌≡◌, ◌++◌, map, take}
use Rattle.serial_table.specs.Wake.{wake}
use Rattle.record_rows.specs.Rows.{watch_row}
use Rattle.record_watch.proofs.wake.push_wakes.Given as goal

abbrev pub invariant-loop-watch : goal.invariant-loop-watch
invariant-loop-watch l = l.posts.items ≡ l.fn.posts.items ++ map wake (map watch_row (take l.watch-index l.watches))
