use Rattle.std.proofs.Common.{◌≡◌, ◌+◌, ◌≤◌, ◌++◌, filter, map, take, vec_len, vec_capacity}
use Rattle.serial_table.specs.View.{watch_on, waits_on}
use Rattle.serial_table.proofs.wake.push_watches.Given as goal

abbrev pub invariant-loop-waiter : goal.invariant-loop-waiter
invariant-loop-waiter l = record {
  items : l.woken.items ≡ l.fn.woken.items ++ map (watch_on l.spot) (filter (waits_on l.spot) (take l.waiter-index l.waiters));
  len : vec_len l.woken ≤ vec_len l.fn.woken + l.waiter-index;
  room : vec_capacity l.woken ≡ vec_capacity l.fn.woken;
}
