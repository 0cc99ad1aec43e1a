use Rattle.std.proofs.Common.{◌≡◌, ◌+◌, ◌*◌, ◌≤◌, ◌++◌, length, take, vec_len, vec_capacity}
use Rattle.std.specs.List.{flat_map}
use Rattle.serial_table.specs.InPlace.{freed_watches}
use Rattle.serial_table.proofs.wake.push_woken.Given as goal

abbrev pub invariant-loop-candidate : goal.invariant-loop-candidate
invariant-loop-candidate l = record {
  items : l.woken.items ≡ l.fn.woken.items ++ flat_map (freed_watches l.waiters) (take l.candidate-index l.candidates);
  len : vec_len l.woken ≤ vec_len l.fn.woken + l.candidate-index * length l.waiters;
  room : vec_capacity l.woken ≡ vec_capacity l.fn.woken;
}
