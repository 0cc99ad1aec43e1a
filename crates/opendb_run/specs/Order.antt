-- In which order one thread makes the calls of a phase.
use Rattle.std.specs.Prelude.{ℕ, zero, suc, Bool, ◌==◌, List, [], ◌++◌, length, filter}
use Rattle.sid_core.specs.declared.setup.Setup.{Setup}
use Rattle.worker_script.specs.declared.script.Planned.{Planned}

abbrev pub is_by : ℕ → Planned → Bool
is_by worker planned = planned.worker == worker

-- the calls of one worker, in their order
abbrev pub calls_by : ℕ → List Planned → List Planned
calls_by worker calls = filter (is_by worker) calls

-- The calls of so many workers, of this one and of those after it: one worker after another in rising number.
abbrev pub in_turn : ℕ → ℕ → List Planned → List Planned
in_turn worker zero calls = []
in_turn worker (suc others) calls = calls_by worker calls ++ in_turn (suc worker) others calls

-- those of all declared workers
abbrev pub in_order : Setup → List Planned → List Planned
in_order setup calls = in_turn 1 (length setup.workers) calls
