-- Which workers can call, and can die, and how far their sessions' numbers have come.
use Rattle.std.specs.Prelude.{ℕ, ◌≤◌, Bool, false}
use Rattle.std.specs.List.{AllByRecursion}
use Rattle.std.specs.Option.{option_map_or}
use Rattle.sid_core.specs.declared.setup.Setup.{Setup}
use Rattle.serial_table.specs.declared.table.Table.{Table}
use Rattle.serial_table.specs.View.{View}
use Rattle.serial_table.specs.Step.{declared_at}

-- The worker with this number is declared, and alive.
abbrev pub is_alive : Setup → View → ℕ → Bool
is_alive setup v worker =
    option_map_or (λ info. option_map_or (λ row. row.alive) (v.worker_of info.pid) false) (declared_at setup.workers worker) false

-- No worker's session has a number above this one.
abbrev pub SessionsUpTo : ℕ → Table → Type 0
SessionsUpTo n t = AllByRecursion (λ worker. worker.session ≤ n) t.workers
