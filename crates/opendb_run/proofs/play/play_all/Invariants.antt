use Rattle.std.proofs.Common.{◌≡◌, take, drop}
use Rattle.serial_table.specs.Settle.{settle}
use Rattle.serial_table.specs.History.{start}
use Rattle.opendb_run.specs.Playing.{after_phases, TakesPhases}
use Rattle.opendb_run.proofs.play.play_all.Given as goal

-- the phases so far are played
abbrev pub invariant-loop-phase : goal.invariant-loop-phase
invariant-loop-phase g l = record {
  table : l.table ≡ after_phases l.script.setup (start l.script.setup) (take l.phase-index l.phase-items);
  taken : TakesPhases l.script.setup l.table (drop l.phase-index l.phase-items);
  items : l.phase-items ≡ l.script.phases;
  settled : settle l.table ≡ l.table;
}
