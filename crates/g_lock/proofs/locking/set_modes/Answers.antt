use Rattle.serial_table.proofs.Rewriting.{map_next}
use Rattle.g_lock.specs.Scans.{in_mode}
use Rattle.g_lock.proofs.locking.set_modes.Goals as goal

pub loop-hold-preserved : goal.loop-hold-preserved
loop-hold-preserved c = map_next (in_mode c.args.sid c.args.mode) _ _ _ _ _ c.loop-hold-test.true c.loop-hold.invariant c.in_mode.ensures
