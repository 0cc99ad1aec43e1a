use Rattle.serial_table.specs.History.{start}
use Rattle.opendb_run.proofs.Turning.{phase_more}
use Rattle.opendb_run.proofs.play.play_all.Goals as goal

pub loop-phase-preserved : goal.loop-phase-preserved
loop-phase-preserved g c =
    let before = c.loop-phase.invariant in
    let setup = c.args.script.now.setup in
    let more = phase_more setup (start setup) c.loop-phase.table c.play_phase.new.table c.as_slice-phase-items.result.now c.loop-phase.phase-index c.phase-item.result c.loop-phase-test.true c.phase-item.is
    (record { table = before.table; taken = before.taken }) c.in_ok-play_phase.ensures.table in
    record {
      table = more.table;
      taken = more.taken;
      items = before.items;
      settled = c.play_phase.ensures.settled;
    }
