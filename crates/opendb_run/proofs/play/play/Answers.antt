use Rattle.std.proofs.Common.{arith}
use Rattle.std.proofs.lemmas.Result.{err_from_is_err_and}
use Rattle.serial_table.specs.History.{start}
use Rattle.opendb_run.proofs.Turning.{phase_more, phase_printed, run_cut}
use Rattle.opendb_run.proofs.play.play.Goals as goal

pub returns-in_err-text-clause-cut : goal.returns-in_err-text-clause-cut
returns-in_err-text-clause-cut g c =
    let error = err_from_is_err_and c.from_residual-in_err-text.result c.from_residual-in_err-text.ensures.1 in
    rw (error.1, error.2)
    (run_cut c.args.script.now c.as_slice-phase-items.result.now _ _ _ _ _ c.loop-phase.table c.loop-phase.phase-index c.phase-item.result c.in_err-text.field-0.0
    c.loop-phase.invariant.items c.loop-phase-test.true c.phase-item.is c.loop-phase.invariant.table c.loop-phase.invariant.printed (λ h. omega (arith, h, c.loop-phase.invariant.faults)) c.in_err-text.ensures.cut)

pub loop-phase-preserved : goal.loop-phase-preserved
loop-phase-preserved g c =
    let before = c.loop-phase.invariant in
    let setup = c.args.script.now.setup in
    let more = phase_more setup (start setup) c.loop-phase.table c.print_phase.new.table c.as_slice-phase-items.result.now c.loop-phase.phase-index c.phase-item.result c.loop-phase-test.true c.phase-item.is
    (record { table = before.table; taken = before.taken }) c.in_ok-text.ensures.table in
    record {
      table = more.table;
      printed = phase_printed setup _ _ _ (start setup) c.loop-phase.table _ _ _ c.loop-phase-test.true c.phase-item.is before.table before.printed c.in_ok-text.ensures.printed;
      taken = more.taken;
      items = before.items;
      settled = c.print_phase.ensures.settled;
      faults = omega (arith, before.faults, c.print_phase.ensures.faults);
    }
