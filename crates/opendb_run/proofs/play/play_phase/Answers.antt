use Rattle.std.proofs.Common.{length, ◌<◌, arith}
use Rattle.opendb_run.proofs.Turning.{turn_first, turn_rest, turn_table, turn_text}
use Rattle.opendb_run.proofs.play.play_phase.Goals as goal

pub play_worker-requires-clause-taken : goal.play_worker-requires-clause-taken
play_worker-requires-clause-taken g c =
    turn_first c.args.setup.now c.args.phase.now.moment c.loop-place.table (length c.args.setup.now.workers) c.loop-place.place c.args.phase.now.calls
    (omega (arith, c.loop-place-test.true, c.len-place-end.ensures)) c.loop-place.invariant.taken

pub loop-place-preserved : goal.loop-place-preserved
loop-place-preserved g c =
    let setup = c.args.setup.now in
    let moment = c.args.phase.now.moment in
    let calls = c.args.phase.now.calls in
    let now = c.loop-place.table in
    let next = c.play_worker.new.table in
    let less : c.loop-place.place < length setup.workers = omega (arith, c.loop-place-test.true, c.len-place-end.ensures) in
    record {
      table = turn_table setup moment now next _ (length setup.workers) c.loop-place.place calls less c.in_ok-play_worker.ensures.table c.loop-place.invariant.table;
      text = turn_text setup moment now next c.loop-place.text c.play_worker.new.text _ (length setup.workers) c.loop-place.place calls less c.in_ok-play_worker.ensures.table c.in_ok-play_worker.ensures.text c.loop-place.invariant.text;
      taken = turn_rest setup moment now next (length setup.workers) c.loop-place.place calls less c.in_ok-play_worker.ensures.table c.loop-place.invariant.taken;
      settled = c.play_worker.ensures.settled;
    }
