use Rattle.std.proofs.Common.{ap, Ok, arith}
use Rattle.std.proofs.lemmas.List.{length-take}
use Rattle.std.proofs.KnownBytes.{Consumes-trans}
use Rattle.std.proofs.lemmas.Result.{err_from_is_err_and}
use Rattle.opendb_run.proofs.Taking.{TakesAll-at_end, Consumes-added, length-added, length-grown}
use Rattle.opendb_run.proofs.input.read_all.Goals as goal

pub returns-then-count-eq0-clause-whole : goal.returns-then-count-eq0-clause-whole
returns-then-count-eq0-clause-whole g c =
    TakesAll-at_end _ _ _ _ _ _ c.loop-turn.invariant.taken (c.in_ok-count.ensures.end (ap Ok c.if-count-eq0.true)) c.if-count-eq0.true c.in_ok-count.ensures.taken

pub returns-then-count-len-clause-taken : goal.returns-then-count-len-clause-taken
returns-then-count-len-clause-taken g c =
    let read = c.in_ok-count.ensures in
    let long = length-added c.loop-turn.bytes.items c.read.new.into c.in_ok-count.count read.count in
    (_, Consumes-trans _ _ _ _ _ c.loop-turn.invariant.taken read.taken, omega (arith, long, c.loop-turn.bytes.ok.0, length-take c.min-room.result c.loop-turn.chunk))

pub returns-in_err-extend_from_slice-clause-taken : goal.returns-in_err-extend_from_slice-clause-taken
returns-in_err-extend_from_slice-clause-taken g c =
    let read = c.in_ok-count.ensures in
    let error = err_from_is_err_and c.from_residual-in_err-extend_from_slice.result c.from_residual-in_err-extend_from_slice.ensures.1 in
    let long = length-added c.loop-turn.bytes.items c.read.new.into c.in_ok-count.count read.count in
    rw (error.1, error.2) (_, Consumes-trans _ _ _ _ _ c.loop-turn.invariant.taken read.taken, omega (arith, long, c.loop-turn.bytes.ok.0))

pub loop-turn-preserved : goal.loop-turn-preserved
loop-turn-preserved g c =
    let read = c.in_ok-count.ensures in
    let long = length-grown _ _ _ _ _ read.count c.in_ok-extend_from_slice.ensures.items in
    record {
      taken = Consumes-added _ _ _ _ _ _ _ _ c.loop-turn.invariant.taken read.taken read.count c.in_ok-extend_from_slice.ensures.items;
      short = omega (arith, long, c.loop-turn.bytes.ok.0);
      turns = omega (arith, long, c.loop-turn.bytes.ok.0);
      faults = omega (arith, read.faults);
    }
