use Rattle.std.proofs.Common.{arith}
use Rattle.std.proofs.lemmas.Result.{err_from_is_err_and}
use Rattle.record_codec.specs.Codec.{times_read}
use Rattle.record_codec.proofs.Faults.{fails}
use Rattle.record_codec.proofs.Loop.{goes_on, ends, is_done}
use Rattle.record_codec.proofs.rows.rows_at.Goals as goal

pub returns-in_err-row : goal.returns-in_err-row
returns-in_err-row g c =
    let p = err_from_is_err_and c.from_residual-in_err-row.result c.from_residual-in_err-row.ensures.1 in
    let all = times_read g.R.Row.codec.read c.args.count c.args.bytes.now in
    rw (p.1, p.2) (fails c.in_err-row.field-0.0 all (ends g.R.Row.codec c.in_err-row.field-0.0 c.loop.rows.items c.args.count c.loop.counter c.loop.rest.now all c.loop-test.true c.in_err-row.ensures c.loop.invariant.so_far))

pub loop-preserved : goal.loop-preserved
loop-preserved g c = record {
  so_far =
      rw c.push_reserved.ensures.items (goes_on g.R.Row.codec c.loop.rows.items c.args.count c.loop.counter c.loop.rest.now c.in_ok-row.row c.in_ok-row.after.now (times_read g.R.Row.codec.read c.args.count c.args.bytes.now) c.loop-test.true c.in_ok-row.ensures c.loop.invariant.so_far);
  len = omega (arith, c.push_reserved.ensures.len, c.loop.invariant.len);
  room = omega (arith, c.push_reserved.ensures.capacity, c.loop.invariant.room);
}

pub returns : goal.returns
returns g c = is_done g.R.Row.codec c.loop.rows.items c.args.count c.loop.counter c.loop.rest.now (times_read g.R.Row.codec.read c.args.count c.args.bytes.now) c.loop-test.false c.loop.invariant.so_far
