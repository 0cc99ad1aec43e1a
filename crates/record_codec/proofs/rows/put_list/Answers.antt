use Rattle.std.proofs.Common.{◌+◌, ◌*◌, ◌≤◌, length, arith}
use Rattle.std.proofs.Math.Nat.{mul-le-mul_left}
use Rattle.record_codec.proofs.rows.put_list.Goals as goal

pub put-requires-clause-room : goal.put-requires-clause-room
put-requires-clause-room g c =
    let more : c.loop-row.row-index + 1 ≤ length c.args.rows.now = omega arith in
    let most : g.R.Row.SIZE * (c.loop-row.row-index + 1) ≤ g.R.Row.SIZE * length c.args.rows.now = mul-le-mul_left g.R.Row.SIZE more in
    omega (arith, most, c.loop-row.invariant.len, c.loop-row.invariant.room, c.requires.room)
