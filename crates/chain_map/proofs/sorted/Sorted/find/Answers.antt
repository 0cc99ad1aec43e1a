use Rattle.std.proofs.Common.{ap, sym, arith, length}
use Rattle.chain_map.proofs.Place.{IsAt-in_range, find_at, find_gap}
use Rattle.chain_map.proofs.sorted.Sorted.find.Goals as goal

pub index-requires : goal.index-requires
index-requires c = omega (arith, IsAt-in_range _ _ _ c.in-Ok.ensures.found, ap length c.self.view_is)

pub returns-in-Ok : goal.returns-in-Ok
returns-in-Ok c = rw (c.value.ensures, c.index.ensures, c.self.view_is) (sym (find_at c.args.key.now c.args.self.now c.in-Ok.at c.index.result.now c.in-Ok.ensures.found))

pub returns-in-Err : goal.returns-in-Err
returns-in-Err c = sym (find_gap c.args.key.now c.args.self.now c.in-Err.field-0 c.in-Err.ensures.absent)
