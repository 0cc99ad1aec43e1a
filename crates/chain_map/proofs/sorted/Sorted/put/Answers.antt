use Rattle.std.proofs.Common.{ap, subst, sym, arith, length}
use Rattle.chain_map.specs.Pairs.{IsRising}
use Rattle.chain_map.specs.Place.{IsAt, IsGap}
use Rattle.chain_map.proofs.Order.{IsRising-put}
use Rattle.chain_map.proofs.Place.{IsAt-in_range, IsGap-in_range, set_at, insert_gap}
use Rattle.chain_map.proofs.sorted.Sorted.put.Goals as goal

pub index_mut-requires : goal.index_mut-requires
index_mut-requires c = omega (arith, IsAt-in_range _ _ _ c.in-Ok.ensures.found, ap length c.self.view_is)

pub insert-requires : goal.insert-requires
insert-requires c = omega (arith, IsGap-in_range _ _ _ c.in-Err.ensures.absent, ap length c.self.view_is)

-- the key's pair is written over
pub returns-in-Ok-clause-ok : goal.returns-in-Ok-clause-ok
returns-in-Ok-clause-ok c =
    let at : IsAt c.args.pair.0 c.args.self.now c.in-Ok.at = subst (λ key. IsAt key c.args.self.now c.in-Ok.at) c.key.ensures c.in-Ok.ensures.found in
    rw c.self.view_is (set_at c.args.pair.0 c.args.pair.1 c.args.self.now c.in-Ok.at at)

pub invariant_of-self : goal.invariant_of-self
invariant_of-self c =
    subst IsRising (sym (returns-in-Ok-clause-ok c)) (IsRising-put c.args.pair.0 c.args.pair.1 c.args.self.now (subst IsRising c.self.view_is c.self.invariant))

-- the pair is put into the gap
pub returns-in_ok-insert-in-Err-clause-ok : goal.returns-in_ok-insert-in-Err-clause-ok
returns-in_ok-insert-in-Err-clause-ok c =
    let gap : IsGap c.args.pair.0 c.args.self.now c.in-Err.at = subst (λ key. IsGap key c.args.self.now c.in-Err.at) c.key.ensures c.in-Err.ensures.absent in
    rw (c.in_ok-insert-in-Err.ensures.items, c.self.view_is) (insert_gap c.args.pair.0 c.args.pair.1 c.args.self.now c.in-Err.at gap)

pub invariant_of-self-in-Continue-1 : goal.invariant_of-self-in-Continue-1
invariant_of-self-in-Continue-1 c =
    subst IsRising (sym (returns-in_ok-insert-in-Err-clause-ok c)) (IsRising-put c.args.pair.0 c.args.pair.1 c.args.self.now (subst IsRising c.self.view_is c.self.invariant))
