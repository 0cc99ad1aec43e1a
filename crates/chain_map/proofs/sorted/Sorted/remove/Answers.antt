use Rattle.std.proofs.Common.{[], ap, subst, sym, arith, length}
use Rattle.std.specs.Prelude.{is_some}
use Rattle.chain_map.specs.Pairs.{IsRising}
use Rattle.chain_map.proofs.Order.{IsRising-without}
use Rattle.chain_map.proofs.Place.{IsAt-in_range, find_at, find_gap, remove_at, without_gap}
use Rattle.chain_map.proofs.sorted.Sorted.remove.Goals as goal

pub remove-requires : goal.remove-requires
remove-requires c = omega (arith, IsAt-in_range _ _ _ c.in-Ok.ensures.found, ap length c.self.view_is)

pub returns-in-Ok-clause-found : goal.returns-in-Ok-clause-found
returns-in-Ok-clause-found c = sym (ap is_some (find_at c.args.key.now c.args.self.now c.in-Ok.at ([], []) c.in-Ok.ensures.found))

pub returns-in-Ok-clause-others : goal.returns-in-Ok-clause-others
returns-in-Ok-clause-others c =
    rw (c.remove.ensures.items, c.self.view_is) (remove_at c.args.key.now c.args.self.now c.in-Ok.at (subst IsRising c.self.view_is c.self.invariant) c.in-Ok.ensures.found)

pub invariant_of-self : goal.invariant_of-self
invariant_of-self c = subst IsRising (sym (returns-in-Ok-clause-others c)) (IsRising-without c.args.key.now c.args.self.now (subst IsRising c.self.view_is c.self.invariant))

pub returns-in-Err-clause-found : goal.returns-in-Err-clause-found
returns-in-Err-clause-found c = sym (ap is_some (find_gap c.args.key.now c.args.self.now c.in-Err.field-0 c.in-Err.ensures.absent))

pub returns-in-Err-clause-others : goal.returns-in-Err-clause-others
returns-in-Err-clause-others c = sym (without_gap c.args.key.now c.args.self.now c.in-Err.field-0 c.in-Err.ensures.absent)
