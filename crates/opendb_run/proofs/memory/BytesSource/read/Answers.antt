use Rattle.std.proofs.Common.{◌+◌, ◌-◌, ◌≤◌, length, drop, ap, length-drop, arith}
use Rattle.std.proofs.lemmas.List.{length-take}
use Rattle.opendb_run.proofs.Taking.{take-copied}
use Rattle.opendb_run.proofs.memory.BytesSource.read.Goals as goal

pub returns-clause-taken : goal.returns-clause-taken
returns-clause-taken c =
    let at = c.self.inside.at in
    let seen = c.deref.result.now in
    let within : c.min-count.result + at ≤ length c.self.inside.bytes.items =
    omega (arith, length-take (length seen - at) (drop at seen), length-drop at seen, ap length c.deref.ensures.value, c.self.invariant) in
    rw (← c.self.view_is) (take-copied seen _ _ at c.min-count.result c.deref.ensures.value within c.write_at.ensures)
