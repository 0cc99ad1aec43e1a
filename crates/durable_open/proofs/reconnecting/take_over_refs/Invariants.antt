use Rattle.std.proofs.Common.{◌≡◌, ◌++◌, map, take, drop}
use Rattle.durable_open.specs.Taking.{ref_taken_over}
use Rattle.durable_open.proofs.reconnecting.take_over_refs.Given as goal

abbrev pub invariant-loop-reference : goal.invariant-loop-reference
invariant-loop-reference l = l.reference-items ≡ map (ref_taken_over l.id l.owner) (take l.reference-index l.initial.reference-items) ++ drop l.reference-index l.initial.reference-items
