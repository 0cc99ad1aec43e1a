use Rattle.std.proofs.Common.{◌≡◌, ◌++◌, map, take, drop}
use Rattle.std.specs.List.{list_any}
use Rattle.durable_open.specs.Taking.{is_taken, taken_over}
use Rattle.durable_open.proofs.reconnecting.take_over_entries.Given as goal

abbrev pub invariant-loop-entry : goal.invariant-loop-entry
invariant-loop-entry l =
    (l.entry-items ≡ map (taken_over (is_taken l.wanted.register.now l.wanted.lease.now l.wanted.name l.wanted.file l.wanted.moment l.wanted.id) l.owner l.handle) (take l.entry-index l.initial.entry-items) ++ drop l.entry-index l.initial.entry-items)
    × (l.found ≡ list_any (is_taken l.wanted.register.now l.wanted.lease.now l.wanted.name l.wanted.file l.wanted.moment l.wanted.id) (take l.entry-index l.initial.entry-items))
