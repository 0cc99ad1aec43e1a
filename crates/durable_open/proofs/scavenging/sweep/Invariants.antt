use Rattle.std.specs.FinMap as map
use Rattle.durable_open.proofs.Sweeping.{Sweeps}
use Rattle.durable_open.proofs.scavenging.sweep.Given as goal

abbrev pub invariant-loop-place : goal.invariant-loop-place
invariant-loop-place l = Sweeps l.register l.file l.now (map.get l.initial.leases) (map.get l.leases) l.initial.entries.items l.entries.items l.kept l.place
