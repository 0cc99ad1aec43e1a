use Rattle.std.proofs.Common.{◌≤◌, length}
use Rattle.std.specs.Io.KnownBytes.{Consumes}
use Rattle.sid_core.specs.declared.limits.TheConstants.{MAX_SCRIPT}
use Rattle.opendb_run.proofs.input.read_all.Given as goal

abbrev pub invariant-loop-turn : goal.invariant-loop-turn
invariant-loop-turn g l = record {
  taken : Consumes (g.S.Source.left l.initial.source) (g.S.Source.left l.source) l.bytes.items;
  short : length l.bytes.items ≤ MAX_SCRIPT;
  turns : l._turn ≤ length l.bytes.items;
  faults : g.S.Source.faults l.initial.source ≤ g.S.Source.faults l.source;
}
