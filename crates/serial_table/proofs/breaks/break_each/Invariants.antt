use Rattle.std.proofs.Common.{◌≡◌, drop}
use Rattle.serial_table.specs.Local.{perform_all_in_file}
use Rattle.serial_table.specs.Break.{both, break_each}
use Rattle.serial_table.specs.Alone.{shown, breaks_of}
use Rattle.serial_table.proofs.breaks.break_each.Given as goal

-- what is done and the breaks of the leases that are left come to the breaks of all
abbrev pub invariant-loop-name : goal.invariant-loop-name
invariant-loop-name l = record {
  done : both (breaks_of l.done) (break_each l.now l.file (shown l.file l.rows) l.kept.0 (drop l.name-index l.names)) ≡ both (breaks_of l.fn.done) (break_each l.now l.file (shown l.file l.fn.rows) l.kept.0 l.names);
  rows : perform_all_in_file (break_each l.now l.file (shown l.file l.rows) l.kept.0 (drop l.name-index l.names)).changes (shown l.file l.rows) ≡ perform_all_in_file (break_each l.now l.file (shown l.file l.fn.rows) l.kept.0 l.names).changes (shown l.file l.fn.rows);
}
