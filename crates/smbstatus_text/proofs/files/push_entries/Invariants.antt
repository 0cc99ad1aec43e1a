use Rattle.std.proofs.Common.{◌≡◌, ◌++◌, take}
use Rattle.std.specs.List.{flat_map}
use Rattle.share_modes.specs.Entries.{known}
use Rattle.smbstatus_text.specs.Rows.{counted_row}
use Rattle.smbstatus_text.proofs.files.push_entries.Given as goal

abbrev pub invariant-loop-entry : goal.invariant-loop-entry
invariant-loop-entry l = l.out.items ≡ l.initial.out.items ++ flat_map (counted_row l.setup l.info (known l.leases l.register) l.file) (take l.entry-index l.entries)
