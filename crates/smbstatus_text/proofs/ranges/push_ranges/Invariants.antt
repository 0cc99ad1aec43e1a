use Rattle.std.proofs.Common.{◌≡◌, ◌++◌, take}
use Rattle.std.specs.List.{flat_map}
use Rattle.server_ids.specs.Sessions.{registered}
use Rattle.smbstatus_text.specs.Opens.{found_range_row}
use Rattle.smbstatus_text.proofs.ranges.push_ranges.Given as goal

abbrev pub invariant-loop-range : goal.invariant-loop-range
invariant-loop-range l = l.out.items ≡ l.initial.out.items ++ flat_map (found_range_row l.info (registered l.register) l.file l.opens) (take l.range-index l.ranges)
