use Rattle.std.proofs.Common.{take}
use Rattle.share_modes.specs.Entries.{known}
use Rattle.smbstatus_text.specs.Opens.{FindsOpens}
use Rattle.smbstatus_text.proofs.opens.opens_by_id.Given as goal

abbrev pub invariant-loop-entry : goal.invariant-loop-entry
invariant-loop-entry l = FindsOpens (known l.leases l.register) l.file l.map (take l.entry-index l.entries)
