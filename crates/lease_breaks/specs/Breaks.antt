-- What the changes of a break make of the record of the lease.
use Rattle.std.specs.Prelude.{◌≡◌, ℕ, true, false, ◌==◌, List, [], ◌∷◌, Option, Some, None, find, if◌then◌else◌}
use Rattle.std.specs.Option.{option_map}
use Rattle.sid_core.specs.declared.ids.Sid.{Sid}
use Rattle.sid_core.specs.declared.bits.LeaseState.{LeaseState}
use Rattle.sid_core.specs.Words.{lease_state}
use Rattle.serial_table.specs.declared.rows.Breaking.{Breaking}
use Rattle.serial_table.specs.declared.change.Change.{Change}
use Rattle.serial_table.specs.declared.change.Change.TheVariants.{SetLease, Acknowledge, Settle}
use Rattle.serial_table.specs.Break.{Breaks, all_but_handle, all_but_write, none_of_them}
use Rattle.serial_table.specs.LeaseBreak.{letters}
use Rattle.record_codec.specs.declared.lease_rec.LeaseRec.{LeaseRec}
use Rattle.record_codec.specs.Counts.{Records, is_connected, settled_refs, with_refs}
use Rattle.lease_breaks.specs.declared.breaks.Broken.{Broken}

-- ---- the opens of the lease

-- the owner of the first open of the lease that is connected
abbrev pub first_connected : Records → LeaseRec → Option Sid
first_connected records r = option_map (λ ref. ref.owner) (find (is_connected records) r.refs)

-- ---- changes of the lease

-- it holds this, and is breaking in this way
abbrev pub with_state : LeaseState → Option Breaking → LeaseRec → LeaseRec
with_state held None r = record r { held = held; breaking = false; asked = lease_state 0; needed = lease_state 0; until = 0 }
with_state held (Some b) r = record r { held = held; breaking = true; asked = b.asked; needed = b.needed; until = b.until.0 }

-- Settled, a record of which no open is left has no references.
abbrev pub settled : Records → LeaseRec → LeaseRec
settled records r = with_refs records r (settled_refs records r)

-- The changes that the break of a lease makes are of this lease.
abbrev pub changed : Records → Change → LeaseRec → LeaseRec
changed records (SetLease file name held breaking) r = with_state held breaking r
changed records (Acknowledge file name state) r = with_state state None r
changed records Settle r = settled records r
changed records _ r = r

abbrev pub all_changed : Records → List Change → LeaseRec → LeaseRec
all_changed records [] r = r
all_changed records (c ∷ cs) r = all_changed records cs (changed records c r)

-- ---- breaks

-- the bits that stay where HANDLE, WRITE or all three are broken
abbrev pub kept : LeaseState → ℕ
kept bits = if bits.0 == 2 then all_but_handle else (if bits.0 == 4 then all_but_write else none_of_them)

-- The record changes as those breaks say, their letter is posted, and their blocker is waited for.
pub record Does (records : Records) (b : Breaks) (result : Broken) (old new : LeaseRec) : Type 0 where
  pub post : letters result.post ≡ b.posts
  pub blocks : result.blocks ≡ b.blocker
  pub changes : new ≡ all_changed records b.changes old
