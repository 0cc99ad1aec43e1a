-- What an `open` is granted that nothing stands in the way of.
use Rattle.std.specs.Prelude.{ℕ, Bool, false, ◌==◌, ◌&&◌, not, List, [], ◌∷◌, ◌++◌, Option, Some, None, is_none, bit_and, bit_or, if◌then◌else◌}
use Rattle.std.specs.List.{list_any}
use Rattle.std.specs.Option.{option_map_or}
use Rattle.sid_core.specs.declared.ids.LeaseName.{LeaseName}
use Rattle.sid_core.specs.declared.reply.Reply.TheVariants.{Granted}
use Rattle.sid_core.specs.Values.{has, is_part_of}
use Rattle.sid_core.specs.Words.{lease_state}
use Rattle.serial_table.specs.declared.rows.OpenRow.{OpenRow}
use Rattle.serial_table.specs.declared.rows.LeaseRow.{LeaseRow}
use Rattle.serial_table.specs.declared.change.Change.{Change}
use Rattle.serial_table.specs.declared.change.Change.TheVariants.{AddOpen, AddLease}
use Rattle.serial_table.specs.declared.decision.Caller.{Caller}
use Rattle.serial_table.specs.declared.decision.Decision.{Decision}
use Rattle.serial_table.specs.View.{carries}
use Rattle.serial_table.specs.File.{FileView, FileOpen}
use Rattle.serial_table.specs.Decision.{only_reply, spots_of}
use Rattle.serial_table.specs.Break.{Breaks, sets_lease, all_but_write}
use Rattle.serial_table.specs.Asked.{Asked, is_stat}

-- ---- the lease

-- an open that isn't stat, under no lease or another than the asked one
abbrev pub is_beside : Asked → FileOpen → Bool
is_beside asked o = not (is_stat o.row.access) && not (option_map_or (λ name. carries name o.row.lease) asked.lease false)

-- what may be granted: no WRITE where such an open is there
abbrev pub allowed : FileView → Asked → ℕ
allowed f asked = if list_any (is_beside asked) f.opens then bit_and asked.state.0 all_but_write else asked.state.0

-- the lease that the open is under: how it comes to that, what it then holds, and whether it is breaking
pub record LeaseGrant : Type 0 where
  pub changes : List Change
  pub held : ℕ
  pub breaks : Bool

abbrev pub new_lease : LeaseName → ℕ → ℕ → LeaseGrant
new_lease name file may = record {
  changes = AddLease (record { name = name; file = file; held = lease_state may; breaking = None }) ∷ [];
  held = may;
  breaks = false;
}

-- A lease that isn't breaking and holds no more than is asked holds also what is allowed. Any other stays as it is.
abbrev pub old_lease : ℕ → LeaseRow → ℕ → ℕ → LeaseGrant
old_lease file lease state may =
    if is_none lease.breaking && is_part_of lease.held.0 state
    then record { changes = sets_lease file lease (bit_or lease.held.0 may) None ∷ []; held = bit_or lease.held.0 may; breaks = false }
    else record { changes = []; held = lease.held.0; breaks = not (is_none lease.breaking) }

abbrev pub lease_by : LeaseName → Asked → ℕ → List LeaseRow → LeaseGrant
lease_by name asked may [] = new_lease name asked.file may
lease_by name asked may (lease ∷ others) = old_lease asked.file lease asked.state.0 may

abbrev pub grant_lease : FileView → Asked → LeaseName → LeaseGrant
grant_lease f asked name = lease_by name asked (allowed f asked) (f.leases name)

-- ---- the open

-- durable where seconds were asked and the lease holds HANDLE and isn't breaking ([MS-SMB2] 3.3.5.9.6)
abbrev pub is_durable : Asked → LeaseGrant → Bool
is_durable asked lease = not (asked.durable == 0) && (has lease.held 2 && not lease.breaks)

-- An open that isn't durable has 0 seconds. It is marked where its file is to go once it is closed.
abbrev pub new_open : Caller → Asked → Bool → OpenRow
new_open caller asked durable = record {
  id = record { pid = caller.sid.pid; call = caller.number };
  owner = caller.sid;
  handle = caller.number;
  file = asked.file;
  access = asked.access;
  share = asked.share;
  lease = asked.lease;
  durable = if durable then asked.durable else 0;
  opened = caller.moment;
  marked = asked.delete;
}

abbrev pub grant_plain : Caller → Asked → Breaks → Decision
grant_plain caller asked done = record (only_reply (Granted None false)) {
  changes = done.changes ++ AddOpen (new_open caller asked false) ∷ [];
  posts = done.posts;
  spots = spots_of asked.file;
}

abbrev pub grant_under : Caller → Asked → Breaks → LeaseGrant → Bool → Decision
grant_under caller asked done lease durable = record (only_reply (Granted (Some (lease_state lease.held)) durable)) {
  changes = done.changes ++ (lease.changes ++ AddOpen (new_open caller asked durable) ∷ []);
  posts = done.posts;
  spots = spots_of asked.file;
}

abbrev pub grant_by : FileView → Caller → Asked → Breaks → Option LeaseName → Decision
grant_by f caller asked done None = grant_plain caller asked done
grant_by f caller asked done (Some name) =
    grant_under caller asked done (grant_lease f asked name) (is_durable asked (grant_lease f asked name))

-- after these breaks, at the file as they left it
unfoldable pub grant : FileView → Caller → Asked → Breaks → Decision
grant f caller asked done = grant_by f caller asked done asked.lease
