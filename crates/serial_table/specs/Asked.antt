-- What an `open` asks for, and which opens are in its way.
use Rattle.std.specs.Prelude.{ℕ, Bool, true, false, ◌&&◌, ◌||◌, ◌==◌, not, List, Option, filter}
use Rattle.std.specs.List.{list_any}
use Rattle.std.specs.Option.{option_map, option_map_or}
use Rattle.sid_core.specs.declared.bits.Access.{Access}
use Rattle.sid_core.specs.declared.bits.Share.{Share}
use Rattle.sid_core.specs.declared.call.LeaseAsk.{LeaseAsk}
use Rattle.sid_core.specs.declared.ids.LeaseName.{LeaseName}
use Rattle.sid_core.specs.Values.{has, is_part_of}
use Rattle.sid_core.specs.Words.{lease_state}
pub use Rattle.serial_table.specs.declared.asked.Asked.{Asked}
use Rattle.serial_table.specs.declared.decision.Caller.{Caller}
use Rattle.serial_table.specs.Share.{share_conflict}
use Rattle.serial_table.specs.View.{View, carries}
use Rattle.serial_table.specs.File.{FileView, FileOpen, is_under}
use Rattle.serial_table.specs.Delete.{may_delete}

-- a lease of the caller's client
abbrev pub own_lease : Caller → ℕ → LeaseName
own_lease caller key = record { guid = caller.guid; key = key }

abbrev pub asked_of : Caller → ℕ → Access → Share → Option LeaseAsk → ℕ → Bool → Bool → Asked
asked_of caller file access share lease durable overwrite delete = record {
  file = file;
  access = access;
  share = share;
  lease = option_map (λ (ask : LeaseAsk). own_lease caller ask.key) lease;
  state = option_map_or (λ (ask : LeaseAsk). ask.state) lease (lease_state 0);
  durable = durable;
  overwrite = overwrite;
  delete = delete;
  moment = caller.moment;
}

-- reading and writing attributes and waiting alone: FILE_READ_ATTRIBUTES, FILE_WRITE_ATTRIBUTES, SYNCHRONIZE
abbrev pub is_stat : Access → Bool
is_stat access = is_part_of access.0 0x100180

-- The file is to go once this open is closed, but the access has no right to delete.
abbrev pub deletes_without_right : Asked → Bool
deletes_without_right asked = asked.delete && not (may_delete asked.access)

-- the name is a lease of another file
abbrev pub is_elsewhere : View → Asked → Bool
is_elsewhere v asked = option_map_or (λ name. list_any (λ lease. not (lease.file == asked.file)) (v.leases_of name)) asked.lease false

abbrev pub conflicts : Asked → FileOpen → Bool
conflicts asked o = share_conflict asked.access.0 asked.share.0 o.row.access.0 o.row.share.0

-- the opens of the file that conflict
abbrev pub in_conflict : FileView → Asked → List FileOpen
in_conflict f asked = filter (conflicts asked) f.opens

-- a lease of the file that holds HANDLE
abbrev pub holds_handle : FileView → LeaseName → Bool
holds_handle f name = list_any (λ lease. has lease.held.0 2) (f.leases name)

-- the asked lease, with a connected open
abbrev pub is_asked_and_connected : FileView → Asked → LeaseName → Bool
is_asked_and_connected f asked name = carries name asked.lease && list_any (λ o. is_under name o && o.connected) f.opens

-- an open that can't be made to go by a break of HANDLE
abbrev pub refuses : FileView → Asked → FileOpen → Bool
refuses f asked o = option_map_or (λ name. not (holds_handle f name) || is_asked_and_connected f asked name) o.row.lease true
