-- What an entry makes of the records, each under what its key says.
use Rattle.std.specs.Prelude.{◌&&◌, List, Option, Some, None, if◌then◌else◌}
use Rattle.std.specs.Option.{option_and_then}
use Rattle.sid_core.specs.declared.setup.Setup.{Setup}
use Rattle.serial_table.specs.View.{View}
use Rattle.chain_map.specs.declared.db.Db.TheVariants.{Opens, GLock, Locking, Leases, Register, Brlock, Mailbox}
use Rattle.record_codec.specs.declared.open_rec.OpenRec.{OpenRec}
use Rattle.stored_table.specs.Keys.{is_key, open_key, lock_key, pid_key, name_key, file_key}
use Rattle.stored_table.specs.Places.{Place, place, among, same_place}
use Rattle.stored_table.specs.Decoded.{AllRecords}
use Rattle.stored_table.specs.Exact.{is_empty, exact_lock, exact_share, exact_lease, exact_register, exact_ranges, exact_mail}
use Rattle.stored_table.specs.Move.{AddedOpen}

-- An open record stays where its id is an open.
abbrev pub if_still_open : View → OpenRec → Option OpenRec
if_still_open v r = if is_empty (v.opens_of_id r.id) then None else Some r

-- what a met open record becomes
abbrev pub moved_open : View → Option AddedOpen → Place → Option OpenRec → Option OpenRec
moved_open v None p r = option_and_then (if_still_open v) r
moved_open v (Some a) p r =
    if is_key Opens a.key && same_place (place Opens a.key) p then Some a.value else option_and_then (if_still_open v) r

-- The records at these places become exact, and the others stay.
abbrev pub moved : Setup → List Place → Option AddedOpen → View → AllRecords → AllRecords
moved setup ps a v s = record {
  opens = λ pid number. if among (place Opens (open_key pid number)) ps then moved_open v a (place Opens (open_key pid number)) (s.opens pid number) else s.opens pid number;
  locks = λ key. if among (place GLock (lock_key key)) ps then exact_lock v key else s.locks key;
  shares = λ file. if among (place Locking (file_key setup file)) ps then exact_share setup v file else s.shares file;
  leases = λ name. if among (place Leases (name_key name)) ps then exact_lease v name else s.leases name;
  register = λ pid. if among (place Register (pid_key pid)) ps then exact_register v pid else s.register pid;
  ranges = λ file. if among (place Brlock (file_key setup file)) ps then exact_ranges setup v file else s.ranges file;
  mail = λ pid. if among (place Mailbox (pid_key pid)) ps then exact_mail v pid else s.mail pid;
}
