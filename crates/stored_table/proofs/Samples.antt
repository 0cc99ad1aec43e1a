-- Records that are made by hand, for the worked examples.
use Rattle.std.specs.Prelude.{ℕ, Bool, true, false, List, [], ◌∷◌, map, replicate, Option, None, Some, codes}
use Rattle.std.specs.Option.{option_and_then, option_map}
use Rattle.sid_core.specs.declared.call.Call.{Call}
use Rattle.sid_core.specs.declared.call.Mode.{Mode}
use Rattle.sid_core.specs.declared.entry.Entry.{Entry}
use Rattle.sid_core.specs.declared.entry.Event.TheVariants.{Called, Died, Tidied}
use Rattle.sid_core.specs.declared.entry.Letter.{Letter}
use Rattle.sid_core.specs.declared.ids.LeaseName.{LeaseName}
use Rattle.sid_core.specs.declared.ids.OpenId.{OpenId}
use Rattle.sid_core.specs.declared.ids.Sid.{Sid}
use Rattle.sid_core.specs.declared.reply.Reply.{Reply}
use Rattle.sid_core.specs.declared.setup.Setup.{Setup}
use Rattle.sid_core.specs.declared.setup.WorkerInfo.{WorkerInfo}
use Rattle.serial_table.specs.declared.table.Table.{Table}
use Rattle.serial_table.specs.View.{view}
use Rattle.serial_table.specs.Settle.{settle_where, settle_by_key, settle_file}
use Rattle.serial_table.specs.Change.{set_lease, new_owner, set_hold, with_pending, end_session, begin_session}
use Rattle.serial_table.specs.Decision.{conclude}
use Rattle.serial_table.specs.Break.{break_lease, break_each}
use Rattle.serial_table.specs.Grant.{grant}
use Rattle.serial_table.specs.Open.{handle_breaks, other_breaks, open_by, open_file}
use Rattle.serial_table.specs.Close.{close}
use Rattle.serial_table.specs.Delete.{delete}
use Rattle.serial_table.specs.Ack.{ack}
use Rattle.serial_table.specs.Lock.{lock}
use Rattle.serial_table.specs.Unlock.{unlock}
use Rattle.serial_table.specs.ReadWrite.{read, write}
use Rattle.serial_table.specs.GlobalLock.{glock, gunlock}
use Rattle.serial_table.specs.Recv.{recv}
use Rattle.serial_table.specs.Session.{end_of_session}
use Rattle.serial_table.specs.Disconnect.{disconnect}
use Rattle.serial_table.specs.Reconnect.{reconnect}
use Rattle.serial_table.specs.Scavenge.{scavenge}
use Rattle.serial_table.specs.Expire.{expired_by}
use Rattle.serial_table.specs.Step.{caller_of}
use Rattle.serial_table.specs.History.{after_entry}
use Rattle.chain_map.specs.declared.db.Db.TheVariants.{Opens, GLock, Locking, Leases, Register, Brlock, Mailbox}
use Rattle.record_codec.specs.declared.watch.WatchRec.{WatchRec}
use Rattle.record_codec.specs.declared.glock_rec.GLockRec.{GLockRec}
use Rattle.record_codec.specs.declared.share_rec.ShareRec.{ShareRec}
use Rattle.record_codec.specs.declared.range_rec.RangeRec.{RangeRec}
use Rattle.record_codec.specs.declared.mail_rec.MailRec.{MailRec}
use Rattle.record_codec.specs.Counts.{settled_lease}
use Rattle.record_codec.specs.declared.glock_rec.Hold.{Hold}
use Rattle.record_codec.specs.declared.share_rec.ShareEntry.{ShareEntry}
use Rattle.record_codec.specs.declared.lease_rec.LeaseRef.{LeaseRef}
use Rattle.record_codec.specs.declared.lease_rec.LeaseRec.{LeaseRec}
use Rattle.record_codec.specs.declared.register_rec.RegisterRec.{RegisterRec}
use Rattle.record_codec.specs.declared.range_rec.RangeItem.{RangeItem}
use Rattle.record_codec.specs.declared.mail_rec.Token.{Token}
use Rattle.record_codec.specs.Codec.{raw, read_run, times_read, read_all}
use Rattle.record_codec.specs.OpenRec.{open_rec, open_fields}
use Rattle.record_codec.specs.GLockRec.{glock_rec, hold, upgrade_watch, glock_fields}
use Rattle.record_codec.specs.ShareRec.{share_rec, unmarked_entry, share_entry, old_share_fields, share_fields}
use Rattle.record_codec.specs.LeaseRec.{lease_rec, lease_ref, lease_fields}
use Rattle.record_codec.specs.RegisterRec.{register_rec, register_fields}
use Rattle.record_codec.specs.RangeRec.{range_rec, range_item, range_fields}
use Rattle.record_codec.specs.MailRec.{mail_rec, token, letter, mail_fields}
use Rattle.serial_table.proofs.Samples.{at}
use Rattle.stored_table.specs.Keys.{open_key, lock_key, pid_key, name_key, file_key}
use Rattle.stored_table.specs.Places.{Chains, Place, place, write_at}
use Rattle.stored_table.specs.Footprint.{footprint}
use Rattle.stored_table.specs.Move.{move}
use Rattle.stored_table.specs.Decoded.{deciding, records_of}
use Rattle.stored_table.specs.Stands.{clean_lock, clean_share, clean_register, clean_ranges}

-- ---- what a script declares: four workers, the last of an old release, and two files

-- The first and the third serve one client.
abbrev pub worker : ℕ → ℕ → Bool → WorkerInfo
worker pid guid old = record { pid = pid; uid = 1000; guid = guid; machine = codes "host"; share = codes "data"; old = old }

abbrev pub setup : Setup
setup = record {
  workers = worker 101 1 false ∷ worker 102 2 false ∷ worker 103 1 false ∷ worker 104 4 true ∷ [];
  files =
      record { dev = 1; inode = 11; path = codes "/data"; name = codes "a" }
      ∷ record { dev = 1; inode = 12; path = codes "/data"; name = codes "b" } ∷ [];
}

-- ---- the databases, with 32 chains each

-- Where all numbers of a key are below 256, its hash modulo 32 is their sum modulo 32: they stand in the last of 4 or 8 bytes, and
-- 31 * 31 is 1 modulo 32. So an open record (p, n) stands in chain (p + n) % 32, a global lock k in 32 + k % 32, a share mode record
-- in 64 + (dev + inode) % 32, a lease in 96 + (guid + key) % 32, a register record in 128 + pid % 32, the ranges of a file in
-- 160 + (dev + inode) % 32, and a mailbox in 192 + pid % 32. The four pids are 5, 6, 7, 8 and the two files 12, 13 modulo 32.
abbrev pub chains : ℕ
chains = 32

abbrev pub Written : Type 0
Written = Place × Option (List ℕ)

-- these places with these values, one after another
unfoldable pub changed : List Written → Chains → Chains
changed [] k = k
changed (w ∷ ws) k = changed ws (write_at chains w.0 w.1 k)

abbrev pub nothing_stored : Chains
nothing_stored = replicate 224 []

-- ---- records

abbrev pub open_at : ℕ → ℕ → OpenId → ℕ → Written
open_at pid number id file = (place Opens (open_key pid number), Some (open_rec.spell (1, record { id = id; file = file })))

abbrev pub no_open_at : ℕ → ℕ → Written
no_open_at pid number = (place Opens (open_key pid number), None)

abbrev pub lock_at : ℕ → List Hold → List WatchRec → Written
lock_at key holds watchers = (place GLock (lock_key key), Some (glock_rec.spell (1, record { holds = holds; watchers = watchers })))

abbrev pub no_lock_at : ℕ → Written
no_lock_at key = (place GLock (lock_key key), None)

-- in a version
abbrev pub share_at : ℕ → ℕ → List ℕ → Bool → List ShareEntry → List WatchRec → Written
share_at version file name pending entries watchers = (
  place Locking (file_key setup file),
  Some (share_rec.spell (version, record { file = file; path = codes "/data"; name = name; pending = pending; entries = entries; watchers = watchers })),
)

abbrev pub no_share_at : ℕ → Written
no_share_at file = (place Locking (file_key setup file), None)

abbrev pub lease_at : LeaseName → LeaseRec → Written
lease_at name r = (place Leases (name_key name), Some (lease_rec.spell (2, r)))

abbrev pub no_lease_at : LeaseName → Written
no_lease_at name = (place Leases (name_key name), None)

abbrev pub register_at : ℕ → RegisterRec → Written
register_at pid r = (place Register (pid_key pid), Some (register_rec.spell (1, r)))

abbrev pub ranges_at : ℕ → List RangeItem → List WatchRec → Written
ranges_at file items watchers = (place Brlock (file_key setup file), Some (range_rec.spell (1, record { file = file; ranges = items; watchers = watchers })))

abbrev pub no_ranges_at : ℕ → Written
no_ranges_at file = (place Brlock (file_key setup file), None)

abbrev pub mail_at : ℕ → ℕ → List Token → List Letter → Written
mail_at pid session tokens letters = (place Mailbox (pid_key pid), Some (mail_rec.spell (1, record { session = session; tokens = tokens; letters = letters })))

abbrev pub no_mail_at : ℕ → Written
no_mail_at pid = (place Mailbox (pid_key pid), None)

-- ---- parts of records

abbrev pub watch : ℕ → ℕ → ℕ → WatchRec
watch pid session call = record { sid = record { pid = pid; session = session }; call = call; upgrade = false }

abbrev pub held : ℕ → ℕ → Mode → Hold
held pid session mode = record { sid = record { pid = pid; session = session }; mode = mode }

abbrev pub item : OpenId → ℕ → ℕ → Mode → RangeItem
item id start length mode = record { id = id; start = start; length = length; mode = mode }

abbrev pub ref : OpenId → Sid → ℕ → LeaseRef
ref id owner durable = record { id = id; owner = owner; durable = durable }

-- a lease that isn't breaking
abbrev pub unbroken : ℕ → ℕ → List LeaseRef → LeaseRec
unbroken file state refs = record {
  file = file;
  held = record { 0 = state };
  breaking = false;
  asked = record { 0 = 0 };
  needed = record { 0 = 0 };
  until = 0;
  refs = refs;
}

-- a lease that breaks to a state
abbrev pub breaks_to : ℕ → ℕ → ℕ → ℕ → List LeaseRef → LeaseRec
breaks_to file from to until refs = record {
  file = file;
  held = record { 0 = from };
  breaking = true;
  asked = record { 0 = to };
  needed = record { 0 = to };
  until = until;
  refs = refs;
}

-- ---- entries

abbrev pub calls : ℕ → ℕ → ℕ → Call → Reply → Entry
calls by number moment call reply = record { by = by; seq = 9; what = Called number (at moment) call reply }

abbrev pub dies : ℕ → ℕ → Entry
dies worker moment = record { by = 0; seq = 9; what = Died worker (at moment) }

abbrev pub tidies : ℕ → ℕ → Entry
tidies by chain = record { by = by; seq = 9; what = Tidied chain }

-- ---- what an entry makes of chains that stand for a table

unfoldable pub moved_at : Chains → Table → Entry → Chains
unfolding conclude expired_by settle_where settle_by_key settle_file set_lease new_owner set_hold with_pending end_session begin_session break_lease break_each handle_breaks other_breaks open_by open_file grant close delete ack lock unlock read write glock gunlock recv end_of_session disconnect reconnect scavenge caller_of raw read_run times_read read_all open_fields hold upgrade_watch glock_fields unmarked_entry share_entry old_share_fields share_fields lease_ref lease_fields register_fields range_item range_fields token letter mail_fields
moved_at k t e = move setup chains k e (view (after_entry setup t e))

unfoldable pub footprint_at : Chains → Entry → List ℕ
unfolding raw read_run times_read read_all open_fields hold upgrade_watch glock_fields unmarked_entry share_entry old_share_fields share_fields lease_ref lease_fields register_fields range_item range_fields token letter mail_fields
footprint_at k e = footprint setup chains k e

-- what counts in these chains, under these keys
unfoldable pub locks_in : Chains → List ℕ → List (Option GLockRec)
unfolding raw read_run times_read read_all open_fields hold upgrade_watch glock_fields unmarked_entry share_entry old_share_fields share_fields lease_ref lease_fields register_fields range_item range_fields token letter mail_fields
locks_in k keys = map (λ key. option_and_then (clean_lock (deciding (records_of setup chains k)) key) ((records_of setup chains k).locks key)) keys

unfoldable pub shares_in : Chains → List ℕ → List (Option ShareRec)
unfolding raw read_run times_read read_all open_fields hold upgrade_watch glock_fields unmarked_entry share_entry old_share_fields share_fields lease_ref lease_fields register_fields range_item range_fields token letter mail_fields
shares_in k files = map (λ file. option_and_then (clean_share (deciding (records_of setup chains k)) file) ((records_of setup chains k).shares file)) files

unfoldable pub leases_in : Chains → List LeaseName → List (Option LeaseRec)
unfolding raw read_run times_read read_all open_fields hold upgrade_watch glock_fields unmarked_entry share_entry old_share_fields share_fields lease_ref lease_fields register_fields range_item range_fields token letter mail_fields
leases_in k names = map (λ name. option_and_then (settled_lease (deciding (records_of setup chains k))) ((records_of setup chains k).leases name)) names

unfoldable pub registers_in : Chains → List ℕ → List (Option RegisterRec)
unfolding raw read_run times_read read_all open_fields hold upgrade_watch glock_fields unmarked_entry share_entry old_share_fields share_fields lease_ref lease_fields register_fields range_item range_fields token letter mail_fields
registers_in k pids = map (λ pid. option_map (clean_register (deciding (records_of setup chains k))) ((records_of setup chains k).register pid)) pids

unfoldable pub ranges_in : Chains → List ℕ → List (Option RangeRec)
unfolding raw read_run times_read read_all open_fields hold upgrade_watch glock_fields unmarked_entry share_entry old_share_fields share_fields lease_ref lease_fields register_fields range_item range_fields token letter mail_fields
ranges_in k files = map (λ file. option_and_then (clean_ranges (deciding (records_of setup chains k)) file) ((records_of setup chains k).ranges file)) files

unfoldable pub mail_in : Chains → List ℕ → List (Option MailRec)
unfolding raw read_run times_read read_all open_fields hold upgrade_watch glock_fields unmarked_entry share_entry old_share_fields share_fields lease_ref lease_fields register_fields range_item range_fields token letter mail_fields
mail_in k pids = map (λ pid. (records_of setup chains k).mail pid) pids

-- these records and no others
unfoldable pub stored : List Written → Chains
unfolding changed open_fields hold upgrade_watch glock_fields unmarked_entry share_entry old_share_fields share_fields lease_ref lease_fields register_fields range_item range_fields token letter mail_fields
stored ws = changed ws nothing_stored
