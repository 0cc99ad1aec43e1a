-- Which records an entry meets: the keys of each database, in the order of the databases, each by what is met before it.
use Rattle.std.specs.Prelude.{ℕ, zero, suc, ◌-◌, ◌*◌, Bool, false, List, [], ◌∷◌, ◌++◌, map, filter, Option, Some, None}
use Rattle.std.specs.List.{flat_map, list_any}
use Rattle.std.specs.Option.{option_map_or}
use Rattle.sid_core.specs.declared.ids.LeaseName.{LeaseName}
use Rattle.sid_core.specs.declared.call.LeaseAsk.{LeaseAsk}
use Rattle.sid_core.specs.declared.call.Call.{Call}
use Rattle.sid_core.specs.declared.call.Call.TheVariants as call
use Rattle.sid_core.specs.declared.entry.Event.{Event}
use Rattle.sid_core.specs.declared.entry.Event.TheVariants.{Called, Died, Tidied}
use Rattle.sid_core.specs.declared.entry.Entry.{Entry}
use Rattle.sid_core.specs.declared.setup.Setup.{Setup}
use Rattle.sid_core.specs.declared.setup.WorkerInfo.{WorkerInfo}
use Rattle.serial_table.specs.ByNumber.{declared_at}
use Rattle.serial_table.specs.View.{carries}
use Rattle.chain_map.specs.declared.db.Db.{Db}
use Rattle.chain_map.specs.declared.db.Db.TheVariants as db
use Rattle.chain_map.specs.Hash.{db_number}
use Rattle.record_codec.specs.declared.watch.WatchRec.{WatchRec}
use Rattle.record_codec.specs.declared.open_rec.OpenRec.{OpenRec}
use Rattle.record_codec.specs.declared.glock_rec.GLockRec.{GLockRec}
use Rattle.record_codec.specs.declared.share_rec.ShareRec.{ShareRec}
use Rattle.record_codec.specs.declared.lease_rec.LeaseRec.{LeaseRec}
use Rattle.record_codec.specs.Codec.{Codec}
use Rattle.record_codec.specs.OpenRec.{open_rec}
use Rattle.record_codec.specs.GLockRec.{glock_rec}
use Rattle.record_codec.specs.ShareRec.{share_rec}
use Rattle.record_codec.specs.LeaseRec.{lease_rec}
use Rattle.record_codec.specs.RegisterRec.{register_rec}
use Rattle.record_codec.specs.RangeRec.{range_rec}
use Rattle.stored_table.specs.Keys.{open_key, lock_key, pid_key, name_key, file_key}
use Rattle.stored_table.specs.Places.{Chains, Place, place, chain_at, value_at}
use Rattle.stored_table.specs.Decoded.{decoded}

abbrev pub KeyList : Type 0
KeyList = List (List ℕ)

-- the keys that are met in each database
pub record Met : Type 0 where
  pub opens : KeyList
  pub locks : KeyList
  pub shares : KeyList
  pub leases : KeyList
  pub register : KeyList
  pub ranges : KeyList
  pub mail : KeyList

abbrev pub nothing_met : Met
nothing_met = record { opens = []; locks = []; shares = []; leases = []; register = []; ranges = []; mail = [] }

-- ---- as places

abbrev pub places_in : Db → KeyList → List Place
places_in d keys = map (place d) keys

-- all but those of open records: what is met there becomes exact
abbrev pub exact_places : Met → List Place
exact_places m =
    places_in db.GLock m.locks
    ++ (places_in db.Locking m.shares
    ++ (places_in db.Leases m.leases
    ++ (places_in db.Register m.register
    ++ (places_in db.Brlock m.ranges
    ++ places_in db.Mailbox m.mail))))

abbrev pub all_met : Met → List Place
all_met m = places_in db.Opens m.opens ++ exact_places m

-- ---- what records name, stale parts included

-- the record under a key
abbrev pub record_at : {A : Type 0} → Codec (ℕ × A) → ℕ → Chains → Db → List ℕ → Option A
record_at c n k d key = decoded c (value_at n k (place d key))

-- what the records under these keys name
abbrev pub named_at : {A B : Type 0} → Codec (ℕ × A) → (A → List B) → ℕ → Chains → Db → KeyList → List B
named_at c f n k d keys = flat_map (λ key. option_map_or f (record_at c n k d key) []) keys

abbrev pub name_of_entry : Option LeaseName → KeyList
name_of_entry None = []
name_of_entry (Some name) = name_key name ∷ []

abbrev pub names_in : ShareRec → KeyList
names_in r = flat_map (λ entry. name_of_entry entry.lease) r.entries

abbrev pub entry_owners : ShareRec → KeyList
entry_owners r = map (λ entry. pid_key entry.owner.pid) r.entries

abbrev pub ref_owners : LeaseRec → KeyList
ref_owners r = map (λ ref. pid_key ref.owner.pid) r.refs

abbrev pub holders : GLockRec → KeyList
holders r = map (λ hold. pid_key hold.sid.pid) r.holds

abbrev pub watchers : List WatchRec → KeyList
watchers watches = map (λ w. pid_key w.sid.pid) watches

-- ---- all keys of a database

abbrev pub count_from : ℕ → ℕ → List ℕ
count_from low zero = []
count_from low (suc n) = low ∷ count_from (suc low) n

-- the numbers of a database's chains
abbrev pub chains_in : ℕ → Db → List ℕ
chains_in n d = count_from ((db_number d - 1) * n) n

abbrev pub keys_at : Chains → ℕ → KeyList
keys_at k c = map (λ pair. pair.0) (chain_at k c)

abbrev pub all_keys : ℕ → Chains → Db → KeyList
all_keys n k d = flat_map (keys_at k) (chains_in n d)

-- ---- what is met by what is met in the databases before

-- the owners of the entries, references and holds of met records
abbrev pub met_owners : ℕ → Chains → KeyList → KeyList → KeyList → KeyList
met_owners n k locks files leases =
    named_at glock_rec holders n k db.GLock locks
    ++ (named_at share_rec entry_owners n k db.Locking files
    ++ named_at lease_rec ref_owners n k db.Leases leases)

-- the watchers in met records
abbrev pub met_watchers : ℕ → Chains → KeyList → KeyList → KeyList → KeyList
met_watchers n k locks files pids =
    named_at glock_rec (λ r. watchers r.watchers) n k db.GLock locks
    ++ (named_at share_rec (λ r. watchers r.watchers) n k db.Locking files
    ++ (named_at register_rec (λ r. watchers r.watchers) n k db.Register pids
    ++ named_at range_rec (λ r. watchers r.watchers) n k db.Brlock files))

-- With these register records: the ranges of the met files, and the mailboxes of the met workers and watchers.
abbrev pub met_by_pids : ℕ → Chains → KeyList → KeyList → KeyList → KeyList → KeyList → Met
met_by_pids n k opens locks files leases pids = record {
  opens = opens;
  locks = locks;
  shares = files;
  leases = leases;
  register = pids;
  ranges = files;
  mail = pids ++ met_watchers n k locks files pids;
}

-- With these lease records: the register records of these workers and of all owners.
abbrev pub met_by_leases : ℕ → Chains → KeyList → KeyList → KeyList → KeyList → KeyList → Met
met_by_leases n k opens locks files own leases = met_by_pids n k opens locks files leases (own ++ met_owners n k locks files leases)

-- With these open, lock and share mode records, these names and these workers: the leases of the names, and those of the
-- entries of the share mode records.
abbrev pub met_by_files : ℕ → Chains → KeyList → KeyList → KeyList → KeyList → KeyList → Met
met_by_files n k opens locks files names own =
    met_by_leases n k opens locks files own (names ++ named_at share_rec names_in n k db.Locking files)

-- nothing but the records of a worker, and the mailboxes of those who wait behind it
abbrev pub met_by_worker : ℕ → Chains → WorkerInfo → Met
met_by_worker n k worker = met_by_files n k [] [] [] [] (pid_key worker.pid ∷ [])

-- ---- what each call meets

-- the file of an open record
abbrev pub file_of : Setup → OpenRec → KeyList
file_of setup r = file_key setup r.file ∷ []

-- the open record of the handle, and the file that it names
abbrev pub met_by_handle : Setup → ℕ → Chains → WorkerInfo → ℕ → Met
met_by_handle setup n k caller handle =
    met_by_files n k (open_key caller.pid handle ∷ []) []
    (named_at open_rec (file_of setup) n k db.Opens (open_key caller.pid handle ∷ []))
    [] (pid_key caller.pid ∷ [])

abbrev pub asked_name : WorkerInfo → Option LeaseAsk → KeyList
asked_name caller None = []
asked_name caller (Some ask) = name_key (record { guid = caller.guid; key = ask.key }) ∷ []

abbrev pub met_by_open : Setup → ℕ → Chains → WorkerInfo → ℕ → ℕ → Option LeaseAsk → Met
met_by_open setup n k caller number file lease =
    met_by_files n k (open_key caller.pid number ∷ []) [] (file_key setup file ∷ []) (asked_name caller lease) (pid_key caller.pid ∷ [])

-- the share mode record has an entry of the name
abbrev pub has_name : LeaseName → Option ShareRec → Bool
has_name name None = false
has_name name (Some r) = list_any (λ entry. carries name entry.lease) r.entries

abbrev pub files_with : ℕ → Chains → LeaseName → KeyList
files_with n k name = filter (λ key. has_name name (record_at share_rec n k db.Locking key)) (all_keys n k db.Locking)

abbrev pub met_by_name : ℕ → Chains → WorkerInfo → LeaseName → Met
met_by_name n k caller name = met_by_files n k [] [] (files_with n k name) (name_key name ∷ []) (pid_key caller.pid ∷ [])

abbrev pub met_by_lock : ℕ → Chains → WorkerInfo → ℕ → Met
met_by_lock n k caller key = met_by_files n k [] (lock_key key ∷ []) [] [] (pid_key caller.pid ∷ [])

-- the open record of the named call, and the caller's own
abbrev pub met_by_reconnect : Setup → ℕ → Chains → WorkerInfo → ℕ → ℕ → ℕ → WorkerInfo → Met
met_by_reconnect setup n k caller number made key named =
    met_by_files n k (open_key named.pid made ∷ open_key caller.pid number ∷ []) []
    (named_at open_rec (file_of setup) n k db.Opens (open_key named.pid made ∷ []))
    (name_key (record { guid = caller.guid; key = key }) ∷ []) (pid_key caller.pid ∷ [])

-- every record of files, leases and workers, and these mailboxes
abbrev pub met_everywhere : ℕ → Chains → KeyList → Met
met_everywhere n k mail = record {
  opens = [];
  locks = [];
  shares = all_keys n k db.Locking;
  leases = all_keys n k db.Leases;
  register = all_keys n k db.Register;
  ranges = all_keys n k db.Brlock;
  mail = mail;
}

-- the watchers in every record of files and workers
abbrev pub watchers_everywhere : ℕ → Chains → KeyList
watchers_everywhere n k =
    named_at share_rec (λ r. watchers r.watchers) n k db.Locking (all_keys n k db.Locking)
    ++ (named_at register_rec (λ r. watchers r.watchers) n k db.Register (all_keys n k db.Register)
    ++ named_at range_rec (λ r. watchers r.watchers) n k db.Brlock (all_keys n k db.Brlock))

-- A `tidy` call meets its caller's own records alone, and a `status` call no mailbox.
abbrev pub met_by_call : Setup → ℕ → Chains → WorkerInfo → ℕ → Call → Met
met_by_call setup n k caller number (call.OpenFile file access share lease durable overwrite delete) = met_by_open setup n k caller number file lease
met_by_call setup n k caller number (call.Close handle) = met_by_handle setup n k caller handle
met_by_call setup n k caller number (call.Delete handle on) = met_by_handle setup n k caller handle
met_by_call setup n k caller number (call.Ack key state) = met_by_name n k caller (record { guid = caller.guid; key = key })
met_by_call setup n k caller number (call.Lock handle span mode wait) = met_by_handle setup n k caller handle
met_by_call setup n k caller number (call.Unlock handle span) = met_by_handle setup n k caller handle
met_by_call setup n k caller number (call.Read handle span) = met_by_handle setup n k caller handle
met_by_call setup n k caller number (call.Write handle span) = met_by_handle setup n k caller handle
met_by_call setup n k caller number (call.GLock key mode wait) = met_by_lock n k caller key
met_by_call setup n k caller number (call.GUnlock key) = met_by_lock n k caller key
met_by_call setup n k caller number call.Recv = met_by_worker n k caller
met_by_call setup n k caller number call.Disconnect = met_by_worker n k caller
met_by_call setup n k caller number (call.Reconnect worker made key) =
    option_map_or (met_by_reconnect setup n k caller number made key) (declared_at setup.workers worker) nothing_met
met_by_call setup n k caller number call.Scavenge = met_everywhere n k (all_keys n k db.Register ++ watchers_everywhere n k)
met_by_call setup n k caller number call.Tidy = record nothing_met { register = pid_key caller.pid ∷ []; mail = pid_key caller.pid ∷ [] }
met_by_call setup n k caller number (call.Status tables) = met_everywhere n k []

-- ---- what each entry meets

-- What a tidied chain writes stands in that chain: see what is written.
abbrev pub met_by_event : Setup → ℕ → Chains → ℕ → Event → Met
met_by_event setup n k by (Called number moment call reply) =
    option_map_or (λ caller. met_by_call setup n k caller number call) (declared_at setup.workers by) nothing_met
met_by_event setup n k by (Died worker moment) = option_map_or (met_by_worker n k) (declared_at setup.workers worker) nothing_met
met_by_event setup n k by (Tidied chain) = nothing_met

abbrev pub met : Setup → ℕ → Chains → Entry → Met
met setup n k e = met_by_event setup n k e.by e.what
