-- What an entry writes: each met record becomes exact.
use Rattle.std.specs.Prelude.{ℕ, zero, suc, ◌/◌, ◌*◌, ◌&&◌, Bool, false, if◌then◌else◌, List, [], ◌∷◌, map, replicate, Option, Some, None}
use Rattle.std.specs.Option.{option_map_or, option_and_then}
use Rattle.sid_core.specs.declared.call.Call.{Call}
use Rattle.sid_core.specs.declared.call.Call.TheVariants.{OpenFile, Reconnect, Tidy, Status}
use Rattle.sid_core.specs.declared.reply.Reply.{Reply}
use Rattle.sid_core.specs.declared.reply.Reply.TheVariants.{Granted}
use Rattle.sid_core.specs.declared.ids.OpenId.{OpenId}
use Rattle.sid_core.specs.declared.entry.Event.{Event}
use Rattle.sid_core.specs.declared.entry.Event.TheVariants.{Called, Died, Tidied}
use Rattle.sid_core.specs.declared.entry.Entry.{Entry}
use Rattle.sid_core.specs.declared.setup.Setup.{Setup}
use Rattle.sid_core.specs.declared.setup.WorkerInfo.{WorkerInfo}
use Rattle.serial_table.specs.declared.rows.OpenRow.{OpenRow}
use Rattle.serial_table.specs.ByNumber.{declared_at}
use Rattle.serial_table.specs.View.{View, view}
use Rattle.serial_table.specs.History.{start}
use Rattle.chain_map.specs.declared.db.Db.{Db}
use Rattle.chain_map.specs.declared.db.Db.TheVariants as db
use Rattle.record_codec.specs.declared.open_rec.OpenRec.{OpenRec}
use Rattle.record_codec.specs.OpenRec.{open_rec}
use Rattle.stored_table.specs.Keys.{is_key, open_key, pid_key}
use Rattle.stored_table.specs.Places.{Chains, Place, place, same_place, value_at, write_all}
use Rattle.stored_table.specs.Decoded.{decoded}
use Rattle.stored_table.specs.Exact.{exact_at, is_empty}
use Rattle.stored_table.specs.Met.{Met, met, all_met, places_in, keys_at}

-- ---- the open record that a granted call makes

-- an open record and its key
pub record AddedOpen : Type 0 where
  pub key : List ℕ
  pub value : OpenRec

abbrev pub added_for : List ℕ → List OpenRow → Option AddedOpen
added_for key [] = None
added_for key (o ∷ os) = Some (record { key = key; value = record { id = o.id; file = o.file } })

-- of the open with an id, under the caller's pid and the number of its call
abbrev pub added_by_caller : View → ℕ → OpenId → WorkerInfo → Option AddedOpen
added_by_caller v number id caller = added_for (open_key caller.pid number) (v.opens_of_id id)

-- the id of the open that `open` makes, or that `reconnect` names
abbrev pub id_by : ℕ → WorkerInfo → OpenId
id_by number worker = record { pid = worker.pid; call = number }

abbrev pub added_by_open : Setup → View → ℕ → ℕ → Option AddedOpen
added_by_open setup v by number = option_and_then (λ caller. added_by_caller v number (id_by number caller) caller) (declared_at setup.workers by)

abbrev pub added_by_reconnect : Setup → View → ℕ → ℕ → ℕ → ℕ → Option AddedOpen
added_by_reconnect setup v by number worker made =
    option_and_then (λ named. option_and_then (added_by_caller v number (id_by made named)) (declared_at setup.workers by)) (declared_at setup.workers worker)

abbrev pub added_by_call : Setup → View → ℕ → ℕ → Call → Reply → Option AddedOpen
added_by_call setup v by number (OpenFile file access share lease durable overwrite delete) (Granted state stays) = added_by_open setup v by number
added_by_call setup v by number (Reconnect worker made key) (Granted state stays) = added_by_reconnect setup v by number worker made
added_by_call setup v by number call reply = None

abbrev pub added_by : Setup → View → ℕ → Event → Option AddedOpen
added_by setup v by (Called number moment call reply) = added_by_call setup v by number call reply
added_by setup v by (Died worker moment) = None
added_by setup v by (Tidied chain) = None

-- with what the table shows after the entry
abbrev pub added : Setup → View → Entry → Option AddedOpen
added setup v e = added_by setup v e.by e.what

-- ---- whether an old worker writes

abbrev pub is_call_of_old : Setup → ℕ → Event → Bool
is_call_of_old setup by (Called number moment call reply) = option_map_or (λ info. info.old) (declared_at setup.workers by) false
is_call_of_old setup by (Died worker moment) = false
is_call_of_old setup by (Tidied chain) = false

abbrev pub is_by_old : Setup → Entry → Bool
is_by_old setup e = is_call_of_old setup e.by e.what

-- ---- what open records become

-- An open record stays where its id is an open.
abbrev pub if_open : View → List ℕ → OpenRec → Option (List ℕ)
if_open v bytes r = if is_empty (v.opens_of_id r.id) then None else Some bytes

abbrev pub still_open : View → Option (List ℕ) → Option (List ℕ)
still_open v None = None
still_open v (Some bytes) = option_and_then (if_open v bytes) (decoded open_rec (Some bytes))

abbrev pub new_open_record : View → Option AddedOpen → Place → Option (List ℕ) → Option (List ℕ)
new_open_record v None p value = still_open v value
new_open_record v (Some a) p value =
    if is_key db.Opens a.key && same_place (place db.Opens a.key) p then Some (open_rec.spell (1, a.value)) else still_open v value

-- ---- what all records become

abbrev pub new_in : Setup → Bool → View → Option AddedOpen → Db → Place → Option (List ℕ) → Option (List ℕ)
new_in setup old v a db.Opens p value = new_open_record v a p value
new_in setup old v a db.GLock p value = exact_at setup old v p
new_in setup old v a db.Locking p value = exact_at setup old v p
new_in setup old v a db.Leases p value = exact_at setup old v p
new_in setup old v a db.Register p value = exact_at setup old v p
new_in setup old v a db.Brlock p value = exact_at setup old v p
new_in setup old v a db.Mailbox p value = exact_at setup old v p

-- The new value at a place: as an old worker writes it or others, with what the table shows after the entry, and the open
-- record that the entry adds.
abbrev pub new_at : Setup → ℕ → Chains → Bool → View → Option AddedOpen → Place → Option (List ℕ)
new_at setup n k old v a p = new_in setup old v a p.db p (value_at n k p)

-- ---- what is written

-- the database with a number, counted from 0
abbrev pub db_of_number : ℕ → Db
db_of_number zero = db.Opens
db_of_number (suc zero) = db.GLock
db_of_number (suc (suc zero)) = db.Locking
db_of_number (suc (suc (suc zero))) = db.Leases
db_of_number (suc (suc (suc (suc zero)))) = db.Register
db_of_number (suc (suc (suc (suc (suc zero))))) = db.Brlock
db_of_number (suc (suc (suc (suc (suc (suc m)))))) = db.Mailbox

-- the places of a chain's records
abbrev pub places_at : ℕ → Chains → ℕ → List Place
places_at n k c = places_in (db_of_number (c / n)) (keys_at k c)

-- `status` and `tidy` calls change no chain.
abbrev pub if_writes : Call → List Place → List Place
if_writes (Status tables) ps = []
if_writes Tidy ps = []
if_writes _ ps = ps

abbrev pub places_written_by : ℕ → Chains → Met → Event → List Place
places_written_by n k m (Called number moment call reply) = if_writes call (all_met m)
places_written_by n k m (Died worker moment) = all_met m
places_written_by n k m (Tidied chain) = places_at n k chain

abbrev pub places_written : Setup → ℕ → Chains → Entry → List Place
places_written setup n k e = places_written_by n k (met setup n k e) e.what

-- the chains after an entry, with what the table shows after it
abbrev pub move : Setup → ℕ → Chains → Entry → View → Chains
move setup n k e v = write_all n (new_at setup n k (is_by_old setup e) v (added setup v e)) (places_written setup n k e) k

-- ---- where the databases start

abbrev pub worker_places : List WorkerInfo → List Place
worker_places infos = map (λ info. place db.Register (pid_key info.pid)) infos

-- the register records of the declared workers, and nothing else
abbrev pub first_chains : Setup → ℕ → Chains
first_chains setup n = write_all n (exact_at setup false (view (start setup))) (worker_places setup.workers) (replicate (7 * n) [])
