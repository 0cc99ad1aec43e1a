-- The keys that a call meets before those that the records there name: of open records, of files, of leases' names and of workers.
use Rattle.std.proofs.Common.{ℕ, [], ◌∷◌, Option}
use Rattle.sid_core.specs.declared.call.LeaseAsk.{LeaseAsk}
use Rattle.sid_core.specs.declared.setup.Setup.{Setup}
use Rattle.sid_core.specs.declared.setup.WorkerInfo.{WorkerInfo}
use Rattle.chain_map.specs.declared.db.Db.TheVariants as db
use Rattle.record_codec.specs.OpenRec.{open_rec}
use Rattle.stored_table.specs.Keys.{open_key, pid_key, name_key, file_key}
use Rattle.stored_table.specs.Places.{Chains}
use Rattle.stored_table.specs.Met.{KeyList, named_at, file_of, asked_name}

pub record FirstKeys : Type 0 where
  pub opens : KeyList
  pub files : KeyList
  pub names : KeyList
  pub own : KeyList

abbrev pub keys_of_open : Setup → WorkerInfo → ℕ → ℕ → Option LeaseAsk → FirstKeys
keys_of_open setup info number file lease = record {
  opens = open_key info.pid number ∷ [];
  files = file_key setup file ∷ [];
  names = asked_name info lease;
  own = pid_key info.pid ∷ [];
}

abbrev pub keys_of_reconnect : Setup → ℕ → Chains → WorkerInfo → ℕ → ℕ → ℕ → WorkerInfo → FirstKeys
keys_of_reconnect setup n k info number made key named = record {
  opens = open_key named.pid made ∷ open_key info.pid number ∷ [];
  files = named_at open_rec (file_of setup) n k db.Opens (open_key named.pid made ∷ []);
  names = name_key (record { guid = info.guid; key = key }) ∷ [];
  own = pid_key info.pid ∷ [];
}
