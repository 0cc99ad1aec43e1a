-- The records that stand in the databases, by what their keys say.
use Rattle.std.specs.Prelude.{ℕ, List, Option, Some, None, Result, Ok, Err}
use Rattle.sid_core.specs.declared.ids.LeaseName.{LeaseName}
use Rattle.sid_core.specs.declared.setup.Setup.{Setup}
use Rattle.chain_map.specs.declared.db.Db.TheVariants.{Opens, GLock, Locking, Leases, Register, Brlock, Mailbox}
use Rattle.record_codec.specs.declared.fault.Unpack.{Unpack}
use Rattle.record_codec.specs.declared.open_rec.OpenRec.{OpenRec}
use Rattle.record_codec.specs.declared.glock_rec.GLockRec.{GLockRec}
use Rattle.record_codec.specs.declared.share_rec.ShareRec.{ShareRec}
use Rattle.record_codec.specs.declared.lease_rec.LeaseRec.{LeaseRec}
use Rattle.record_codec.specs.declared.register_rec.RegisterRec.{RegisterRec}
use Rattle.record_codec.specs.declared.range_rec.RangeRec.{RangeRec}
use Rattle.record_codec.specs.declared.mail_rec.MailRec.{MailRec}
use Rattle.record_codec.specs.Codec.{Codec, read_all}
use Rattle.record_codec.specs.OpenRec.{open_rec}
use Rattle.record_codec.specs.GLockRec.{glock_rec}
use Rattle.record_codec.specs.ShareRec.{share_rec}
use Rattle.record_codec.specs.LeaseRec.{lease_rec}
use Rattle.record_codec.specs.RegisterRec.{register_rec}
use Rattle.record_codec.specs.RangeRec.{range_rec}
use Rattle.record_codec.specs.MailRec.{mail_rec}
use Rattle.record_codec.specs.Counts.{Records}
use Rattle.stored_table.specs.Keys.{open_key, lock_key, pid_key, name_key, file_key}
use Rattle.stored_table.specs.Places.{Chains, place, value_at}

pub record AllRecords : Type 0 where
  -- by pid, and handle or call
  pub opens : ℕ → ℕ → Option OpenRec
  -- by the lock's key
  pub locks : ℕ → Option GLockRec
  -- by the file's number
  pub shares : ℕ → Option ShareRec
  pub leases : LeaseName → Option LeaseRec
  -- by pid
  pub register : ℕ → Option RegisterRec
  -- by the file's number
  pub ranges : ℕ → Option RangeRec
  -- by pid
  pub mail : ℕ → Option MailRec

-- those that say what counts
abbrev pub deciding : AllRecords → Records
deciding r = record { register = r.register; mail = r.mail; lease = r.leases; share = r.shares }

-- ---- from bytes

-- what is read, without its version
abbrev pub value_of : {A : Type 0} → Result (ℕ × A) Unpack → Option A
value_of (Ok r) = Some r.1
value_of (Err e) = None

-- the value that the bytes spell, in whatever version
abbrev pub decoded : {A : Type 0} → Codec (ℕ × A) → Option (List ℕ) → Option A
decoded c None = None
decoded c (Some bytes) = value_of (read_all c bytes)

-- the records of these chains, with so many chains per database
abbrev pub records_of : Setup → ℕ → Chains → AllRecords
records_of setup n k = record {
  opens = λ pid number. decoded open_rec (value_at n k (place Opens (open_key pid number)));
  locks = λ key. decoded glock_rec (value_at n k (place GLock (lock_key key)));
  shares = λ file. decoded share_rec (value_at n k (place Locking (file_key setup file)));
  leases = λ name. decoded lease_rec (value_at n k (place Leases (name_key name)));
  register = λ pid. decoded register_rec (value_at n k (place Register (pid_key pid)));
  ranges = λ file. decoded range_rec (value_at n k (place Brlock (file_key setup file)));
  mail = λ pid. decoded mail_rec (value_at n k (place Mailbox (pid_key pid)));
}
