-- Which tables the databases stand for, and which records have stale parts.
use Rattle.std.specs.Prelude.{◌≡◌, ℕ, ◌*◌, ◌^◌, ◌<◌, ◌/◌, ◌&&◌, Bool, false, IfSome, List, length, filter, Option, Some}
use Rattle.std.specs.List.{AllByRecursion}
use Rattle.std.specs.Option.{option_and_then, option_map}
use Rattle.sid_core.specs.declared.ids.LeaseName.{LeaseName}
use Rattle.sid_core.specs.declared.ids.Spot.TheVariants.{OpenOf, RangesOf, LockOf}
use Rattle.sid_core.specs.declared.setup.Setup.{Setup}
use Rattle.serial_table.specs.declared.rows.OpenRow.{OpenRow}
use Rattle.serial_table.specs.View.{View}
use Rattle.chain_map.specs.declared.db.Db.{Db}
use Rattle.chain_map.specs.declared.db.Db.TheVariants.{Opens, GLock, Locking, Leases, Register, Brlock, Mailbox}
use Rattle.chain_map.specs.Pairs.{IsRising}
use Rattle.record_codec.specs.declared.open_rec.OpenRec.{OpenRec}
use Rattle.record_codec.specs.declared.glock_rec.GLockRec.{GLockRec}
use Rattle.record_codec.specs.declared.share_rec.ShareRec.{ShareRec}
use Rattle.record_codec.specs.declared.register_rec.RegisterRec.{RegisterRec}
use Rattle.record_codec.specs.declared.range_rec.RangeRec.{RangeRec}
use Rattle.record_codec.specs.Codec.{Codec, Spells}
use Rattle.record_codec.specs.OpenRec.{open_rec}
use Rattle.record_codec.specs.GLockRec.{glock_rec}
use Rattle.record_codec.specs.ShareRec.{share_rec}
use Rattle.record_codec.specs.LeaseRec.{lease_rec}
use Rattle.record_codec.specs.RegisterRec.{register_rec}
use Rattle.record_codec.specs.RangeRec.{range_rec}
use Rattle.record_codec.specs.MailRec.{mail_rec}
use Rattle.record_codec.specs.Counts.{Records, entry_counts, pending_counts, watch_counts, register_watch_counts, range_counts, hold_counts, settled_lease}
use Rattle.stored_table.specs.Keys.{key_length, pid_in, lock_in, name_in, file_in}
use Rattle.stored_table.specs.Places.{Chains, Place, place, HasChains, chain_of, chain_at}
use Rattle.stored_table.specs.Decoded.{AllRecords, deciding, records_of, decoded}
use Rattle.stored_table.specs.Exact.{is_empty, unless_both_empty, exact_share, exact_ranges, exact_lock, exact_lease, exact_register, exact_mail, exact_at}
use Rattle.stored_table.specs.Move.{AddedOpen, db_of_number, still_open}

-- ---- chains that are well formed

-- some value has these bytes as its spelling, in some version
abbrev pub HasValue : {A : Type 0} → Codec A → List ℕ → Type 0
HasValue {A = A} c bytes = (x : A) × Spells c x bytes

-- the bytes spell a record of the database
abbrev pub IsSpelled : Db → List ℕ → Type 0
IsSpelled Opens bytes = HasValue open_rec bytes
IsSpelled GLock bytes = HasValue glock_rec bytes
IsSpelled Locking bytes = HasValue share_rec bytes
IsSpelled Leases bytes = HasValue lease_rec bytes
IsSpelled Register bytes = HasValue register_rec bytes
IsSpelled Brlock bytes = HasValue range_rec bytes
IsSpelled Mailbox bytes = HasValue mail_rec bytes

-- a pair that may stand in the chain with this number
pub record IsPlaced (n c : ℕ) (pair : List ℕ × List ℕ) : Type 0 where
  -- The key has the length of the database's keys.
  pub long : length pair.0 ≡ key_length (db_of_number (c / n))
  -- It is made of bytes.
  pub bytes : AllByRecursion (λ byte. byte < 256) pair.0
  -- The chain is the key's.
  pub at_home : chain_of n (place (db_of_number (c / n)) pair.0) ≡ c
  -- The value spells a record of the database.
  pub spelled : IsSpelled (db_of_number (c / n)) pair.1

pub record IsWellFormed (n : ℕ) (k : Chains) : Type 0 where
  -- There are seven databases of so many chains.
  pub chains : HasChains n k
  -- The keys of each chain rise.
  pub rising : AllByRecursion IsRising k
  -- Each pair is in its place.
  pub placed : (c : ℕ) → c < 7 * n → AllByRecursion (IsPlaced n c) (chain_at k c)

-- ---- the parts that count

abbrev pub clean_share : Records → ℕ → ShareRec → Option ShareRec
clean_share r file s =
    unless_both_empty (filter (entry_counts r file) s.entries) (filter (watch_counts r (OpenOf file)) s.watchers) (record s {
      pending = s.pending && pending_counts r file s;
      entries = filter (entry_counts r file) s.entries;
      watchers = filter (watch_counts r (OpenOf file)) s.watchers;
    })

abbrev pub clean_ranges : Records → ℕ → RangeRec → Option RangeRec
clean_ranges r file s =
    unless_both_empty (filter (range_counts r file) s.ranges) (filter (watch_counts r (RangesOf file)) s.watchers) (record s {
      ranges = filter (range_counts r file) s.ranges;
      watchers = filter (watch_counts r (RangesOf file)) s.watchers;
    })

abbrev pub clean_lock : Records → ℕ → GLockRec → Option GLockRec
clean_lock r key s =
    unless_both_empty (filter (hold_counts r) s.holds) (filter (watch_counts r (LockOf key)) s.watchers) (record s {
      holds = filter (hold_counts r) s.holds;
      watchers = filter (watch_counts r (LockOf key)) s.watchers;
    })

-- A register record never is empty.
abbrev pub clean_register : Records → RegisterRec → RegisterRec
clean_register r s = record s { watchers = filter (register_watch_counts r) s.watchers }

-- An open has an open record under its id, and one under its owner's pid and its handle.
pub record HasOpenRecords (s : AllRecords) (o : OpenRow) : Type 0 where
  pub by_id : s.opens o.id.pid o.id.call ≡ Some (record { id = o.id; file = o.file })
  pub by_handle : s.opens o.owner.pid o.handle ≡ Some (record { id = o.id; file = o.file })

-- ---- what is stood for

-- What counts in these records is what the table shows.
pub record AgreeWith (setup : Setup) (s : AllRecords) (v : View) : Type 0 where
  pub locks : (key : ℕ) → option_and_then (clean_lock (deciding s) key) (s.locks key) ≡ exact_lock v key
  pub shares : (file : ℕ) → option_and_then (clean_share (deciding s) file) (s.shares file) ≡ exact_share setup v file
  pub leases : (name : LeaseName) → option_and_then (settled_lease (deciding s)) (s.leases name) ≡ exact_lease v name
  pub register : (pid : ℕ) → option_map (clean_register (deciding s)) (s.register pid) ≡ exact_register v pid
  pub ranges : (file : ℕ) → option_and_then (clean_ranges (deciding s) file) (s.ranges file) ≡ exact_ranges setup v file
  -- A mailbox that is there counts.
  pub mail : (pid : ℕ) → s.mail pid ≡ exact_mail v pid
  pub opens : (file : ℕ) → AllByRecursion (HasOpenRecords s) (v.opens_of file)

-- Well-formed chains stand for a table where what counts in their records is what the table shows.
pub record StandsFor (setup : Setup) (n : ℕ) (k : Chains) (v : View) : Type 0 where
  pub well_formed : IsWellFormed n k
  pub agree : AgreeWith setup (records_of setup n k) v

-- ---- stale parts

-- the bytes spell the exact record
abbrev pub SpellsExact : {A : Type 0} → Codec (ℕ × A) → List ℕ → Option A → Type 0
SpellsExact {A = A} c bytes exact = (x : A) × (exact ≡ Some x) × (decoded c (Some bytes) ≡ Some x)

-- the id of the open record is an open
abbrev pub IsOpenNow : View → OpenRec → Type 0
IsOpenNow v r = is_empty (v.opens_of_id r.id) ≡ false

-- A record has no stale part: it is exact, or the open record of an open.
abbrev pub IsClean : Setup → View → Db → List ℕ → List ℕ → Type 0
IsClean setup v Opens key bytes = (r : OpenRec) × (decoded open_rec (Some bytes) ≡ Some r) × IsOpenNow v r
IsClean setup v GLock key bytes = SpellsExact glock_rec bytes (exact_lock v (lock_in key))
IsClean setup v Locking key bytes = SpellsExact share_rec bytes (exact_share setup v (file_in setup key))
IsClean setup v Leases key bytes = SpellsExact lease_rec bytes (exact_lease v (name_in key))
IsClean setup v Register key bytes = SpellsExact register_rec bytes (exact_register v (pid_in key))
IsClean setup v Brlock key bytes = SpellsExact range_rec bytes (exact_ranges setup v (file_in setup key))
IsClean setup v Mailbox key bytes = SpellsExact mail_rec bytes (exact_mail v (pid_in key))

-- no record of the chain has a stale part
abbrev pub IsSwept : Setup → ℕ → Chains → View → ℕ → Type 0
IsSwept setup n k v c = AllByRecursion (λ pair. IsClean setup v (db_of_number (c / n)) pair.0 pair.1) (chain_at k c)

-- ---- tables that look alike at a place

-- of an open record, whether its id is an open
abbrev pub LookAlikeIn : Setup → Bool → View → View → Db → Place → Type 0
LookAlikeIn setup old v w Opens p = (value : Option (List ℕ)) → still_open v value ≡ still_open w value
LookAlikeIn setup old v w d p = exact_at setup old v p ≡ exact_at setup old w p

-- written by an old worker or by others
abbrev pub LookAlike : Setup → Bool → View → View → Place → Type 0
LookAlike setup old v w p = LookAlikeIn setup old v w p.db p

-- ---- tables whose exact records have spellings

-- The record, if there is one, has a spelling in the version, and the key fits.
abbrev pub HasSpelling : {A : Type 0} → Codec (ℕ × A) → ℕ → Type 0 → Option A → Type 0
HasSpelling c version fits value = IfSome value (λ x. c.valid (version, x) × fits)

pub record HaveSpellings (setup : Setup) (v : View) : Type 0 where
  pub locks : (key : ℕ) → HasSpelling glock_rec 1 (key < 2 ^ 64) (exact_lock v key)
  pub shares : (file : ℕ) → IfSome (exact_share setup v file) (λ r. share_rec.valid (2, r))
  pub leases : (name : LeaseName) → HasSpelling lease_rec 2 ((name.guid < 2 ^ 64) × (name.key < 2 ^ 64)) (exact_lease v name)
  pub register : (pid : ℕ) → HasSpelling register_rec 1 (pid < 2 ^ 32) (exact_register v pid)
  pub ranges : (file : ℕ) → IfSome (exact_ranges setup v file) (λ r. range_rec.valid (1, r))
  pub mail : (pid : ℕ) → HasSpelling mail_rec 1 (pid < 2 ^ 32) (exact_mail v pid)

-- the open record that an entry adds has a spelling
abbrev pub AddedHasSpelling : Option AddedOpen → Type 0
AddedHasSpelling a = IfSome a (λ x. open_rec.valid (1, x.value))
