-- What an entry that ends no session and begins none does beside the places that it writes: nothing that a record elsewhere tells.
use Rattle.std.proofs.Common.{◌≡◌, ℕ, Bool, true, false, ◌==◌, ◌&&◌, List, ◌++◌, filter, Option}
use Rattle.std.specs.Prelude.{IfSome}
use Rattle.std.specs.List.{AllByRecursion}
use Rattle.sid_core.specs.declared.ids.Sid.{Sid}
use Rattle.sid_core.specs.declared.ids.LeaseName.{LeaseName}
use Rattle.sid_core.specs.declared.ids.Spot.{Spot}
use Rattle.sid_core.specs.declared.ids.Spot.TheVariants.{OpenOf, RangesOf, LockOf}
use Rattle.sid_core.specs.declared.setup.Setup.{Setup}
use Rattle.sid_core.specs.Ids.{same_sid}
use Rattle.serial_table.specs.declared.rows.OpenRow.{OpenRow}
use Rattle.serial_table.specs.declared.rows.WaiterRow.{WaiterRow}
use Rattle.serial_table.specs.declared.table.Table.{Table}
use Rattle.serial_table.specs.View.{View, view, leases_at}
use Rattle.serial_table.proofs.Members.{IsIn}
use Rattle.chain_map.specs.declared.db.Db.TheVariants as db
use Rattle.record_codec.specs.declared.watch.WatchRec.{WatchRec}
use Rattle.stored_table.specs.Keys.{lock_key, pid_key, name_key, file_key}
use Rattle.stored_table.specs.Places.{Place, place, among}
use Rattle.stored_table.specs.Decoded.{AllRecords}
use Rattle.stored_table.specs.Shown.{part_of}

-- ---- places

abbrev pub share_place : Setup → ℕ → Place
share_place setup file = place db.Locking (file_key setup file)

abbrev pub ranges_place : Setup → ℕ → Place
ranges_place setup file = place db.Brlock (file_key setup file)

abbrev pub lock_place : ℕ → Place
lock_place key = place db.GLock (lock_key key)

abbrev pub lease_place : LeaseName → Place
lease_place name = place db.Leases (name_key name)

abbrev pub register_place : ℕ → Place
register_place pid = place db.Register (pid_key pid)

abbrev pub mail_place : ℕ → Place
mail_place pid = place db.Mailbox (pid_key pid)

-- where the watches of a spot stand
abbrev pub spot_place : Setup → Spot → Place
spot_place setup (OpenOf file) = share_place setup file
spot_place setup (RangesOf file) = ranges_place setup file
spot_place setup (LockOf key) = lock_place key

-- ---- what stays of a file

pub record SameFile (file : ℕ) (v w : View) : Type 0 where
  pub opens : w.opens_of file ≡ v.opens_of file
  pub ranges : w.ranges_of file ≡ v.ranges_of file
  pub pending : w.is_pending file ≡ v.is_pending file
  pub leases : (name : LeaseName) → leases_at w name file ≡ leases_at v name file

-- ---- waiters that come and go

-- the watchers of a register record
abbrev pub register_watchers : AllRecords → ℕ → List WatchRec
register_watchers s pid = part_of (λ r. r.watchers) (s.register pid)

-- All records of a waiter are written, and no register record has a watch of its call yet.
pub record IsMetWaiter (setup : Setup) (ps : List Place) (s : AllRecords) (x : WaiterRow) : Type 0 where
  pub mail : among (mail_place x.sid.pid) ps ≡ true
  pub spot : among (spot_place setup x.spot) ps ≡ true
  pub blocker : IfSome x.blocker (λ b. among (register_place b.pid) ps ≡ true)
  pub fresh : (pid : ℕ) → AllByRecursion (λ w. (same_sid x.sid w.sid && (x.call == w.call)) ≡ false) (register_watchers s pid)

-- Some waiters go, by session and call, and some come.
pub record WaitsStep (setup : Setup) (ps : List Place) (s : AllRecords) (t u : Table) : Type 0 where
  pub stays : Sid → ℕ → Bool
  pub new : List WaiterRow
  pub rows : u.waiters ≡ filter (λ x. stays x.sid x.call) t.waiters ++ new
  pub dropped : (x : WaiterRow) → IsIn x t.waiters → stays x.sid x.call ≡ false → among (mail_place x.sid.pid) ps ≡ true
  pub added : (x : WaiterRow) → IsIn x new → IsMetWaiter setup ps s x

-- ---- all of it

abbrev pub IsMetName : List Place → Option LeaseName → Type 0
IsMetName ps lease = IfSome lease (λ name. among (lease_place name) ps ≡ true)

pub record Contained (setup : Setup) (ps : List Place) (s : AllRecords) (t u : Table) : Type 0 where
  -- the files whose records are written
  pub here : ℕ → Bool
  pub written : (file : ℕ) → here file ≡ true → (among (share_place setup file) ps ≡ true) × (among (ranges_place setup file) ps ≡ true)
  -- of the other files nothing changes but waiters
  pub others : (file : ℕ) → here file ≡ false → SameFile file (view t) (view u)
  -- the leases of these files are written, those of opens that go and of opens that come
  pub names_before : (o : OpenRow) → IsIn o t.opens → here o.file ≡ true → IsMetName ps o.lease
  pub names_after : (o : OpenRow) → IsIn o u.opens → here o.file ≡ true → IsMetName ps o.lease
  -- nobody's session ends or begins
  pub workers : u.workers ≡ t.workers
  pub ended : u.ended ≡ t.ended
  -- locks and letters elsewhere stay
  pub holds : (key : ℕ) → among (lock_place key) ps ≡ false → (view u).holds_of key ≡ (view t).holds_of key
  pub letters : (sid : Sid) → among (mail_place sid.pid) ps ≡ false → (view u).letters_of sid ≡ (view t).letters_of sid
  pub waits : WaitsStep setup ps s t u
