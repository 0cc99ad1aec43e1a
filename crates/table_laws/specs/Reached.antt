-- Which records decide what counts of a record, which places a record reaches by them, and when the same parts of it count.
use Rattle.std.specs.Prelude.{◌≡◌, ℕ, zero, suc, Bool, IfSome, List, [], ◌∷◌, ◌++◌, Option}
use Rattle.std.specs.List.{AllByRecursion, flat_map}
use Rattle.std.specs.Option.{option_map_or}
use Rattle.sid_core.specs.declared.ids.Spot.TheVariants.{OpenOf, RangesOf, LockOf}
use Rattle.sid_core.specs.declared.setup.Setup.{Setup}
use Rattle.chain_map.specs.declared.db.Db.{Db}
use Rattle.chain_map.specs.declared.db.Db.TheVariants.{Opens, GLock, Locking, Leases, Register, Brlock, Mailbox}
use Rattle.record_codec.specs.declared.open_rec.OpenRec.{OpenRec}
use Rattle.record_codec.specs.declared.glock_rec.GLockRec.{GLockRec}
use Rattle.record_codec.specs.declared.share_rec.ShareRec.{ShareRec}
use Rattle.record_codec.specs.declared.lease_rec.LeaseRec.{LeaseRec}
use Rattle.record_codec.specs.declared.register_rec.RegisterRec.{RegisterRec}
use Rattle.record_codec.specs.declared.range_rec.RangeRec.{RangeRec}
use Rattle.record_codec.specs.declared.mail_rec.MailRec.{MailRec}
use Rattle.record_codec.specs.OpenRec.{open_rec}
use Rattle.record_codec.specs.GLockRec.{glock_rec}
use Rattle.record_codec.specs.ShareRec.{share_rec}
use Rattle.record_codec.specs.LeaseRec.{lease_rec}
use Rattle.record_codec.specs.RegisterRec.{register_rec}
use Rattle.record_codec.specs.RangeRec.{range_rec}
use Rattle.record_codec.specs.MailRec.{mail_rec}
use Rattle.record_codec.specs.Counts.{Records, hold_counts, mailbox_counts, watch_counts, register_watch_counts, ref_counts, is_unanswered, entry_counts, pending_counts, range_counts, open_counts}
use Rattle.stored_table.specs.Keys.{pid_key, file_key, pid_in, lock_in, file_in}
use Rattle.stored_table.specs.Places.{Chains, Place, place, value_at}
use Rattle.stored_table.specs.Decoded.{decoded, deciding, records_of}
use Rattle.stored_table.specs.Met.{places_in, record_at, holders, watchers, entry_owners, names_in, ref_owners}

-- ---- which records decide what counts of one

-- Of an open record: the share mode record of its file.
abbrev pub open_decided_by : Setup → OpenRec → List Place
open_decided_by setup r = place Locking (file_key setup r.file) ∷ []

-- Of a lock's record: the register records of its holders, and the mailboxes of its watchers.
abbrev pub lock_decided_by : GLockRec → List Place
lock_decided_by r = places_in Register (holders r) ++ places_in Mailbox (watchers r.watchers)

-- Of a share mode record: the register records of the owners of its entries, the records of their leases, and the mailboxes of its
-- watchers.
abbrev pub share_decided_by : ShareRec → List Place
share_decided_by r = places_in Register (entry_owners r) ++ (places_in Leases (names_in r) ++ places_in Mailbox (watchers r.watchers))

-- Of a lease record: the register records of the owners of its references.
abbrev pub lease_decided_by : LeaseRec → List Place
lease_decided_by r = places_in Register (ref_owners r)

-- Of a register record: the mailboxes of its watchers.
abbrev pub register_decided_by : RegisterRec → List Place
register_decided_by r = places_in Mailbox (watchers r.watchers)

-- Of a record of ranges: the share mode record of its file, and the mailboxes of its watchers.
abbrev pub ranges_decided_by : Setup → List ℕ → RangeRec → List Place
ranges_decided_by setup key r = place Locking (file_key setup (file_in setup key)) ∷ places_in Mailbox (watchers r.watchers)

-- Of a mailbox: the register record of its pid.
abbrev pub mail_decided_by : List ℕ → MailRec → List Place
mail_decided_by key r = place Register (pid_key (pid_in key)) ∷ []

-- of the record under a key of a database; of none nothing
abbrev pub decided_by : Setup → ℕ → Chains → Db → List ℕ → List Place
decided_by setup n k Opens key = option_map_or (open_decided_by setup) (record_at open_rec n k Opens key) []
decided_by setup n k GLock key = option_map_or lock_decided_by (record_at glock_rec n k GLock key) []
decided_by setup n k Locking key = option_map_or share_decided_by (record_at share_rec n k Locking key) []
decided_by setup n k Leases key = option_map_or lease_decided_by (record_at lease_rec n k Leases key) []
decided_by setup n k Register key = option_map_or register_decided_by (record_at register_rec n k Register key) []
decided_by setup n k Brlock key = option_map_or (ranges_decided_by setup key) (record_at range_rec n k Brlock key) []
decided_by setup n k Mailbox key = option_map_or (mail_decided_by key) (record_at mail_rec n k Mailbox key) []

-- ---- what a record reaches

-- in so many steps at most: the places of the records that decide it, and what the records there reach
abbrev pub reached : Setup → ℕ → Chains → ℕ → Place → List Place
reached setup n k zero p = []
reached setup n k (suc steps) p = decided_by setup n k p.db p.key ++ flat_map (reached setup n k steps) (decided_by setup n k p.db p.key)

-- the record at a place is the same
abbrev pub IsUnchanged : ℕ → Chains → Chains → Place → Type 0
IsUnchanged n k j p = value_at n k p ≡ value_at n j p

-- The record reaches no place whose record differs, in however many steps.
abbrev pub ReachesUnchanged : Setup → ℕ → Chains → Chains → Place → Type 0
ReachesUnchanged setup n k j p = (steps : ℕ) → AllByRecursion (IsUnchanged n k j) (reached setup n k steps p)

-- ---- the same parts count

abbrev pub AllAlike : {A : Type 0} → (A → Bool) → (A → Bool) → List A → Type 0
AllAlike f g xs = AllByRecursion (λ x. f x ≡ g x) xs

-- the holds, and the watches
abbrev pub LockAlike : Records → Records → ℕ → GLockRec → Type 0
LockAlike r s key x = AllAlike (hold_counts r) (hold_counts s) x.holds × AllAlike (watch_counts r (LockOf key)) (watch_counts s (LockOf key)) x.watchers

-- the entries, the watches, and that the file is to go
abbrev pub ShareAlike : Records → Records → ℕ → ShareRec → Type 0
ShareAlike r s file x =
    AllAlike (entry_counts r file) (entry_counts s file) x.entries × AllAlike (watch_counts r (OpenOf file)) (watch_counts s (OpenOf file)) x.watchers
    × (pending_counts r file x ≡ pending_counts s file x)

-- the references, and that the break isn't over
abbrev pub LeaseAlike : Records → Records → LeaseRec → Type 0
LeaseAlike r s x = AllAlike (ref_counts r x) (ref_counts s x) x.refs × (is_unanswered r x ≡ is_unanswered s x)

abbrev pub RegisterAlike : Records → Records → RegisterRec → Type 0
RegisterAlike r s x = AllAlike (register_watch_counts r) (register_watch_counts s) x.watchers

-- the ranges, and the watches
abbrev pub RangesAlike : Records → Records → ℕ → RangeRec → Type 0
RangesAlike r s file x = AllAlike (range_counts r file) (range_counts s file) x.ranges × AllAlike (watch_counts r (RangesOf file)) (watch_counts s (RangesOf file)) x.watchers

-- of the record with these bytes under a key of a database
abbrev pub CountAlikeIn : Setup → Records → Records → Db → List ℕ → Option (List ℕ) → Type 0
CountAlikeIn setup r s Opens key value = IfSome (decoded open_rec value) (λ x. open_counts r x ≡ open_counts s x)
CountAlikeIn setup r s GLock key value = IfSome (decoded glock_rec value) (LockAlike r s (lock_in key))
CountAlikeIn setup r s Locking key value = IfSome (decoded share_rec value) (ShareAlike r s (file_in setup key))
CountAlikeIn setup r s Leases key value = IfSome (decoded lease_rec value) (LeaseAlike r s)
CountAlikeIn setup r s Register key value = IfSome (decoded register_rec value) (RegisterAlike r s)
CountAlikeIn setup r s Brlock key value = IfSome (decoded range_rec value) (RangesAlike r s (file_in setup key))
CountAlikeIn setup r s Mailbox key value = IfSome (decoded mail_rec value) (λ x. mailbox_counts r (pid_in key) x ≡ mailbox_counts s (pid_in key) x)

-- The record at a place is the same in both, and the same parts of it count.
pub record SamePartsCount (setup : Setup) (n : ℕ) (k j : Chains) (p : Place) : Type 0 where
  pub same : value_at n k p ≡ value_at n j p
  pub alike : CountAlikeIn setup (deciding (records_of setup n k)) (deciding (records_of setup n j)) p.db p.key (value_at n k p)
