-- The exact records of a table: what it shows under each key.
use Rattle.std.specs.Prelude.{ℕ, Bool, true, false, ◌&&◌, ◌||◌, not, if◌then◌else◌, List, [], ◌∷◌, map, filter, Option, Some, None}
use Rattle.std.specs.List.{list_any}
use Rattle.std.specs.Option.{option_map, option_and_then}
use Rattle.sid_core.specs.declared.ids.Sid.{Sid}
use Rattle.sid_core.specs.declared.ids.LeaseName.{LeaseName}
use Rattle.sid_core.specs.declared.ids.Spot.TheVariants.{OpenOf, RangesOf, LockOf}
use Rattle.sid_core.specs.declared.entry.Letter.{Letter}
use Rattle.sid_core.specs.declared.setup.FileInfo.{FileInfo}
use Rattle.sid_core.specs.declared.setup.Setup.{Setup}
use Rattle.serial_table.specs.declared.rows.OpenRow.{OpenRow}
use Rattle.serial_table.specs.declared.rows.LeaseRow.{LeaseRow}
use Rattle.serial_table.specs.declared.rows.Breaking.{Breaking}
use Rattle.serial_table.specs.declared.rows.WorkerRow.{WorkerRow}
use Rattle.serial_table.specs.ByNumber.{declared_at}
use Rattle.serial_table.specs.View.{View, carries}
use Rattle.serial_table.specs.View as table
use Rattle.chain_map.specs.declared.db.Db.{Db}
use Rattle.chain_map.specs.declared.db.Db.TheVariants.{Opens, GLock, Locking, Leases, Register, Brlock, Mailbox}
use Rattle.record_codec.specs.declared.watch.WatchRec.{WatchRec}
use Rattle.record_codec.specs.declared.glock_rec.Hold.{Hold}
use Rattle.record_codec.specs.declared.glock_rec.GLockRec.{GLockRec}
use Rattle.record_codec.specs.declared.share_rec.ShareEntry.{ShareEntry}
use Rattle.record_codec.specs.declared.share_rec.ShareRec.{ShareRec}
use Rattle.record_codec.specs.declared.lease_rec.LeaseRef.{LeaseRef}
use Rattle.record_codec.specs.declared.lease_rec.LeaseRec.{LeaseRec}
use Rattle.record_codec.specs.declared.register_rec.RegisterRec.{RegisterRec}
use Rattle.record_codec.specs.declared.range_rec.RangeItem.{RangeItem}
use Rattle.record_codec.specs.declared.range_rec.RangeRec.{RangeRec}
use Rattle.record_codec.specs.declared.mail_rec.Token.{Token}
use Rattle.record_codec.specs.declared.mail_rec.MailRec.{MailRec}
use Rattle.record_codec.specs.Codec.{Codec}
use Rattle.record_codec.specs.GLockRec.{glock_rec}
use Rattle.record_codec.specs.ShareRec.{share_rec}
use Rattle.record_codec.specs.LeaseRec.{lease_rec}
use Rattle.record_codec.specs.RegisterRec.{register_rec}
use Rattle.record_codec.specs.RangeRec.{range_rec}
use Rattle.record_codec.specs.MailRec.{mail_rec}
use Rattle.stored_table.specs.Keys.{is_key, lock_in, pid_in, name_in, file_in}
use Rattle.stored_table.specs.Places.{Place}
use Rattle.record_rows.specs.Rows.{entry_of, ref_of, item_of, hold_of, watch_of, token_of}

-- ---- when there is no record

abbrev pub is_empty : {A : Type 0} → List A → Bool
is_empty [] = true
is_empty (x ∷ xs) = false

-- none where both lists are empty
abbrev pub unless_both_empty : {A B R : Type 0} → List A → List B → R → Option R
unless_both_empty xs ys rec = if is_empty xs && is_empty ys then None else Some rec

-- ---- records of files

abbrev pub share_record : ℕ → FileInfo → Bool → List ShareEntry → List WatchRec → Option ShareRec
share_record file info pending entries watchers =
    unless_both_empty entries watchers
    (record { file = file; path = info.path; name = info.name; pending = pending; entries = entries; watchers = watchers })

abbrev pub share_of : View → ℕ → FileInfo → Option ShareRec
share_of v file info =
    share_record file info (v.is_pending file) (map entry_of (v.opens_of file)) (map watch_of (v.watches_on (OpenOf file)))

-- none of a file that isn't declared
abbrev pub exact_share : Setup → View → ℕ → Option ShareRec
exact_share setup v file = option_and_then (share_of v file) (declared_at setup.files file)

abbrev pub range_record : ℕ → List RangeItem → List WatchRec → Option RangeRec
range_record file items watchers =
    unless_both_empty items watchers (record { file = file; ranges = items; watchers = watchers })

abbrev pub ranges_of : View → ℕ → FileInfo → Option RangeRec
ranges_of v file info = range_record file (map item_of (v.ranges_of file)) (map watch_of (v.watches_on (RangesOf file)))

-- none of a file that isn't declared
abbrev pub exact_ranges : Setup → View → ℕ → Option RangeRec
exact_ranges setup v file = option_and_then (ranges_of v file) (declared_at setup.files file)

-- ---- records of global locks

abbrev pub lock_record : List Hold → List WatchRec → Option GLockRec
lock_record holds watchers = unless_both_empty holds watchers (record { holds = holds; watchers = watchers })

abbrev pub exact_lock : View → ℕ → Option GLockRec
exact_lock v key = lock_record (map hold_of (v.holds_of key)) (map watch_of (v.watches_on (LockOf key)))

-- ---- records of leases

-- what isn't breaking has zeros where it would say how it breaks
abbrev pub lease_with : LeaseRow → Option Breaking → List LeaseRef → LeaseRec
lease_with l None refs = record {
  file = l.file;
  held = l.held;
  breaking = false;
  asked = record { 0 = 0 };
  needed = record { 0 = 0 };
  until = 0;
  refs = refs;
}
lease_with l (Some b) refs = record {
  file = l.file;
  held = l.held;
  breaking = true;
  asked = b.asked;
  needed = b.needed;
  until = b.until.0;
  refs = refs;
}

abbrev pub lease_record : LeaseRow → List LeaseRef → Option LeaseRec
lease_record l [] = None
lease_record l (ref ∷ refs) = Some (lease_with l l.breaking (ref ∷ refs))

-- the opens of a file under a lease of this name
abbrev pub opens_under : View → LeaseName → ℕ → List OpenRow
opens_under v name file = filter (λ o. carries name o.lease) (v.opens_of file)

-- the first of these leases of the name, with the opens of its file that carry the name
abbrev pub lease_of : View → LeaseName → List LeaseRow → Option LeaseRec
lease_of v name [] = None
lease_of v name (l ∷ ls) = lease_record l (map ref_of (opens_under v name l.file))

abbrev pub exact_lease : View → LeaseName → Option LeaseRec
exact_lease v name = lease_of v name (v.leases_of name)

-- ---- records of workers

abbrev pub register_record : View → WorkerRow → RegisterRec
register_record v w = record {
  worker = w.worker;
  alive = w.alive;
  session = w.session;
  connected = w.connected.0;
  ended = map (λ e. e.moment.0) (v.ended_of w.pid);
  watchers = map watch_of (v.watches_behind (record { pid = w.pid; session = w.session }));
}

abbrev pub exact_register : View → ℕ → Option RegisterRec
exact_register v pid = option_map (register_record v) (v.worker_of pid)

-- ---- mailboxes

abbrev pub mail_record : ℕ → List Token → List Letter → Option MailRec
mail_record session tokens letters =
    unless_both_empty tokens letters (record { session = session; tokens = tokens; letters = letters })

abbrev pub mail_of_session : View → Sid → Option MailRec
mail_of_session v sid = mail_record sid.session (map token_of (v.tokens_of sid)) (map (λ post. post.letter) (v.letters_of sid))

-- only the living have mailboxes
abbrev pub mail_if_alive : View → WorkerRow → Option MailRec
mail_if_alive v w = if w.alive then mail_of_session v (record { pid = w.pid; session = w.session }) else None

abbrev pub exact_mail : View → ℕ → Option MailRec
exact_mail v pid = option_and_then (mail_if_alive v) (v.worker_of pid)

-- ---- as bytes

-- the spelling of a value in its version, if there is a value
abbrev pub spelled : {A : Type 0} → Codec (ℕ × A) → (A → ℕ) → Option A → Option (List ℕ)
spelled c version value = option_map (λ x. c.spell (version x, x)) value

-- the version of all records of a kind that are written
abbrev pub always : {A : Type 0} → ℕ → A → ℕ
always version x = version

-- it says that the file is to go, or that an open of it is marked
abbrev pub says_delete : ShareRec → Bool
says_delete r = r.pending || list_any (λ e. e.marked) r.entries

-- The version in which a share mode record is written: 1 by an old worker where the record says nothing that version 1
-- has no fields for, else 2.
abbrev pub share_version : Bool → ShareRec → ℕ
share_version old r = if old && not (says_delete r) then 1 else 2

-- Of a database and a key, as an old worker or as others write it. Open records aren't told by the view.
abbrev pub exact_in : Setup → Bool → View → Db → List ℕ → Option (List ℕ)
exact_in setup old v Opens key = None
exact_in setup old v GLock key = spelled glock_rec (always 1) (exact_lock v (lock_in key))
exact_in setup old v Locking key = spelled share_rec (share_version old) (exact_share setup v (file_in setup key))
exact_in setup old v Leases key = spelled lease_rec (always 2) (exact_lease v (name_in key))
exact_in setup old v Register key = spelled register_rec (always 1) (exact_register v (pid_in key))
exact_in setup old v Brlock key = spelled range_rec (always 1) (exact_ranges setup v (file_in setup key))
exact_in setup old v Mailbox key = spelled mail_rec (always 1) (exact_mail v (pid_in key))

-- the exact record at a place; none where the key isn't one of the database
abbrev pub exact_at : Setup → Bool → View → Place → Option (List ℕ)
exact_at setup old v p = if is_key p.db p.key then exact_in setup old v p.db p.key else None
