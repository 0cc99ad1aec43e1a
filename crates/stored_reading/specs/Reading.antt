-- What chains show, read from their records alone: under each key what counts in the record there, as rows of a table.
use Rattle.std.specs.Prelude.{ℕ, ◌+◌, ◌==◌, Bool, if◌then◌else◌, List, [], ◌∷◌, map, filter, Option, Some, None}
use Rattle.std.specs.Option.{option_map, option_map_or, option_and_then}
use Rattle.sid_core.specs.declared.ids.Sid.{Sid}
use Rattle.sid_core.specs.declared.ids.LeaseName.{LeaseName}
use Rattle.sid_core.specs.declared.ids.Spot.{Spot}
use Rattle.sid_core.specs.declared.ids.Spot.TheVariants.{OpenOf, RangesOf, LockOf}
use Rattle.sid_core.specs.declared.entry.Letter.{Letter}
use Rattle.sid_core.specs.declared.entry.Post.{Post}
use Rattle.sid_core.specs.declared.setup.Setup.{Setup}
use Rattle.serial_table.specs.declared.rows.OpenRow.{OpenRow}
use Rattle.serial_table.specs.declared.rows.LeaseRow.{LeaseRow}
use Rattle.serial_table.specs.declared.rows.HoldRow.{HoldRow}
use Rattle.serial_table.specs.declared.rows.WorkerRow.{WorkerRow}
use Rattle.serial_table.specs.declared.rows.EndedRow.{EndedRow}
use Rattle.serial_table.specs.View.{View, Token, is_of_handle, has_id}
use Rattle.record_codec.specs.declared.watch.WatchRec.{WatchRec}
use Rattle.record_codec.specs.declared.open_rec.OpenRec.{OpenRec}
use Rattle.record_codec.specs.declared.register_rec.RegisterRec.{RegisterRec}
use Rattle.record_codec.specs.declared.mail_rec.MailRec.{MailRec}
use Rattle.record_codec.specs.declared.mail_rec.Token as mail
use Rattle.record_codec.specs.Counts.{lives, hold_counts, watch_counts, register_watch_counts, settled_lease}
use Rattle.record_rows.specs.Rows.{open_row, lease_row, range_row, hold_row, watch_row}
use Rattle.stored_table.specs.Places.{Chains}
use Rattle.stored_table.specs.Decoded.{AllRecords, deciding, records_of}
use Rattle.stored_table.specs.Shown.{part_of, valid_entries, valid_ranges, open_watches, range_watches, pending_shown}

-- ---- opens

abbrev pub opens_read : AllRecords → ℕ → List OpenRow
opens_read s file = map (open_row file) (valid_entries s file)

-- of the file that an open record names, the opens that pass
abbrev pub opens_named : AllRecords → (OpenRow → Bool) → Option OpenRec → List OpenRow
opens_named s passes None = []
opens_named s passes (Some r) = filter passes (opens_read s r.file)

-- ---- leases, holds and watches

-- the settled lease of a name, whatever its file
abbrev pub leases_read : AllRecords → LeaseName → List LeaseRow
leases_read s name = option_map_or (λ r. lease_row name r ∷ []) (option_and_then (settled_lease (deciding s)) (s.leases name)) []

abbrev pub holds_read : AllRecords → ℕ → List HoldRow
holds_read s key = map (hold_row key) (part_of (λ r. filter (hold_counts (deciding s)) r.holds) (s.locks key))

-- those whose token is there
abbrev pub lock_watches : AllRecords → ℕ → List WatchRec
lock_watches s key = part_of (λ r. filter (watch_counts (deciding s) (LockOf key)) r.watchers) (s.locks key)

abbrev pub watches_at : AllRecords → Spot → List WatchRec
watches_at s (OpenOf file) = open_watches s file
watches_at s (RangesOf file) = range_watches s file
watches_at s (LockOf key) = lock_watches s key

-- The register record of a pid has those who wait behind the worker's current session. Nobody waits behind another.
abbrev pub watches_behind : AllRecords → Sid → List WatchRec
watches_behind s sid = if lives (deciding s) sid then part_of (λ r. filter (register_watch_counts (deciding s)) r.watchers) (s.register sid.pid) else []

-- ---- mailboxes

abbrev pub if_of_session : ℕ → MailRec → Option MailRec
if_of_session session r = if r.session == session then Some r else None

-- the mailbox of a session; that of another session of the pid isn't its
abbrev pub mailbox_of : AllRecords → Sid → Option MailRec
mailbox_of s sid = option_and_then (if_of_session sid.session) (s.mail sid.pid)

abbrev pub token_row : mail.Token → Token
token_row t = record { spot = t.spot; call = t.call }

abbrev pub post_to : Sid → Letter → Post
post_to sid letter = record { to = sid; letter = letter }

-- ---- workers

abbrev pub worker_row : ℕ → RegisterRec → WorkerRow
worker_row pid r = record { worker = r.worker; pid = pid; alive = r.alive; session = r.session; connected = record { 0 = r.connected } }

-- the ends of a pid's sessions, from the session with this number on
abbrev pub ended_rows : ℕ → ℕ → List ℕ → List EndedRow
ended_rows pid session [] = []
ended_rows pid session (moment ∷ moments) = record { sid = record { pid = pid; session = session }; moment = record { 0 = moment } } ∷ ended_rows pid (session + 1) moments

-- ---- all of it

abbrev pub view_of_records : AllRecords → View
view_of_records s = record {
  opens_of = λ file. opens_read s file;
  -- the open record of a handle stands under its owner's pid
  opens_of_handle = λ owner handle. opens_named s (is_of_handle owner handle) (s.opens owner.pid handle);
  opens_of_id = λ id. opens_named s (has_id id) (s.opens id.pid id.call);
  leases_of = λ name. leases_read s name;
  ranges_of = λ file. map (range_row file) (valid_ranges s file);
  holds_of = λ key. holds_read s key;
  watches_on = λ spot. map watch_row (watches_at s spot);
  watches_behind = λ sid. map watch_row (watches_behind s sid);
  tokens_of = λ sid. map token_row (part_of (λ r. r.tokens) (mailbox_of s sid));
  letters_of = λ sid. map (post_to sid) (part_of (λ r. r.letters) (mailbox_of s sid));
  worker_of = λ pid. option_map (worker_row pid) (s.register pid);
  ended_of = λ pid. ended_rows pid 1 (part_of (λ r. r.ended) (s.register pid));
  is_pending = λ file. pending_shown s file;
}

-- what the databases show, with so many chains each
abbrev pub view_of_chains : Setup → ℕ → Chains → View
view_of_chains setup n k = view_of_records (records_of setup n k)
