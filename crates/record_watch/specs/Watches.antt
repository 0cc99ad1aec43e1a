-- Watches and tokens of records as a table has them.
use Rattle.std.specs.Prelude.{ℕ, Bool, List, [], ◌∷◌, ◌++◌, filter, map, None}
use Rattle.std.specs.Ordering.{nat_cmp}
use Rattle.std.specs.FinMap as map
use Rattle.std.specs.FinMap.{FinMap}
use Rattle.sid_core.specs.declared.ids.Sid.{Sid}
use Rattle.sid_core.specs.declared.ids.Spot.{Spot}
use Rattle.serial_table.specs.declared.rows.WaiterRow.{WaiterRow}
use Rattle.serial_table.specs.declared.rows.Watch.{Watch}
use Rattle.serial_table.specs.View as table
use Rattle.serial_table.specs.View.{watch_on, watch_behind, token_of}
use Rattle.record_codec.specs.declared.watch.WatchRec.{WatchRec}
use Rattle.record_codec.specs.declared.mail_rec.MailRec.{MailRec}
use Rattle.record_codec.specs.declared.register_rec.RegisterRec.{RegisterRec}
use Rattle.record_codec.specs.Counts.{Records, watch_counts, register_watch_counts}
use Rattle.record_rows.specs.Rows.{watch_of, watch_row}
use Rattle.record_rows.specs.Rows as rows

-- ---- a call that waits

-- What its blocker is, no watch and no token tells.
abbrev pub waiter : Sid → Spot → ℕ → Bool → WaiterRow
waiter sid spot call upgrade = record { sid = sid; call = call; spot = spot; blocker = None; upgrade = upgrade }

-- the list of the spot
abbrev pub with_watch : WaiterRow → List WatchRec → List WatchRec
with_watch w list = list ++ watch_of (watch_on w.spot w) ∷ []

abbrev pub with_one_watch : WatchRec → RegisterRec → RegisterRec
with_one_watch watch rec = record rec { watchers = rec.watchers ++ watch ∷ [] }

-- the record of the session in its way
abbrev pub with_watch_behind : WaiterRow → RegisterRec → RegisterRec
with_watch_behind w = with_one_watch (watch_of (watch_behind w))

-- its session's mailbox
abbrev pub with_token : WaiterRow → MailRec → MailRec
with_token w mail = record mail { tokens = mail.tokens ++ rows.token_of (token_of w) ∷ [] }

-- ---- which watches count

-- the mailboxes alone, as what decides what counts
abbrev pub mailed : FinMap nat_cmp MailRec → Records
mailed mails = record { register = λ _. None; mail = map.get mails; lease = λ _. None; share = λ _. None }

-- those of a spot's list that count
abbrev pub counted_on : FinMap nat_cmp MailRec → Spot → List WatchRec → List Watch
counted_on mails spot list = map watch_row (filter (watch_counts (mailed mails) spot) list)

-- those of a worker's record that count
abbrev pub counted_behind : FinMap nat_cmp MailRec → List WatchRec → List Watch
counted_behind mails list = map watch_row (filter (register_watch_counts (mailed mails)) list)
