-- Holds of records as a table has them, and when a table shows of a lock what counts in its record.
use Rattle.std.specs.Prelude.{◌≡◌, ℕ, true, not, List, map, filter}
use Rattle.std.specs.Ordering.{nat_cmp}
use Rattle.std.specs.FinMap.{FinMap}
use Rattle.sid_core.specs.declared.ids.Sid.{Sid}
use Rattle.sid_core.specs.declared.ids.Spot.TheVariants.{LockOf}
use Rattle.serial_table.specs.declared.rows.HoldRow.{HoldRow}
use Rattle.serial_table.specs.declared.decision.Caller.{Caller}
use Rattle.serial_table.specs.View.{View}
use Rattle.record_codec.specs.declared.glock_rec.Hold.{Hold}
use Rattle.record_codec.specs.declared.glock_rec.GLockRec.{GLockRec}
use Rattle.record_codec.specs.declared.mail_rec.MailRec.{MailRec}
use Rattle.record_codec.specs.declared.register_rec.RegisterRec.{RegisterRec}
use Rattle.record_codec.specs.Counts.{lives, hold_counts}
use Rattle.server_ids.specs.Sessions.{registered}
use Rattle.record_watch.specs.Watches.{counted_on}
use Rattle.record_rows.specs.Rows.{hold_row}

-- the holds of the lock that count
abbrev pub counted_holds : FinMap nat_cmp RegisterRec → ℕ → List Hold → List HoldRow
counted_holds register key holds = map (hold_row key) (filter (hold_counts (registered register)) holds)

-- The session is a living one, and calls before a table that has the holds of the lock that count.
pub record AsksBefore (register : FinMap nat_cmp RegisterRec) (key : ℕ) (holds : List Hold) (sid : Sid) (v : View) (caller : Caller) : Type 0 where
  pub living : lives (registered register) sid ≡ true
  pub caller_is : caller.sid ≡ sid
  pub holds_are : v.holds_of key ≡ counted_holds register key holds

-- And of those who wait for it, the table has those that count.
pub record AsksAmong (register : FinMap nat_cmp RegisterRec) (mails : FinMap nat_cmp MailRec) (key : ℕ) (rec : GLockRec) (sid : Sid) (v : View) (caller : Caller) : Type 0 where
  pub before : AsksBefore register key rec.holds sid v caller
  pub watches_are : v.watches_on (LockOf key) ≡ counted_on mails (LockOf key) rec.watchers

-- those that don't
abbrev pub stale_holds : FinMap nat_cmp RegisterRec → List Hold → List Hold
stale_holds register holds = filter (λ hold. not (hold_counts (registered register) hold)) holds
