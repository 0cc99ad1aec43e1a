-- What an acknowledgement makes of the record of the lease.
use Rattle.std.specs.Prelude.{◌≡◌, Option, Some, None, if◌then◌else◌}
use Rattle.std.specs.Option.{option_map}
use Rattle.sid_core.specs.declared.ids.Sid.{Sid}
use Rattle.sid_core.specs.declared.ids.Moment.{Moment}
use Rattle.sid_core.specs.declared.bits.LeaseState.{LeaseState}
use Rattle.sid_core.specs.declared.entry.Post.{Post}
use Rattle.sid_core.specs.declared.reply.Reply.TheVariants as reply
use Rattle.serial_table.specs.declared.rows.LeaseRow.{LeaseRow}
use Rattle.serial_table.specs.declared.rows.Breaking.{Breaking}
use Rattle.serial_table.specs.declared.decision.Decision.{Decision}
use Rattle.sid_core.specs.Values.{is_part_of}
use Rattle.serial_table.specs.Decision.{only_reply}
use Rattle.serial_table.specs.LeaseBreak.{letters, break_by_owner}
use Rattle.serial_table.specs.Ack.{acknowledged, accept}
use Rattle.record_codec.specs.declared.lease_rec.LeaseRec.{LeaseRec}
use Rattle.record_codec.specs.Counts.{Records}
use Rattle.record_rows.specs.Rows.{breaking_of}
use Rattle.lease_breaks.specs.Breaks.{all_changed, settled}
use Rattle.lease_breaks.specs.declared.acks.Acked.{Acked}
use Rattle.lease_breaks.specs.declared.acks.Acked.TheVariants.{Unsuccessful, NotAccepted, Taken}

-- The record changes as the table decides, and settles; its letter is posted.
pub record IsTaken (records : Records) (d : Decision) (post : Option Post) (old new : LeaseRec) : Type 0 where
  pub done : d.reply ≡ reply.Done
  pub letter : letters post ≡ d.posts
  pub changes : new ≡ settled records (all_changed records d.changes old)

-- The record stays as it is, and the table only replies that.
pub record IsRefused (d reply : Decision) (old new : LeaseRec) : Type 0 where
  pub reply_is : d ≡ reply
  pub same : new ≡ old

-- The answer is the one that the table decides. A state that isn't accepted is answered with the one that is asked.
abbrev pub Answers : Records → Decision → Acked → LeaseRec → LeaseRec → Type 0
Answers records d Unsuccessful old new = IsRefused d (only_reply reply.Unsuccessful) old new
Answers records d (NotAccepted asked) old new = IsRefused d (only_reply reply.RequestNotAccepted) old new × (option_map (λ b. b.asked) (breaking_of old) ≡ Some asked)
Answers records d (Taken post) old new = IsTaken records d post old new

-- ---- for the code: the same by the owner of the first open that is connected

abbrev pub accept_by_owner : Moment → Option Sid → LeaseRow → LeaseState → LeaseState → Decision
accept_by_owner now to lease state needed = accept lease state (break_by_owner now lease.file to needed.0 (acknowledged lease state) None)

abbrev pub ack_by_owner : Moment → Option Sid → LeaseRow → LeaseState → Option Breaking → Decision
ack_by_owner now to lease state None = only_reply reply.Unsuccessful
ack_by_owner now to lease state (Some breaking) =
    if is_part_of state.0 breaking.asked.0 then accept_by_owner now to lease state breaking.needed else only_reply reply.RequestNotAccepted
