-- `ack` ([MS-SMB2] 3.3.5.22.2).
use Rattle.std.specs.Prelude.{ℕ, List, [], ◌∷◌, Option, Some, None, if◌then◌else◌}
use Rattle.sid_core.specs.declared.bits.LeaseState.{LeaseState}
use Rattle.sid_core.specs.declared.ids.Moment.{Moment}
use Rattle.sid_core.specs.declared.reply.Reply.TheVariants.{Done, ObjectNameNotFound, Unsuccessful, RequestNotAccepted}
use Rattle.sid_core.specs.Values.{is_part_of}
use Rattle.serial_table.specs.declared.rows.LeaseRow.{LeaseRow}
use Rattle.serial_table.specs.declared.rows.Breaking.{Breaking}
use Rattle.serial_table.specs.declared.change.Change.TheVariants.{Acknowledge}
use Rattle.serial_table.specs.declared.decision.Caller.{Caller}
use Rattle.serial_table.specs.declared.decision.Decision.{Decision}
use Rattle.serial_table.specs.View.{View}
use Rattle.serial_table.specs.File.{FileView, file_view}
use Rattle.serial_table.specs.Decision.{only_reply, spots_of}
use Rattle.serial_table.specs.Break.{Breaks, break_lease}
use Rattle.serial_table.specs.Asked.{own_lease}

-- the lease once its break is over
abbrev pub acknowledged : LeaseRow → LeaseState → LeaseRow
acknowledged lease state = record lease { held = state; breaking = None }

-- The break is over. What isn't needed is broken again at once.
abbrev pub accept : LeaseRow → LeaseState → Breaks → Decision
accept lease state again = record (only_reply Done) {
  changes = Acknowledge lease.file lease.name state ∷ again.changes;
  posts = again.posts;
  spots = spots_of lease.file;
}

abbrev pub ack_lease : Moment → FileView → LeaseRow → LeaseState → Option Breaking → Decision
ack_lease now f lease state None = only_reply Unsuccessful
ack_lease now f lease state (Some breaking) =
    if is_part_of state.0 breaking.asked.0
    then accept lease state (break_lease now lease.file f breaking.needed.0 (acknowledged lease state))
    else only_reply RequestNotAccepted

-- the lease of the name, if it is there
abbrev pub ack_first : Moment → View → List LeaseRow → LeaseState → Decision
ack_first now v [] state = only_reply ObjectNameNotFound
ack_first now v (lease ∷ others) state = ack_lease now (file_view lease.file v) lease state lease.breaking

unfoldable pub ack : View → Caller → ℕ → LeaseState → Decision
ack v caller key state = ack_first caller.moment v (v.leases_of (own_lease caller key)) state
