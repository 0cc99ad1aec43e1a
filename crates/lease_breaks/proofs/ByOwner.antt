-- The table breaks a lease by the owner of its first connected open.
use Rattle.std.proofs.Common.{◌≡◌, ℕ, cond, List, [], ◌∷◌, Option, Some, None, refl, ap, ◌∙◌}
use Rattle.std.specs.Prelude.{bit_and}
use Rattle.sid_core.specs.declared.ids.Sid.{Sid}
use Rattle.sid_core.specs.declared.ids.Moment.{Moment}
use Rattle.sid_core.specs.declared.bits.LeaseState.{LeaseState}
use Rattle.sid_core.specs.declared.reply.Reply.TheVariants.{RequestNotAccepted}
use Rattle.sid_core.specs.Values.{is_part_of}
use Rattle.serial_table.specs.declared.rows.OpenRow.{OpenRow}
use Rattle.serial_table.specs.declared.rows.LeaseRow.{LeaseRow}
use Rattle.serial_table.specs.declared.rows.Breaking.{Breaking}
use Rattle.serial_table.specs.File.{FileView}
use Rattle.serial_table.specs.Decision.{only_reply}
use Rattle.serial_table.specs.Break.{no_break, breaks_to, break_by, break_lease, connected_under, first_owner}
use Rattle.serial_table.specs.LeaseBreak.{breaks_of_owner, break_by_owner}
use Rattle.serial_table.specs.Ack.{acknowledged, accept, ack_lease}
use Rattle.lease_breaks.specs.Acks.{ack_by_owner}

to_is : (now : Moment) (file : ℕ) (connected : List OpenRow) (lease : LeaseRow) (target : ℕ) → breaks_to now file connected lease target ≡ breaks_of_owner now file (first_owner connected) lease target
to_is now file [] lease target = refl
to_is now file (first ∷ others) lease target = refl

of_list : (now : Moment) (file : ℕ) (connected : List OpenRow) (k : ℕ) (lease : LeaseRow) (b : Option Breaking) → break_by now file connected k lease b ≡ break_by_owner now file (first_owner connected) k lease b
of_list now file connected k lease (Some b) = refl
of_list now file connected k lease None = ap (cond (is_part_of lease.held.0 k) no_break) (to_is now file connected lease (bit_and lease.held.0 k))

pub break_is : (now : Moment) (file : ℕ) (f : FileView) (k : ℕ) (lease : LeaseRow) (to : Option Sid) → first_owner (connected_under f lease.name) ≡ to
    → break_lease now file f k lease ≡ break_by_owner now file to k lease lease.breaking
unfolding break_lease
break_is now file f k lease to e = of_list now file (connected_under f lease.name) k lease lease.breaking ∙ ap (λ o. break_by_owner now file o k lease lease.breaking) e

pub ack_is : (now : Moment) (f : FileView) (lease : LeaseRow) (state : LeaseState) (b : Option Breaking) (to : Option Sid) → first_owner (connected_under f lease.name) ≡ to
    → ack_lease now f lease state b ≡ ack_by_owner now to lease state b
ack_is now f lease state None to e = refl
ack_is now f lease state (Some b) to e =
    ap (λ again. cond (is_part_of state.0 b.asked.0) (accept lease state again) (only_reply RequestNotAccepted)) (break_is now lease.file f b.needed.0 (acknowledged lease state) to e)
