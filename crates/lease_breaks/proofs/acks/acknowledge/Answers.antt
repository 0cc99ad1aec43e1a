use Rattle.std.proofs.Common.{refl, ap, sym, subst, ◌∙◌}
use Rattle.serial_table.specs.Ack.{ack_lease}
use Rattle.server_ids.specs.Sessions.{registered}
use Rattle.record_rows.specs.Rows.{lease_row, breaking_of}
use Rattle.lease_breaks.specs.Breaks.{first_connected}
use Rattle.lease_breaks.specs.Acks.{ack_by_owner, Answers}
use Rattle.lease_breaks.specs.declared.acks.Acked.TheVariants.{Unsuccessful}
use Rattle.lease_breaks.proofs.ByOwner.{ack_is}
use Rattle.lease_breaks.proofs.Sets.{answer_keeps}
use Rattle.lease_breaks.proofs.acks.acknowledge.Goals as goal

pub returns-in-None-clause-table : goal.returns-in-None-clause-table
returns-in-None-clause-table c = λ f e.
    let rec = c.args.rec.now in
    subst (λ b. Answers (registered c.args.register.now) (ack_lease c.args.now f (lease_row c.args.name rec) c.args.state b) Unsuccessful rec rec) c.in-None.ensures (record { reply_is = refl; same = refl })

pub returns-in-Some-clause-table : goal.returns-in-Some-clause-table
returns-in-Some-clause-table c = λ f e.
    let rec = c.args.rec.now in
    let records = registered c.args.register.now in
    let row = lease_row c.args.name rec in
    subst (λ d. Answers records d c.ack_breaking.result rec c.ack_breaking.new.rec)
    (ap (ack_by_owner c.args.now (first_connected records rec) row c.args.state) c.in-Some.ensures ∙ sym (ack_is c.args.now f row c.args.state (breaking_of rec) (first_connected records rec) e))
    c.ack_breaking.ensures

pub returns-in-Some-clause-sets : goal.returns-in-Some-clause-sets
returns-in-Some-clause-sets c = λ sets timed is.
    let rec = c.args.rec.now in
    let records = registered c.args.register.now in
    answer_keeps records c.args.now (first_connected records rec) c.args.name c.args.state c.in-Some.breaking rec c.ack_breaking.new.rec c.ack_breaking.result c.ack_breaking.ensures (sym c.in-Some.ensures) sets timed is
