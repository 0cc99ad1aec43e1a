use Rattle.std.proofs.Common.{cond, refl, ap, sym, subst, ◌∙◌}
use Rattle.std.specs.Option.{option_map}
use Rattle.sid_core.specs.declared.reply.Reply.TheVariants.{RequestNotAccepted}
use Rattle.serial_table.specs.declared.rows.Breaking.{Breaking}
use Rattle.serial_table.specs.Decision.{only_reply}
use Rattle.server_ids.specs.Sessions.{registered}
use Rattle.record_rows.specs.Rows.{lease_row}
use Rattle.lease_breaks.specs.Breaks.{first_connected}
use Rattle.lease_breaks.specs.Acks.{accept_by_owner, Answers}
use Rattle.lease_breaks.specs.declared.acks.Acked.TheVariants.{NotAccepted}
use Rattle.lease_breaks.proofs.acks.ack_breaking.Goals as goal

pub returns-then-is_part_of : goal.returns-then-is_part_of
returns-then-is_part_of c =
    let rec = c.args.rec.now in
    let records = registered c.args.register.now in
    subst (λ b. Answers records (cond b (accept_by_owner c.args.now (first_connected records rec) (lease_row c.args.name rec) c.args.state c.args.breaking.needed) (only_reply RequestNotAccepted)) c.accept.result rec c.accept.new.rec)
    (sym (sym c.is_part_of.ensures ∙ c.if-is_part_of.true)) c.accept.ensures

pub returns-else-is_part_of : goal.returns-else-is_part_of
returns-else-is_part_of c =
    let rec = c.args.rec.now in
    let records = registered c.args.register.now in
    subst (λ b. Answers records (cond b (accept_by_owner c.args.now (first_connected records rec) (lease_row c.args.name rec) c.args.state c.args.breaking.needed) (only_reply RequestNotAccepted)) (NotAccepted c.args.breaking.asked) rec rec)
    (sym (sym c.is_part_of.ensures ∙ c.if-is_part_of.false)) (record { reply_is = refl; same = refl }, ap (option_map (λ (b : Breaking). b.asked)) c.requires)
