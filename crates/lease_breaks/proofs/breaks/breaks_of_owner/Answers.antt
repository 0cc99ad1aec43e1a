use Rattle.std.proofs.Common.{cond, sym, subst, ◌∙◌}
use Rattle.serial_table.specs.Break.{breaks_read, begins_to_break}
use Rattle.serial_table.specs.LeaseBreak.{breaks_of_owner}
use Rattle.server_ids.specs.Sessions.{registered}
use Rattle.record_rows.specs.Rows.{lease_row}
use Rattle.lease_breaks.specs.Breaks.{Does}
use Rattle.lease_breaks.proofs.breaks.breaks_of_owner.Goals as goal

pub returns-in-None : goal.returns-in-None
returns-in-None c =
    let rec = c.args.rec.now in
    subst (λ to. Does (registered c.args.register.now) (breaks_of_owner c.args.now rec.file to (lease_row c.args.name rec) c.args.target.0) c.breaks_at_once.result rec c.breaks_at_once.new.rec)
    (sym c.in-None.is) (c.breaks_at_once.ensures c.args.name)

pub returns-then-is_read : goal.returns-then-is_read
returns-then-is_read c =
    let rec = c.args.rec.now in
    let row = lease_row c.args.name rec in
    let records = registered c.args.register.now in
    subst (λ to. Does records (breaks_of_owner c.args.now rec.file to row c.args.target.0) c.breaks_read.result rec c.breaks_read.new.rec) (sym c.in-Some.is)
    (subst (λ b. Does records (cond b (breaks_read rec.file c.in-Some.to row c.args.target.0) (begins_to_break c.args.now rec.file c.in-Some.to row c.args.target.0)) c.breaks_read.result rec c.breaks_read.new.rec)
    (sym (sym c.is_read.ensures ∙ c.if-is_read.true)) (c.breaks_read.ensures records))

pub returns-else-is_read : goal.returns-else-is_read
returns-else-is_read c =
    let rec = c.args.rec.now in
    let row = lease_row c.args.name rec in
    let records = registered c.args.register.now in
    subst (λ to. Does records (breaks_of_owner c.args.now rec.file to row c.args.target.0) c.begins_to_break.result rec c.begins_to_break.new.rec) (sym c.in-Some.is)
    (subst (λ b. Does records (cond b (breaks_read rec.file c.in-Some.to row c.args.target.0) (begins_to_break c.args.now rec.file c.in-Some.to row c.args.target.0)) c.begins_to_break.result rec c.begins_to_break.new.rec)
    (sym (sym c.is_read.ensures ∙ c.if-is_read.false)) (c.begins_to_break.ensures records))
