use Rattle.std.proofs.Common.{cond, None, refl, sym, subst, ◌∙◌}
use Rattle.std.specs.Prelude.{bit_and}
use Rattle.serial_table.specs.Break.{no_break}
use Rattle.serial_table.specs.LeaseBreak.{breaks_of_owner, break_by_owner}
use Rattle.server_ids.specs.Sessions.{registered}
use Rattle.record_rows.specs.Rows.{lease_row}
use Rattle.lease_breaks.specs.Breaks.{Does}
use Rattle.lease_breaks.proofs.breaks.break_by_owner.Goals as goal

pub returns-in-Some : goal.returns-in-Some
returns-in-Some c =
    let rec = c.args.rec.now in
    subst (λ b. Does (registered c.args.register.now) (break_by_owner c.args.now rec.file c.args.to c.args.kept.0 (lease_row c.args.name rec) b) c.breaks_further.result rec c.breaks_further.new.rec)
    c.in-Some.ensures (c.breaks_further.ensures (registered c.args.register.now) c.args.name)

pub returns-then-is_part_of : goal.returns-then-is_part_of
returns-then-is_part_of c =
    let rec = c.args.rec.now in
    let records = registered c.args.register.now in
    let row = lease_row c.args.name rec in
    subst (λ b. Does records (break_by_owner c.args.now rec.file c.args.to c.args.kept.0 row b) (record { post = None; blocks = None }) rec rec) c.in-None.ensures
    (subst (λ b. Does records (cond b no_break (breaks_of_owner c.args.now rec.file c.args.to row (bit_and rec.held.0 c.args.kept.0))) (record { post = None; blocks = None }) rec rec)
    (sym (sym c.is_part_of.ensures ∙ c.if-is_part_of.true)) (record { post = refl; blocks = refl; changes = refl }))

pub returns-else-is_part_of : goal.returns-else-is_part_of
returns-else-is_part_of c =
    let rec = c.args.rec.now in
    let records = registered c.args.register.now in
    let row = lease_row c.args.name rec in
    subst (λ b. Does records (break_by_owner c.args.now rec.file c.args.to c.args.kept.0 row b) c.breaks_of_owner.result rec c.breaks_of_owner.new.rec) c.in-None.ensures
    (subst (λ b. Does records (cond b no_break (breaks_of_owner c.args.now rec.file c.args.to row (bit_and rec.held.0 c.args.kept.0))) c.breaks_of_owner.result rec c.breaks_of_owner.new.rec)
    (sym (sym c.is_part_of.ensures ∙ c.if-is_part_of.false))
    (subst (λ target. Does records (breaks_of_owner c.args.now rec.file c.args.to row target) c.breaks_of_owner.result rec c.breaks_of_owner.new.rec) c.common_part-target.ensures c.breaks_of_owner.ensures))
