use Rattle.std.proofs.Common.{sym, subst, ◌∙◌}
use Rattle.serial_table.specs.LeaseBreak.{break_by_owner}
use Rattle.record_codec.specs.LeaseRec.{IsLeaseRec}
use Rattle.server_ids.specs.Sessions.{registered}
use Rattle.record_rows.specs.Rows.{lease_row, breaking_of}
use Rattle.lease_breaks.specs.Breaks.{first_connected, all_changed, kept, Does}
use Rattle.lease_breaks.proofs.ByOwner.{break_is}
use Rattle.lease_breaks.proofs.Sets.{kept_is_state, break_keeps}
use Rattle.lease_breaks.proofs.breaks.break_lease.Goals as goal

pub returns-clause-table : goal.returns-clause-table
returns-clause-table c = λ f e.
    let rec = c.args.rec.now in
    let records = registered c.args.register.now in
    let row = lease_row c.args.name rec in
    subst (λ b. Does records b c.break_by_owner.result rec c.break_by_owner.new.rec)
    ((λ i. break_by_owner c.args.now rec.file (c.first_connected-to.ensures i) (c.kept.ensures i) row (breaking_of rec))
    ∙ sym (break_is c.args.now rec.file f (kept c.args.bits) row (first_connected records rec) e))
    c.break_by_owner.ensures

pub returns-clause-sets : goal.returns-clause-sets
returns-clause-sets c = λ sets timed.
    let rec = c.args.rec.now in
    let records = registered c.args.register.now in
    subst IsLeaseRec (sym c.break_by_owner.ensures.changes)
    (subst (λ k. IsLeaseRec (all_changed records (break_by_owner c.args.now rec.file c.first_connected-to.result k (lease_row c.args.name rec) (breaking_of rec)).changes rec)) (sym c.kept.ensures)
    (break_keeps records c.args.now c.first_connected-to.result c.args.name (kept c.args.bits) rec (kept_is_state c.args.bits) timed sets))
