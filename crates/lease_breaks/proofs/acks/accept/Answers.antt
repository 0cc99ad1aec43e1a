use Rattle.std.proofs.Common.{refl, ap, subst, None, ◌∙◌}
use Rattle.serial_table.specs.LeaseBreak.{break_by_owner}
use Rattle.serial_table.specs.Ack.{acknowledged}
use Rattle.server_ids.specs.Sessions.{registered}
use Rattle.record_rows.specs.Rows.{lease_row, breaking_of}
use Rattle.lease_breaks.specs.Breaks.{first_connected, with_state, settled, Does}
use Rattle.lease_breaks.proofs.acks.accept.Goals as goal

pub returns : goal.returns
returns c =
    let rec = c.args.rec.now in
    let records = registered c.args.register.now in
    let mid = c.hold.new.rec in
    let again = c.break_by_owner-again.result in
    let left = c.break_by_owner-again.new.rec in
    let does : Does records (break_by_owner c.args.now rec.file (first_connected records rec) c.args.needed.0 (acknowledged (lease_row c.args.name rec) c.args.state) None) again (with_state c.args.state None rec) left =
    subst (λ m. Does records (break_by_owner c.args.now m.file (first_connected records m) c.args.needed.0 (lease_row c.args.name m) (breaking_of m)) again m left) c.hold.ensures
    (subst (λ o. Does records (break_by_owner c.args.now mid.file o c.args.needed.0 (lease_row c.args.name mid) (breaking_of mid)) again mid left) c.first_connected-to.ensures c.break_by_owner-again.ensures) in
    record { done = refl; letter = does.post; changes = c.settle.ensures.record ∙ ap (settled records) does.changes }
