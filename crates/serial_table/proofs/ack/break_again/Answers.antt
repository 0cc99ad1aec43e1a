use Rattle.std.proofs.Common.{◌≡◌, ℕ, Option, Some, None, refl, sym, ap, ◌∙◌}
use Rattle.sid_core.specs.declared.bits.LeaseState.{LeaseState}
use Rattle.serial_table.specs.declared.rows.LeaseRow.{LeaseRow}
use Rattle.serial_table.specs.declared.lease_break.LeaseBreak.{LeaseBreak}
use Rattle.serial_table.specs.LeaseBreak.{breaks_if_any, break_by_owner}
use Rattle.serial_table.specs.Alone.{owner_under}
use Rattle.serial_table.specs.Ack.{acknowledged}
use Rattle.serial_table.proofs.Broken.{break_is}
use Rattle.serial_table.proofs.ack.break_again.Goals as goal

by_name : (file : ℕ) (lease : LeaseRow) (state : LeaseState) (b : Option LeaseBreak) → breaks_if_any file lease b ≡ breaks_if_any file (acknowledged lease state) b
by_name file lease state None = refl
by_name file lease state (Some b) = refl

pub returns : goal.returns
returns c =
    let lease = c.args.lease.now in
    let then : LeaseRow = acknowledged lease c.args.state in
    let needed = c.args.needed.0 in
    by_name lease.file lease c.args.state c.break_by_owner.result
    ∙ ap (λ (l : LeaseRow). breaks_if_any lease.file l c.break_by_owner.result) (sym c.acknowledged.ensures)
    ∙ c.break_by_owner.ensures
    ∙ ap (λ (l : LeaseRow). break_by_owner c.args.now lease.file c.owner_under-to.result needed l l.breaking) c.acknowledged.ensures
    ∙ ap (λ to. break_by_owner c.args.now lease.file to needed then then.breaking)
    (c.owner_under-to.ensures ∙ (λ i. owner_under (c.as_slice.ensures i) (c.as_slice-2.ensures i) lease.file lease.name))
    ∙ break_is c.args.now c.args.table.now lease.file needed then
