use Rattle.std.proofs.Common.{◌≡◌, ap, ◌∙◌}
use Rattle.std.proofs.lemmas.Result.{on_ok_weaker}
use Rattle.serial_table.specs.Local.{perform_all_in_file}
use Rattle.serial_table.specs.Break.{Breaks, both, break_lease}
use Rattle.serial_table.specs.LeaseBreak.{breaks_if_any, break_by_owner}
use Rattle.serial_table.specs.InPlace.{table_of}
use Rattle.serial_table.specs.Alone.{shown, breaks_of, owner_under}
use Rattle.serial_table.proofs.Broken.{break_is}
use Rattle.serial_table.proofs.breaks.break_lease.Goals as goal

same : (c : goal.After-make) → breaks_if_any c.args.file c.args.lease.now c.break_by_owner.result ≡ break_lease c.args.now c.args.file (shown c.args.file c.args.rows.now) c.args.kept.0 c.args.lease.now
same c =
    let lease = c.args.lease.now in
    c.break_by_owner.ensures
    ∙ ap (λ to. break_by_owner c.args.now c.args.file to c.args.kept.0 lease lease.breaking)
    (c.owner_under-to.ensures ∙ (λ i. owner_under (c.as_slice.ensures.value i) (c.as_slice-2.ensures.value i) c.args.file lease.name))
    ∙ break_is c.args.now (table_of c.args.rows.now) c.args.file c.args.kept.0 lease

pub returns-clause-done : goal.returns-clause-done
returns-clause-done c = on_ok_weaker c.make.result (λ h. h ∙ ap (both (breaks_of c.args.done.now)) (same c)) c.make.ensures.done

pub returns-clause-rows : goal.returns-clause-rows
returns-clause-rows c =
    on_ok_weaker c.make.result (λ h. h ∙ ap (λ (b : Breaks). perform_all_in_file b.changes (shown c.args.file c.args.rows.now)) (same c)) c.make.ensures.rows
