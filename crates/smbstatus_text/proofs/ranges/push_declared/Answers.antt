use Rattle.std.proofs.Common.{◌++◌, ap, ◌∙◌}
use Rattle.std.proofs.lemmas.Result.{on_ok_weaker}
use Rattle.std.specs.List.{flat_map}
use Rattle.share_modes.specs.Entries.{known}
use Rattle.smbstatus_text.specs.Opens.{found_range_row}
use Rattle.smbstatus_text.proofs.Found.{rows_by_map}
use Rattle.smbstatus_text.proofs.ranges.push_declared.Goals as goal

pub returns : goal.returns
unfolding found_range_row
returns c =
    let a = c.args in
    let records = known a.leases.now a.register.now in
    on_ok_weaker c.push_ranges.result (λ e.
    e
    ∙ ap (λ ranges. a.out.now.items ++ flat_map (found_range_row a.info.now records a.ranges.now.file c.in_ok-opens.opens) ranges) c.as_slice.ensures
    ∙ ap (λ l. a.out.now.items ++ l) (rows_by_map a.info.now records a.ranges.now.file a.entries.now c.in_ok-opens.opens c.in_ok-opens.ensures a.ranges.now.ranges)) c.push_ranges.ensures
