use Rattle.std.proofs.Common.{◌++◌, [], sym, ap, ◌∙◌}
use Rattle.std.proofs.lemmas.Result.{on_ok_weaker}
use Rattle.std.specs.List.{flat_map}
use Rattle.std.specs.Option.{option_copied, option_map_or}
use Rattle.share_modes.specs.Entries.{known}
use Rattle.smbstatus_text.specs.Rows.{counted_range_row}
use Rattle.smbstatus_text.proofs.ranges.push_file.Goals as goal

pub returns-in-Some : goal.returns-in-Some
returns-in-Some c =
    let a = c.args in
    on_ok_weaker c.push_declared.result (λ e.
    e
    ∙ ap (λ o. a.out.now.items ++ option_map_or (λ info. flat_map (counted_range_row info (known a.leases.now a.register.now) a.ranges.now.file a.entries.now) a.ranges.now.ranges) o [])
    (sym (ap option_copied c.in-Some.is) ∙ c.declared.ensures)) c.push_declared.ensures
