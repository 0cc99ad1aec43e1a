use Rattle.std.proofs.Common.{◌≡◌, ap, ◌∙◌, arith}
use Rattle.std.proofs.lemmas.Grind.{common_steps}
use Rattle.serial_table.specs.Tables.{ranges_page}
use Rattle.smbstatus_text.proofs.Telling.{ranges_all}
use Rattle.smbstatus_text.proofs.ranges.RangesPage.finish.Goals as goal

pub returns-clause-table : goal.returns-clause-table
returns-clause-table c = λ setup v last tells none.
    let page : c.push_ranges_page.new.out.items ≡ ranges_page c.args.self = grind (arith, common_steps) in
    page ∙ ap ranges_page (ranges_all setup v last c.args.self tells none)
