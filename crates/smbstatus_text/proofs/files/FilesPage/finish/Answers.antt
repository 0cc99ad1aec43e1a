use Rattle.std.proofs.Common.{◌≡◌, ap, ◌∙◌, arith}
use Rattle.std.proofs.lemmas.Grind.{common_steps}
use Rattle.serial_table.specs.Tables.{files_page}
use Rattle.smbstatus_text.proofs.Telling.{opens_all}
use Rattle.smbstatus_text.proofs.files.FilesPage.finish.Goals as goal

pub returns-clause-table : goal.returns-clause-table
returns-clause-table c = λ setup v last tells none.
    let page : c.push_files_page.new.out.items ≡ files_page c.args.self = grind (arith, common_steps) in
    page ∙ ap files_page (opens_all setup v last c.args.self tells none)
