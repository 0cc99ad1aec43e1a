use Rattle.table_laws.proofs.OpenFiles.{name_their_files}
use Rattle.table_laws.proofs.laws.open_records_name_the_files_of_their_opens.Goals as goal

pub returns : goal.returns
returns c = λ setup n history is some legal. name_their_files setup n is history some legal
