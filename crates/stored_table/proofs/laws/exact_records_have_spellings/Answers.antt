use Rattle.stored_table.proofs.Spelling.{have_spellings, added_has_spelling}
use Rattle.stored_table.proofs.laws.exact_records_have_spellings.Goals as goal

pub returns : goal.returns
returns c = record { exact = have_spellings; added = λ setup t e is sets sound bounds. added_has_spelling setup t is sets sound bounds e }
