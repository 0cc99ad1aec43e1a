use Rattle.records_replay.proofs.Journals.{journal_is_of_the_table, reached_is}
use Rattle.records_replay.proofs.laws.journals_are_histories.Goals as goal

pub returns : goal.returns
returns c = record { behind = reached_is; entries = journal_is_of_the_table }
