use Rattle.records_replay.proofs.Lawful.{names_alike, makes_alike, changes_its_names}
use Rattle.records_replay.proofs.laws.entries_go_by_their_names.Goals as goal

pub returns : goal.returns
returns c = record { alike = names_alike; makes = makes_alike; changes = changes_its_names }
