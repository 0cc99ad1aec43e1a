use Rattle.turn_types.proofs.Runs as runs
use Rattle.turn_types.proofs.laws.journals_of_a_rule.Goals as goal

pub returns-clause-front : goal.returns-clause-front
returns-clause-front g c rule k before behind l = runs.legal_front (g.R.Replay.step rule) (g.R.Replay.legal rule) (g.R.Replay.follows rule) k before behind l

pub returns-clause-longer : goal.returns-clause-longer
returns-clause-longer g c rule k journal entry l may after = runs.legal_snoc (g.R.Replay.step rule) (g.R.Replay.legal rule) (g.R.Replay.follows rule) k journal entry l may after

pub returns-clause-as_many : goal.returns-clause-as_many
returns-clause-as_many g c rule k journal began l = runs.legal_length (g.R.Replay.step rule) (g.R.Replay.legal rule) (g.R.Replay.follows rule) k (g.R.Replay.first rule) (g.R.Replay.names rule) (g.R.Replay.law rule) began journal l

pub returns-clause-untouched : goal.returns-clause-untouched
returns-clause-untouched g c rule k before behind n began l u = runs.untouched (g.R.Replay.step rule) (g.R.Replay.legal rule) (g.R.Replay.follows rule) k (g.R.Replay.first rule) (g.R.Replay.names rule) (g.R.Replay.law rule) began before behind n l u

pub returns-clause-moved : goal.returns-clause-moved
returns-clause-moved g c rule k one other entry began l m after after_other may agree = runs.moved (g.R.Replay.step rule) (g.R.Replay.legal rule) (g.R.Replay.follows rule) k (g.R.Replay.first rule) (g.R.Replay.names rule) (g.R.Replay.law rule) began one other entry l m after after_other may agree
