use Rattle.sid_core.proofs.Spelling.{word-spelled, state-spelled, share-spelled, lock-spelled, glock-spelled}
use Rattle.sid_core.proofs.laws.words_have_one_spelling.Goals as goal

pub returns : goal.returns
returns c = record { calls = word-spelled; states = state-spelled; shares = share-spelled; lock_modes = lock-spelled; glock_modes = glock-spelled }
