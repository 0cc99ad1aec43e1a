use Rattle.sid_core.proofs.Spelling.{word-back, state-back, share-back, lock-back, glock-back}
use Rattle.sid_core.proofs.laws.words_are_read_back.Goals as goal

pub returns : goal.returns
returns c = record { calls = word-back; states = state-back; shares = share-back; lock_modes = lock-back; glock_modes = glock-back }
