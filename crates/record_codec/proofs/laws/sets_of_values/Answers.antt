use Rattle.record_codec.proofs.Sets.{texts, rights, shares, states, moments}
use Rattle.record_codec.proofs.laws.sets_of_values.Goals as goal

pub returns : goal.returns
returns c = record { texts = texts; rights = rights; shares = shares; states = states; moments = moments }
