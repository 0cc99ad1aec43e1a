use Rattle.std.proofs.Common.{◌&&◌, ◌∙◌}
use Rattle.record_txn.proofs.Hands.{one_held}
use Rattle.record_txn.proofs.txn.dies_at_first.Goals as goal

pub returns : goal.returns
returns c = λ j. c.is_take.ensures j && (c.is_empty.ensures ∙ one_held c.args.hand.now) j
