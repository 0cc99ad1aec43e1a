use Rattle.std.proofs.Common.{codes}
use Rattle.opendb_run.proofs.Pieces.{on_ok_after}
use Rattle.opendb_run.proofs.lines.reply.push_leased.Goals as goal

pub returns : goal.returns
returns c = on_ok_after _ _ _ _ (codes "GRANTED lease=") _ c.in_ok-push.ensures.ok (on_ok_after _ _ _ _ _ _ c.in_ok-push_state.ensures c.push_if.ensures)
