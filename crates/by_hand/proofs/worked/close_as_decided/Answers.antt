use Rattle.std.specs.Prelude.{[], ◌∷◌}
use Rattle.std.proofs.Common.{arith}
use Rattle.dbwrap_core.specs.Plain.{beside_of, shown_at}
use Rattle.by_hand.specs.Worked.{opened, closed, missed}
use Rattle.by_hand.proofs.Idling.{on_ok}
use Rattle.by_hand.proofs.Setting.{either_decides, either_long, close_entry, miss_entry, behind_more}
use Rattle.by_hand.proofs.worked.close_as_decided.Goals as goal

pub by_hand-requires-clause-databases : goal.by_hand-requires-clause-databases
by_hand-requires-clause-databases g c = (omega arith, omega arith, either_long (beside_of c.args.cells.now) (shown_at c.args.cells.now 1) c.args.decision.now c.requires.before)

pub by_hand-requires-clause-decided : goal.by_hand-requires-clause-decided
by_hand-requires-clause-decided g c = either_decides (beside_of c.args.cells.now) (shown_at c.args.cells.now 1) c.args.decision.now c.requires.before c.requires.decision

pub returns-clause-closed : goal.returns-clause-closed
returns-clause-closed g c = λ is. let b = beside_of c.args.cells.now in let v = shown_at c.args.cells.now 1 in let d = beside_of c.by_hand.new.cells in let w = shown_at c.by_hand.new.cells 1 in let e = c.by_hand.ensures in
    on_ok c.by_hand.result (λ h. behind_more (opened ∷ []) closed _ v w b d is e.same e.leaves e.idle h (close_entry b v c.args.decision.now is c.requires.decision)) e.carried_out

pub returns-clause-missed : goal.returns-clause-missed
returns-clause-missed g c = λ is. let b = beside_of c.args.cells.now in let v = shown_at c.args.cells.now 1 in let d = beside_of c.by_hand.new.cells in let w = shown_at c.by_hand.new.cells 1 in let e = c.by_hand.ensures in
    on_ok c.by_hand.result (λ h. behind_more [] missed _ v w b d is e.same e.leaves e.idle h (miss_entry b v c.args.decision.now is c.requires.decision)) e.carried_out
