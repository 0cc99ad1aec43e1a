use Rattle.std.specs.Prelude.{[]}
use Rattle.dbwrap_core.specs.Plain.{beside_of, shown_at}
use Rattle.by_hand.specs.Worked.{opened}
use Rattle.by_hand.proofs.Idling.{on_ok}
use Rattle.by_hand.proofs.Setting.{open_decides, open_entry, behind_more}
use Rattle.by_hand.proofs.worked.open_as_decided.Goals as goal

pub by_hand-requires-clause-decided : goal.by_hand-requires-clause-decided
by_hand-requires-clause-decided g c = open_decides (beside_of c.args.cells.now) (shown_at c.args.cells.now 1) c.args.decision.now c.requires.before c.requires.decision

pub returns-clause-opened : goal.returns-clause-opened
returns-clause-opened g c = let b = beside_of c.args.cells.now in let v = shown_at c.args.cells.now 1 in let d = beside_of c.by_hand.new.cells in let w = shown_at c.by_hand.new.cells 1 in let e = c.by_hand.ensures in
    on_ok c.by_hand.result (λ h. behind_more [] opened _ v w b d c.requires.before e.same e.leaves e.idle h (open_entry b v c.args.decision.now c.requires.before c.requires.decision)) e.carried_out
