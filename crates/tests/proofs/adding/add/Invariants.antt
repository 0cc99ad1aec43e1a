use Rattle.std.proofs.Common.{◌≡◌}
use Rattle.turn_types.specs.Beside.{WhereTold, Leaves}
use Rattle.tests.specs.Adding.{At}
use Rattle.tests.proofs.adding.add.Given as goal

-- what the pass reached so far, and what that left of the others
abbrev pub invariant-loop : goal.invariant-loop
invariant-loop g l =
    let v = g.C.Cells.shown l.fn.cells in let w = g.C.Cells.shown l.cells in
    (g.C.Cells.bond l.cells ≡ g.C.Cells.bond l.fn.cells) × (g.C.Cells.chains l.cells ≡ g.C.Cells.chains l.fn.cells)
    × WhereTold (Leaves v w) (g.C.Cells.beside l.fn.cells) (g.C.Cells.beside l.cells) × (w.number ≡ v.number) × At v l.c l.stage w
