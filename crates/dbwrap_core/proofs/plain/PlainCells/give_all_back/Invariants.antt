use Rattle.dbwrap_core.proofs.Redoing.{Giving}
use Rattle.dbwrap_core.proofs.plain.PlainCells.give_all_back.Given as goal

abbrev pub invariant-loop-c : goal.invariant-loop-c
invariant-loop-c g l = Giving l.fn.self l.dead l.stop l.stored l.freed l.c l.self
