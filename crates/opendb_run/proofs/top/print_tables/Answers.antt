use Rattle.std.proofs.Common.{subst, sym}
use Rattle.sid_core.specs.Faults.{Rose}
use Rattle.opendb_run.specs.declared.words.Command.TheVariants.{SmbStatus}
use Rattle.opendb_run.specs.Run.{ScriptEnded}
use Rattle.opendb_run.proofs.Playing.{end_shows}
use Rattle.opendb_run.proofs.Ending.{tables_cut}
use Rattle.opendb_run.proofs.top.print_tables.Goals as goal

pub returns-in-Ok-clause-ended : goal.returns-in-Ok-clause-ended
returns-in-Ok-clause-ended g c = λ chains.
    (_, end_shows c.args.script.now c.args.chosen c.requires (c.scripts_are_taken.ensures c.args.script.now c.requires), c.in-Ok.ensures.done)

pub returns-in-Err-clause-ended : goal.returns-in-Err-clause-ended
returns-in-Err-clause-ended g c = λ chains.
    subst (λ status. ScriptEnded (SmbStatus c.args.chosen chains) c.args.script.now (g.O.Sink.written c.args.out.now) (g.O.Sink.written c.show.new.out) (Rose (g.O.Sink.faults c.args.out.now) (g.O.Sink.faults c.show.new.out)) status) (sym c.status_of_cut.ensures)
    (tables_cut c.args.script.now c.args.chosen c.requires (c.scripts_are_taken.ensures c.args.script.now c.requires) chains _ _ _ c.in-Err.cut c.in-Err.ensures.cut)
