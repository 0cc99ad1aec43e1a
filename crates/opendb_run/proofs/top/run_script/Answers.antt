use Rattle.opendb_run.proofs.top.run_script.Goals as goal

pub returns-in-Run-clause-ended : goal.returns-in-Run-clause-ended
returns-in-Run-clause-ended g c = rw c.in-Run.is (c.print_history.ensures.ended c.in-Run.chains)

pub returns-in-SmbStatus-clause-ended : goal.returns-in-SmbStatus-clause-ended
returns-in-SmbStatus-clause-ended g c = rw c.in-SmbStatus.is (c.print_tables.ensures.ended c.in-SmbStatus.chains)
