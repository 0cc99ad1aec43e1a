use Rattle.std.proofs.Common.{ap, ◌∙◌, []}
use Rattle.std.specs.Option.{is_some}
use Rattle.leases_db.proofs.OtherFile.{file_is, table_is, table_by_record}
use Rattle.leases_db.proofs.refs.elsewhere.Goals as goal

pub returns-in-Some-clause-file : goal.returns-in-Some-clause-file
returns-in-Some-clause-file c = rw c.in-Some.is (λ name. c.file_of.ensures ∙ file_is name c.args.file c.in-Some.rec.now)

pub returns-in-Some-clause-table : goal.returns-in-Some-clause-table
returns-in-Some-clause-table c = rw c.in-Some.is (λ durable v o e. ap is_some c.file_of.ensures ∙ table_by_record v o c.args.file durable c.in-Some.rec.now e)

pub returns-in-None-clause-table : goal.returns-in-None-clause-table
returns-in-None-clause-table c = rw c.in-None.is (λ durable v o e. table_is v o c.args.file durable [] e)
