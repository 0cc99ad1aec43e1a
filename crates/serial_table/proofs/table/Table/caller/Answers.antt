use Rattle.serial_table.proofs.Calling.{lives_if}
use Rattle.serial_table.proofs.table.Table.caller.Goals as goal

pub returns-clause-lives : goal.returns-clause-lives
returns-clause-lives c = lives_if c.args.setup.now c.args.self.now c.args.worker c.args.number c.args.moment c.find_caller.result c.find_caller.ensures
