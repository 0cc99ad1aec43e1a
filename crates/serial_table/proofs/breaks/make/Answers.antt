use Rattle.std.proofs.Common.{ap, ◌∙◌, sym}
use Rattle.serial_table.specs.Change.{perform_all}
use Rattle.serial_table.specs.LeaseBreak.{breaks_if_any}
use Rattle.serial_table.specs.InPlace.{table_of}
use Rattle.serial_table.proofs.Broken.{made_shown}
use Rattle.serial_table.proofs.breaks.make.Goals as goal

pub returns-in_ok-push-clause-rows : goal.returns-in_ok-push-clause-rows
returns-in_ok-push-clause-rows c =
    let lease = c.args.lease.now in
    let before = table_of c.args.rows.now in
    made_shown c.args.file lease c.args.lease_break before (table_of c.perform_break.new.self)
    (c.perform_break.ensures ∙ ap (λ b. perform_all (breaks_if_any c.args.file lease b).changes before) (sym c.in-Some.is))
