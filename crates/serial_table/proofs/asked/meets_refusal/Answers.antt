use Rattle.std.proofs.Common.{◌∙◌}
use Rattle.serial_table.specs.InPlace.{table_of}
use Rattle.serial_table.proofs.OpenSeen.{refusal_is}
use Rattle.serial_table.proofs.asked.meets_refusal.Goals as goal

pub returns : goal.returns
returns c = c.some_refuses.ensures ∙ refusal_is (table_of c.args.rows.now) c.args.asked.now
