use Rattle.std.proofs.Common.{[], ap, ◌∙◌}
use Rattle.std.proofs.lemmas.Result.{IfOk-weaker}
use Rattle.serial_table.specs.Break.{each_once}
use Rattle.serial_table.specs.InPlace.{table_of}
use Rattle.serial_table.proofs.OpenSeen.{names_in_conflict_is}
use Rattle.serial_table.proofs.asked.leases_in_conflict.Goals as goal

pub returns : goal.returns
returns c =
    IfOk-weaker c.each_once.result _ _
    (λ _ h. h ∙ ap (each_once []) (c.as_slice.ensures.value ∙ c.in_ok-names.ensures) ∙ names_in_conflict_is (table_of c.args.rows.now) c.args.asked.now)
    c.each_once.ensures
