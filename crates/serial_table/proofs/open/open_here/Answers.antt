use Rattle.std.proofs.Common.{◌∙◌, sym, ap}
use Rattle.std.specs.List.{list_any}
use Rattle.serial_table.specs.InPlace.{is_lease_of}
use Rattle.std.proofs.lemmas.Result.{IfOk-weaker}
use Rattle.serial_table.specs.View.{view}
use Rattle.serial_table.specs.File.{file_view}
use Rattle.serial_table.proofs.Unleased.{no_lease, unleased_is}
use Rattle.serial_table.proofs.open.open_here.Goals as goal

pub returns-else-has_leases : goal.returns-else-has_leases
returns-else-has_leases c =
    let asked = c.args.asked.now in
    let t = c.args.table.now in
    IfOk-weaker c.open_unleased.result _ _
    (λ _ h. h ∙ sym (unleased_is (file_view asked.file (view t)) asked (no_lease t asked.file (ap (list_any (is_lease_of asked.file)) (sym c.as_slice.ensures) ∙ sym c.has_leases.ensures ∙ c.if-has_leases.false)) c.args.caller.now))
    c.open_unleased.ensures
