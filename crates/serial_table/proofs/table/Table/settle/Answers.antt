use Rattle.std.proofs.Common.{◌∙◌, sym, ap}
use Rattle.serial_table.specs.Settle.{settle}
use Rattle.serial_table.proofs.Settled.{settle-settle}
use Rattle.serial_table.proofs.table.Table.settle.Goals as goal

pub returns-clause-settled : goal.returns-clause-settled
returns-clause-settled c =
    let is = c.into_table.ensures ∙ c.settle.ensures.table in
    ap settle is ∙ ap (λ t. settle (settle t)) c.take_lists-lists.ensures ∙ settle-settle c.args.self.now ∙ ap settle (sym c.take_lists-lists.ensures) ∙ sym is
