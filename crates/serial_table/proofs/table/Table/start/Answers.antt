use Rattle.std.proofs.Common.{◌∙◌, ap}
use Rattle.serial_table.specs.History.{start_workers}
use Rattle.serial_table.proofs.Calling.{settled_if_start}
use Rattle.serial_table.proofs.table.Table.start.Goals as goal

pub returns-clause-settled : goal.returns-clause-settled
returns-clause-settled c = settled_if_start c.args.setup.now _ (λ i. record {
  opens = c.new.ensures i;
  leases = c.new-2.ensures i;
  ranges = c.new-3.ensures i;
  holds = c.new-4.ensures i;
  waiters = c.new-5.ensures i;
  letters = c.new-6.ensures i;
  workers = (c.from_vec.ensures ∙ c.in_ok-workers.ensures ∙ ap (start_workers 1) c.as_slice.ensures) i;
  ended = c.new-7.ensures i;
  pending = c.new-8.ensures i;
})
