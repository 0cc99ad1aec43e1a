use Rattle.std.proofs.Common.{[], ◌++◌, reverse, ap, ◌∙◌, rules}
use Rattle.std.specs.List.{filter_map}
use Rattle.serial_table.specs.Break.{each_once}
use Rattle.share_modes.specs.Sharing.{conflict_lease, with_lease}
use Rattle.share_modes.proofs.Once.{lease_more, none_met}
use Rattle.share_modes.proofs.sharing.names_in_conflict.Goals as goal

pub loop-entry-init : goal.loop-entry-init
loop-entry-init c = record {
  names = ap (λ l. l ++ each_once (reverse l) (filter_map (conflict_lease c.args.asked.now) c.args.valid.now)) {y = []} (search rules);
  met = none_met c.new-names.result.items c.new-met.result (search rules) c.new-met.ensures;
}

pub loop-entry-preserved : goal.loop-entry-preserved
loop-entry-preserved c = record {
  names = lease_more (conflict_lease c.args.asked.now) c.args.valid.now c.loop-entry.entry-index _ c.loop-entry.names.items _ _ c.loop-entry-test.true
      (c.in_ok-add_lease.ensures.names ∙ ap (λ l. with_lease l c.loop-entry.names.items) c.conflict_lease.ensures) c.loop-entry.invariant.names;
  met = c.in_ok-add_lease.ensures.met;
}
