use Rattle.std.proofs.Common.{◌∙◌, ap, not, filter, map}
use Rattle.serial_table.specs.InPlace.{table_of, in_scope, lives_by, without_what_goes, lease_ends_break, lease_goes, pending_goes}
use Rattle.serial_table.proofs.InPlace.{settles_in_place, without_empty}
use Rattle.serial_table.proofs.lists.Lists.settle.Goals as goal

pub returns-clause-table : goal.returns-clause-table
returns-clause-table c =
    (λ i. record (table_of c.drop_what_goes.new.self) {
      leases = (c.drop_leases.ensures.items ∙ (λ i. filter (λ lease. not (lease_goes (in_scope c.args.scope) (c.as_slice-3.ensures.value i) lease)) c.drop_what_goes.new.self.leases.items)) i;
      pending = (c.drop_pending.ensures.items ∙ (λ i. filter (λ file. not (pending_goes (in_scope c.args.scope) (c.as_slice-4.ensures.value i) file)) c.drop_what_goes.new.self.pending.items)) i;
    })
    ∙ ap (without_empty (in_scope c.args.scope)) c.drop_what_goes.ensures.table
    ∙ (λ i. without_empty (in_scope c.args.scope) (without_what_goes (in_scope c.args.scope) (record (table_of c.args.self.now) {
      leases = (c.settle_breaking.ensures.items ∙ (λ i. map (lease_ends_break (in_scope c.args.scope) (c.as_slice.ensures.value i) (lives_by (c.as_slice-2.ensures.value i))) c.args.self.now.leases.items)) i;
    })))
    ∙ settles_in_place (in_scope c.args.scope) (table_of c.args.self.now)
