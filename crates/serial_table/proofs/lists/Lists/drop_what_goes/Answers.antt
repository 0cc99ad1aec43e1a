use Rattle.std.proofs.Common.{◌∙◌, sym, not, filter}
use Rattle.std.specs.List.{list_any}
use Rattle.serial_table.specs.InPlace.{table_of, in_scope, lives_by, goes, range_goes}
use Rattle.serial_table.proofs.InPlace.{nothing_goes}
use Rattle.serial_table.proofs.lists.Lists.drop_what_goes.Goals as goal

pub returns-then-not-some_go-clause-table : goal.returns-then-not-some_go-clause-table
returns-then-not-some_go-clause-table c = sym (nothing_goes (in_scope c.args.scope) (table_of c.args.self.now) (
    (λ i. list_any (goes (in_scope c.args.scope) (lives_by (sym c.as_slice-3.ensures.value i)) (sym c.as_slice-2.ensures.value i)) (sym c.as_slice.ensures.value i))
    ∙ sym c.some_go.ensures ∙ c.if-not-some_go.true))

pub returns-clause-table : goal.returns-clause-table
returns-clause-table c = λ i. record (table_of c.args.self.now) {
  opens = (c.drop_opens.ensures.items
      ∙ (λ i. filter (λ row. not (goes (in_scope c.args.scope) (lives_by (c.as_slice-8.ensures.value i)) (c.as_slice-7.ensures.value i) row)) c.args.self.now.opens.items)) i;
  ranges = (c.drop_ranges.ensures.items
      ∙ (λ i. filter (λ range. not (range_goes (in_scope c.args.scope) (goes (in_scope c.args.scope) (lives_by (c.as_slice-6.ensures.value i)) (c.as_slice-5.ensures.value i)) (c.as_slice-4.ensures.value i) range)) c.args.self.now.ranges.items)) i;
}
