use Rattle.std.proofs.Common.{map, ap, ◌∙◌}
use Rattle.std.proofs.lemmas.Bool.{both_ways}
use Rattle.serial_table.specs.Settle.{settle}
use Rattle.serial_table.specs.Change.{perform_all}
use Rattle.serial_table.specs.Expire.{expires}
use Rattle.serial_table.proofs.Expiring.{some_expire, none_expire}
use Rattle.serial_table.proofs.table.Table.expired.Goals as goal

pub returns-then-has_none-clause-none : goal.returns-then-has_none-clause-none
returns-then-has_none-clause-none c =
    none_expire c.args.setup.now c.args.self.now c.args.caller.now c.args.call.now c.in_ok-leases.leases.items c.in_ok-leases.ensures (c.has_none.ensures.0 c.if-has_none.true)

pub returns-clause-some : goal.returns-clause-some
returns-clause-some c =
    let t = c.args.self.now in
    c.in_ok-copy_expired.ensures
    ∙ ap (λ rows. settle (perform_all (map expires rows) t)) c.as_slice.ensures.value
    ∙ some_expire c.args.setup.now t c.args.caller.now c.args.call.now c.in_ok-leases.leases.items c.in_ok-leases.ensures (λ e. both_ways c.has_none.result c.if-has_none.false (c.has_none.ensures.1 e))
