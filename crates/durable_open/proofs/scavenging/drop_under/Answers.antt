use Rattle.std.proofs.Common.{sym}
use Rattle.durable_open.proofs.Named.{on_some_at, dropped_under}
use Rattle.durable_open.proofs.scavenging.drop_under.Goals as goal

pub returns-in-Some-clause-leases : goal.returns-in-Some-clause-leases
returns-in-Some-clause-leases c =
    let f = c.get_mut.follows in
    dropped_under c.args.register.now c.args.file c.args.entry.now c.args.leases.now (f.lender c.drop_kept.new.lease) c.args.name c.drop_kept.new.lease c.in-Some.lease.now
    c.requires (sym c.in-Some.ensures.value) c.drop_kept.ensures.lease (on_some_at c.get_mut.result _ _ c.in-Some.is (f.holds c.drop_kept.new.lease))
