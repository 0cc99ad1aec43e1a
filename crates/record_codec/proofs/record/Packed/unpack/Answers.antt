use Rattle.std.proofs.Common.{arith}
use Rattle.std.proofs.lemmas.Result.{err_from_is_err_and}
use Rattle.record_codec.specs.Stored.{stored}
use Rattle.record_codec.proofs.Unpacked.{found, is_it, has_no_fault, no_value, explained, is_that}
use Rattle.record_codec.proofs.record.Packed.unpack.Goals as goal

pub returns-in_err-_version-clause-spelled : goal.returns-in_err-_version-clause-spelled
returns-in_err-_version-clause-spelled g c = λ y s.
    let p = err_from_is_err_and c.from_residual.result c.from_residual.ensures.1 in
    rw (p.1, p.2) (no_value (stored g.Self.Packed.MAGIC g.Self.Packed.OLDEST g.Self.Packed.NEWEST g.Self.Packed.fields) c.laws.ensures.grammar c.args.bytes.now c.in_err-_version.field-0.0 c.in_err-_version.ensures y s)

pub returns-in_err-_version-clause-refused : goal.returns-in_err-_version-clause-refused
returns-in_err-_version-clause-refused g c =
    let p = err_from_is_err_and c.from_residual.result c.from_residual.ensures.1 in
    rw (p.1, p.2) (explained (stored g.Self.Packed.MAGIC g.Self.Packed.OLDEST g.Self.Packed.NEWEST g.Self.Packed.fields) c.laws.ensures.grammar c.args.bytes.now c.in_err-_version.field-0.0 (λ i. omega (arith, c.type_inv.bytes i)) c.in_err-_version.ensures)

pub returns-in_err-_version-clause-fault : goal.returns-in_err-_version-clause-fault
returns-in_err-_version-clause-fault g c = λ d f.
    let p = err_from_is_err_and c.from_residual.result c.from_residual.ensures.1 in
    rw (p.1, p.2) (is_that (stored g.Self.Packed.MAGIC g.Self.Packed.OLDEST g.Self.Packed.NEWEST g.Self.Packed.fields) c.laws.ensures.grammar c.args.bytes.now c.in_err-_version.field-0.0 c.in_err-_version.ensures d f)

pub returns-clause-found : goal.returns-clause-found
returns-clause-found g c = found (stored g.Self.Packed.MAGIC g.Self.Packed.OLDEST g.Self.Packed.NEWEST g.Self.Packed.fields) c.laws.ensures.grammar c.args.bytes.now _ (λ i. omega (arith, c.type_inv.bytes i)) c.in_ok-_version.ensures

pub returns-clause-spelled : goal.returns-clause-spelled
returns-clause-spelled g c = λ y s. is_it (stored g.Self.Packed.MAGIC g.Self.Packed.OLDEST g.Self.Packed.NEWEST g.Self.Packed.fields) c.laws.ensures.grammar c.args.bytes.now _ c.in_ok-_version.ensures y s

pub returns-clause-fault : goal.returns-clause-fault
returns-clause-fault g c = λ e f. has_no_fault (stored g.Self.Packed.MAGIC g.Self.Packed.OLDEST g.Self.Packed.NEWEST g.Self.Packed.fields) c.laws.ensures.grammar c.args.bytes.now _ c.in_ok-_version.ensures e f

pub returns-clause-valid : goal.returns-clause-valid
returns-clause-valid g c =
    let s = found (stored g.Self.Packed.MAGIC g.Self.Packed.OLDEST g.Self.Packed.NEWEST g.Self.Packed.fields) c.laws.ensures.grammar c.args.bytes.now _ (λ i. omega (arith, c.type_inv.bytes i)) c.in_ok-_version.ensures in
    c.laws.ensures.older s.0 _ s.1.valid
