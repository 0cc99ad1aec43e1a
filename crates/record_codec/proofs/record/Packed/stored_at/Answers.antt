use Rattle.std.proofs.Common.{sym, ◌∙◌}
use Rattle.std.proofs.lemmas.Result.{err_from_is_err_and}
use Rattle.record_codec.specs.Codec.{read_all}
use Rattle.record_codec.specs.Stored.{stored}
use Rattle.record_codec.proofs.Faults.{fails, handed_on}
use Rattle.record_codec.proofs.Stored.{bad_header, bad_fields, more_bytes, all_read}
use Rattle.record_codec.proofs.record.Packed.stored_at.Goals as goal

pub returns-in_err-version : goal.returns-in_err-version
returns-in_err-version g c =
    let p = err_from_is_err_and c.from_residual.result c.from_residual.ensures.1 in
    let all = read_all (stored g.Self.Packed.MAGIC g.Self.Packed.OLDEST g.Self.Packed.NEWEST g.Self.Packed.fields) c.args.bytes.now in
    rw (p.1, p.2) (fails c.in_err-version.field-0.0 all (bad_header g.Self.Packed.MAGIC g.Self.Packed.OLDEST g.Self.Packed.NEWEST g.Self.Packed.fields c.args.bytes.now c.in_err-version.field-0.0 c.in_err-version.ensures))

pub returns-in_err-value : goal.returns-in_err-value
returns-in_err-value g c =
    let p = err_from_is_err_and c.from_residual-in_err-value.result c.from_residual-in_err-value.ensures.1 in
    let all = read_all (stored g.Self.Packed.MAGIC g.Self.Packed.OLDEST g.Self.Packed.NEWEST g.Self.Packed.fields) c.args.bytes.now in
    rw (p.1, p.2) (handed_on c.in_err-value.field-0.0 _ all c.in_err-value.ensures (bad_fields g.Self.Packed.MAGIC g.Self.Packed.OLDEST g.Self.Packed.NEWEST g.Self.Packed.fields c.args.bytes.now _ _ _ c.in_err-value.field-0.0 c.in_ok-version.ensures))

pub returns-then-not-is_empty : goal.returns-then-not-is_empty
returns-then-not-is_empty g c =
    more_bytes g.Self.Packed.MAGIC g.Self.Packed.OLDEST g.Self.Packed.NEWEST g.Self.Packed.fields c.args.bytes.now _ _ _ _ _ c.in_ok-version.ensures c.in_ok-value.ensures (sym c.is_empty.ensures ∙ c.if-not-is_empty.true)

pub returns : goal.returns
returns g c =
    all_read g.Self.Packed.MAGIC g.Self.Packed.OLDEST g.Self.Packed.NEWEST g.Self.Packed.fields c.args.bytes.now _ _ _ _ _ c.in_ok-version.ensures c.in_ok-value.ensures (sym c.is_empty.ensures ∙ c.if-not-is_empty.false)
