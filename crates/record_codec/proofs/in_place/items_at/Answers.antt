use Rattle.std.proofs.Common.{List, Ok, ap, sym, ◌∙◌}
use Rattle.std.proofs.lemmas.Result.{err_from_is_err_and}
use Rattle.record_codec.specs.Codec.{times_read}
use Rattle.record_codec.proofs.Loop.{goes_on, ends, is_done}
use Rattle.record_codec.proofs.InPlace.{all_items}
use Rattle.record_codec.proofs.in_place.items_at.Goals as goal

pub returns-in_err-_item : goal.returns-in_err-_item
returns-in_err-_item g c =
    let p = err_from_is_err_and c.from_residual.result c.from_residual.ensures.1 in
    let all = times_read g.R.Row.codec.read c.args.count c.args.bytes.now in
    rw (p.1, p.2) (ends g.R.Row.codec c.in_err-_item.field-0.0 c.loop.invariant.0 c.args.count c.loop.counter c.loop.rest.now all c.loop-test.true c.in_err-_item.ensures c.loop.invariant.1)

pub loop-preserved : goal.loop-preserved
loop-preserved g c =
    let all = times_read g.R.Row.codec.read c.args.count c.args.bytes.now in
    (_, goes_on g.R.Row.codec c.loop.invariant.0 c.args.count c.loop.counter c.loop.rest.now _ _ all c.loop-test.true c.in_ok-_item.ensures c.loop.invariant.1)

pub returns : goal.returns
returns g c =
    let all = times_read g.R.Row.codec.read c.args.count c.args.bytes.now in
    let done = is_done g.R.Row.codec c.loop.invariant.0 c.args.count c.loop.counter c.loop.rest.now all c.loop-test.false c.loop.invariant.1 in
    done ∙ ap (λ (xs : List g.row.T.Denot). Ok (xs, c.loop.rest.now)) (sym (all_items g.R.Row.codec.read c.args.count c.args.bytes.now c.loop.invariant.0 c.loop.rest.now done))
