use Rattle.std.proofs.Common.{filter, ap, ◌∙◌}
use Rattle.std.proofs.lemmas.Result.{IfOk-weaker}
use Rattle.std.specs.List.{flat_map}
use Rattle.serial_table.specs.View.{view, has_name}
use Rattle.serial_table.specs.Expire.{look}
use Rattle.serial_table.proofs.Expiring.{due_among, none_due_among}
use Rattle.serial_table.proofs.expire.due.Goals as goal

pub returns-then-has_none : goal.returns-then-has_none
returns-then-has_none c =
    none_due_among c.args.table.now c.args.caller.now.moment (look c.args.setup.now (view c.args.table.now) c.args.caller.now c.args.call.now) c.in_ok-all.all.items c.in_ok-all.ensures (c.has_none.ensures.0 c.if-has_none.true)

pub returns : goal.returns
returns c =
    let t = c.args.table.now in
    let names = look c.args.setup.now (view t) c.args.caller.now c.args.call.now in
    let all = c.in_ok-all.all.items in
    IfOk-weaker c.named.result _ _
    (λ _ h. h
    ∙ (λ i. flat_map (λ name. filter (has_name name) (c.as_slice.ensures.value i)) (c.as_slice-2.ensures.value i))
    ∙ ap (λ ns. flat_map (λ name. filter (has_name name) all) ns) c.in_ok-names.ensures
    ∙ due_among t c.args.caller.now.moment names all c.in_ok-all.ensures)
    c.named.ensures
