use Rattle.std.proofs.Common.{◌≡◌, ◌+◌, [], filter, ap, ◌∙◌}
use Rattle.serial_table.specs.View.{view, is_of_file}
use Rattle.serial_table.specs.Break.{each_once}
use Rattle.serial_table.specs.Expire.{carried_by, names_at}
use Rattle.serial_table.proofs.Scavenging.{names_more}
use Rattle.serial_table.proofs.expire.look_at_all.Goals as goal

pub loop-index-preserved : goal.loop-index-preserved
loop-index-preserved c =
    let i = c.loop-index.index in
    let own = c.opens_of.result.now in
    let mine : own ≡ filter (is_of_file (i + 1)) c.args.table.now.opens =
    c.opens_of.ensures ∙ ap (filter (is_of_file (i + 1))) c.as_slice.ensures.value ∙ c.in_ok-sorted.ensures.same (i + 1) in
    names_more (names_at (view c.args.table.now)) i (each_once [] (carried_by own)) c.loop-index.names.items _ (ap (λ opens. each_once [] (carried_by opens)) mine) c.in_ok-push_names.ensures c.loop-index.invariant
