use Rattle.std.proofs.Common.{◌≡◌, ◌+◌, filter, ap, ◌∙◌}
use Rattle.serial_table.specs.View.{view, is_of_file}
use Rattle.serial_table.specs.Durable.{is_expired}
use Rattle.serial_table.proofs.Scavenging.{goes_more, spots_more}
use Rattle.serial_table.proofs.scavenge.scavenge.Goals as goal

pub loop-index-preserved : goal.loop-index-preserved
loop-index-preserved c =
    let i = c.loop-index.index in
    let v = view c.args.table.now in
    let E = is_expired v c.args.caller.now.moment in
    let own = c.opens_of-own.result.now in
    let mine : own ≡ filter E (filter (is_of_file (i + 1)) c.args.table.now.opens) =
    c.opens_of-own.ensures ∙ ap (filter (is_of_file (i + 1))) c.as_slice.ensures.value ∙ c.in_ok-expired.ensures.same (i + 1) in
    record {
      changes = goes_more (λ file. filter E (v.opens_of file)) i own c.loop-index.changes.items _ mine c.in_ok-push_changes.ensures c.loop-index.invariant.changes;
      spots = spots_more E c.args.table.now.opens i own c.loop-index.spots.items _ mine c.in_ok-push_spots.ensures c.loop-index.invariant.spots;
    }
