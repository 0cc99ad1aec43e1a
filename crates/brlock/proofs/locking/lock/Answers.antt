use Rattle.std.proofs.Common.{◌<◌, ◌^◌, find, ap, sym, subst, ◌∙◌, rules}
use Rattle.std.specs.Option.{option_map}
use Rattle.record_codec.specs.declared.range_rec.RangeItem.{RangeItem}
use Rattle.record_codec.specs.RangeRec.{IsRangeRec}
use Rattle.brlock.specs.Ranges.{counted_ranges, stale_ranges}
use Rattle.brlock.specs.Answer.{told}
use Rattle.brlock.specs.Scans.{is_in_the_way}
use Rattle.brlock.proofs.Deciding.{answer_of, decides, names_first, added_names_none, added_decides}
use Rattle.brlock.proofs.Sets.{come, stale_stay, locked_keeps}
use Rattle.brlock.proofs.locking.lock.Goals as goal

pub returns-in-Some-clause-conflict : goal.returns-in-Some-clause-conflict
returns-in-Some-clause-conflict c = λ records file f open_row asks.
    let a = c.args in
    sym c.in-Some.is ∙ c.first_in_the_way.ensures ∙ ap (λ ranges. option_map (λ (held : RangeItem). held.id) (find (is_in_the_way a.valid.now a.id a.span a.mode) ranges)) c.as_slice.ensures
    ∙ names_first records file a.valid.now a.rec.now.ranges a.id f open_row asks a.span a.mode (sym c.passes_end.ensures ∙ c.if-passes_end.false)

pub returns-in-Some-clause-decision : goal.returns-in-Some-clause-decision
returns-in-Some-clause-decision c = λ records file f caller wait open_row asks may.
    let a = c.args in
    ap (λ o. told f caller a.span a.mode wait open_row (answer_of o)) (
    sym c.in-Some.is ∙ c.first_in_the_way.ensures ∙ ap (λ ranges. option_map (λ (held : RangeItem). held.id) (find (is_in_the_way a.valid.now a.id a.span a.mode) ranges)) c.as_slice.ensures)
    ∙ decides f caller a.span a.mode wait open_row records file a.valid.now a.rec.now.ranges a.id asks may (sym c.passes_end.ensures ∙ c.if-passes_end.false)

pub returns-in-None-clause-conflict : goal.returns-in-None-clause-conflict
returns-in-None-clause-conflict c = λ records file f open_row asks.
    let a = c.args in
    added_names_none c.add.result c.add.ensures.answer
    ∙ sym c.in-None.is ∙ c.first_in_the_way.ensures ∙ ap (λ ranges. option_map (λ (held : RangeItem). held.id) (find (is_in_the_way a.valid.now a.id a.span a.mode) ranges)) c.as_slice.ensures
    ∙ names_first records file a.valid.now a.rec.now.ranges a.id f open_row asks a.span a.mode (sym c.passes_end.ensures ∙ c.if-passes_end.false)

pub returns-in-None-clause-decision : goal.returns-in-None-clause-decision
returns-in-None-clause-decision c =
    let a = c.args in
    added_decides a.valid.now a.rec.now.ranges a.id a.span a.mode (sym c.passes_end.ensures ∙ c.if-passes_end.false) (
    sym c.in-None.is ∙ c.first_in_the_way.ensures ∙ ap (λ ranges. option_map (λ (held : RangeItem). held.id) (find (is_in_the_way a.valid.now a.id a.span a.mode) ranges)) c.as_slice.ensures)
    c.add.result c.add.ensures.answer

pub returns-in-None-clause-ranges : goal.returns-in-None-clause-ranges
returns-in-None-clause-ranges c = λ records file f open_row asks counts.
    ap (λ rec. counted_ranges records file rec.ranges) c.add.ensures.rec ∙ come records file c.args.rec.now c.args.id counts c.args.span c.args.mode c.args.valid.now f open_row asks c.add.result

pub returns-in-None-clause-stale : goal.returns-in-None-clause-stale
returns-in-None-clause-stale c = λ records file counts.
    ap (λ rec. stale_ranges records file rec.ranges) c.add.ensures.rec ∙ stale_stay records file c.args.rec.now c.args.id counts c.args.span c.args.mode c.add.result

pub returns-in-None-clause-sets : goal.returns-in-None-clause-sets
returns-in-None-clause-sets c = λ sets id_is few.
    let a = c.args in
    let start_is : a.span.start < 2 ^ 64 = search rules in
    let length_is : a.span.length < 2 ^ 64 = search rules in
    subst IsRangeRec (sym c.add.ensures.rec) (locked_keeps c.add.result a.id a.span a.mode a.rec.now sets id_is (start_is, length_is) (sym c.passes_end.ensures ∙ c.if-passes_end.false) few)
