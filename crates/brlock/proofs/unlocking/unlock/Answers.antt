use Rattle.std.proofs.Common.{ap, sym, subst, ◌∙◌}
use Rattle.record_codec.specs.RangeRec.{IsRangeRec}
use Rattle.brlock.specs.Ranges.{counted_ranges, stale_ranges}
use Rattle.brlock.specs.Answer.{told_unlocked}
use Rattle.brlock.proofs.Dropping.{unlocks, stale_stay, exclusive_left, shared_left, exclusive_there, shared_there}
use Rattle.brlock.proofs.Sets.{unlocked_keeps}
use Rattle.brlock.proofs.unlocking.unlock.Goals as goal

-- ---- an exclusive one goes

pub returns-then-drop_first-clause-decision : goal.returns-then-drop_first-clause-decision
returns-then-drop_first-clause-decision c = λ records file f open_row asks counts.
    ap (told_unlocked open_row) (exclusive_there c.args.id c.args.span c.args.rec.now.ranges (sym c.drop_first.ensures.there ∙ c.if-drop_first.true))
    ∙ (unlocks records file c.args.rec.now.ranges c.args.id counts c.args.span f open_row asks).decision

pub returns-then-drop_first-clause-ranges : goal.returns-then-drop_first-clause-ranges
returns-then-drop_first-clause-ranges c = λ records file f open_row asks counts.
    ap (counted_ranges records file) (c.drop_first.ensures.list ∙ exclusive_left c.args.id c.args.span c.args.rec.now.ranges (sym c.drop_first.ensures.there ∙ c.if-drop_first.true))
    ∙ (unlocks records file c.args.rec.now.ranges c.args.id counts c.args.span f open_row asks).ranges_are

pub returns-then-drop_first-clause-stale : goal.returns-then-drop_first-clause-stale
returns-then-drop_first-clause-stale c = λ records file counts.
    ap (stale_ranges records file) (c.drop_first.ensures.list ∙ exclusive_left c.args.id c.args.span c.args.rec.now.ranges (sym c.drop_first.ensures.there ∙ c.if-drop_first.true))
    ∙ stale_stay records file c.args.rec.now.ranges c.args.id counts c.args.span

pub returns-then-drop_first-clause-sets : goal.returns-then-drop_first-clause-sets
returns-then-drop_first-clause-sets c = λ sets.
    subst (λ ranges. IsRangeRec (record c.args.rec.now { ranges = ranges }))
    (sym (c.drop_first.ensures.list ∙ exclusive_left c.args.id c.args.span c.args.rec.now.ranges (sym c.drop_first.ensures.there ∙ c.if-drop_first.true)))
    (unlocked_keeps c.args.id c.args.span c.args.rec.now sets)

-- ---- a shared one goes, or none

pub returns-clause-decision : goal.returns-clause-decision
returns-clause-decision c = λ records file f open_row asks counts.
    let a = c.args in
    ap (told_unlocked open_row) (c.drop_first-2.ensures.there ∙ shared_there a.id a.span a.rec.now.ranges c.drop_first.new.list c.drop_first.ensures.list (sym c.drop_first.ensures.there ∙ c.if-drop_first.false))
    ∙ (unlocks records file a.rec.now.ranges a.id counts a.span f open_row asks).decision

pub returns-clause-ranges : goal.returns-clause-ranges
returns-clause-ranges c = λ records file f open_row asks counts.
    let a = c.args in
    ap (counted_ranges records file) (c.drop_first-2.ensures.list ∙ shared_left a.id a.span a.rec.now.ranges c.drop_first.new.list c.drop_first.ensures.list (sym c.drop_first.ensures.there ∙ c.if-drop_first.false))
    ∙ (unlocks records file a.rec.now.ranges a.id counts a.span f open_row asks).ranges_are

pub returns-clause-stale : goal.returns-clause-stale
returns-clause-stale c = λ records file counts.
    let a = c.args in
    ap (stale_ranges records file) (c.drop_first-2.ensures.list ∙ shared_left a.id a.span a.rec.now.ranges c.drop_first.new.list c.drop_first.ensures.list (sym c.drop_first.ensures.there ∙ c.if-drop_first.false))
    ∙ stale_stay records file a.rec.now.ranges a.id counts a.span

pub returns-clause-rec : goal.returns-clause-rec
returns-clause-rec c =
    let a = c.args in
    ap (λ ranges. record a.rec.now { ranges = ranges }) (c.drop_first-2.ensures.list ∙ shared_left a.id a.span a.rec.now.ranges c.drop_first.new.list c.drop_first.ensures.list (sym c.drop_first.ensures.there ∙ c.if-drop_first.false))

pub returns-clause-sets : goal.returns-clause-sets
returns-clause-sets c = λ sets.
    let a = c.args in
    subst (λ ranges. IsRangeRec (record a.rec.now { ranges = ranges }))
    (sym (c.drop_first-2.ensures.list ∙ shared_left a.id a.span a.rec.now.ranges c.drop_first.new.list c.drop_first.ensures.list (sym c.drop_first.ensures.there ∙ c.if-drop_first.false)))
    (unlocked_keeps a.id a.span a.rec.now sets)
