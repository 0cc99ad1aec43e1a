use Rattle.std.proofs.Common.{◌≡◌, ◌≤◌, length, drop, refl, sym, ap, ◌∙◌, arith, length-drop}
use Rattle.std.specs.Ordering.{nat_cmp}
use Rattle.std.specs.Cmp.Lexicographic.{slice_cmp}
use Rattle.chain_map.proofs.Words.{same_words, other_words, bytes_after, none_left}
use Rattle.chain_map.proofs.compare.order_by_words.Goals as goal

pub loop-x-init : goal.loop-x-init
loop-x-init c = (refl, ((λ k. (c.type_inv.left k).fits), (λ k. (c.type_inv.right k).fits)))

pub returns-then-p-q : goal.returns-then-p-q
returns-then-p-q c =
    let xs = c.loop-x.x.now in
    let ys = c.loop-x.y.now in
    c.cmp.ensures
    ∙ (λ i. nat_cmp (c.read_u64-p.ensures i) (c.read_u64-q.ensures i))
    ∙ other_words xs ys c.loop-x-test.true c.if-y-ge8.true c.loop-x.invariant.1.0 c.loop-x.invariant.1.1 (λ e. c.if-p-q.true (c.read_u64-p.ensures ∙ e ∙ sym c.read_u64-q.ensures))
    ∙ c.loop-x.invariant.0

pub loop-x-smaller : goal.loop-x-smaller
loop-x-smaller c =
    let xs = c.loop-x.x.now in
    let long : 8 ≤ length xs = c.loop-x-test.true in
    let is : length c.split_at.result.1.now ≡ length (drop 8 xs) = ap length c.split_at.ensures.back in
    omega (arith, length-drop 8 xs)

pub loop-x-preserved : goal.loop-x-preserved
loop-x-preserved c =
    let xs = c.loop-x.x.now in
    let ys = c.loop-x.y.now in
    let same : slice_cmp nat_cmp xs ys ≡ slice_cmp nat_cmp (drop 8 xs) (drop 8 ys) = same_words xs ys c.loop-x-test.true c.if-y-ge8.true c.loop-x.invariant.1.0 c.loop-x.invariant.1.1 (sym c.read_u64-p.ensures ∙ c.if-p-q.false ∙ c.read_u64-q.ensures) in (
      (λ i. slice_cmp nat_cmp (c.split_at.ensures.back i) (c.split_at-in-loop-x.ensures.back i)) ∙ sym same ∙ c.loop-x.invariant.0,
      (bytes_after 8 xs _ c.split_at.ensures.back c.loop-x.invariant.1.0, bytes_after 8 ys _ c.split_at-in-loop-x.ensures.back c.loop-x.invariant.1.1),
    )

pub returns-then-x-eq0 : goal.returns-then-x-eq0
returns-then-x-eq0 c = c.cmp-then-x-eq0.ensures ∙ none_left c.loop-x.x.now c.loop-x.y.now c.if-x-eq0.true ∙ c.loop-x.invariant.0

pub returns : goal.returns
returns c = c.cmp-2.ensures ∙ c.loop-x.invariant.0
