use Rattle.std.proofs.Common.{◌≡◌, ◌≤◌, ℕ, List, length, drop, sym, ap, ◌∙◌, arith, length-drop}
use Rattle.std.specs.Ordering.{nat_cmp}
use Rattle.std.specs.Cmp.Lexicographic.{slice_cmp}
use Rattle.byteorder.specs.Endian.{big_number}
use Rattle.chain_map.proofs.Words.{AreBytes, same_words, other_words, bytes_after}
use Rattle.chain_map.proofs.compare.order.Goals as goal

-- behind a word eight bytes are left where there were sixteen
eight_more : (xs ys : List ℕ) → ys ≡ drop 8 xs → 16 ≤ length xs → 8 ≤ length ys
eight_more xs ys e l =
    let is : length ys ≡ length (drop 8 xs) = ap length e in
    omega (arith, length-drop 8 xs)

pub returns-then-p-q : goal.returns-then-p-q
returns-then-p-q c =
    let xs = c.args.left.now in
    let ys = c.args.right.now in
    c.cmp.ensures
    ∙ (λ i. nat_cmp (c.read_u64-p.ensures i) (c.read_u64-q.ensures i))
    ∙ other_words xs ys (omega (arith, c.if-left-lt16.false)) (omega (arith, c.if-right-lt16.false)) (λ k. (c.type_inv.left k).fits) (λ k. (c.type_inv.right k).fits)
    (λ e. c.if-p-q.true (c.read_u64-p.ensures ∙ e ∙ sym c.read_u64-q.ensures))

-- behind a word that both begin with, what is left decides
behind : (xs ys us vs : List ℕ) → us ≡ drop 8 xs → vs ≡ drop 8 ys → 8 ≤ length xs → 8 ≤ length ys → AreBytes xs → AreBytes ys → big_number 8 xs ≡ big_number 8 ys
    → slice_cmp nat_cmp us vs ≡ slice_cmp nat_cmp xs ys
behind xs ys us vs e f p q h g same = (λ i. slice_cmp nat_cmp (e i) (f i)) ∙ sym (same_words xs ys p q h g same)

pub returns-then-r-s : goal.returns-then-r-s
returns-then-r-s c =
    let us = c.split_at.result.1.now in
    let vs = c.split_at-2.result.1.now in
    let h : AreBytes c.args.left.now = λ k. (c.type_inv.left k).fits in
    let g : AreBytes c.args.right.now = λ k. (c.type_inv.right k).fits in
    c.cmp-then-r-s.ensures
    ∙ (λ i. nat_cmp (c.read_u64-r.ensures i) (c.read_u64-s.ensures i))
    ∙ other_words us vs (eight_more c.args.left.now us c.split_at.ensures.back (omega (arith, c.if-left-lt16.false))) (eight_more c.args.right.now vs c.split_at-2.ensures.back (omega (arith, c.if-right-lt16.false)))
    (bytes_after 8 c.args.left.now us c.split_at.ensures.back h) (bytes_after 8 c.args.right.now vs c.split_at-2.ensures.back g)
    (λ e. c.if-r-s.true (c.read_u64-r.ensures ∙ e ∙ sym c.read_u64-s.ensures))
    ∙ behind c.args.left.now c.args.right.now us vs c.split_at.ensures.back c.split_at-2.ensures.back (omega (arith, c.if-left-lt16.false)) (omega (arith, c.if-right-lt16.false)) h g (sym c.read_u64-p.ensures ∙ c.if-p-q.false ∙ c.read_u64-q.ensures)

pub returns : goal.returns
returns c =
    let e = c.split_at.ensures.back in
    let f = c.split_at-2.ensures.back in
    let h : AreBytes c.args.left.now = λ k. (c.type_inv.left k).fits in
    let g : AreBytes c.args.right.now = λ k. (c.type_inv.right k).fits in
    c.order_by_words-2.ensures
    ∙ behind c.split_at.result.1.now c.split_at-2.result.1.now c.split_at-3.result.1.now c.split_at-4.result.1.now c.split_at-3.ensures.back c.split_at-4.ensures.back
    (eight_more c.args.left.now c.split_at.result.1.now e (omega (arith, c.if-left-lt16.false))) (eight_more c.args.right.now c.split_at-2.result.1.now f (omega (arith, c.if-right-lt16.false))) (bytes_after 8 c.args.left.now c.split_at.result.1.now e h) (bytes_after 8 c.args.right.now c.split_at-2.result.1.now f g) (sym c.read_u64-r.ensures ∙ c.if-r-s.false ∙ c.read_u64-s.ensures)
    ∙ behind c.args.left.now c.args.right.now c.split_at.result.1.now c.split_at-2.result.1.now e f (omega (arith, c.if-left-lt16.false)) (omega (arith, c.if-right-lt16.false)) h g (sym c.read_u64-p.ensures ∙ c.if-p-q.false ∙ c.read_u64-q.ensures)
