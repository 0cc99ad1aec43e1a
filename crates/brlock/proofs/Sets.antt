-- What becomes of a record: what counts of it, what doesn't, and that its values keep their sets.
use Rattle.std.proofs.Common.{◌≡◌, ◌-◌, not, ℕ, ◌<◌, ◌≤◌, ◌+◌, ◌^◌, nat_lt, Bool, true, false, cond, List, [], ◌∷◌, ◌++◌, length, filter, map, refl, ap, sym, ◌∙◌, arith}
use Rattle.std.specs.List.{AllByRecursion}
use Rattle.std.proofs.lemmas.Bool.{ltb-false}
use Rattle.sid_core.specs.declared.ids.OpenId.{OpenId}
use Rattle.sid_core.specs.declared.call.Span.{Span}
use Rattle.sid_core.specs.declared.call.Mode.{Mode}
use Rattle.sid_core.specs.declared.call.Mode.TheVariants.{Shared, Exclusive}
use Rattle.sid_core.specs.Values.{IsSpan}
use Rattle.serial_table.specs.declared.rows.OpenRow.{OpenRow}
use Rattle.serial_table.specs.File.{FileView}
use Rattle.serial_table.specs.Lists.{drop_first}
use Rattle.serial_table.specs.Range.{passes_end}
use Rattle.serial_table.proofs.Filters.{filter_one_out}
use Rattle.serial_table.proofs.Counting.{length_pushed, length_dropped}
use Rattle.record_codec.specs.declared.range_rec.RangeItem.{RangeItem}
use Rattle.record_codec.specs.declared.range_rec.RangeRec.{RangeRec}
use Rattle.record_codec.specs.Counts.{Records, id_counts, range_counts}
use Rattle.record_codec.specs.Fields.{IsOpenId, IsListOf}
use Rattle.record_codec.specs.RangeRec.{IsRangeItem, IsRangeRec}
use Rattle.brlock.specs.declared.answer.RAnswer.{RAnswer}
use Rattle.brlock.specs.declared.answer.RAnswer.TheVariants.{Granted, Conflict, InvalidRange, OutOfMemory}
use Rattle.record_rows.specs.Rows.{range_row}
use Rattle.brlock.specs.Ranges.{counted_ranges, stale_ranges, AsksAmong}
use Rattle.brlock.specs.Answer.{asked_item, locked, ranges_after, is_range, has_range, without_range}

-- ---- a range more

module _ {X : Type 0} where
  behind : (b : Bool) (y : X) (ys : List X) (x : X) → cond b (y ∷ (ys ++ x ∷ [])) (ys ++ x ∷ []) ≡ cond b (y ∷ ys) ys ++ x ∷ []
  behind true y ys x = refl
  behind false y ys x = refl

  one_in : (p : X → Bool) (x : X) (xs : List X) → p x ≡ true → filter p (xs ++ x ∷ []) ≡ filter p xs ++ x ∷ []
  one_in p x [] e = ap (λ b. cond b (x ∷ []) []) e
  one_in p x (y ∷ ys) e = ap (λ zs. cond (p y) (y ∷ zs) zs) (one_in p x ys e) ∙ behind (p y) y (filter p ys) x

  mapped_behind : {Y : Type 0} (g : X → Y) (xs : List X) (x : X) → map g (xs ++ x ∷ []) ≡ map g xs ++ g x ∷ []
  mapped_behind g [] x = refl
  mapped_behind g (y ∷ ys) x = ap (λ zs. g y ∷ zs) (mapped_behind g ys x)

  all_more : (P : X → Type 0) (xs : List X) (x : X) → AllByRecursion P xs → P x → AllByRecursion P (xs ++ x ∷ [])
  all_more P [] x all h = (h, tt)
  all_more P (y ∷ ys) x all h = (all.0, all_more P ys x all.1 h)

  left_here : (P : X → Type 0) (b : Bool) (x : X) (xs ys : List X) → P x → AllByRecursion P xs → AllByRecursion P ys → AllByRecursion P (cond b xs (x ∷ ys))
  left_here P true x xs ys h all left = all
  left_here P false x xs ys h all left = (h, left)

  all_left : (P : X → Type 0) (p : X → Bool) (xs : List X) → AllByRecursion P xs → AllByRecursion P (drop_first p xs)
  all_left P p [] all = tt
  all_left P p (x ∷ xs) all = left_here P (p x) x xs (drop_first p xs) all.0 all.1 (all_left P p xs all.1)

module _ (records : Records) (file : ℕ) (rec : RangeRec) (id : OpenId) (counts : id_counts records file id ≡ true) (span : Span) (mode : Mode) where
  pub come : (valid : List OpenId) (f : FileView) (open_row : OpenRow) → AsksAmong records file valid rec.ranges id f open_row → (a : RAnswer)
      → counted_ranges records file (locked a id span mode rec).ranges ≡ ranges_after a f open_row span mode
  come valid f open_row asks Granted =
      ap (map (range_row file)) (one_in (range_counts records file) (asked_item id span mode) rec.ranges counts)
      ∙ mapped_behind (range_row file) (filter (range_counts records file) rec.ranges) (asked_item id span mode)
      ∙ (λ i. sym asks.before.ranges_are i ++ record { id = sym asks.before.id_is i; file = sym asks.before.file_is i; span = span; mode = mode } ∷ [])
  come valid f open_row asks (Conflict other) = sym asks.before.ranges_are
  come valid f open_row asks InvalidRange = sym asks.before.ranges_are
  come valid f open_row asks OutOfMemory = sym asks.before.ranges_are

  pub stale_stay : (a : RAnswer) → stale_ranges records file (locked a id span mode rec).ranges ≡ stale_ranges records file rec.ranges
  stale_stay Granted = filter_one_out (λ range. not (range_counts records file range)) (asked_item id span mode) rec.ranges (ap not counts)
  stale_stay (Conflict other) = refl
  stale_stay InvalidRange = refl
  stale_stay OutOfMemory = refl

-- ---- the record's values keep their sets

fits : (start length : ℕ) → (nat_lt (2 ^ 64) (start + length)) ≡ false → 0 < length → start + length - 1 < 2 ^ 64
fits start length e some = let le : start + length ≤ 2 ^ 64 = ltb-false (2 ^ 64) (start + length) e in omega (arith, le, some)

pub is_item : (id : OpenId) (span : Span) (mode : Mode) → IsOpenId id → IsSpan span → passes_end span ≡ false → IsRangeItem (asked_item id span mode)
is_item id span mode id_is span_is ends = record {
  id = id_is;
  start = span_is.0;
  length = span_is.1;
  last = fits span.start span.length ends;
}

pub more_keeps : (rec : RangeRec) (item : RangeItem) → IsRangeRec rec → IsRangeItem item → length rec.ranges + 1 < 2 ^ 32 → IsRangeRec (record rec { ranges = rec.ranges ++ item ∷ [] })
more_keeps rec item sets is few = record {
  file = sets.file;
  watchers = sets.watchers;
  ranges = record {
    few = let n : length (rec.ranges ++ item ∷ []) ≡ length rec.ranges + 1 = length_pushed rec.ranges item in omega (arith, n, few);
    each = all_more IsRangeItem rec.ranges item sets.ranges.each is;
  };
}

pub locked_keeps : (a : RAnswer) (id : OpenId) (span : Span) (mode : Mode) (rec : RangeRec) → IsRangeRec rec → IsOpenId id → IsSpan span → passes_end span ≡ false → length rec.ranges + 1 < 2 ^ 32
    → IsRangeRec (locked a id span mode rec)
locked_keeps Granted id span mode rec sets id_is span_is ends few = more_keeps rec (asked_item id span mode) sets (is_item id span mode id_is span_is ends) few
locked_keeps (Conflict other) id span mode rec sets id_is span_is ends few = sets
locked_keeps InvalidRange id span mode rec sets id_is span_is ends few = sets
locked_keeps OutOfMemory id span mode rec sets id_is span_is ends few = sets

less_keeps : (p : RangeItem → Bool) (ranges : List RangeItem) → IsListOf IsRangeItem ranges → IsListOf IsRangeItem (drop_first p ranges)
less_keeps p ranges list = record {
  few = let le : length (drop_first p ranges) ≤ length ranges = length_dropped p ranges in omega (arith, le, list.few);
  each = all_left IsRangeItem p ranges list.each;
}

by_exclusive : (id : OpenId) (span : Span) (ranges : List RangeItem) → IsListOf IsRangeItem ranges → (b : Bool)
    → IsListOf IsRangeItem (cond b (drop_first (is_range id span Exclusive) ranges) (drop_first (is_range id span Shared) ranges))
by_exclusive id span ranges list true = less_keeps (is_range id span Exclusive) ranges list
by_exclusive id span ranges list false = less_keeps (is_range id span Shared) ranges list

pub unlocked_keeps : (id : OpenId) (span : Span) (rec : RangeRec) → IsRangeRec rec → IsRangeRec (record rec { ranges = without_range id span rec.ranges })
unlocked_keeps id span rec sets = record {
  file = sets.file;
  watchers = sets.watchers;
  ranges = by_exclusive id span rec.ranges sets.ranges (has_range id span Exclusive rec.ranges);
}
