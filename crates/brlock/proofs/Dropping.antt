-- What a table decides of an `unlock`, by what is found in a record.
use Rattle.std.proofs.Common.{◌≡◌, ◌&&◌, ◌||◌, ◌==◌, not, ℕ, suc, ◌+◌, nat_lt, Bool, true, false, cond, List, [], ◌∷◌, length, filter, map, Some, None, arith, refl, ap, sym, ◌∙◌, eq-eqb}
use Rattle.std.specs.List.{list_any, position, position_or_len}
use Rattle.std.proofs.lemmas.Bool.{and_parts}
use Rattle.sid_core.specs.declared.ids.OpenId.{OpenId}
use Rattle.sid_core.specs.declared.call.Span.{Span}
use Rattle.sid_core.specs.declared.call.Mode.{Mode}
use Rattle.sid_core.specs.declared.call.Mode.TheVariants.{Shared, Exclusive}
use Rattle.sid_core.specs.declared.reply.Reply.TheVariants.{RangeNotLocked}
use Rattle.sid_core.specs.Ids.{same_id}
use Rattle.serial_table.specs.declared.rows.OpenRow.{OpenRow}
use Rattle.serial_table.specs.File.{FileView}
use Rattle.serial_table.specs.Lists.{drop_first}
use Rattle.serial_table.specs.Change.{same_mode, same_range}
use Rattle.serial_table.specs.declared.decision.Decision.{Decision}
use Rattle.serial_table.specs.Decision.{only_reply}
use Rattle.serial_table.specs.Range.{range_of}
use Rattle.serial_table.specs.Unlock.{drop_range, unlock_range}
use Rattle.serial_table.proofs.SameIds.{same_id-eq}
use Rattle.serial_table.proofs.InPlace.{any_in_map}
use Rattle.serial_table.proofs.Filters.{any_kept, filter-drop_first, filter_dropped_out}
use Rattle.record_codec.specs.declared.range_rec.RangeItem.{RangeItem}
use Rattle.record_codec.specs.Counts.{Records, id_counts, range_counts}
use Rattle.record_rows.specs.Rows.{range_row}
use Rattle.brlock.specs.Ranges.{counted_ranges, stale_ranges, AsksBefore}
use Rattle.brlock.specs.Answer.{without_changes, told_unlocked, is_range, has_range, without_range, ranges_with}

there_here : (b : Bool) (n l : ℕ) (c : Bool) → nat_lt n l ≡ c → nat_lt (cond (not b) (1 + n) 0) (suc l) ≡ (b || c)
there_here true n l c e = grind arith
there_here false n l c e = grind arith

found_here : (b : Bool) (n i : ℕ) → cond b (Some n) None ≡ Some i → true ≡ b
found_here true n i e = refl
found_here false n i e = absurd cc

missing_here : (b : Bool) (n : ℕ) → cond b (Some n) None ≡ None → false ≡ b
missing_here true n e = absurd cc
missing_here false n e = refl

module _ {X : Type 0} where
  not_first : (b c : Bool) (x : X) (xs ys : List X) → (c ≡ false → ys ≡ xs) → (b || c) ≡ false → cond b xs (x ∷ ys) ≡ x ∷ xs
  not_first true c x xs ys h e = absurd cc
  not_first false c x xs ys h e = ap (λ zs. x ∷ zs) (h e)

  pub none_dropped : (p : X → Bool) (xs : List X) → list_any p xs ≡ false → drop_first p xs ≡ xs
  none_dropped p [] e = refl
  none_dropped p (x ∷ xs) e = not_first (p x) (list_any p xs) x xs (drop_first p xs) (none_dropped p xs) e

  there : (p : X → Bool) (xs : List X) → nat_lt (position_or_len p xs) (length xs) ≡ list_any p xs
  there p [] = refl
  there p (x ∷ xs) = there_here (p x) (position_or_len p xs) (length xs) (list_any p xs) (there p xs)

  -- there is one where the place of the first is found
  pub is_there : (p : X → Bool) (xs : List X) (i : ℕ) → position p xs ≡ Some i → true ≡ list_any p xs
  is_there p xs i e = found_here (nat_lt (position_or_len p xs) (length xs)) (position_or_len p xs) i e ∙ there p xs

  pub is_missing : (p : X → Bool) (xs : List X) → position p xs ≡ None → false ≡ list_any p xs
  is_missing p xs e = missing_here (nat_lt (position_or_len p xs) (length xs)) (position_or_len p xs) e ∙ there p xs

  any_alike : (p q : X → Bool) → ((x : X) → p x ≡ q x) → (xs : List X) → list_any p xs ≡ list_any q xs
  any_alike p q h [] = refl
  any_alike p q h (x ∷ xs) = ap (λ b. b || list_any p xs) (h x) ∙ ap (λ b. q x || b) (any_alike p q h xs)

module _ {X Y : Type 0} where
  dropped_here : (g : X → Y) (b : Bool) (x : X) (xs ys : List X) (zs : List Y) → zs ≡ map g ys → cond b (map g xs) (g x ∷ zs) ≡ map g (cond b xs (x ∷ ys))
  dropped_here g true x xs ys zs e = refl
  dropped_here g false x xs ys zs e = ap (λ ws. g x ∷ ws) e

  dropped_in_map : (p : Y → Bool) (q : X → Bool) (g : X → Y) → ((x : X) → p (g x) ≡ q x) → (xs : List X) → drop_first p (map g xs) ≡ map g (drop_first q xs)
  dropped_in_map p q g h [] = refl
  dropped_in_map p q g h (x ∷ xs) =
      ap (λ b. cond b (map g xs) (g x ∷ drop_first p (map g xs))) (h x) ∙ dropped_here g (q x) x xs (drop_first q xs) (drop_first p (map g xs)) (dropped_in_map p q g h xs)

-- a test that has passed doesn't fail
contrary : (b d : Bool) → (b ≡ true → d ≡ true) → d ≡ false → b ≡ false
contrary true d h e = let w : d ≡ true = h refl in absurd cc
contrary false d h e = refl

module _ (records : Records) (file : ℕ) (ranges : List RangeItem) (id : OpenId) (counts : id_counts records file id ≡ true) (span : Span) where
  -- the ranges of an open that counts count
  own_counts : (mode : Mode) (r : RangeItem) → is_range id span mode r ≡ true → range_counts records file r ≡ true
  own_counts mode r e =
      ap (id_counts records file) (same_id-eq r.id id (and_parts (same_id r.id id) ((r.start == span.start) && ((r.length == span.length) && same_mode r.mode mode)) e).0) ∙ counts

  stale_dropped : (mode : Mode) → stale_ranges records file (drop_first (is_range id span mode) ranges) ≡ stale_ranges records file ranges
  stale_dropped mode =
      filter_dropped_out (is_range id span mode) (λ r. not (range_counts records file r)) (λ r e. ap not (own_counts mode r e)) ranges

  stale_left : (exclusive : Bool) → stale_ranges records file (cond exclusive (drop_first (is_range id span Exclusive) ranges) (drop_first (is_range id span Shared) ranges)) ≡ stale_ranges records file ranges
  stale_left true = stale_dropped Exclusive
  stale_left false = stale_dropped Shared

  -- what doesn't count stays
  pub stale_stay : stale_ranges records file (without_range id span ranges) ≡ stale_ranges records file ranges
  stale_stay = stale_left (has_range id span Exclusive ranges)

module _ (records : Records) (file : ℕ) (ranges : List RangeItem) (id : OpenId) (counts : id_counts records file id ≡ true) (span : Span) (f : FileView) (open_row : OpenRow) (asks : AsksBefore records file ranges id f open_row) where
  same_here : (mode : Mode) (r : RangeItem) → same_range (range_of open_row span mode) (range_row file r) ≡ is_range id span mode r
  same_here mode r =
      ap (λ b. b && (same_id r.id open_row.id && ((r.start == span.start) && ((r.length == span.length) && same_mode r.mode mode)))) (eq-eqb file open_row.file (sym asks.file_is))
      ∙ ap (λ x. same_id r.id x && ((r.start == span.start) && ((r.length == span.length) && same_mode r.mode mode))) asks.id_is

  has_it : (mode : Mode) → list_any (same_range (range_of open_row span mode)) f.ranges ≡ has_range id span mode ranges
  has_it mode =
      ap (list_any (same_range (range_of open_row span mode))) asks.ranges_are
      ∙ any_in_map (range_row file) (same_range (range_of open_row span mode)) (filter (range_counts records file) ranges)
      ∙ any_alike (λ r. same_range (range_of open_row span mode) (range_row file r)) (is_range id span mode) (same_here mode) (filter (range_counts records file) ranges)
      ∙ any_kept (is_range id span mode) (range_counts records file) (λ r. contrary (is_range id span mode r) (range_counts records file r) (own_counts records file ranges id counts span mode r)) ranges

  dropped : (mode : Mode) → counted_ranges records file (drop_first (is_range id span mode) ranges) ≡ drop_first (same_range (range_of open_row span mode)) f.ranges
  dropped mode =
      ap (map (range_row file)) (filter-drop_first true (is_range id span mode) (range_counts records file) (own_counts records file ranges id counts span mode) ranges)
      ∙ sym (dropped_in_map (same_range (range_of open_row span mode)) (is_range id span mode) (range_row file) (same_here mode) (filter (range_counts records file) ranges))
      ∙ ap (drop_first (same_range (range_of open_row span mode))) (sym asks.ranges_are)

  -- by whether there is an exclusive range, and whether there is a shared one
  abbrev deciding : Bool → Bool → Decision
  deciding exclusive shared = cond exclusive (drop_range open_row span Exclusive) (cond shared (drop_range open_row span Shared) (only_reply RangeNotLocked))

  replies : (exclusive shared : Bool) → told_unlocked open_row (exclusive || shared) ≡ without_changes (deciding exclusive shared)
  replies true shared = refl
  replies false true = refl
  replies false false = refl

  leaves : (exclusive shared : Bool) → has_range id span Shared ranges ≡ shared
      → counted_ranges records file (cond exclusive (drop_first (is_range id span Exclusive) ranges) (drop_first (is_range id span Shared) ranges)) ≡ ranges_with f (deciding exclusive shared)
  leaves true shared e = dropped Exclusive
  leaves false true e = dropped Shared
  leaves false false e = ap (counted_ranges records file) (none_dropped (is_range id span Shared) ranges e) ∙ sym asks.ranges_are

  decided : deciding (has_range id span Exclusive ranges) (has_range id span Shared ranges) ≡ unlock_range f span open_row
  decided = sym (ap (λ b. deciding b (list_any (same_range (range_of open_row span Shared)) f.ranges)) (has_it Exclusive) ∙ ap (deciding (has_range id span Exclusive ranges)) (has_it Shared))

  pub record Unlocks : Type 0 where
    pub decision : told_unlocked open_row (has_range id span Exclusive ranges || has_range id span Shared ranges) ≡ without_changes (unlock_range f span open_row)
    pub ranges_are : counted_ranges records file (without_range id span ranges) ≡ ranges_with f (unlock_range f span open_row)

  pub unlocks : Unlocks
  unlocks = record {
    decision = replies (has_range id span Exclusive ranges) (has_range id span Shared ranges) ∙ ap without_changes decided;
    ranges_are = leaves (has_range id span Exclusive ranges) (has_range id span Shared ranges) refl ∙ ap (ranges_with f) decided;
  }

-- ---- what the code leaves

module _ (id : OpenId) (span : Span) (ranges : List RangeItem) where
  pub exclusive_left : has_range id span Exclusive ranges ≡ true → drop_first (is_range id span Exclusive) ranges ≡ without_range id span ranges
  exclusive_left e = sym (ap (λ b. cond b (drop_first (is_range id span Exclusive) ranges) (drop_first (is_range id span Shared) ranges)) e)

  pub shared_left : (left : List RangeItem) → left ≡ drop_first (is_range id span Exclusive) ranges → has_range id span Exclusive ranges ≡ false → drop_first (is_range id span Shared) left ≡ without_range id span ranges
  shared_left left is e =
      ap (drop_first (is_range id span Shared)) (is ∙ none_dropped (is_range id span Exclusive) ranges e)
      ∙ sym (ap (λ b. cond b (drop_first (is_range id span Exclusive) ranges) (drop_first (is_range id span Shared) ranges)) e)

  pub exclusive_there : has_range id span Exclusive ranges ≡ true → true ≡ (has_range id span Exclusive ranges || has_range id span Shared ranges)
  exclusive_there e = sym (ap (λ b. b || has_range id span Shared ranges) e)

  pub shared_there : (left : List RangeItem) → left ≡ drop_first (is_range id span Exclusive) ranges → has_range id span Exclusive ranges ≡ false
      → has_range id span Shared left ≡ (has_range id span Exclusive ranges || has_range id span Shared ranges)
  shared_there left is e =
      ap (has_range id span Shared) (is ∙ none_dropped (is_range id span Exclusive) ranges e) ∙ sym (ap (λ b. b || has_range id span Shared ranges) e)
