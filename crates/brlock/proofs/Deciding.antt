-- What a table decides of a `lock`, a `read` and a `write`, by what is found in a record.
use Rattle.std.proofs.Common.{◌≡◌, ◌||◌, ◌==◌, not, ℕ, ◌<◌, Bool, true, false, cond, List, [], ◌∷◌, filter, find, Option, Some, None, refl, ap, sym, ◌∙◌, arith}
use Rattle.std.specs.Option.{option_map, option_map_or}
use Rattle.std.specs.List.{list_any}
use Rattle.sid_core.specs.declared.ids.OpenId.{OpenId}
use Rattle.sid_core.specs.declared.ids.Moment.{Moment}
use Rattle.sid_core.specs.declared.call.Span.{Span}
use Rattle.sid_core.specs.declared.call.Mode.{Mode}
use Rattle.sid_core.specs.declared.reply.Reply.TheVariants.{Done, AccessDenied, InvalidParameter, FileLockConflict, InvalidLockRange}
use Rattle.sid_core.specs.Values.{has}
use Rattle.serial_table.specs.declared.rows.OpenRow.{OpenRow}
use Rattle.serial_table.specs.declared.rows.RangeRow.{RangeRow}
use Rattle.serial_table.specs.declared.decision.Caller.{Caller}
use Rattle.serial_table.specs.declared.decision.Decision.{Decision}
use Rattle.serial_table.specs.File.{FileView}
use Rattle.serial_table.specs.Decision.{only_reply}
use Rattle.serial_table.specs.Break.{break_others, none_of_them}
use Rattle.serial_table.specs.Range.{range_conflict, passes_end}
use Rattle.serial_table.specs.Lock.{grant_range, range_blocker, wait_for_range, lock_by, lock_range}
use Rattle.serial_table.specs.ReadWrite.{if_allowed}
use Rattle.serial_table.proofs.Heads.{by_first}
use Rattle.record_codec.specs.declared.range_rec.RangeItem.{RangeItem}
use Rattle.record_codec.specs.Counts.{Records}
use Rattle.brlock.specs.declared.answer.RAnswer.{RAnswer}
use Rattle.brlock.specs.declared.answer.RAnswer.TheVariants.{Granted, Conflict, InvalidRange, OutOfMemory}
use Rattle.record_rows.specs.Rows.{range_row}
use Rattle.brlock.specs.Ranges.{AsksAmong}
use Rattle.brlock.specs.Answer.{IfAnswered, IsAdded, in_the_way, first_conflict, told, wanted, forbids, first_forbidding, decided, done, told_io}
use Rattle.brlock.specs.Scans.{is_in_the_way}
use Rattle.brlock.proofs.Finding.{conflict_found, conflict_named}

-- ---- `lock`

-- the answer by the open that is in the way
abbrev pub answer_of : Option OpenId → RAnswer
answer_of None = Granted
answer_of (Some other) = Conflict other

module _ (f : FileView) (caller : Caller) (span : Span) (mode : Mode) (wait : Bool) (open_row : OpenRow) where
  abbrev granted : Decision
  granted = grant_range open_row span mode (break_others caller.moment open_row.file f none_of_them open_row.lease)

  abbrev waiting : RangeRow → Decision
  waiting first = wait_for_range caller open_row.file wait (range_blocker f first)

  by_found : (file : ℕ) (o : Option RangeItem) → told f caller span mode wait open_row (answer_of (option_map (λ (held : RangeItem). held.id) o)) ≡ option_map_or waiting (option_map (range_row file) o) granted
  by_found file None = refl
  by_found file (Some held) = refl

  allowed : (may : Bool) (passes : Bool) → may ≡ true → passes ≡ false → (rest : Decision) → rest ≡ cond (not may) (only_reply AccessDenied) (cond passes (only_reply InvalidLockRange) rest)
  allowed true false a b rest = refl
  allowed true true a b rest = absurd cc
  allowed false passes a b rest = absurd cc

  pub decides : (records : Records) (file : ℕ) (valid : List OpenId) (ranges : List RangeItem) (id : OpenId) → AsksAmong records file valid ranges id f open_row → has open_row.access.0 0x3 ≡ true → passes_end span ≡ false
      → told f caller span mode wait open_row (answer_of (option_map (λ (held : RangeItem). held.id) (find (is_in_the_way valid id span mode) ranges))) ≡ lock_range f caller span mode wait open_row
  decides records file valid ranges id asks may fits =
      by_found file (find (is_in_the_way valid id span mode) ranges)
      ∙ ap (λ o. option_map_or waiting o granted) (sym (conflict_found records file valid ranges id f open_row asks span mode))
      ∙ sym (by_first (lock_by f caller span mode wait open_row) waiting granted refl (λ x xs. refl) (λ held. range_conflict held open_row.id span mode) f.ranges)
      ∙ allowed (has open_row.access.0 0x3) (passes_end span) may fits (lock_by f caller span mode wait open_row (filter (λ held. range_conflict held open_row.id span mode) f.ranges))

-- the open of the first range that conflicts, where the asked one doesn't pass the end
unless_past : (past : Bool) → past ≡ false → (o : Option OpenId) → o ≡ cond past None o
unless_past true e o = absurd cc
unless_past false e o = refl

pub names_first : (records : Records) (file : ℕ) (valid : List OpenId) (ranges : List RangeItem) (id : OpenId) (f : FileView) (open_row : OpenRow) → AsksAmong records file valid ranges id f open_row
    → (span : Span) (mode : Mode) → passes_end span ≡ false
    → option_map (λ (held : RangeItem). held.id) (find (is_in_the_way valid id span mode) ranges) ≡ first_conflict f open_row span mode
names_first records file valid ranges id f open_row asks span mode fits =
    conflict_named records file valid ranges id f open_row asks span mode
    ∙ unless_past (passes_end span) fits (option_map (λ (held : RangeRow). held.id) (find (λ held. range_conflict held open_row.id span mode) f.ranges))

-- ---- a range that has come, or found no memory

pub added_names_none : (a : RAnswer) → IsAdded a → in_the_way a ≡ None
added_names_none Granted h = refl
added_names_none (Conflict other) h = absurd h
added_names_none InvalidRange h = absurd h
added_names_none OutOfMemory h = refl

pub added_decides : (valid : List OpenId) (ranges : List RangeItem) (id : OpenId) (span : Span) (mode : Mode) → passes_end span ≡ false
    → None ≡ option_map (λ (held : RangeItem). held.id) (find (is_in_the_way valid id span mode) ranges) → (a : RAnswer) → IsAdded a
    → IfAnswered a ((records : Records) (file : ℕ) (f : FileView) (caller : Caller) (wait : Bool) (open_row : OpenRow) → AsksAmong records file valid ranges id f open_row → has open_row.access.0 0x3 ≡ true
    → told f caller span mode wait open_row a ≡ lock_range f caller span mode wait open_row)
added_decides valid ranges id span mode fits none Granted h = λ records file f caller wait open_row asks may.
    ap (λ o. told f caller span mode wait open_row (answer_of o)) none ∙ decides f caller span mode wait open_row records file valid ranges id asks may fits
added_decides valid ranges id span mode fits none (Conflict other) h = absurd h
added_decides valid ranges id span mode fits none InvalidRange h = absurd h
added_decides valid ranges id span mode fits none OutOfMemory h = tt

-- ---- `read` and `write`

any_named : {X : Type 0} (b : Bool) (x : X) (rest : Option X) (c : Bool) → c ≡ option_map_or (λ _. true) rest false → (b || c) ≡ option_map_or (λ _. true) (cond b (Some x) rest) false
any_named true x rest c e = refl
any_named false x rest c e = e

any_is : {X : Type 0} (p : X → Bool) (xs : List X) → list_any p xs ≡ option_map_or (λ _. true) (find p xs) false
any_is p [] = refl
any_is p (x ∷ xs) = any_named (p x) x (find p xs) (list_any p xs) (any_is p xs)

module _ (now : Moment) (f : FileView) (open_row : OpenRow) where
  told_by : (write : Bool) (o : Option RangeRow) → told_io now f open_row write (option_map (λ (held : RangeRow). held.id) o) ≡ cond (option_map_or (λ _. true) o false) (only_reply FileLockConflict) (done now f open_row write)
  told_by write None = refl
  told_by write (Some held) = refl

  checked : (may empty passes : Bool) → may ≡ true → empty ≡ false → passes ≡ false → (rest : Decision) → rest ≡ cond (not may) (only_reply AccessDenied) (cond empty (only_reply Done) (cond passes (only_reply InvalidParameter) rest))
  checked true false false a b c rest = refl
  checked true false true a b c rest = absurd cc
  checked true true passes a b c rest = absurd cc
  checked false empty passes a b c rest = absurd cc

  as_decided : (span : Span) (write : Bool) → if_allowed f open_row (wanted write) span (forbids open_row span write) (done now f open_row write) ≡ decided now f span open_row write
  as_decided span true = refl
  as_decided span false = refl

  some_bytes : (n : ℕ) → 0 < n → (n == 0) ≡ false
  some_bytes n h = grind arith

  pub checks : (span : Span) (write : Bool) → has open_row.access.0 (wanted write) ≡ true → 0 < span.length → passes_end span ≡ false
      → told_io now f open_row write (first_forbidding f open_row span write) ≡ decided now f span open_row write
  checks span write may some fits =
      told_by write (find (forbids open_row span write) f.ranges)
      ∙ ap (λ b. cond b (only_reply FileLockConflict) (done now f open_row write)) (sym (any_is (forbids open_row span write) f.ranges))
      ∙ checked (has open_row.access.0 (wanted write)) (span.length == 0) (passes_end span) may (some_bytes span.length some) fits (cond (list_any (forbids open_row span write) f.ranges) (only_reply FileLockConflict) (done now f open_row write))
      ∙ as_decided span write
