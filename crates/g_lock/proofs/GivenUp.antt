-- What a table decides of a `gunlock`.
use Rattle.std.proofs.Common.{◌≡◌, ◌&&◌, ◌||◌, not, ℕ, Bool, true, false, cond, List, [], ◌∷◌, ◌++◌, length, ◌≤◌, filter, map, find, Option, Some, None, refl, ap, sym, subst, ◌∙◌, arith, eq-eqb}
use Rattle.std.specs.Option.{option_map, option_map_or}
use Rattle.std.specs.List.{list_any, AllByRecursion}
use Rattle.std.specs.Ordering.{nat_cmp}
use Rattle.std.specs.FinMap.{FinMap}
use Rattle.sid_core.specs.declared.ids.Sid.{Sid}
use Rattle.sid_core.specs.declared.ids.Spot.TheVariants.{LockOf}
use Rattle.sid_core.specs.declared.reply.Reply.TheVariants.{Done, ObjectNameNotFound}
use Rattle.sid_core.specs.Ids.{same_sid}
use Rattle.serial_table.specs.declared.rows.HoldRow.{HoldRow}
use Rattle.serial_table.specs.declared.rows.Watch.{Watch}
use Rattle.serial_table.specs.declared.change.Change.TheVariants.{DropHold}
use Rattle.serial_table.specs.declared.decision.Caller.{Caller}
use Rattle.serial_table.specs.declared.decision.Decision.{Decision}
use Rattle.serial_table.specs.View.{View}
use Rattle.serial_table.specs.Change.{perform_all_by_key, is_hold}
use Rattle.serial_table.specs.Decision.{only_reply, waits_no_more, own_waits_end}
use Rattle.serial_table.specs.GlobalLock.{own_holds, gunlock_by, gunlock}
use Rattle.serial_table.proofs.Filters.{filter-filter}
use Rattle.serial_table.proofs.Heads.{by_first}
use Rattle.serial_table.proofs.Counting.{length_filtered}
use Rattle.record_codec.specs.declared.glock_rec.Hold.{Hold}
use Rattle.record_codec.specs.declared.glock_rec.GLockRec.{GLockRec}
use Rattle.record_codec.specs.declared.register_rec.RegisterRec.{RegisterRec}
use Rattle.record_codec.specs.Counts.{lives, hold_counts}
use Rattle.record_codec.specs.Fields.{IsListOf}
use Rattle.record_codec.specs.GLockRec.{IsHold, IsUpgradeWatch, IsGLockRec}
use Rattle.server_ids.specs.Sessions.{registered}
use Rattle.record_rows.specs.Rows.{hold_row}
use Rattle.g_lock.specs.Holds.{counted_holds, AsksBefore}
use Rattle.g_lock.specs.Answer.{holds_after}
use Rattle.g_lock.specs.Scans.{is_own}
use Rattle.g_lock.proofs.Found.{is_owned, any_is, own_found}
use Rattle.g_lock.proofs.Held.{after_waits}

-- ---- the holds of the others

none_here : {X : Type 0} (b c : Bool) (x : X) (rest xs : List X) → (c ≡ false → rest ≡ xs) → (b || c) ≡ false → cond (not b) (x ∷ rest) rest ≡ x ∷ xs
none_here true c x rest xs h e = absurd cc
none_here false c x rest xs h e = ap (λ ys. x ∷ ys) (h e)

pub none_stays : {X : Type 0} (p : X → Bool) (xs : List X) → list_any p xs ≡ false → filter (λ x. not (p x)) xs ≡ xs
none_stays p [] e = refl
none_stays p (x ∷ xs) e = none_here (p x) (list_any p xs) x (filter (λ x. not (p x)) xs) xs (none_stays p xs) e

row_here : {X Y : Type 0} (f : X → Y) (b : Bool) (x : X) (xs : List X) (ys : List Y) → ys ≡ map f xs → cond b (f x ∷ ys) ys ≡ map f (cond b (x ∷ xs) xs)
row_here f true x xs ys e = ap (λ zs. f x ∷ zs) e
row_here f false x xs ys e = e

filter_of_map : {X Y : Type 0} (q : Y → Bool) (f : X → Y) (xs : List X) → filter q (map f xs) ≡ map f (filter (λ x. q (f x)) xs)
filter_of_map q f [] = refl
filter_of_map q f (x ∷ xs) = row_here f (q (f x)) x (filter (λ x. q (f x)) xs) (filter q (map f xs)) (filter_of_map q f xs)

filter_alike : {X : Type 0} (p q : X → Bool) → ((x : X) → p x ≡ q x) → (xs : List X) → filter p xs ≡ filter q xs
filter_alike p q h [] = refl
filter_alike p q h (x ∷ xs) = ap (λ b. cond b (x ∷ filter p xs) (filter p xs)) (h x) ∙ ap (λ ys. cond (q x) (x ∷ ys) ys) (filter_alike p q h xs)

abbrev pub others : Sid → List Hold → List Hold
others sid hs = filter (λ hold. not (is_own sid hold)) hs

-- the holds of the others that count are those that a table has once this session's is dropped
dropped : (register : FinMap nat_cmp RegisterRec) (key : ℕ) (sid : Sid) (hs : List Hold)
    → filter (λ row. not (is_hold key sid row)) (counted_holds register key hs) ≡ counted_holds register key (others sid hs)
dropped register key sid hs =
    filter_of_map (λ row. not (is_hold key sid row)) (hold_row key) (filter (hold_counts (registered register)) hs)
    ∙ ap (map (hold_row key)) (
    filter_alike (λ hold. not (is_hold key sid (hold_row key hold))) (λ hold. not (is_own sid hold)) (λ hold. ap (λ b. not (b && is_own sid hold)) (eq-eqb key key refl)) (filter (hold_counts (registered register)) hs)
    ∙ filter-filter (λ hold. not (is_own sid hold)) (hold_counts (registered register)) hs)

abbrev giving_up : Caller → ℕ → Decision
giving_up caller key = record (only_reply Done) { changes = DropHold key caller.sid ∷ []; spots = LockOf key ∷ [] }

abbrev decided : Caller → ℕ → Option Hold → Decision
decided caller key None = only_reply ObjectNameNotFound
decided caller key (Some own) = giving_up caller key

by_own : (caller : Caller) (key : ℕ) (own : Option Hold) → option_map_or (λ (row : HoldRow). giving_up caller key) (option_map (hold_row key) own) (only_reply ObjectNameNotFound) ≡ decided caller key own
by_own caller key None = refl
by_own caller key (Some own) = refl

replies : (caller : Caller) (key : ℕ) (own : Option Hold) → cond (option_map_or (λ _. true) own false) Done ObjectNameNotFound ≡ (decided caller key own).reply
replies caller key None = refl
replies caller key (Some own) = refl

module _ (register : FinMap nat_cmp RegisterRec) (key : ℕ) (hs : List Hold) where
  decided_by : (v : View) (caller : Caller) → v.holds_of key ≡ counted_holds register key hs → lives (registered register) caller.sid ≡ true
      → gunlock_by caller key (own_holds v caller key) ≡ decided caller key (find (is_own caller.sid) hs)
  decided_by v caller shown living =
      by_first (gunlock_by caller key) (λ row. giving_up caller key) (only_reply ObjectNameNotFound) refl (λ row rows. refl) (is_owned caller.sid) (v.holds_of key)
      ∙ ap (λ o. option_map_or (λ (row : HoldRow). giving_up caller key) o (only_reply ObjectNameNotFound)) (ap (find (is_owned caller.sid)) shown ∙ own_found register key hs caller.sid living)
      ∙ by_own caller key (find (is_own caller.sid) hs)

  holds_by : (v : View) (caller : Caller) → v.holds_of key ≡ counted_holds register key hs → (own : Option Hold) → list_any (is_own caller.sid) hs ≡ option_map_or (λ _. true) own false
      → (over : List Watch) → (perform_all_by_key (map waits_no_more over ++ (decided caller key own).changes) v).holds_of key ≡ counted_holds register key (others caller.sid hs)
  holds_by v caller shown None any over =
      after_waits key [] (λ rows. rows) (λ v. refl) over v ∙ shown ∙ ap (counted_holds register key) (sym (none_stays (is_own caller.sid) hs any))
  holds_by v caller shown (Some own) any over =
      after_waits key (DropHold key caller.sid ∷ []) (filter (λ row. not (is_hold key caller.sid row))) (λ v. refl) over v
      ∙ ap (filter (λ row. not (is_hold key caller.sid row))) shown ∙ dropped register key caller.sid hs

  pub record GivesUp (v : View) (caller : Caller) (sid : Sid) : Type 0 where
    pub reply : cond (list_any (is_own sid) hs) Done ObjectNameNotFound ≡ (gunlock v caller key).reply
    pub holds : counted_holds register key (others sid hs) ≡ holds_after v key (gunlock v caller key)

  by_caller : (v : View) (caller : Caller) → v.holds_of key ≡ counted_holds register key hs → lives (registered register) caller.sid ≡ true → GivesUp v caller caller.sid
  unfolding gunlock
  by_caller v caller shown living =
      let own : Option Hold = find (is_own caller.sid) hs in
      let is : gunlock_by caller key (own_holds v caller key) ≡ decided caller key own = decided_by v caller shown living in
      record {
        reply = ap (λ b. cond b Done ObjectNameNotFound) (any_is (is_own caller.sid) hs) ∙ replies caller key own ∙ sym (ap (λ d. d.reply) is);
        holds = sym (ap (λ d. (perform_all_by_key (own_waits_end caller (v.watches_on (LockOf key)) ++ d.changes) v).holds_of key) is
            ∙ holds_by v caller shown own (any_is (is_own caller.sid) hs) (filter (λ watch. same_sid watch.sid caller.sid) (v.watches_on (LockOf key))));
      }

  pub gives_up : (sid : Sid) (v : View) (caller : Caller) → AsksBefore register key hs sid v caller → GivesUp v caller sid
  gives_up sid v caller asks =
      subst (GivesUp v caller) asks.caller_is (by_caller v caller asks.holds_are (ap (lives (registered register)) asks.caller_is ∙ asks.living))

-- ---- the record's values keep their sets

kept_here : {X : Type 0} (P : X → Type 0) (b : Bool) (x : X) (xs : List X) → P x → AllByRecursion P xs → AllByRecursion P (cond b (x ∷ xs) xs)
kept_here P true x xs p all = (p, all)
kept_here P false x xs p all = all

all_kept : {X : Type 0} (P : X → Type 0) (q : X → Bool) (xs : List X) → AllByRecursion P xs → AllByRecursion P (filter q xs)
all_kept P q [] all = tt
all_kept P q (x ∷ xs) all = kept_here P (q x) x (filter q xs) all.0 (all_kept P q xs all.1)

pub sets_stay : (sid : Sid) (old new : GLockRec) → new.holds ≡ others sid old.holds → new.watchers ≡ old.watchers → IsGLockRec old → IsGLockRec new
sets_stay sid old new is same sets = record {
  holds = subst (IsListOf IsHold) (sym is) (record {
    few = let le : length (others sid old.holds) ≤ length old.holds = length_filtered (λ hold. not (is_own sid hold)) old.holds in omega (arith, sets.holds.few);
    each = all_kept IsHold (λ hold. not (is_own sid hold)) old.holds sets.holds.each;
  });
  watchers = subst (IsListOf IsUpgradeWatch) (sym same) sets.watchers;
}
