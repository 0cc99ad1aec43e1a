-- What becomes of the holds of a record is what becomes of those of a table.
use Rattle.std.proofs.Common.{◌≡◌, ◌&&◌, ◌==◌, not, ℕ, ◌+◌, ◌<◌, ◌^◌, Bool, true, false, cond, List, [], ◌∷◌, ◌++◌, length, filter, map, Option, Some, None, refl, ap, sym, subst, ◌∙◌, eq-eqb}
use Rattle.std.specs.List.{AllByRecursion}
use Rattle.std.specs.Ordering.{nat_cmp}
use Rattle.std.specs.FinMap.{FinMap}
use Rattle.std.proofs.lemmas.List.{map-append, length-map, length-append}
use Rattle.std.proofs.lemmas.List.Elements.{filter-append}
use Rattle.sid_core.specs.declared.ids.Sid.{Sid}
use Rattle.sid_core.specs.declared.call.Mode.{Mode}
use Rattle.sid_core.specs.declared.call.Mode.TheVariants.{Shared, Exclusive}
use Rattle.sid_core.specs.Values.{IsU32}
use Rattle.serial_table.specs.declared.rows.HoldRow.{HoldRow}
use Rattle.serial_table.specs.declared.rows.Watch.{Watch}
use Rattle.serial_table.specs.declared.change.Change.{Change}
use Rattle.serial_table.specs.declared.change.Change.TheVariants.{AddHold, SetHold}
use Rattle.serial_table.specs.declared.decision.Caller.{Caller}
use Rattle.serial_table.specs.View.{View, keeping_waits}
use Rattle.serial_table.specs.Change.{perform_all_by_key, set_hold, is_other_wait}
use Rattle.serial_table.specs.Decision.{waits_no_more}
use Rattle.serial_table.proofs.Filters.{filter_one_out, filter-map, map_left_alone}
use Rattle.record_codec.specs.declared.watch.WatchRec.{WatchRec}
use Rattle.record_codec.specs.declared.glock_rec.Hold.{Hold}
use Rattle.record_codec.specs.declared.register_rec.RegisterRec.{RegisterRec}
use Rattle.record_codec.specs.Counts.{lives, hold_counts}
use Rattle.record_codec.specs.Fields.{IsSid, IsListOf}
use Rattle.record_codec.specs.declared.glock_rec.GLockRec.{GLockRec}
use Rattle.record_codec.specs.GLockRec.{IsHold, IsUpgradeWatch, IsGLockRec}
use Rattle.server_ids.specs.Sessions.{registered}
use Rattle.record_rows.specs.Rows.{hold_row}
use Rattle.g_lock.specs.Holds.{counted_holds, stale_holds}
use Rattle.g_lock.specs.declared.answer.GAnswer.{GAnswer}
use Rattle.g_lock.specs.declared.answer.GAnswer.TheVariants.{Granted, Lowered, NotGranted, Pending, PossibleDeadlock, OutOfMemory}
use Rattle.g_lock.specs.Scans.{is_own, own_in, in_mode, held_in, becomes, answered, changed, raised_behind}
use Rattle.g_lock.proofs.Found.{own_counts}
use Rattle.g_lock.proofs.Deciding.{deciding, changing, raising_behind}

-- ---- waits that are over change no hold

-- What changes make of the holds, they make of them behind waits that are over.
pub after_waits : (key : ℕ) (cs : List Change) (f : List HoldRow → List HoldRow) → ((v : View) → (perform_all_by_key cs v).holds_of key ≡ f (v.holds_of key))
    → (over : List Watch) (v : View) → (perform_all_by_key (map waits_no_more over ++ cs) v).holds_of key ≡ f (v.holds_of key)
after_waits key cs f h [] v = h v
after_waits key cs f h (w ∷ ws) v = after_waits key cs f h ws (keeping_waits (is_other_wait w.sid w.call) v)

map_over : {X Y : Type 0} (f : X → Y) (s : X → X) (t : Y → Y) → ((x : X) → f (s x) ≡ t (f x)) → (xs : List X) → map f (map s xs) ≡ map t (map f xs)
map_over f s t h [] = refl
map_over f s t h (x ∷ xs) = ap (λ y. y ∷ map f (map s xs)) (h x) ∙ ap (λ ys. t (f x) ∷ ys) (map_over f s t h xs)

-- ---- the session's own hold in another mode

counts_in : (f : Sid → Bool) (b : Bool) (x : Hold) (mode : Mode) → f (cond b (record x { mode = mode }) x).sid ≡ f x.sid
counts_in f true x mode = refl
counts_in f false x mode = refl

row_in : (key : ℕ) (b : Bool) (x : Hold) (mode : Mode) → hold_row key (cond b (record x { mode = mode }) x) ≡ cond b (record (hold_row key x) { mode = mode }) (hold_row key x)
row_in key true x mode = refl
row_in key false x mode = refl

row_set : (key : ℕ) (sid : Sid) (mode : Mode) (x : Hold) → hold_row key (in_mode sid mode x) ≡ set_hold key sid mode (hold_row key x)
unfolding set_hold
row_set key sid mode x =
    row_in key (is_own sid x) x mode
    ∙ sym (ap (λ b. cond (b && is_own sid x) (record (hold_row key x) { mode = mode }) (hold_row key x)) (eq-eqb key key refl))

stays_as : (b c : Bool) (x : Hold) (mode : Mode) → (b ≡ true → c ≡ true) → not c ≡ true → cond b (record x { mode = mode }) x ≡ x
stays_as true c x mode h e = absurd (let k : c ≡ true = h refl in cc)
stays_as false c x mode h e = refl

module _ (register : FinMap nat_cmp RegisterRec) (sid : Sid) (living : lives (registered register) sid ≡ true) where
  counted_push : (key : ℕ) (mode : Mode) (hs : List Hold) → counted_holds register key (hs ++ own_in sid mode ∷ []) ≡ counted_holds register key hs ++ hold_row key (own_in sid mode) ∷ []
  counted_push key mode hs =
      ap (map (hold_row key)) (filter-append (hold_counts (registered register)) hs (own_in sid mode ∷ []) ∙ ap (λ b. filter (hold_counts (registered register)) hs ++ cond b (own_in sid mode ∷ []) []) living)
      ∙ map-append (hold_row key) (filter (hold_counts (registered register)) hs) (own_in sid mode ∷ [])

  counted_set : (key : ℕ) (mode : Mode) (hs : List Hold) → counted_holds register key (map (in_mode sid mode) hs) ≡ map (set_hold key sid mode) (counted_holds register key hs)
  counted_set key mode hs =
      ap (map (hold_row key)) (filter-map (hold_counts (registered register)) (in_mode sid mode) (λ x. counts_in (lives (registered register)) (is_own sid x) x mode) hs)
      ∙ map_over (hold_row key) (in_mode sid mode) (set_hold key sid mode) (row_set key sid mode) (filter (hold_counts (registered register)) hs)

  stale_set : (mode : Mode) (hs : List Hold) → stale_holds register (map (in_mode sid mode) hs) ≡ stale_holds register hs
  stale_set mode hs =
      filter-map (λ h. not (hold_counts (registered register) h)) (in_mode sid mode) (λ x. ap not (counts_in (lives (registered register)) (is_own sid x) x mode)) hs
      ∙ map_left_alone (λ h. not (hold_counts (registered register) h)) (in_mode sid mode) (λ x. stays_as (is_own sid x) (hold_counts (registered register) x) x mode (own_counts register sid living x)) hs

  stale_push : (mode : Mode) (hs : List Hold) → stale_holds register (hs ++ own_in sid mode ∷ []) ≡ stale_holds register hs
  stale_push mode hs = filter_one_out (λ h. not (hold_counts (registered register) h)) (own_in sid mode) hs (ap not living)

  stale_changed : (b : Bool) (mode : Mode) (hs : List Hold) → stale_holds register (cond b hs (map (in_mode sid mode) hs)) ≡ stale_holds register hs
  stale_changed true mode hs = refl
  stale_changed false mode hs = stale_set mode hs

  stale_held : (mode : Mode) (own : Option Hold) (hs : List Hold) → stale_holds register (held_in sid mode own hs) ≡ stale_holds register hs
  stale_held mode None hs = stale_push mode hs
  stale_held mode (Some own) hs = stale_changed _ mode hs

  -- what doesn't count stays
  pub stale_stay : (a : GAnswer) (mode : Mode) (own : Option Hold) (hs : List Hold) → stale_holds register (becomes a sid mode own hs) ≡ stale_holds register hs
  stale_stay Granted mode own hs = stale_held mode own hs
  stale_stay Lowered mode own hs = stale_held mode own hs
  stale_stay (NotGranted holder) mode own hs = refl
  stale_stay (Pending blocker upgrade) mode own hs = refl
  stale_stay (PossibleDeadlock other) mode own hs = refl
  stale_stay OutOfMemory mode own hs = refl

-- ---- the holds that count afterwards

module _ (register : FinMap nat_cmp RegisterRec) (caller : Caller) (living : lives (registered register) caller.sid ≡ true) (key : ℕ) (hs : List Hold) (over : List Watch) (v : View)
    (shown : v.holds_of key ≡ counted_holds register key hs) where
  same_after : (perform_all_by_key (map waits_no_more over ++ []) v).holds_of key ≡ counted_holds register key hs
  same_after = after_waits key [] (λ rows. rows) (λ v. refl) over v ∙ shown

  added_after : (mode : Mode)
      → (perform_all_by_key (map waits_no_more over ++ AddHold (record { owner = caller.sid; key = key; mode = mode }) ∷ []) v).holds_of key ≡ counted_holds register key (hs ++ own_in caller.sid mode ∷ [])
  added_after mode =
      after_waits key (AddHold (hold_row key (own_in caller.sid mode)) ∷ []) (λ rows. rows ++ hold_row key (own_in caller.sid mode) ∷ [])
      (λ v. ap (λ b. v.holds_of key ++ cond b (hold_row key (own_in caller.sid mode) ∷ []) []) (eq-eqb key key refl)) over v
      ∙ ap (λ rows. rows ++ hold_row key (own_in caller.sid mode) ∷ []) shown ∙ sym (counted_push register caller.sid living key mode hs)

  set_after : (mode : Mode) → (perform_all_by_key (map waits_no_more over ++ SetHold key caller.sid mode ∷ []) v).holds_of key ≡ counted_holds register key (map (in_mode caller.sid mode) hs)
  set_after mode =
      after_waits key (SetHold key caller.sid mode ∷ []) (map (set_hold key caller.sid mode)) (λ v. refl) over v
      ∙ ap (map (set_hold key caller.sid mode)) shown ∙ sym (counted_set register caller.sid living key mode hs)

  after_gained : (mode : Mode) (wait : Bool) (first : Option Hold) (beside : Option WatchRec)
      → (perform_all_by_key (map waits_no_more over ++ (deciding caller key mode wait None first beside).changes) v).holds_of key
      ≡ counted_holds register key (becomes (answered wait mode None first beside) caller.sid mode None hs)
  after_gained mode wait None beside = added_after mode
  after_gained mode false (Some first) beside = same_after
  after_gained mode true (Some first) beside = same_after

  after_raised : (sid : Sid) (wait : Bool) (first : Hold) (beside : Option WatchRec)
      → (perform_all_by_key (map waits_no_more over ++ (raising_behind caller key wait first.sid beside).changes) v).holds_of key
      ≡ counted_holds register key (becomes (raised_behind wait first.sid beside) caller.sid Exclusive (Some (record { sid = sid; mode = Shared })) hs)
  after_raised sid false first beside = same_after
  after_raised sid true first None = same_after
  after_raised sid true first (Some watch) = same_after

  after_changed : (sid : Sid) (wait : Bool) (held asked : Mode) (first : Option Hold) (beside : Option WatchRec)
      → (perform_all_by_key (map waits_no_more over ++ (changing caller key wait held asked first beside).changes) v).holds_of key
      ≡ counted_holds register key (becomes (changed wait held asked first beside) caller.sid asked (Some (record { sid = sid; mode = held })) hs)
  after_changed sid wait Shared Shared first beside = same_after
  after_changed sid wait Exclusive Exclusive first beside = same_after
  after_changed sid wait Exclusive Shared first beside = set_after Shared
  after_changed sid wait Shared Exclusive None beside = set_after Exclusive
  after_changed sid wait Shared Exclusive (Some first) beside = after_raised sid wait first beside

  pub after_decided : (mode : Mode) (wait : Bool) (own first : Option Hold) (beside : Option WatchRec)
      → (perform_all_by_key (map waits_no_more over ++ (deciding caller key mode wait own first beside).changes) v).holds_of key
      ≡ counted_holds register key (becomes (answered wait mode own first beside) caller.sid mode own hs)
  after_decided mode wait None first beside = after_gained mode wait first beside
  after_decided mode wait (Some own) first beside = after_changed own.sid wait own.mode mode first beside

-- ---- the record's values keep their sets

set_here : (b : Bool) (x : Hold) (mode : Mode) → IsHold x → IsHold (cond b (record x { mode = mode }) x)
set_here true x mode h = record { sid = h.sid }
set_here false x mode h = h

all_push : {X : Type 0} (P : X → Type 0) (xs : List X) (x : X) → AllByRecursion P xs → P x → AllByRecursion P (xs ++ x ∷ [])
all_push P [] x all p = (p, tt)
all_push P (y ∷ ys) x all p = (all.0, all_push P ys x all.1 p)

all_set : (sid : Sid) (mode : Mode) (hs : List Hold) → AllByRecursion IsHold hs → AllByRecursion IsHold (map (in_mode sid mode) hs)
all_set sid mode [] h = tt
all_set sid mode (x ∷ xs) h = (set_here (is_own sid x) x mode h.0, all_set sid mode xs h.1)

module _ (sid : Sid) (mode : Mode) (hs : List Hold) (list_is : IsListOf IsHold hs) (sid_is : IsSid sid) (few : length hs + 1 < 2 ^ 32) where
  list_changed : (b : Bool) → IsListOf IsHold (cond b hs (map (in_mode sid mode) hs))
  list_changed true = list_is
  list_changed false = record { few = subst IsU32 (sym (length-map hs (in_mode sid mode))) list_is.few; each = all_set sid mode hs list_is.each }

  list_held : (own : Option Hold) → IsListOf IsHold (held_in sid mode own hs)
  list_held None = record { few = subst IsU32 (sym (length-append hs (own_in sid mode ∷ []))) few; each = all_push IsHold hs (own_in sid mode) list_is.each (record { sid = sid_is }) }
  list_held (Some own) = list_changed _

  becomes_list : (a : GAnswer) (own : Option Hold) → IsListOf IsHold (becomes a sid mode own hs)
  becomes_list Granted own = list_held own
  becomes_list Lowered own = list_held own
  becomes_list (NotGranted holder) own = list_is
  becomes_list (Pending blocker upgrade) own = list_is
  becomes_list (PossibleDeadlock other) own = list_is
  becomes_list OutOfMemory own = list_is

pub kept_sets : (a : GAnswer) (sid : Sid) (mode : Mode) (own : Option Hold) (old new : GLockRec) → new.holds ≡ becomes a sid mode own old.holds → new.watchers ≡ old.watchers
    → IsGLockRec old → IsSid sid → length old.holds + 1 < 2 ^ 32 → IsGLockRec new
kept_sets a sid mode own old new is same sets sid_is few = record {
  holds = subst (IsListOf IsHold) (sym is) (becomes_list sid mode old.holds sets.holds sid_is few a own);
  watchers = subst (IsListOf IsUpgradeWatch) (sym same) sets.watchers;
}
