-- `glock` and `gunlock`.
use Rattle.std.proofs.Common.{◌≡◌, ◌==◌, ◌&&◌, ◌||◌, not, ℕ, Bool, true, false, List, [], ◌∷◌, filter, Some, refl, sym, ap, ◌∙◌, subst, inl, arith}
use Rattle.std.specs.List.{list_all, IsDistinct}
use Rattle.std.proofs.lemmas.Bool.{and_parts, cond_both, false_from_ne_true}
use Rattle.sid_core.specs.declared.ids.Sid.{Sid}
use Rattle.sid_core.specs.declared.ids.Spot.TheVariants.{LockOf}
use Rattle.sid_core.specs.declared.call.Mode.{Mode}
use Rattle.sid_core.specs.declared.call.Mode.TheVariants.{Shared, Exclusive}
use Rattle.sid_core.specs.declared.reply.Reply.{Reply}
use Rattle.sid_core.specs.declared.reply.Reply.TheVariants.{PossibleDeadlock}
use Rattle.sid_core.specs.declared.setup.Setup.{Setup}
use Rattle.sid_core.specs.Ids.{same_sid}
use Rattle.sid_core.specs.Values.{IsU64}
use Rattle.serial_table.specs.declared.rows.HoldRow.{HoldRow}
use Rattle.serial_table.specs.declared.rows.WaiterRow.{WaiterRow}
use Rattle.serial_table.specs.declared.table.Table.{Table}
use Rattle.serial_table.specs.declared.change.Change.TheVariants as c
use Rattle.serial_table.specs.declared.decision.Caller.{Caller}
use Rattle.serial_table.specs.declared.decision.Decision.{Decision}
use Rattle.serial_table.specs.View.{View, view, lives, is_hold_of}
use Rattle.serial_table.specs.Settle.{settle_where}
use Rattle.serial_table.specs.Change.{perform}
use Rattle.serial_table.specs.Decision.{only_reply}
use Rattle.serial_table.specs.GlobalLock.{own_holds, other_holds, keeps_out, other_upgrades, granted_by, wait_for_lock, lower, raise, change_hold, gain_hold, glock_by, glock, gunlock_by, gunlock}
use Rattle.serial_table.specs.Sound.{IsNewHold, cannot_both_hold, may_hold}
use Rattle.serial_table.proofs.Members.{IsIn, each, all_each, any_none, in_filter, passes_in}
use Rattle.serial_table.proofs.SameWorkers.{keeps_workers}
use Rattle.serial_table.proofs.Owing.{IsCalling, IsCallingInSets, DecisionHolds, DecisionBrings, adds_rows, one_adds, reply_holds, reply_brings}
use Rattle.serial_table.proofs.OwnWaits as own

-- ---- what it can decide

-- what holds of each decision of `glock`, whatever the holds are
pub record HoldsOfEach (P : Decision → Type 0) (caller : Caller) (key : ℕ) : Type 0 where
  pub replies : (reply : Reply) → P (only_reply reply)
  pub grants : P (granted_by [])
  pub lowers : P (lower caller key)
  pub raises : P (granted_by (c.SetHold key caller.sid Exclusive ∷ []))
  pub gains : (mode : Mode) → P (granted_by (c.AddHold (record { owner = caller.sid; key = key; mode = mode }) ∷ []))
  pub waits : (blocker : Sid) (upgrade : Bool) → P (wait_for_lock caller key blocker upgrade)

module _ (P : Decision → Type 0) (caller : Caller) (key : ℕ) (h : HoldsOfEach P caller key) (v : View) where
  of_raise : (wait : Bool) (others : List HoldRow) → P (raise v caller key wait others)
  of_raise wait [] = h.raises
  of_raise false (first ∷ others) = h.replies _
  of_raise true (first ∷ others) = cond_both (other_upgrades v caller key) (only_reply PossibleDeadlock) (wait_for_lock caller key first.owner true) P (λ _. h.replies _) (λ _. h.waits first.owner true)

  of_change : (wait : Bool) (held mode : Mode) → P (change_hold v caller key wait held mode)
  of_change wait Shared Shared = h.grants
  of_change wait Exclusive Exclusive = h.grants
  of_change wait Exclusive Shared = h.lowers
  of_change wait Shared Exclusive = of_raise wait (other_holds v caller key)

  of_gain : (mode : Mode) (wait : Bool) (others : List HoldRow) → P (gain_hold caller key mode wait others)
  of_gain mode wait [] = h.gains mode
  of_gain mode false (first ∷ others) = h.replies _
  of_gain mode true (first ∷ others) = h.waits first.owner false

  pub of_glock : (mode : Mode) (wait : Bool) (holds : List HoldRow) → P (glock_by v caller key mode wait holds)
  of_glock mode wait (first ∷ others) = of_change wait first.mode mode
  of_glock mode wait [] = of_gain mode wait (filter (keeps_out mode) (other_holds v caller key))

-- ---- what it owes

module _ (low : ℕ → ℕ) (t : Table) (caller : Caller) (key : ℕ) (k : IsCalling low t caller) (waiters : List WaiterRow) (left : own.IsLeft t caller ((view t).watches_on (LockOf key)) waiters) where
  abbrev u : Table
  u = record t { waiters = waiters }

  granted : DecisionHolds low u (granted_by [])
  unfolding IsDistinct
  granted = record {
    fits = record { changes = tt; waits = tt; posts = refl };
    numbers = record { changes = tt; waits = λ x. tt };
    adds = adds_rows u (granted_by []) left.consistent tt (omega arith) (omega arith) (omega arith) (omega arith) (omega arith) tt;
  }

  lowered : DecisionHolds low u (lower caller key)
  unfolding IsDistinct
  lowered =
      let fit = all_each (may_hold key caller.sid Shared) t.holds (λ hold i. refl) in
      record {
        fits = record { changes = (fit, tt); waits = tt; posts = refl };
        numbers = record { changes = (tt, tt); waits = λ x. tt };
        adds = one_adds u (lower caller key) (c.SetHold key caller.sid Shared) refl left.consistent (fit, tt) (omega arith) refl refl refl (omega arith) (tt, tt);
      }

  waiting : (blocker : Sid) (upgrade : Bool) → lives (view t) blocker ≡ true → DecisionHolds low u (wait_for_lock caller key blocker upgrade)
  unfolding IsDistinct settle_where
  waiting blocker upgrade live =
      record {
        fits = record { changes = tt; waits = (own.new_waiter t caller (LockOf key) waiters left k.fresh (perform c.Settle u) refl k.alive (Some blocker) live upgrade, tt); posts = refl };
        numbers = record { changes = tt; waits = λ x. (k.number, tt) };
        adds = adds_rows u (wait_for_lock caller key blocker upgrade) left.consistent tt (omega arith) (omega arith) (omega arith) (omega arith) (omega arith) tt;
      }

  holder_lives : (hold : HoldRow) → IsIn hold (other_holds (view t) caller key) → lives (view t) hold.owner ≡ true
  holder_lives hold i =
      each (λ hold. lives (view t) hold.owner) t.holds k.consistent.holders_live hold
      (in_filter (is_hold_of key) t.holds hold (in_filter (λ hold. not (same_sid hold.owner caller.sid)) (filter (is_hold_of key) t.holds) hold i).0).0

  -- nobody else holds the lock
  held_alone : other_holds (view t) caller key ≡ [] → list_all (may_hold key caller.sid Exclusive) t.holds ≡ true
  held_alone none = all_each (may_hold key caller.sid Exclusive) t.holds (λ hold i. by_key hold i (hold.key == key) (same_sid hold.owner caller.sid) refl refl)
    where
      by_key : (hold : HoldRow) → IsIn hold t.holds → (a b : Bool) → (hold.key == key) ≡ a → same_sid hold.owner caller.sid ≡ b → (not (hold.key == key) || same_sid hold.owner caller.sid) ≡ true
      by_key hold i false b ea eb = ap (λ x. not x || same_sid hold.owner caller.sid) ea
      by_key hold i true true ea eb = (λ j. not (ea j) || eb j)
      by_key hold i true false ea eb =
          absurd (subst (IsIn hold) none (passes_in (λ hold. not (same_sid hold.owner caller.sid)) (filter (is_hold_of key) t.holds) hold (passes_in (is_hold_of key) t.holds hold i ea) (ap not eb)))

  raised : (wait : Bool) (others : List HoldRow) → other_holds (view t) caller key ≡ others → DecisionHolds low u (raise (view t) caller key wait others)
  unfolding IsDistinct
  raised wait [] e =
      let fit = held_alone e in
      record {
        fits = record { changes = (fit, tt); waits = tt; posts = refl };
        numbers = record { changes = (tt, tt); waits = λ x. tt };
        adds = one_adds u (granted_by (c.SetHold key caller.sid Exclusive ∷ [])) (c.SetHold key caller.sid Exclusive) refl left.consistent (fit, tt) (omega arith) refl refl refl (omega arith) tt;
      }
  raised false (first ∷ others) e = reply_holds low u _ left.consistent
  raised true (first ∷ others) e =
      cond_both (other_upgrades (view t) caller key) (only_reply PossibleDeadlock) (wait_for_lock caller key first.owner true) (DecisionHolds low u) (λ _. reply_holds low u _ left.consistent)
      (λ _. waiting first.owner true (holder_lives first (subst (IsIn first) (sym e) (inl refl))))

  changed : (wait : Bool) (held mode : Mode) → DecisionHolds low u (change_hold (view t) caller key wait held mode)
  changed wait Shared Shared = granted
  changed wait Exclusive Exclusive = granted
  changed wait Exclusive Shared = lowered
  changed wait Shared Exclusive = raised wait (other_holds (view t) caller key) refl

  -- no hold of the lock is the caller's own, or keeps it out
  new_hold : (mode : Mode) → own_holds (view t) caller key ≡ [] → filter (keeps_out mode) (other_holds (view t) caller key) ≡ [] → IsNewHold (record { owner = caller.sid; key = key; mode = mode }) u
  new_hold mode none others = record {
    owner = k.alive;
    others = any_none (λ other. cannot_both_hold other (record { owner = caller.sid; key = key; mode = mode })) t.holds
        (λ hold i. false_from_ne_true ((hold.key == key) && (same_sid hold.owner caller.sid || keeps_out mode hold)) (λ e. let both = and_parts (hold.key == key) (same_sid hold.owner caller.sid || keeps_out mode hold) e in
        clash hold (passes_in (is_hold_of key) t.holds hold i both.0) (same_sid hold.owner caller.sid) refl both.1));
  }
    where
      clash : (hold : HoldRow) → IsIn hold (filter (is_hold_of key) t.holds) → (b : Bool) → same_sid hold.owner caller.sid ≡ b → (same_sid hold.owner caller.sid || keeps_out mode hold) ≡ true → ⊥
      clash hold i true e h = subst (IsIn hold) none (passes_in (λ hold. same_sid hold.owner caller.sid) (filter (is_hold_of key) t.holds) hold i e)
      clash hold i false e h =
          subst (IsIn hold) others (passes_in (keeps_out mode) (other_holds (view t) caller key) hold
          (passes_in (λ hold. not (same_sid hold.owner caller.sid)) (filter (is_hold_of key) t.holds) hold i (ap not e)) (ap (λ x. x || keeps_out mode hold) (sym e) ∙ h))

  gained : (mode : Mode) (wait : Bool) (others : List HoldRow) → own_holds (view t) caller key ≡ [] → filter (keeps_out mode) (other_holds (view t) caller key) ≡ others → DecisionHolds low u (gain_hold caller key mode wait others)
  unfolding IsDistinct
  gained mode wait [] none e =
      let new = new_hold mode none e in
      record {
        fits = record { changes = (new, tt); waits = tt; posts = refl };
        numbers = record { changes = (tt, tt); waits = λ x. tt };
        adds = one_adds u (granted_by (c.AddHold (record { owner = caller.sid; key = key; mode = mode }) ∷ [])) (c.AddHold (record { owner = caller.sid; key = key; mode = mode })) refl left.consistent (new, tt) (omega arith) refl refl refl (omega arith) tt;
      }
  gained mode false (first ∷ others) none e = reply_holds low u _ left.consistent
  gained mode true (first ∷ others) none e =
      waiting first.owner false (holder_lives first (in_filter (keeps_out mode) (other_holds (view t) caller key) first (subst (IsIn first) (sym e) (inl refl))).0)

  locked_by : (mode : Mode) (wait : Bool) (holds : List HoldRow) → own_holds (view t) caller key ≡ holds → DecisionHolds low u (glock_by (view t) caller key mode wait holds)
  locked_by mode wait (first ∷ others) e = changed wait first.mode mode
  locked_by mode wait [] e = gained mode wait (filter (keeps_out mode) (other_holds (view t) caller key)) e refl

  unlocked_by : (holds : List HoldRow) → DecisionHolds low u (gunlock_by caller key holds)
  unfolding IsDistinct
  unlocked_by [] = reply_holds low u _ left.consistent
  unlocked_by (first ∷ others) = record {
    fits = record { changes = (tt, tt); waits = tt; posts = refl };
    numbers = record { changes = (tt, tt); waits = λ x. tt };
    adds = one_adds u (gunlock_by caller key (first ∷ others)) (c.DropHold key caller.sid) refl left.consistent (tt, tt) (omega arith) refl refl refl (omega arith) (tt, tt);
  }

pub glock_holds : (low : ℕ → ℕ) (t : Table) (caller : Caller) (key : ℕ) (mode : Mode) (wait : Bool) → IsCalling low t caller → DecisionHolds low t (glock (view t) caller key mode wait)
unfolding glock
glock_holds low t caller key mode wait k =
    own.own_holds t caller ((view t).watches_on (LockOf key)) (glock_by (view t) caller key mode wait (own_holds (view t) caller key)) low k.consistent
    (λ waiters left. locked_by low t caller key k waiters left mode wait (own_holds (view t) caller key) refl)

pub gunlock_holds : (low : ℕ → ℕ) (t : Table) (caller : Caller) (key : ℕ) → IsCalling low t caller → DecisionHolds low t (gunlock (view t) caller key)
unfolding gunlock
gunlock_holds low t caller key k =
    own.own_holds t caller ((view t).watches_on (LockOf key)) (gunlock_by caller key (own_holds (view t) caller key)) low k.consistent
    (λ waiters left. unlocked_by low t caller key k waiters left (own_holds (view t) caller key))

-- ---- sets, and workers

pub glock_brings : (setup : Setup) (t : Table) (caller : Caller) (key : ℕ) (mode : Mode) (wait : Bool) → IsCallingInSets setup t caller → IsU64 key → DecisionBrings setup t (glock (view t) caller key mode wait)
unfolding glock
glock_brings setup t caller key mode wait k is =
    own.own_brings t caller ((view t).watches_on (LockOf key)) (glock_by (view t) caller key mode wait (own_holds (view t) caller key)) setup
    (λ waiters. of_glock (DecisionBrings setup (record t { waiters = waiters })) caller key (record {
      replies = λ reply. reply_brings setup (record t { waiters = waiters }) reply;
      grants = record { changes = tt; waits = λ x. tt; letters = λ post i. absurd i };
      lowers = record { changes = (tt, tt); waits = λ x. tt; letters = λ post i. absurd i };
      raises = record { changes = (tt, tt); waits = λ x. tt; letters = λ post i. absurd i };
      gains = λ mode. record { changes = (is, tt); waits = λ x. tt; letters = λ post i. absurd i };
      waits = λ blocker upgrade. record { changes = tt; waits = λ x. ((k.number, is), tt); letters = λ post i. absurd i };
    }) (view t) mode wait (own_holds (view t) caller key))

pub gunlock_brings : (setup : Setup) (t : Table) (caller : Caller) (key : ℕ) → DecisionBrings setup t (gunlock (view t) caller key)
unfolding gunlock
gunlock_brings setup t caller key = own.own_brings t caller ((view t).watches_on (LockOf key)) (gunlock_by caller key (own_holds (view t) caller key)) setup (λ waiters. by_holds waiters (own_holds (view t) caller key))
  where
    by_holds : (waiters : List WaiterRow) (holds : List HoldRow) → DecisionBrings setup (record t { waiters = waiters }) (gunlock_by caller key holds)
    by_holds waiters [] = reply_brings setup (record t { waiters = waiters }) _
    by_holds waiters (first ∷ others) = record { changes = (tt, tt); waits = λ x. tt; letters = λ post i. absurd i }

pub glock_keeps : (v : View) (caller : Caller) (key : ℕ) (mode : Mode) (wait : Bool) → list_all keeps_workers (glock v caller key mode wait).changes ≡ true
unfolding glock
glock_keeps v caller key mode wait =
    own.own_keeps caller (v.watches_on (LockOf key)) (glock_by v caller key mode wait (own_holds v caller key))
    (of_glock (λ d. list_all keeps_workers d.changes ≡ true) caller key (record { replies = λ reply. refl; grants = refl; lowers = refl; raises = refl; gains = λ mode. refl; waits = λ blocker upgrade. refl }) v mode wait (own_holds v caller key))

pub gunlock_keeps : (v : View) (caller : Caller) (key : ℕ) → list_all keeps_workers (gunlock v caller key).changes ≡ true
unfolding gunlock
gunlock_keeps v caller key = own.own_keeps caller (v.watches_on (LockOf key)) (gunlock_by caller key (own_holds v caller key)) (by_holds (own_holds v caller key))
  where
    by_holds : (holds : List HoldRow) → list_all keeps_workers (gunlock_by caller key holds).changes ≡ true
    by_holds [] = refl
    by_holds (first ∷ others) = refl
