-- What a table decides of a `glock`, by what it finds; and that the answer tells it.
use Rattle.std.proofs.Common.{◌≡◌, ◌&&◌, ℕ, Bool, true, false, cond, List, [], ◌∷◌, filter, find, Option, Some, None, refl, ap, sym, ◌∙◌}
use Rattle.std.specs.Option.{option_map, option_map_or}
use Rattle.std.specs.List.{list_any}
use Rattle.std.proofs.lemmas.Bool.{or_right}
use Rattle.sid_core.specs.declared.ids.Sid.{Sid}
use Rattle.sid_core.specs.declared.ids.Spot.TheVariants.{LockOf}
use Rattle.sid_core.specs.declared.call.Mode.{Mode}
use Rattle.sid_core.specs.declared.call.Mode.TheVariants.{Shared, Exclusive}
use Rattle.sid_core.specs.declared.reply.Reply.TheVariants as reply
use Rattle.serial_table.specs.declared.rows.HoldRow.{HoldRow}
use Rattle.serial_table.specs.declared.rows.Watch.{Watch}
use Rattle.serial_table.specs.declared.change.Change.TheVariants.{AddHold, SetHold}
use Rattle.serial_table.specs.declared.decision.Caller.{Caller}
use Rattle.serial_table.specs.declared.decision.Decision.{Decision}
use Rattle.serial_table.specs.View.{View}
use Rattle.serial_table.specs.Change.{same_mode}
use Rattle.serial_table.specs.Decision.{only_reply}
use Rattle.serial_table.specs.GlobalLock.{own_holds, other_holds, keeps_out, other_upgrades, granted_by, wait_for_lock, lower, raise, change_hold, gain_hold, glock_by}
use Rattle.serial_table.proofs.Filters.{filter_all}
use Rattle.serial_table.proofs.Heads.{by_first, by_first_of_both}
use Rattle.record_codec.specs.declared.watch.WatchRec.{WatchRec}
use Rattle.record_codec.specs.declared.glock_rec.Hold.{Hold}
use Rattle.record_rows.specs.Rows.{watch_row, hold_row}
use Rattle.g_lock.specs.Answer.{without_changes, told, first_owner, who_keeps_out, NamesHolder, NamesOther}
use Rattle.g_lock.specs.Scans.{answered}
use Rattle.g_lock.proofs.Found.{is_owned, is_others, is_upgrade, any_is}

-- ---- by what is found

abbrev pub raising_behind : Caller → ℕ → Bool → Sid → Option WatchRec → Decision
raising_behind caller key false first beside = only_reply reply.LockNotGranted
raising_behind caller key true first None = wait_for_lock caller key first true
raising_behind caller key true first (Some watch) = only_reply reply.PossibleDeadlock

abbrev pub raising : Caller → ℕ → Bool → Option Hold → Option WatchRec → Decision
raising caller key wait None beside = granted_by (SetHold key caller.sid Exclusive ∷ [])
raising caller key wait (Some first) beside = raising_behind caller key wait first.sid beside

abbrev pub changing : Caller → ℕ → Bool → Mode → Mode → Option Hold → Option WatchRec → Decision
changing caller key wait Shared Shared first beside = granted_by []
changing caller key wait Exclusive Exclusive first beside = granted_by []
changing caller key wait Exclusive Shared first beside = lower caller key
changing caller key wait Shared Exclusive first beside = raising caller key wait first beside

abbrev pub gaining : Caller → ℕ → Mode → Bool → Option Hold → Decision
gaining caller key mode wait None = granted_by (AddHold (record { owner = caller.sid; key = key; mode = mode }) ∷ [])
gaining caller key mode false (Some first) = only_reply reply.LockNotGranted
gaining caller key mode true (Some first) = wait_for_lock caller key first.sid false

abbrev pub deciding : Caller → ℕ → Mode → Bool → Option Hold → Option Hold → Option WatchRec → Decision
deciding caller key mode wait None first beside = gaining caller key mode wait first
deciding caller key mode wait (Some own) first beside = changing caller key wait own.mode mode first beside

-- ---- the answer tells it

told_behind : (caller : Caller) (key : ℕ) (wait : Bool) (first : Hold) (beside : Option WatchRec) → told caller key (answered wait Exclusive (Some (record { sid = caller.sid; mode = Shared })) (Some first) beside) ≡ without_changes (raising_behind caller key wait first.sid beside)
told_behind caller key false first beside = refl
told_behind caller key true first None = refl
told_behind caller key true first (Some watch) = refl

told_gained : (caller : Caller) (key : ℕ) (mode : Mode) (wait : Bool) (first : Option Hold) (beside : Option WatchRec) → told caller key (answered wait mode None first beside) ≡ without_changes (gaining caller key mode wait first)
told_gained caller key mode wait None beside = refl
told_gained caller key mode false (Some first) beside = refl
told_gained caller key mode true (Some first) beside = refl

told_changed : (caller : Caller) (key : ℕ) (wait : Bool) (sid : Sid) (held asked : Mode) (first : Option Hold) (beside : Option WatchRec)
    → told caller key (answered wait asked (Some (record { sid = sid; mode = held })) first beside) ≡ without_changes (changing caller key wait held asked first beside)
told_changed caller key wait sid Shared Shared first beside = refl
told_changed caller key wait sid Exclusive Exclusive first beside = refl
told_changed caller key wait sid Exclusive Shared first beside = refl
told_changed caller key wait sid Shared Exclusive None beside = refl
told_changed caller key wait sid Shared Exclusive (Some first) beside = told_behind caller key wait first beside

pub tells : (caller : Caller) (key : ℕ) (mode : Mode) (wait : Bool) (own first : Option Hold) (beside : Option WatchRec)
    → told caller key (answered wait mode own first beside) ≡ without_changes (deciding caller key mode wait own first beside)
tells caller key mode wait None first beside = told_gained caller key mode wait first beside
tells caller key mode wait (Some own) first beside = told_changed caller key wait own.sid own.mode mode first beside

-- ---- what is decided

module _ (v : View) (caller : Caller) (key : ℕ) where
  -- the others' holds, where one of the two is exclusive
  all_keep_out : (xs : List HoldRow) → filter (keeps_out Exclusive) xs ≡ xs
  all_keep_out xs = filter_all (keeps_out Exclusive) (λ row. or_right (same_mode row.mode Exclusive) true refl) xs

  upgrade_of : (beside : Option WatchRec) (o : Option Watch) → o ≡ option_map watch_row beside → list_any (is_upgrade caller.sid) (v.watches_on (LockOf key)) ≡ option_map_or (λ _. true) o false
      → (blocker : Sid) → cond (other_upgrades v caller key) (only_reply reply.PossibleDeadlock) (wait_for_lock caller key blocker true) ≡ raising_behind caller key true blocker beside
  upgrade_of None o e any blocker = ap (λ b. cond b (only_reply reply.PossibleDeadlock) (wait_for_lock caller key blocker true)) (any ∙ ap (λ o. option_map_or (λ _. true) o false) e)
  upgrade_of (Some watch) o e any blocker = ap (λ b. cond b (only_reply reply.PossibleDeadlock) (wait_for_lock caller key blocker true)) (any ∙ ap (λ o. option_map_or (λ _. true) o false) e)

  raised_by : (wait : Bool) (first : Option Hold) (beside : Option WatchRec) → find (is_upgrade caller.sid) (v.watches_on (LockOf key)) ≡ option_map watch_row beside
      → option_map_or (λ row. raise v caller key wait (row ∷ [])) (option_map (hold_row key) first) (raise v caller key wait []) ≡ raising caller key wait first beside
  raised_by wait None beside e = refl
  raised_by false (Some first) beside e = refl
  raised_by true (Some first) beside e = upgrade_of beside _ e (any_is (is_upgrade caller.sid) (v.watches_on (LockOf key))) first.sid

  heads_raise : (wait : Bool) (row : HoldRow) (rows : List HoldRow) → raise v caller key wait (row ∷ rows) ≡ raise v caller key wait (row ∷ [])
  heads_raise false row rows = refl
  heads_raise true row rows = refl

  heads_gain : (mode : Mode) (wait : Bool) (row : HoldRow) (rows : List HoldRow) → gain_hold caller key mode wait (row ∷ rows) ≡ gain_hold caller key mode wait (row ∷ [])
  heads_gain mode false row rows = refl
  heads_gain mode true row rows = refl

  gained_by : (mode : Mode) (wait : Bool) (first : Option Hold)
      → option_map_or (λ row. gain_hold caller key mode wait (row ∷ [])) (option_map (hold_row key) first) (gain_hold caller key mode wait []) ≡ gaining caller key mode wait first
  gained_by mode wait None = refl
  gained_by mode false (Some first) = refl
  gained_by mode true (Some first) = refl

  module _ (first : Option Hold) (beside : Option WatchRec) (watch_is : find (is_upgrade caller.sid) (v.watches_on (LockOf key)) ≡ option_map watch_row beside) where
    changed_by : (wait : Bool) (held asked : Mode) → find (λ row. is_others caller.sid row && keeps_out asked row) (v.holds_of key) ≡ option_map (hold_row key) first
        → change_hold v caller key wait held asked ≡ changing caller key wait held asked first beside
    changed_by wait Shared Shared e = refl
    changed_by wait Exclusive Exclusive e = refl
    changed_by wait Exclusive Shared e = refl
    changed_by wait Shared Exclusive e =
        ap (raise v caller key wait) (sym (all_keep_out (other_holds v caller key)))
        ∙ by_first_of_both (raise v caller key wait) (λ row. raise v caller key wait (row ∷ [])) (raise v caller key wait []) refl (heads_raise wait) (keeps_out Exclusive) (is_others caller.sid) (v.holds_of key)
        ∙ ap (λ o. option_map_or (λ row. raise v caller key wait (row ∷ [])) o (raise v caller key wait [])) e
        ∙ raised_by wait first beside watch_is

    none_own : (mode : Mode) (wait : Bool) → find (λ row. is_others caller.sid row && keeps_out mode row) (v.holds_of key) ≡ option_map (hold_row key) first
        → gain_hold caller key mode wait (filter (keeps_out mode) (other_holds v caller key)) ≡ gaining caller key mode wait first
    none_own mode wait e =
        by_first_of_both (gain_hold caller key mode wait) (λ row. gain_hold caller key mode wait (row ∷ [])) (gain_hold caller key mode wait []) refl (heads_gain mode wait) (keeps_out mode) (is_others caller.sid) (v.holds_of key)
        ∙ ap (λ o. option_map_or (λ row. gain_hold caller key mode wait (row ∷ [])) o (gain_hold caller key mode wait [])) e
        ∙ gained_by mode wait first

    by_own : (own : Option Hold) (mode : Mode) (wait : Bool) → find (λ row. is_others caller.sid row && keeps_out mode row) (v.holds_of key) ≡ option_map (hold_row key) first
        → option_map_or (λ row. change_hold v caller key wait row.mode mode) (option_map (hold_row key) own) (gain_hold caller key mode wait (filter (keeps_out mode) (other_holds v caller key)))
        ≡ deciding caller key mode wait own first beside
    by_own None mode wait e = none_own mode wait e
    by_own (Some own) mode wait e = changed_by wait own.mode mode e

    -- by the caller's own hold, the first hold in its way and the first upgrade beside it
    pub decides : (own : Option Hold) (mode : Mode) (wait : Bool)
        → find (is_owned caller.sid) (v.holds_of key) ≡ option_map (hold_row key) own
        → find (λ row. is_others caller.sid row && keeps_out mode row) (v.holds_of key) ≡ option_map (hold_row key) first
        → glock_by v caller key mode wait (own_holds v caller key) ≡ deciding caller key mode wait own first beside
    decides own mode wait own_is first_is =
        by_first (glock_by v caller key mode wait) (λ row. change_hold v caller key wait row.mode mode) (gain_hold caller key mode wait (filter (keeps_out mode) (other_holds v caller key))) refl (λ row rows. refl) (is_owned caller.sid) (v.holds_of key)
        ∙ ap (λ o. option_map_or (λ (row : HoldRow). change_hold v caller key wait row.mode mode) o (gain_hold caller key mode wait (filter (keeps_out mode) (other_holds v caller key)))) own_is
        ∙ by_own own mode wait first_is

  -- ---- whom a refusal names

  owner_is : (first : Option Hold) → option_map_or (λ (row : HoldRow). Some row.owner) (option_map (hold_row key) first) None ≡ option_map (λ hold. hold.sid) first
  owner_is None = refl
  owner_is (Some hold) = refl

  pub who_is : (mode : Mode) (first : Option Hold) → find (λ row. is_others caller.sid row && keeps_out mode row) (v.holds_of key) ≡ option_map (hold_row key) first
      → who_keeps_out v caller key mode ≡ option_map (λ hold. hold.sid) first
  who_is mode first e =
      by_first_of_both first_owner (λ row. Some row.owner) None refl (λ row rows. refl) (keeps_out mode) (is_others caller.sid) (v.holds_of key)
      ∙ ap (λ o. option_map_or (λ (row : HoldRow). Some row.owner) o None) e
      ∙ owner_is first

names_gained : (wait : Bool) (first : Option Hold) (o : Option Sid) → o ≡ option_map (λ hold. hold.sid) first → NamesHolder (answered wait Shared None first None) o
names_gained wait None o e = tt
names_gained false (Some first) o e = e
names_gained true (Some first) o e = tt

names_behind : (wait : Bool) (first : Hold) (beside : Option WatchRec) (o : Option Sid) → o ≡ Some first.sid → NamesHolder (answered wait Exclusive (Some (record { sid = first.sid; mode = Shared })) (Some first) beside) o
names_behind false first beside o e = e
names_behind true first None o e = tt
names_behind true first (Some watch) o e = tt

names_changed : (wait : Bool) (sid : Sid) (held asked : Mode) (first : Option Hold) (beside : Option WatchRec) (o : Option Sid) → o ≡ option_map (λ hold. hold.sid) first
    → NamesHolder (answered wait asked (Some (record { sid = sid; mode = held })) first beside) o
names_changed wait sid Shared Shared first beside o e = tt
names_changed wait sid Exclusive Exclusive first beside o e = tt
names_changed wait sid Exclusive Shared first beside o e = tt
names_changed wait sid Shared Exclusive None beside o e = tt
names_changed wait sid Shared Exclusive (Some first) beside o e = names_behind wait first beside o e

pub names_holder : (mode : Mode) (wait : Bool) (own first : Option Hold) (beside : Option WatchRec) (o : Option Sid) → o ≡ option_map (λ hold. hold.sid) first
    → NamesHolder (answered wait mode own first beside) o
names_holder mode wait None first beside o e = names_gained wait first o e
names_holder mode wait (Some own) first beside o e = names_changed wait own.sid own.mode mode first beside o e

none_other : (wait : Bool) (first : Option Hold) (o : Option Sid) → NamesOther (answered wait Shared None first None) o
none_other wait None o = tt
none_other false (Some first) o = tt
none_other true (Some first) o = tt

other_behind : (wait : Bool) (first : Hold) (beside : Option WatchRec) (o : Option Sid) → o ≡ option_map (λ watch. watch.sid) beside → NamesOther (answered wait Exclusive (Some (record { sid = first.sid; mode = Shared })) (Some first) beside) o
other_behind false first beside o e = tt
other_behind true first None o e = tt
other_behind true first (Some watch) o e = e

other_changed : (wait : Bool) (sid : Sid) (held asked : Mode) (first : Option Hold) (beside : Option WatchRec) (o : Option Sid) → o ≡ option_map (λ watch. watch.sid) beside
    → NamesOther (answered wait asked (Some (record { sid = sid; mode = held })) first beside) o
other_changed wait sid Shared Shared first beside o e = tt
other_changed wait sid Exclusive Exclusive first beside o e = tt
other_changed wait sid Exclusive Shared first beside o e = tt
other_changed wait sid Shared Exclusive None beside o e = tt
other_changed wait sid Shared Exclusive (Some first) beside o e = other_behind wait first beside o e

pub names_other : (mode : Mode) (wait : Bool) (own first : Option Hold) (beside : Option WatchRec) (o : Option Sid) → o ≡ option_map (λ watch. watch.sid) beside
    → NamesOther (answered wait mode own first beside) o
names_other mode wait None first beside o e = none_other wait first o
names_other mode wait (Some own) first beside o e = other_changed wait own.sid own.mode mode first beside o e
