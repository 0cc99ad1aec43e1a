-- What is found in a record is what a table finds that has what counts in it.
use Rattle.std.proofs.Common.{◌≡◌, ◌&&◌, ◌||◌, not, ℕ, Bool, true, false, cond, List, [], ◌∷◌, filter, find, Option, Some, refl, ap, ◌∙◌}
use Rattle.std.specs.List.{list_any}
use Rattle.std.specs.Option.{option_map, option_map_or}
use Rattle.std.specs.Ordering.{nat_cmp}
use Rattle.std.specs.FinMap.{FinMap}
use Rattle.sid_core.specs.declared.ids.Sid.{Sid}
use Rattle.sid_core.specs.declared.ids.Spot.TheVariants.{LockOf}
use Rattle.sid_core.specs.declared.call.Mode.{Mode}
use Rattle.sid_core.specs.Ids.{same_sid}
use Rattle.serial_table.specs.declared.rows.HoldRow.{HoldRow}
use Rattle.serial_table.specs.declared.rows.Watch.{Watch}
use Rattle.serial_table.specs.GlobalLock.{keeps_out}
use Rattle.serial_table.proofs.Names.{same_sid-eq}
use Rattle.serial_table.proofs.Finding.{find-of_map, find-of_filter}
use Rattle.record_codec.specs.declared.watch.WatchRec.{WatchRec}
use Rattle.record_codec.specs.declared.glock_rec.Hold.{Hold}
use Rattle.record_codec.specs.declared.mail_rec.MailRec.{MailRec}
use Rattle.record_codec.specs.declared.register_rec.RegisterRec.{RegisterRec}
use Rattle.record_codec.specs.Counts.{lives, hold_counts, watch_counts}
use Rattle.server_ids.specs.Sessions.{registered}
use Rattle.record_rows.specs.Rows.{watch_row, hold_row}
use Rattle.record_watch.specs.Watches.{mailed, counted_on}
use Rattle.g_lock.specs.Holds.{counted_holds}
use Rattle.g_lock.specs.Scans.{is_own, is_in_the_way, is_upgrade_beside}

-- the tests of a table

abbrev pub is_owned : Sid → HoldRow → Bool
is_owned sid row = same_sid row.owner sid

abbrev pub is_others : Sid → HoldRow → Bool
is_others sid row = not (same_sid row.owner sid)

abbrev pub is_upgrade : Sid → Watch → Bool
is_upgrade sid watch = watch.upgrade && not (same_sid watch.sid sid)

both_kept : (b c : Bool) → (c ≡ true → b ≡ true) → (b && c) ≡ c
both_kept true c h = refl
both_kept false true h = h refl
both_kept false false h = refl

module _ {X : Type 0} where
  -- a test that each element passes that is looked for makes no difference
  pub find_kept : (p q : X → Bool) → ((x : X) → p x ≡ true → q x ≡ true) → (xs : List X) → find (λ x. q x && p x) xs ≡ find p xs
  find_kept p q h [] = refl
  find_kept p q h (x ∷ xs) = ap (λ b. cond b (Some x) (find (λ x. q x && p x) xs)) (both_kept (q x) (p x) (h x)) ∙ ap (cond (p x) (Some x)) (find_kept p q h xs)

  any_here : (b : Bool) (x : X) (rest : Option X) (c : Bool) → c ≡ option_map_or (λ _. true) rest false → (b || c) ≡ option_map_or (λ _. true) (cond b (Some x) rest) false
  any_here true x rest c e = refl
  any_here false x rest c e = e

  -- one is there where one is found
  pub any_is : (p : X → Bool) (xs : List X) → list_any p xs ≡ option_map_or (λ _. true) (find p xs) false
  any_is p [] = refl
  any_is p (x ∷ xs) = any_here (p x) x (find p xs) (list_any p xs) (any_is p xs)

-- the holds of a living session count
pub own_counts : (register : FinMap nat_cmp RegisterRec) (sid : Sid) → lives (registered register) sid ≡ true → (hold : Hold) → is_own sid hold ≡ true → hold_counts (registered register) hold ≡ true
own_counts register sid living hold e = ap (lives (registered register)) (same_sid-eq hold.sid sid e) ∙ living

module _ (register : FinMap nat_cmp RegisterRec) (key : ℕ) (holds : List Hold) (sid : Sid) where
  pub own_found : lives (registered register) sid ≡ true → find (is_owned sid) (counted_holds register key holds) ≡ option_map (hold_row key) (find (is_own sid) holds)
  own_found living =
      find-of_map (is_owned sid) (hold_row key) (filter (hold_counts (registered register)) holds)
      ∙ ap (option_map (hold_row key)) (find-of_filter (is_own sid) (hold_counts (registered register)) holds ∙ find_kept (is_own sid) (hold_counts (registered register)) (own_counts register sid living) holds)

  pub in_the_way_found : (mode : Mode) → find (λ row. is_others sid row && keeps_out mode row) (counted_holds register key holds) ≡ option_map (hold_row key) (find (is_in_the_way register sid mode) holds)
  in_the_way_found mode =
      find-of_map (λ row. is_others sid row && keeps_out mode row) (hold_row key) (filter (hold_counts (registered register)) holds)
      ∙ ap (option_map (hold_row key)) (find-of_filter (λ hold. is_others sid (hold_row key hold) && keeps_out mode (hold_row key hold)) (hold_counts (registered register)) holds)

pub upgrade_found : (mails : FinMap nat_cmp MailRec) (key : ℕ) (watchers : List WatchRec) (sid : Sid)
    → find (is_upgrade sid) (counted_on mails (LockOf key) watchers) ≡ option_map watch_row (find (is_upgrade_beside mails key sid) watchers)
upgrade_found mails key watchers sid =
    find-of_map (is_upgrade sid) watch_row (filter (watch_counts (mailed mails) (LockOf key)) watchers)
    ∙ ap (option_map watch_row) (find-of_filter (λ watch. is_upgrade sid (watch_row watch)) (watch_counts (mailed mails) (LockOf key)) watchers)
