-- The same changes at two tables: what they show under a key of locks, of who waits, of letters and of workers stays the same where it was, and
-- so does who is woken.
use Rattle.std.proofs.Common.{◌≡◌, ℕ, Bool, true, false, cond, not, List, [], ◌∷◌, ◌++◌, map, filter, None, refl, ap, sym, ◌∙◌, inl, inr}
use Rattle.std.specs.List.{list_any, flat_map}
use Rattle.std.specs.Option.{option_map}
use Rattle.sid_core.specs.declared.entry.Post.{Post}
use Rattle.sid_core.specs.declared.ids.OpenId.{OpenId}
use Rattle.sid_core.specs.declared.ids.Sid.{Sid}
use Rattle.sid_core.specs.declared.ids.Spot.{Spot}
use Rattle.sid_core.specs.Ids.{same_sid}
use Rattle.serial_table.specs.declared.rows.EndedRow.{EndedRow}
use Rattle.serial_table.specs.declared.rows.HoldRow.{HoldRow}
use Rattle.serial_table.specs.declared.rows.Watch.{Watch}
use Rattle.serial_table.specs.declared.change.Change.{Change}
use Rattle.serial_table.specs.declared.change.Change.TheVariants as c
use Rattle.serial_table.specs.declared.decision.Decision.{Decision}
use Rattle.serial_table.specs.Decision.{settling, freed_spots, woken_by, outcome_with, conclude}
use Rattle.serial_table.specs.Wake.{some_frees}
use Rattle.serial_table.proofs.Members.{IsIn, all_by, in_filter}
use Rattle.table_laws.proofs.Showing.{filter_alike}
use Rattle.serial_table.specs.Lists.{drop_first}
use Rattle.serial_table.specs.Settle.{settle_by_key}
use Rattle.serial_table.specs.View.{View, Token, watch_on, waits_on, watch_behind, waits_behind, token_of, waits_for, is_to, is_hold_of, is_end_of}
use Rattle.serial_table.specs.Change.{is_hold, is_other_wait, set_hold, end_session, begin_session, end_at, new_owner_by_key, perform_by_key, perform_all_by_key}

-- an open that is taken over changes what is shown of opens alone
taken : {X : Type 0} (f : View → X) (v : View) (file : ℕ) (id : OpenId) (owner : Sid) (handle : ℕ) (b : Bool) → f (new_owner_by_key file id owner handle v) ≡ f v → f (cond b v (new_owner_by_key file id owner handle v)) ≡ f v
taken f v file id owner handle true e = refl
taken f v file id owner handle false e = e

takes : {X : Type 0} (f : View → X) (v w : View) (file : ℕ) (id : OpenId) (owner : Sid) (handle : ℕ) → f (new_owner_by_key file id owner handle v) ≡ f v → f (new_owner_by_key file id owner handle w) ≡ f w → f v ≡ f w
    → f (perform_by_key (c.TakeOver file id owner handle) v) ≡ f (perform_by_key (c.TakeOver file id owner handle) w)
takes f v w file id owner handle a b e =
    taken f v file id owner handle (list_any (λ _. true) (v.opens_of_handle owner handle)) a ∙ e ∙ sym (taken f w file id owner handle (list_any (λ _. true) (w.opens_of_handle owner handle)) b)

-- what holds of each change holds of all
along : {X : Type 0} (f : View → X) → ((change : Change) (v w : View) → f v ≡ f w → f (perform_by_key change v) ≡ f (perform_by_key change w)) → (cs : List Change) (v w : View) → f v ≡ f w
    → f (perform_all_by_key cs v) ≡ f (perform_all_by_key cs w)
along f step [] v w e = e
along f step (change ∷ cs) v w e = along f step cs (perform_by_key change v) (perform_by_key change w) (step change v w e)

module _ (key : ℕ) where
  pub hold_step : (change : Change) (v w : View) → v.holds_of key ≡ w.holds_of key → (perform_by_key change v).holds_of key ≡ (perform_by_key change w).holds_of key
  unfolding settle_by_key
  hold_step (c.AddHold hold) v w e = ap (λ (hs : List HoldRow). hs ++ filter (is_hold_of key) (hold ∷ [])) e
  hold_step (c.SetHold k owner mode) v w e = ap (map (set_hold k owner mode)) e
  hold_step (c.DropHold k owner) v w e = ap (filter (λ (hold : HoldRow). not (is_hold k owner hold))) e
  hold_step (c.EndSession sid moment) v w e = ap (filter (λ (hold : HoldRow). not (same_sid hold.owner sid))) e
  hold_step (c.TakeOver file id owner handle) v w e = takes (λ (x : View). x.holds_of key) v w file id owner handle refl refl e
  hold_step _ v w e = e

  pub holds_alike : (cs : List Change) (v w : View) → v.holds_of key ≡ w.holds_of key → (perform_all_by_key cs v).holds_of key ≡ (perform_all_by_key cs w).holds_of key
  holds_alike = along (λ (v : View). v.holds_of key) hold_step

module _ (spot : Spot) where
  pub watch_step : (change : Change) (v w : View) → v.watches_on spot ≡ w.watches_on spot → (perform_by_key change v).watches_on spot ≡ (perform_by_key change w).watches_on spot
  unfolding settle_by_key
  watch_step (c.AddWaiter x) v w e = ap (λ (ws : List Watch). ws ++ map (watch_on spot) (filter (waits_on spot) (x ∷ []))) e
  watch_step (c.DropWaiter sid call) v w e = ap (filter (λ (watch : Watch). is_other_wait sid call watch.sid watch.call)) e
  watch_step (c.EndSession sid moment) v w e = ap (filter (λ (watch : Watch). not (same_sid watch.sid sid))) e
  watch_step (c.TakeOver file id owner handle) v w e = takes (λ (x : View). x.watches_on spot) v w file id owner handle refl refl e
  watch_step _ v w e = e

  pub watches_alike : (cs : List Change) (v w : View) → v.watches_on spot ≡ w.watches_on spot → (perform_all_by_key cs v).watches_on spot ≡ (perform_all_by_key cs w).watches_on spot
  watches_alike = along (λ (v : View). v.watches_on spot) watch_step

module _ (own : Sid) where
  pub behind_step : (change : Change) (v w : View) → v.watches_behind own ≡ w.watches_behind own → (perform_by_key change v).watches_behind own ≡ (perform_by_key change w).watches_behind own
  unfolding settle_by_key
  behind_step (c.AddWaiter x) v w e = ap (λ (ws : List Watch). ws ++ map watch_behind (filter (waits_behind own) (x ∷ []))) e
  behind_step (c.DropWaiter sid call) v w e = ap (filter (λ (watch : Watch). is_other_wait sid call watch.sid watch.call)) e
  behind_step (c.EndSession sid moment) v w e = ap (filter (λ (watch : Watch). not (same_sid watch.sid sid))) e
  behind_step (c.TakeOver file id owner handle) v w e = takes (λ (x : View). x.watches_behind own) v w file id owner handle refl refl e
  behind_step _ v w e = e

  pub behind_alike : (cs : List Change) (v w : View) → v.watches_behind own ≡ w.watches_behind own → (perform_all_by_key cs v).watches_behind own ≡ (perform_all_by_key cs w).watches_behind own
  behind_alike = along (λ (v : View). v.watches_behind own) behind_step

  pub token_step : (change : Change) (v w : View) → v.tokens_of own ≡ w.tokens_of own → (perform_by_key change v).tokens_of own ≡ (perform_by_key change w).tokens_of own
  unfolding settle_by_key
  token_step (c.AddWaiter x) v w e = ap (λ (ts : List Token). ts ++ map token_of (filter (waits_for own) (x ∷ []))) e
  token_step (c.DropWaiter sid call) v w e = ap (filter (λ (token : Token). is_other_wait sid call own token.call)) e
  token_step (c.EndSession sid moment) v w e = ap (filter (λ (token : Token). not (same_sid own sid))) e
  token_step (c.TakeOver file id owner handle) v w e = takes (λ (x : View). x.tokens_of own) v w file id owner handle refl refl e
  token_step _ v w e = e

  pub tokens_alike : (cs : List Change) (v w : View) → v.tokens_of own ≡ w.tokens_of own → (perform_all_by_key cs v).tokens_of own ≡ (perform_all_by_key cs w).tokens_of own
  tokens_alike = along (λ (v : View). v.tokens_of own) token_step

  pub letter_step : (change : Change) (v w : View) → v.letters_of own ≡ w.letters_of own → (perform_by_key change v).letters_of own ≡ (perform_by_key change w).letters_of own
  unfolding settle_by_key
  letter_step (c.Send post) v w e = ap (λ (ps : List Post). ps ++ filter (is_to own) (post ∷ [])) e
  letter_step (c.TakeLetter to) v w e = ap (drop_first (is_to to)) e
  letter_step (c.EndSession sid moment) v w e = ap (filter (λ (post : Post). not (is_to sid post))) e
  letter_step (c.TakeOver file id owner handle) v w e = takes (λ (x : View). x.letters_of own) v w file id owner handle refl refl e
  letter_step _ v w e = e

  pub letters_alike : (cs : List Change) (v w : View) → v.letters_of own ≡ w.letters_of own → (perform_all_by_key cs v).letters_of own ≡ (perform_all_by_key cs w).letters_of own
  letters_alike = along (λ (v : View). v.letters_of own) letter_step

module _ (pid : ℕ) where
  pub worker_step : (change : Change) (v w : View) → v.worker_of pid ≡ w.worker_of pid → (perform_by_key change v).worker_of pid ≡ (perform_by_key change w).worker_of pid
  unfolding settle_by_key
  worker_step (c.EndSession sid moment) v w e = ap (option_map (end_session sid)) e
  worker_step (c.NextSession sid moment) v w e = ap (option_map (begin_session sid moment)) e
  worker_step (c.TakeOver file id owner handle) v w e = takes (λ (x : View). x.worker_of pid) v w file id owner handle refl refl e
  worker_step _ v w e = e

  pub workers_alike : (cs : List Change) (v w : View) → v.worker_of pid ≡ w.worker_of pid → (perform_all_by_key cs v).worker_of pid ≡ (perform_all_by_key cs w).worker_of pid
  workers_alike = along (λ (v : View). v.worker_of pid) worker_step

  none_step : (change : Change) (v : View) → v.worker_of pid ≡ None → (perform_by_key change v).worker_of pid ≡ None
  unfolding settle_by_key
  none_step (c.EndSession sid moment) v e = ap (option_map (end_session sid)) e
  none_step (c.NextSession sid moment) v e = ap (option_map (begin_session sid moment)) e
  none_step (c.TakeOver file id owner handle) v e = taken (λ (x : View). x.worker_of pid) v file id owner handle (list_any (λ _. true) (v.opens_of_handle owner handle)) refl ∙ e
  none_step _ v e = e

  pub no_worker : (cs : List Change) (v : View) → v.worker_of pid ≡ None → (perform_all_by_key cs v).worker_of pid ≡ None
  no_worker [] v e = e
  no_worker (change ∷ cs) v e = no_worker cs (perform_by_key change v) (none_step change v e)

  pub ended_step : (change : Change) (v w : View) → v.ended_of pid ≡ w.ended_of pid → (perform_by_key change v).ended_of pid ≡ (perform_by_key change w).ended_of pid
  unfolding settle_by_key
  ended_step (c.EndSession sid moment) v w e = ap (λ (es : List EndedRow). es ++ filter (is_end_of pid) (end_at sid moment ∷ [])) e
  ended_step (c.TakeOver file id owner handle) v w e = takes (λ (x : View). x.ended_of pid) v w file id owner handle refl refl e
  ended_step _ v w e = e

  pub ended_alike : (cs : List Change) (v w : View) → v.ended_of pid ≡ w.ended_of pid → (perform_all_by_key cs v).ended_of pid ≡ (perform_all_by_key cs w).ended_of pid
  ended_alike = along (λ (v : View). v.ended_of pid) ended_step

-- ---- who is woken

-- the watches on some spots, where each has the same
flat_watches : (v w : View) (spots : List Spot) → ((spot : Spot) → IsIn spot spots → v.watches_on spot ≡ w.watches_on spot) → flat_map (λ spot. v.watches_on spot) spots ≡ flat_map (λ spot. w.watches_on spot) spots
flat_watches v w [] h = refl
flat_watches v w (spot ∷ spots) h = λ i. h spot (inl refl) i ++ flat_watches v w spots (λ x j. h x (inr j)) i

pub woken_alike : (v w : View) (d : Decision) → ((spot : Spot) → IsIn spot d.spots → some_frees (settling d) v spot ≡ some_frees (settling d) w spot) → ((spot : Spot) → IsIn spot d.spots → v.watches_on spot ≡ w.watches_on spot)
    → woken_by v d ≡ woken_by w d
woken_alike v w d frees watches =
    flat_watches (perform_all_by_key (settling d) v) (perform_all_by_key (settling d) w) (freed_spots v d)
    (λ spot i. watches_alike spot (settling d) v w (watches spot (in_filter (some_frees (settling d) v) d.spots spot i).0))
    ∙ ap (flat_map (λ spot. (perform_all_by_key (settling d) w).watches_on spot)) (filter_alike (some_frees (settling d) v) (some_frees (settling d) w) d.spots (all_by _ d.spots frees))

pub concluded_alike : (v w : View) (d : Decision) → woken_by v d ≡ woken_by w d → (conclude v d).changes ≡ (conclude w d).changes
unfolding conclude
concluded_alike v w d e = ap (λ woken. (outcome_with d woken).changes) e
