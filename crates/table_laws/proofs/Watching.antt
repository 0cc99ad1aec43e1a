-- Watches in records that aren't written: those of waiters that went count no longer, the others as before.
use Rattle.std.proofs.Common.{◌≡◌, ℕ, Bool, true, false, ◌==◌, ◌&&◌, ◌||◌, List, [], ◌∷◌, ◌++◌, map, filter, Option, Some, None, refl, sym, ap, ◌∙◌, subst}
use Rattle.std.proofs.Math.Bool.{or-false}
use Rattle.std.specs.Prelude.{IfSome}
use Rattle.std.specs.List.{list_any}
use Rattle.std.specs.Option.{option_map_or}
use Rattle.std.proofs.lemmas.Bool.{and_parts, and_from, and_right, both_ways, eqb-true, eq-eqb, true_from_ne_false, false_from_ne_true}
use Rattle.sid_core.specs.declared.ids.Sid.{Sid}
use Rattle.sid_core.specs.declared.ids.Spot.{Spot}
use Rattle.sid_core.specs.declared.ids.Spot.TheVariants.{OpenOf, RangesOf, LockOf}
use Rattle.sid_core.specs.declared.setup.Setup.{Setup}
use Rattle.sid_core.specs.Ids.{same_sid, same_spot}
use Rattle.serial_table.specs.declared.rows.WaiterRow.{WaiterRow}
use Rattle.serial_table.specs.declared.rows.Watch.{Watch}
use Rattle.serial_table.specs.declared.table.Table.{Table}
use Rattle.serial_table.specs.View as table
use Rattle.serial_table.specs.View.{View, view, has_pid, waits_for, waits_on, waits_behind, watch_on, watch_behind}
use Rattle.serial_table.specs.Sound.{IsSound}
use Rattle.serial_table.proofs.Names.{same_sid-eq}
use Rattle.serial_table.proofs.SameIds.{same_sid-refl}
use Rattle.serial_table.proofs.Filters.{filter-filter}
use Rattle.serial_table.proofs.Members.{IsIn, all_of, all_by, any_none, any_of, in_filter, in_map}
use Rattle.record_codec.specs.declared.watch.WatchRec.{WatchRec}
use Rattle.record_codec.specs.Counts.{has_token, has_token_at}
use Rattle.stored_table.specs.Places.{Place, among}
use Rattle.stored_table.specs.Decoded.{AllRecords}
use Rattle.record_rows.specs.Rows.{watch_of}
use Rattle.stored_table.specs.Exact.{exact_mail}
use Rattle.table_laws.proofs.Lists.{filter_each, filter_twice, filter_joined, filter_none, filter_mapped, any_in_filter, any_joined, any_alike, append_nothing}
use Rattle.table_laws.proofs.Contained.{mail_place, register_place, spot_place, register_watchers, WaitsStep}
use Rattle.table_laws.proofs.Tokens.{counts_at, counts_anywhere}

spot_is : (a b : Spot) → same_spot a b ≡ true → a ≡ b
spot_is (OpenOf f) (OpenOf g) e = ap OpenOf (eqb-true f g e)
spot_is (RangesOf f) (RangesOf g) e = ap RangesOf (eqb-true f g e)
spot_is (LockOf f) (LockOf g) e = ap LockOf (eqb-true f g e)
spot_is (OpenOf f) (RangesOf g) e = absurd cc
spot_is (OpenOf f) (LockOf g) e = absurd cc
spot_is (RangesOf f) (OpenOf g) e = absurd cc
spot_is (RangesOf f) (LockOf g) e = absurd cc
spot_is (LockOf f) (OpenOf g) e = absurd cc
spot_is (LockOf f) (RangesOf g) e = absurd cc

-- a test that doesn't go by the item
any_held : {X : Type 0} (b : Bool) (p : X → Bool) (xs : List X) → list_any (λ x. b && p x) xs ≡ (b && list_any p xs)
any_held true p xs = refl
any_held false p [] = refl
any_held false p (x ∷ xs) = any_held false p xs

module _ (setup : Setup) (ps : List Place) (s : AllRecords) (t u : Table) (sound_t : IsSound t) (sound_u : IsSound u) (step : WaitsStep setup ps s t u) where
  abbrev v : View
  v = view t

  abbrev w : View
  w = view u

  abbrev stays_by : WaiterRow → Bool
  stays_by x = step.stays x.sid x.call

  kept : (x : WaiterRow) → IsIn x t.waiters → among (mail_place x.sid.pid) ps ≡ false → stays_by x ≡ true
  kept x i unmet = true_from_ne_false (stays_by x) (λ e. both_ways (among (mail_place x.sid.pid) ps) unmet (step.dropped x i e))

  -- ---- tokens

  pub tokens_stay : (sid : Sid) → among (mail_place sid.pid) ps ≡ false → w.tokens_of sid ≡ v.tokens_of sid
  tokens_stay sid unmet = ap (map table.token_of) (
      ap (filter (waits_for sid)) step.rows
      ∙ filter_joined (waits_for sid) (filter stays_by t.waiters) step.new
      ∙ ap (λ xs. filter (waits_for sid) (filter stays_by t.waiters) ++ xs) (filter_none (waits_for sid) step.new (λ x i. false_from_ne_true (waits_for sid x) (λ e.
      both_ways (among (mail_place sid.pid) ps) unmet (ap (λ (k : Sid). among (mail_place k.pid) ps) (sym (same_sid-eq x.sid sid e)) ∙ (step.added x i).mail))))
      ∙ append_nothing (filter (waits_for sid) (filter stays_by t.waiters))
      ∙ filter_twice stays_by (waits_for sid) t.waiters
      ∙ filter_each (λ x. stays_by x && waits_for sid x) (waits_for sid) t.waiters (λ x i. here x i (waits_for sid x) refl))
    where
      here : (x : WaiterRow) → IsIn x t.waiters → (b : Bool) → waits_for sid x ≡ b → (stays_by x && b) ≡ b
      here x i true e = ap (λ c. c && true) (kept x i (ap (λ (k : Sid). among (mail_place k.pid) ps) (same_sid-eq x.sid sid e) ∙ unmet))
      here x i false e = and_right (stays_by x) false refl

  -- ---- watches on a spot

  module _ (spot : Spot) (unmet : among (spot_place setup spot) ps ≡ false) where
    none_new : (x : WaiterRow) → IsIn x step.new → waits_on spot x ≡ false
    none_new x i = false_from_ne_true (waits_on spot x) (λ e.
        both_ways (among (spot_place setup spot) ps) unmet (ap (λ z. among (spot_place setup z) ps) (sym (spot_is x.spot spot e)) ∙ (step.added x i).spot))

    -- who waits there with a call after the step
    pub waits_there : (sid : Sid) (call : ℕ) → list_any (λ x. waits_for sid x && (waits_on spot x && (x.call == call))) u.waiters
        ≡ (step.stays sid call && list_any (λ x. waits_for sid x && (waits_on spot x && (x.call == call))) t.waiters)
    waits_there sid call =
        let p : WaiterRow → Bool = λ x. waits_for sid x && (waits_on spot x && (x.call == call)) in
        ap (list_any p) step.rows
        ∙ any_joined p (filter stays_by t.waiters) step.new
        ∙ ap (λ b. list_any p (filter stays_by t.waiters) || b) (any_none p step.new (λ x i. and_right (waits_for sid x) _ (ap (λ b. b && (x.call == call)) (none_new x i))))
        ∙ or-false (list_any p (filter stays_by t.waiters))
        ∙ any_in_filter p stays_by t.waiters
        ∙ any_alike (λ x. stays_by x && p x) (λ x. step.stays sid call && p x) t.waiters (all_by (λ x. (stays_by x && p x) ≡ (step.stays sid call && p x)) t.waiters (λ x i. by_same x (p x) refl))
        ∙ any_held (step.stays sid call) p t.waiters
      where
        by_same : (x : WaiterRow) (b : Bool) → (waits_for sid x && (waits_on spot x && (x.call == call))) ≡ b → (stays_by x && b) ≡ (step.stays sid call && b)
        by_same x false e = and_right (stays_by x) false refl ∙ sym (and_right (step.stays sid call) false refl)
        by_same x true e =
            let parts = and_parts (waits_for sid x) _ e in
            let later = and_parts (waits_on spot x) (x.call == call) parts.1 in
            λ i. step.stays (same_sid-eq x.sid sid parts.0 i) (eqb-true x.call call later.1 i) && true

    pub watches_stay : w.watches_on spot ≡ filter (λ y. step.stays y.sid y.call) (v.watches_on spot)
    watches_stay =
        ap (map (watch_on spot)) (
        ap (filter (waits_on spot)) step.rows
        ∙ filter_joined (waits_on spot) (filter stays_by t.waiters) step.new
        ∙ ap (λ xs. filter (waits_on spot) (filter stays_by t.waiters) ++ xs) (filter_none (waits_on spot) step.new none_new)
        ∙ append_nothing (filter (waits_on spot) (filter stays_by t.waiters))
        ∙ filter-filter (waits_on spot) stays_by t.waiters)
        ∙ sym (filter_mapped (λ (y : Watch). step.stays y.sid y.call) (watch_on spot) (filter (waits_on spot) t.waiters))

  -- ---- watches behind a session

  module _ (sid : Sid) (unmet : among (register_place sid.pid) ps ≡ false) where
    behind_by : (x : WaiterRow) (o : Option Sid) → x.blocker ≡ o → IfSome o (λ b. among (register_place b.pid) ps ≡ true) → option_map_or (λ b. same_sid b sid) o false ≡ false
    behind_by x None e h = refl
    behind_by x (Some b) e h = false_from_ne_true (same_sid b sid) (λ same.
        both_ways (among (register_place sid.pid) ps) unmet (ap (λ (k : Sid). among (register_place k.pid) ps) (sym (same_sid-eq b sid same)) ∙ h))

    pub behind_stay : w.watches_behind sid ≡ filter (λ y. step.stays y.sid y.call) (v.watches_behind sid)
    behind_stay =
        ap (map watch_behind) (
        ap (filter (waits_behind sid)) step.rows
        ∙ filter_joined (waits_behind sid) (filter stays_by t.waiters) step.new
        ∙ ap (λ xs. filter (waits_behind sid) (filter stays_by t.waiters) ++ xs) (filter_none (waits_behind sid) step.new (λ x i. behind_by x x.blocker refl (step.added x i).blocker))
        ∙ append_nothing (filter (waits_behind sid) (filter stays_by t.waiters))
        ∙ filter-filter (waits_behind sid) stays_by t.waiters)
        ∙ sym (filter_mapped (λ (y : Watch). step.stays y.sid y.call) watch_behind (filter (waits_behind sid) t.waiters))

  -- who waits anywhere with a call that a register record watches
  pub waits_anywhere : (pid : ℕ) (watch : WatchRec) → IsIn watch (register_watchers s pid)
      → list_any (λ x. waits_for watch.sid x && (x.call == watch.call)) u.waiters ≡ (step.stays watch.sid watch.call && list_any (λ x. waits_for watch.sid x && (x.call == watch.call)) t.waiters)
  waits_anywhere pid watch within =
      let p : WaiterRow → Bool = λ x. waits_for watch.sid x && (x.call == watch.call) in
      ap (list_any p) step.rows
      ∙ any_joined p (filter stays_by t.waiters) step.new
      ∙ ap (λ b. list_any p (filter stays_by t.waiters) || b) (any_none p step.new (λ x i. all_of _ (register_watchers s pid) ((step.added x i).fresh pid) watch within))
      ∙ or-false (list_any p (filter stays_by t.waiters))
      ∙ any_in_filter p stays_by t.waiters
      ∙ any_alike (λ x. stays_by x && p x) (λ x. step.stays watch.sid watch.call && p x) t.waiters (all_by (λ x. (stays_by x && p x) ≡ (step.stays watch.sid watch.call && p x)) t.waiters (λ x i. by_same x (p x) refl))
      ∙ any_held (step.stays watch.sid watch.call) p t.waiters
    where
      by_same : (x : WaiterRow) (b : Bool) → (waits_for watch.sid x && (x.call == watch.call)) ≡ b → (stays_by x && b) ≡ (step.stays watch.sid watch.call && b)
      by_same x false e = and_right (stays_by x) false refl ∙ sym (and_right (step.stays watch.sid watch.call) false refl)
      by_same x true e =
          let parts = and_parts (waits_for watch.sid x) (x.call == watch.call) e in
          λ i. step.stays (same_sid-eq x.sid watch.sid parts.0 i) (eqb-true x.call watch.call parts.1 i) && true

-- ---- each waiter has its token

module _ (u : Table) (sound : IsSound u) where
  pub own_tokens : (spot : Spot) (watch : WatchRec) → IsIn watch (map watch_of ((view u).watches_on spot)) → has_token_at (exact_mail (view u) watch.sid.pid) watch.sid.session spot watch.call ≡ true
  own_tokens spot watch i =
      let y = in_map watch_of ((view u).watches_on spot) watch i in
      let x = in_map (watch_on spot) (filter (waits_on spot) u.waiters) y.0 y.1 in
      let k = in_filter (waits_on spot) u.waiters x.0 x.1 in
      subst (λ (z : WatchRec). has_token_at (exact_mail (view u) z.sid.pid) z.sid.session spot z.call ≡ true) (ap watch_of x.2 ∙ y.2)
      (counts_at u sound spot x.0.sid x.0.call
      ∙ any_of (λ z. waits_for x.0.sid z && (waits_on spot z && (z.call == x.0.call))) u.waiters x.0 k.0
      (and_from (waits_for x.0.sid x.0) _ (same_sid-refl x.0.sid) (and_from (waits_on spot x.0) _ k.1 (eq-eqb x.0.call x.0.call refl))))

  pub own_tokens_behind : (sid : Sid) (watch : WatchRec) → IsIn watch (map watch_of ((view u).watches_behind sid)) → has_token (exact_mail (view u) watch.sid.pid) watch.sid.session watch.call ≡ true
  own_tokens_behind sid watch i =
      let y = in_map watch_of ((view u).watches_behind sid) watch i in
      let x = in_map watch_behind (filter (waits_behind sid) u.waiters) y.0 y.1 in
      let k = in_filter (waits_behind sid) u.waiters x.0 x.1 in
      subst (λ (z : WatchRec). has_token (exact_mail (view u) z.sid.pid) z.sid.session z.call ≡ true) (ap watch_of x.2 ∙ y.2)
      (counts_anywhere u sound x.0.sid x.0.call
      ∙ any_of (λ z. waits_for x.0.sid z && (z.call == x.0.call)) u.waiters x.0 k.0
      (and_from (waits_for x.0.sid x.0) _ (same_sid-refl x.0.sid) (eq-eqb x.0.call x.0.call refl)))
