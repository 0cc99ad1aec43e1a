-- Waiters and letters together grow only by what a decision adds: who is woken gets one letter and waits no more.
use Rattle.std.proofs.Common.{◌≡◌, ◌==◌, ◌≤◌, ◌+◌, ℕ, Bool, true, false, not, ◌&&◌, List, [], ◌∷◌, ◌++◌, length, filter, map, Option, Some, None, refl, sym, ap, ◌∙◌, subst, inl, inr, arith, length-append, eq-eqb}
use Rattle.std.specs.List.{IsDistinct, list_any, flat_map, sum_by}
use Rattle.std.proofs.lemmas.Bool.{both_ways, and_from, cond_both, true_from_ne_false, not-false}
use Rattle.std.proofs.lemmas.List.{length-map}
use Rattle.std.proofs.lemmas.List.Sums.{sum_by-cons}
use Rattle.sid_core.specs.declared.ids.Sid.{Sid}
use Rattle.sid_core.specs.declared.ids.Spot.{Spot}
use Rattle.sid_core.specs.declared.ids.Moment.{Moment}
use Rattle.sid_core.specs.declared.entry.Post.{Post}
use Rattle.sid_core.specs.Ids.{same_sid, same_spot}
use Rattle.serial_table.specs.declared.rows.WaiterRow.{WaiterRow}
use Rattle.serial_table.specs.declared.rows.Watch.{Watch}
use Rattle.serial_table.specs.declared.table.Table.{Table}
use Rattle.serial_table.specs.declared.change.Change.{Change}
use Rattle.serial_table.specs.declared.change.Change.TheVariants as c
use Rattle.serial_table.specs.declared.decision.Decision.{Decision}
use Rattle.serial_table.specs.View.{view, waits_on, watch_on, waits_behind, watch_behind, is_of_handle, is_to}
use Rattle.serial_table.specs.Wake.{some_frees, wake, waiting_on}
use Rattle.serial_table.specs.Settle.{settle_where}
use Rattle.serial_table.specs.Change.{perform, perform_all, is_other_wait, new_owner}
use Rattle.serial_table.specs.Decision.{waits_no_more, waits_now, settling, finishing, freed_spots, woken_by, conclude}
use Rattle.serial_table.specs.Session.{wakes_behind, end_of_session}
use Rattle.serial_table.proofs.Names.{same_spot-eq}
use Rattle.serial_table.proofs.SameIds.{same_sid-refl}
use Rattle.serial_table.proofs.Filters.{filter_all}
use Rattle.serial_table.proofs.Views.{view-perform_all}
use Rattle.serial_table.proofs.Concluding.{perform_all-append}
use Rattle.serial_table.proofs.Members.{IsIn, all_of, any_none, one_of, mapped_in, passes_in, distinct_filtered, old_in}
use Rattle.serial_table.proofs.Counting.{length_filtered, length_pushed, length_dropped, count_less, count_apart, count_not, filter_and}

-- ---- who is left after some waits have ended

-- none of these
abbrev pub stays_through : List Watch → WaiterRow → Bool
stays_through [] w = true
stays_through (watch ∷ watches) w = is_other_wait watch.sid watch.call w.sid w.call && stays_through watches w

pub drops_are : (watches : List Watch) (t : Table) → perform_all (map waits_no_more watches) t ≡ record t { waiters = filter (stays_through watches) t.waiters }
drops_are [] t = sym (λ i. record t { waiters = filter_all (stays_through []) (λ w. refl) t.waiters i })
drops_are (watch ∷ watches) t =
    drops_are watches (record t { waiters = filter (λ w. is_other_wait watch.sid watch.call w.sid w.call) t.waiters })
    ∙ λ i. record t { waiters = filter_and (stays_through watches) (λ w. is_other_wait watch.sid watch.call w.sid w.call) t.waiters i }

not_itself : (w : WaiterRow) → is_other_wait w.sid w.call w.sid w.call ≡ false
not_itself w = ap not (and_from (same_sid w.sid w.sid) (w.call == w.call) (same_sid-refl w.sid) (eq-eqb w.call w.call refl))

-- one whose watch is among them goes
goes_with : (watches : List Watch) (w : WaiterRow) (watch : Watch) → watch.sid ≡ w.sid → watch.call ≡ w.call → IsIn watch watches → stays_through watches w ≡ false
goes_with [] w watch s n i = absurd i
goes_with (first ∷ watches) w watch s n (inl e) =
    ap (λ b. b && stays_through watches w)
    (ap (λ (x : Watch). is_other_wait x.sid x.call w.sid w.call) e ∙ (λ i. is_other_wait (s i) (n i) w.sid w.call) ∙ not_itself w)
goes_with (first ∷ watches) w watch s n (inr i) = ends_false (is_other_wait first.sid first.call w.sid w.call) (goes_with watches w watch s n i)
  where
    ends_false : (b : Bool) → stays_through watches w ≡ false → (b && stays_through watches w) ≡ false
    ends_false true e = e
    ends_false false e = refl

-- ---- who is woken

on_one : (spot : Spot) (spots : List Spot) → IsDistinct same_spot (spot ∷ spots) → (w : WaiterRow) → waits_on spot w ≡ true → list_any (λ s. waits_on s w) spots ≡ false
unfolding IsDistinct
on_one spot spots d w e =
    any_none (λ s. waits_on s w) spots
    (λ s i. ap (λ x. same_spot x s) (same_spot-eq w.spot spot e) ∙ all_of (λ y. same_spot spot y ≡ false) spots d.0 s i)

later_differ : (spot : Spot) (spots : List Spot) → IsDistinct same_spot (spot ∷ spots) → IsDistinct same_spot spots
unfolding IsDistinct
later_differ spot spots d = d.1

-- Of spots that differ, at most as many watches as there are waiters on one of them.
watched : (spots : List Spot) (waiters : List WaiterRow) → IsDistinct same_spot spots
    → length (flat_map (λ spot. map (watch_on spot) (filter (waits_on spot) waiters)) spots) ≤ length (filter (λ w. list_any (λ s. waits_on s w) spots) waiters)
watched [] waiters d = omega arith
watched (spot ∷ spots) waiters d =
    let rest = watched spots waiters (later_differ spot spots d) in
    let apart = count_apart (waits_on spot) (λ w. list_any (λ s. waits_on s w) spots) (on_one spot spots d) waiters in
    omega (
      arith,
      length-append (map (watch_on spot) (filter (waits_on spot) waiters)) (flat_map (λ spot. map (watch_on spot) (filter (waits_on spot) waiters)) spots),
      length-map (filter (waits_on spot) waiters) (watch_on spot),
    )

new_in : {X : Type 0} (xs ys : List X) (x : X) → IsIn x ys → IsIn x (xs ++ ys)
new_in [] ys x k = k
new_in (z ∷ zs) ys x k = inr (new_in zs ys x k)

in_flat : (spots : List Spot) (waiters : List WaiterRow) (spot : Spot) (w : WaiterRow) → IsIn spot spots → IsIn w waiters → waits_on spot w ≡ true
    → IsIn (watch_on spot w) (flat_map (λ spot. map (watch_on spot) (filter (waits_on spot) waiters)) spots)
in_flat [] waiters spot w i j e = absurd i
in_flat (first ∷ spots) waiters spot w (inl h) j e =
    subst (λ s. IsIn (watch_on spot w) (map (watch_on s) (filter (waits_on s) waiters) ++ flat_map (λ spot. map (watch_on spot) (filter (waits_on spot) waiters)) spots)) (sym h)
    (old_in (map (watch_on spot) (filter (waits_on spot) waiters)) (flat_map (λ spot. map (watch_on spot) (filter (waits_on spot) waiters)) spots) (watch_on spot w)
    (mapped_in (watch_on spot) (filter (waits_on spot) waiters) w (passes_in (waits_on spot) waiters w j e)))
in_flat (first ∷ spots) waiters spot w (inr i) j e =
    new_in (map (watch_on first) (filter (waits_on first) waiters)) (flat_map (λ spot. map (watch_on spot) (filter (waits_on spot) waiters)) spots) (watch_on spot w) (in_flat spots waiters spot w i j e)

-- ---- waiters and letters of a table

abbrev pub waits_of : Table → ℕ
waits_of t = length t.letters + length t.waiters

-- what a change adds to them
abbrev pub adds_waits : Change → ℕ
adds_waits (c.AddWaiter waiter) = 1
adds_waits (c.Send post) = 1
adds_waits _ = 0

pub waits-perform : (change : Change) (t : Table) → waits_of (perform change t) ≤ waits_of t + adds_waits change
unfolding settle_where
waits-perform (c.AddWaiter waiter) t = omega (arith, length_pushed t.waiters waiter)
waits-perform (c.DropWaiter sid call) t = omega (arith, length_filtered (λ w. is_other_wait sid call w.sid w.call) t.waiters)
waits-perform (c.Send post) t = omega (arith, length_pushed t.letters post)
waits-perform (c.TakeLetter to) t = omega (arith, length_dropped (is_to to) t.letters)
waits-perform (c.EndSession sid moment) t = omega (arith, length_filtered (λ w. not (same_sid w.sid sid)) t.waiters, length_filtered (λ post. not (is_to sid post)) t.letters)
waits-perform (c.TakeOver file id owner handle) t =
    cond_both (list_any (is_of_handle owner handle) t.opens) t (record t { opens = map (new_owner file id owner handle) t.opens }) (λ (u : Table). waits_of u ≤ waits_of t + 0) (λ _. omega arith) (λ _. omega arith)
waits-perform (c.AddOpen o) t = omega arith
waits-perform (c.DropOpen file id) t = omega arith
waits-perform (c.AddLease lease) t = omega arith
waits-perform (c.SetLease file name held breaking) t = omega arith
waits-perform (c.Acknowledge file name state) t = omega arith
waits-perform (c.AddRange range) t = omega arith
waits-perform (c.DropRange range) t = omega arith
waits-perform (c.AddPending file) t = omega arith
waits-perform (c.DropPending file) t = omega arith
waits-perform (c.AddHold hold) t = omega arith
waits-perform (c.SetHold key owner mode) t = omega arith
waits-perform (c.DropHold key owner) t = omega arith
waits-perform (c.NextSession sid moment) t = omega arith
waits-perform c.Settle t = omega arith

sent_waits : (posts : List Post) (t : Table) → waits_of (perform_all (map (λ post. c.Send post) posts) t) ≡ waits_of t + length posts
sent_waits [] t = omega arith
sent_waits (post ∷ posts) t = omega (arith, sent_waits posts (perform (c.Send post) t), length_pushed t.letters post)

added_waits : (waits : Option WaiterRow) (t : Table) → waits_of (perform_all (waits_now waits) t) ≡ waits_of t + length (waits_now waits)
added_waits None t = omega arith
added_waits (Some waiter) t = omega (arith, length_pushed t.waiters waiter)

-- who is woken and who is left are no more than who waited
left_and_woken : (t : Table) (spots : List Spot) → IsDistinct same_spot spots → length (waiting_on (view t) spots) + length (filter (stays_through (waiting_on (view t) spots)) t.waiters) ≤ length t.waiters
left_and_woken t spots d =
    let on : WaiterRow → Bool = λ w. list_any (λ s. waits_on s w) spots in
    let woken : length (waiting_on (view t) spots) ≤ length (filter on t.waiters) = watched spots t.waiters d in
    let left : length (filter (stays_through (waiting_on (view t) spots)) t.waiters) ≤ length (filter (λ w. not (on w)) t.waiters) =
    count_less (stays_through (waiting_on (view t) spots)) (λ w. not (on w)) t.waiters (λ w i e. true_from_ne_false (not (on w)) (λ f. both_ways (stays_through (waiting_on (view t) spots) w) (gone w i (not-false (on w) f)) e)) in
    omega (arith, count_not on t.waiters)
  where
    gone : (w : WaiterRow) → IsIn w t.waiters → list_any (λ s. waits_on s w) spots ≡ true → stays_through (waiting_on (view t) spots) w ≡ false
    gone w i e =
        let spot = one_of (λ s. waits_on s w) spots e in
        goes_with (waiting_on (view t) spots) w (watch_on spot.0 w) refl refl (in_flat spots t.waiters spot.0 w spot.1 i spot.2)

finished_waits : (t : Table) (spots : List Spot) (waits : Option WaiterRow) (posts : List Post) → IsDistinct same_spot spots
    → waits_of (perform_all (finishing (waiting_on (view t) spots) waits (posts ++ map wake (waiting_on (view t) spots))) t) ≤ waits_of t + (length posts + length (waits_now waits))
finished_waits t spots waits posts d =
    let woken = waiting_on (view t) spots in
    let sent = posts ++ map wake woken in
    let left : Table = record t { waiters = filter (stays_through woken) t.waiters } in
    let is : perform_all (finishing woken waits sent) t ≡ perform_all (map (λ post. c.Send post) sent) (perform_all (waits_now waits) left) =
    perform_all-append (map waits_no_more woken) (waits_now waits ++ map (λ post. c.Send post) sent) t
    ∙ perform_all-append (waits_now waits) (map (λ post. c.Send post) sent) (perform_all (map waits_no_more woken) t)
    ∙ ap (λ (u : Table). perform_all (map (λ post. c.Send post) sent) (perform_all (waits_now waits) u)) (drops_are woken t) in
    subst (λ u. waits_of u ≤ waits_of t + (length posts + length (waits_now waits))) (sym is)
    (omega (arith, sent_waits sent (perform_all (waits_now waits) left), added_waits waits left, left_and_woken t spots d, length-append posts (map wake woken), length-map woken wake))

-- What a decision comes to adds its own letters and its own waiter, and no more, to what its changes leave.
pub concluded_waits : (t : Table) (decision : Decision) → IsDistinct same_spot decision.spots
    → waits_of (perform_all (conclude (view t) decision).changes t) ≤ waits_of (perform_all (settling decision) t) + (length decision.posts + length (waits_now decision.waits))
unfolding conclude
concluded_waits t decision d =
    let u = perform_all (settling decision) t in
    let freed = freed_spots (view t) decision in
    let woken : woken_by (view t) decision ≡ waiting_on (view u) freed = ap (λ v. waiting_on v freed) (sym (view-perform_all (settling decision) t)) in
    let differ : IsDistinct same_spot freed = distinct_filtered same_spot (some_frees (settling decision) (view t)) decision.spots d in
    subst (λ (after : Table). waits_of after ≤ waits_of u + (length decision.posts + length (waits_now decision.waits)))
    (sym (perform_all-append (settling decision) (finishing (woken_by (view t) decision) decision.waits (decision.posts ++ map wake (woken_by (view t) decision))) t))
    (subst (λ ws. waits_of (perform_all (finishing ws decision.waits (decision.posts ++ map wake ws)) u) ≤ waits_of u + (length decision.posts + length (waits_now decision.waits))) (sym woken)
    (finished_waits u freed decision.waits decision.posts differ))

-- ---- changes one after another

pub grows : (size : Table → ℕ) (adds : Change → ℕ) → ((change : Change) (t : Table) → size (perform change t) ≤ size t + adds change) → (cs : List Change) (t : Table) → size (perform_all cs t) ≤ size t + sum_by adds cs
grows size adds h [] t = omega arith
grows size adds h (change ∷ cs) t = omega (arith, h change t, grows size adds h cs (perform change t), sum_by-cons adds change cs)

-- ---- a session ends

-- The letters to those who waited behind it are no more than the waits that end, where what follows adds none.
pub ending_waits : (t : Table) (sid : Sid) (moment : Moment) (others : List Change) → sum_by adds_waits others ≤ 0
    → waits_of (perform_all (settling (end_of_session (view t) sid moment others)) t) + length (wakes_behind (view t) sid) ≤ waits_of t
unfolding end_of_session
ending_waits t sid moment others none =
    let watches = (view t).watches_behind sid in
    let left : Table = record t { waiters = filter (stays_through watches) t.waiters } in
    let ended : Table = perform (c.EndSession sid moment) left in
    let is : perform_all (settling (end_of_session (view t) sid moment others)) t ≡ perform c.Settle (perform_all others ended) =
    perform_all-append (map waits_no_more watches ++ c.EndSession sid moment ∷ others) (c.Settle ∷ []) t
    ∙ ap (perform c.Settle) (perform_all-append (map waits_no_more watches) (c.EndSession sid moment ∷ others) t)
    ∙ ap (λ (u : Table). perform c.Settle (perform_all others (perform (c.EndSession sid moment) u))) (drops_are watches t) in
    let stay : length (filter (stays_through watches) t.waiters) ≤ length (filter (λ w. not (waits_behind sid w)) t.waiters) =
    count_less (stays_through watches) (λ w. not (waits_behind sid w)) t.waiters (λ w i e. true_from_ne_false (not (waits_behind sid w)) (λ f. both_ways (stays_through watches w)
    (goes_with watches w (watch_behind w) refl refl (mapped_in watch_behind (filter (waits_behind sid) t.waiters) w (passes_in (waits_behind sid) t.waiters w i (not-false (waits_behind sid w) f)))) e)) in
    let most : length (wakes_behind (view t) sid) ≤ length (filter (waits_behind sid) t.waiters) =
    omega (arith, length-map (filter (λ watch. not (same_sid watch.sid sid)) watches) wake, length_filtered (λ (watch : Watch). not (same_sid watch.sid sid)) watches, length-map (filter (waits_behind sid) t.waiters) watch_behind) in
    subst (λ (u : Table). waits_of u + length (wakes_behind (view t) sid) ≤ waits_of t) (sym is)
    (omega (arith, waits-perform c.Settle (perform_all others ended), grows waits_of adds_waits waits-perform others ended, waits-perform (c.EndSession sid moment) left, count_not (waits_behind sid) t.waiters))
