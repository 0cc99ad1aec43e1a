-- What the steps of a conclusion come to.
use Rattle.std.proofs.Common.{◌≡◌, Bool, true, false, cond, List, [], ◌∷◌, ◌++◌, filter, map, refl, sym, ap, ◌∙◌}
use Rattle.std.specs.List.{flat_map}
use Rattle.sid_core.specs.declared.ids.Spot.{Spot}
use Rattle.sid_core.specs.declared.entry.Post.{Post}
use Rattle.serial_table.specs.declared.rows.WaiterRow.{WaiterRow}
use Rattle.serial_table.specs.declared.rows.Watch.{Watch}
use Rattle.serial_table.specs.declared.table.Table.{Table}
use Rattle.serial_table.specs.declared.change.Change.{Change}
use Rattle.serial_table.specs.declared.change.Change.TheVariants.{Send}
use Rattle.serial_table.specs.declared.decision.Decision.{Decision}
use Rattle.serial_table.specs.declared.wake.Candidate.{Candidate}
use Rattle.serial_table.specs.View.{view, watch_on, waits_on}
use Rattle.serial_table.specs.Change.{perform_all, perform_all_by_key}
use Rattle.serial_table.specs.Wake.{some_frees, waiting_on, wake}
use Rattle.serial_table.specs.Decision.{settling, waits_no_more, waits_now, freed_spots, woken_by, conclude}
use Rattle.serial_table.specs.InPlace.{judge, freed_watches}
use Rattle.serial_table.proofs.Views.{view-perform_all}
use Rattle.serial_table.proofs.Concluding.{perform_all-append}

watches_in : List WaiterRow → Spot → List Watch
watches_in ws spot = map (watch_on spot) (filter (waits_on spot) ws)

freed_at : (b : Bool) (ws : List WaiterRow) (spot : Spot) (spots : List Spot) (later : List Watch) → later ≡ flat_map (λ s. map (watch_on s) (filter (waits_on s) ws)) spots
    → cond b (map (watch_on spot) (filter (waits_on spot) ws)) [] ++ later ≡ flat_map (λ s. map (watch_on s) (filter (waits_on s) ws)) (cond b (spot ∷ spots) spots)
freed_at true ws spot spots later e = ap (λ xs. map (watch_on spot) (filter (waits_on spot) ws) ++ xs) e
freed_at false ws spot spots later e = e

-- who waits on the spots that are freed
waits_on_freed : (ws : List WaiterRow) (f : Spot → Bool) (spots : List Spot)
    → flat_map (freed_watches ws) (map (judge f) spots) ≡ flat_map (λ s. map (watch_on s) (filter (waits_on s) ws)) (filter f spots)
waits_on_freed ws f [] = refl
waits_on_freed ws f (spot ∷ spots) = freed_at (f spot) ws spot (filter f spots) (flat_map (freed_watches ws) (map (judge f) spots)) (waits_on_freed ws f spots)

-- The changes are made and the spots judged, the woken go, the caller's waiter comes and the letters are sent.
pub concluded : (d : Decision) (t next last : Table) (changes : List Change) (candidates : List Candidate) (woken : List Watch) (posts : List Post)
    → changes ≡ settling d → next ≡ perform_all changes t → candidates ≡ map (judge (some_frees changes (view t))) d.spots
    → woken ≡ flat_map (freed_watches next.waiters) candidates → posts ≡ d.posts ++ map wake woken
    → last ≡ perform_all (map (λ post. Send post) posts) (perform_all (waits_now d.waits) (perform_all (map waits_no_more woken) next))
    → (last ≡ perform_all (conclude (view t) d).changes t) × (posts ≡ (conclude (view t) d).posts)
unfolding conclude
concluded d t next last changes candidates woken posts these moved judged-are woken-are posts-are finished =
    let settled : next ≡ perform_all (settling d) t = moved ∙ ap (λ cs. perform_all cs t) these in
    let shown : view next ≡ perform_all_by_key (settling d) (view t) = ap view settled ∙ view-perform_all (settling d) t in
    let those : woken ≡ woken_by (view t) d =
    woken-are ∙ ap (flat_map (freed_watches next.waiters)) (judged-are ∙ ap (λ cs. map (judge (some_frees cs (view t))) d.spots) these)
    ∙ waits_on_freed next.waiters (some_frees (settling d) (view t)) d.spots
    ∙ ap (λ v. waiting_on v (freed_spots (view t) d)) shown in
    let sent : posts ≡ d.posts ++ map wake (woken_by (view t) d) = posts-are ∙ ap (λ ws. d.posts ++ map wake ws) those in
    let gone = map waits_no_more (woken_by (view t) d) in
    let letters = map (λ post. Send post) (d.posts ++ map wake (woken_by (view t) d)) in (
      finished
          ∙ ap (λ ps. perform_all (map (λ post. Send post) ps) (perform_all (waits_now d.waits) (perform_all (map waits_no_more woken) next))) sent
          ∙ ap (λ ws. perform_all letters (perform_all (waits_now d.waits) (perform_all (map waits_no_more ws) next))) those
          ∙ ap (λ (u : Table). perform_all letters (perform_all (waits_now d.waits) (perform_all gone u))) settled
          ∙ sym (perform_all-append (settling d) (gone ++ (waits_now d.waits ++ letters)) t
          ∙ perform_all-append gone (waits_now d.waits ++ letters) (perform_all (settling d) t)
          ∙ perform_all-append (waits_now d.waits) letters (perform_all gone (perform_all (settling d) t))),
      sent,
    )
