-- Changes made one after another, and the spots that they free.
use Rattle.std.proofs.Common.{◌≡◌, ℕ, suc, ◌+◌, ◌<◌, Bool, true, false, cond, ◌||◌, ◌&&◌, IsTrue, List, [], ◌∷◌, ◌++◌, length, take, drop, get_or, filter, map, refl, sym, ap, ◌∙◌, drop-cons, subst, arith}
use Rattle.std.proofs.Math.Bool.{or-false, or_assoc}
use Rattle.std.proofs.lemmas.List.{take_more, map-append}
use Rattle.std.specs.List.{list_all}
use Rattle.sid_core.specs.declared.ids.Spot.{Spot}
use Rattle.serial_table.specs.declared.table.Table.{Table}
use Rattle.serial_table.specs.declared.change.Change.{Change}
use Rattle.serial_table.specs.declared.change.Change.TheVariants as c
use Rattle.serial_table.specs.declared.wake.Candidate.{Candidate}
use Rattle.serial_table.specs.declared.lists.Scope.{Scope}
use Rattle.serial_table.specs.View.{View, view}
use Rattle.serial_table.specs.Change.{perform, perform_all, perform_by_key, perform_all_by_key}
use Rattle.serial_table.specs.Wake.{frees, some_frees}
use Rattle.serial_table.specs.InPlace.{judge, judge_too, is_made, AreEnough}
use Rattle.serial_table.proofs.Views.{view-perform_all}
use Rattle.serial_table.proofs.Concluding.{perform_all-append}

some_frees-append : (cs : List Change) (c : Change) (v : View) (spot : Spot) → some_frees (cs ++ c ∷ []) v spot ≡ (some_frees cs v spot || frees c spot (perform_all_by_key cs v))
some_frees-append [] c v spot = or-false (frees c spot v)
some_frees-append (d ∷ cs) c v spot =
    ap (λ b. frees d spot v || b) (some_frees-append cs c (perform_by_key d v) spot)
    ∙ sym (or_assoc (frees d spot v) (some_frees cs (perform_by_key d v) spot) (frees c spot (perform_all_by_key cs (perform_by_key d v))))

map_judged : (f g h : Spot → Bool) → ((spot : Spot) → h spot ≡ (f spot || g spot)) → (spots : List Spot) → map (judge_too g) (map (judge f) spots) ≡ map (judge h) spots
map_judged f g h e [] = refl
map_judged f g h e (spot ∷ spots) =
    ap (λ b. (let c : Candidate = record { spot = spot; freed = b } in c) ∷ map (judge_too g) (map (judge f) spots)) (sym (e spot))
    ∙ ap (λ cs. judge h spot ∷ cs) (map_judged f g h e spots)

-- one change more
judged_more : (cs : List Change) (c : Change) (start now : Table) (spots : List Spot) (candidates : List Candidate) → now ≡ perform_all cs start
    → candidates ≡ map (judge (some_frees cs (view start))) spots
    → map (judge_too (λ spot. frees c spot (view now))) candidates ≡ map (judge (some_frees (cs ++ c ∷ []) (view start))) spots
judged_more cs c start now spots candidates e f =
    let same : view now ≡ perform_all_by_key cs (view start) = ap view e ∙ view-perform_all cs start in
    ap (λ v. map (judge_too (λ spot. frees c spot v)) candidates) same
    ∙ ap (map (judge_too (λ spot. frees c spot (perform_all_by_key cs (view start))))) f
    ∙ map_judged (some_frees cs (view start)) (λ spot. frees c spot (perform_all_by_key cs (view start))) (some_frees (cs ++ c ∷ []) (view start)) (some_frees-append cs c (view start)) spots

freed_here : (b : Bool) (spot : Spot) (f : Spot → Bool) (spots : List Spot) (candidates : List Candidate) → map (λ c. c.spot) candidates ≡ filter f spots
    → map (λ (c : Candidate). c.spot) (cond b ((record { spot = spot; freed = b }) ∷ candidates) candidates) ≡ cond b (spot ∷ filter f spots) (filter f spots)
freed_here true spot f spots candidates e = ap (λ xs. spot ∷ xs) e
freed_here false spot f spots candidates e = e

-- the freed ones, in their order
pub freed-judged : (f : Spot → Bool) (spots : List Spot) → map (λ c. c.spot) (filter (λ c. c.freed) (map (judge f) spots)) ≡ filter f spots
freed-judged f [] = refl
freed-judged f (spot ∷ spots) = freed_here (f spot) spot f spots (filter (λ c. c.freed) (map (judge f) spots)) (freed-judged f spots)

-- ---- a loop over the changes

pub performed_more : (cs : List Change) (i : ℕ) (d : Change) (start now next : Table) → i < length cs → now ≡ perform_all (take i cs) start → next ≡ perform (get_or cs i d) now
    → next ≡ perform_all (take (i + 1) cs) start
performed_more cs i d start now next h e f =
    f ∙ ap (perform (get_or cs i d)) e ∙ sym (perform_all-append (take i cs) (get_or cs i d ∷ []) start) ∙ ap (λ ds. perform_all ds start) (sym (take_more cs i d h))

-- the same of changes that are made of a list's elements
pub performed_of : {X : Type 0} (f : X → Change) (xs : List X) (i : ℕ) (d : X) (start now next : Table) → i < length xs → now ≡ perform_all (map f (take i xs)) start → next ≡ perform (f (get_or xs i d)) now
    → next ≡ perform_all (map f (take (i + 1) xs)) start
performed_of f xs i d start now next h e made =
    made ∙ ap (perform (f (get_or xs i d))) e ∙ sym (perform_all-append (map f (take i xs)) (f (get_or xs i d) ∷ []) start)
    ∙ ap (λ ds. perform_all ds start) (sym (map-append f (take i xs) (get_or xs i d ∷ [])))
    ∙ ap (λ ys. perform_all (map f ys) start) (sym (take_more xs i d h))

pub judged_more_at : (cs : List Change) (i : ℕ) (d : Change) (start now : Table) (spots : List Spot) (candidates : List Candidate) → i < length cs → now ≡ perform_all (take i cs) start
    → candidates ≡ map (judge (some_frees (take i cs) (view start))) spots
    → map (judge_too (λ spot. frees (get_or cs i d) spot (view now))) candidates ≡ map (judge (some_frees (take (i + 1) cs) (view start))) spots
judged_more_at cs i d start now spots candidates h e f =
    judged_more (take i cs) (get_or cs i d) start now spots candidates e f
    ∙ ap (λ ds. map (judge (some_frees ds (view start))) spots) (sym (take_more cs i d h))

and_first : (b c : Bool) → (b && c) ≡ true → b ≡ true
and_first true c e = refl
and_first false c e = e

and_second : (b c : Bool) → (b && c) ≡ true → c ≡ true
and_second true c e = e
and_second false c e = absurd cc

next_of : (cs : List Change) (i : ℕ) (d : Change) → i < length cs → drop i cs ≡ get_or cs i d ∷ drop (i + 1) cs
next_of cs i d h = let more : suc i ≡ i + 1 = omega arith in drop-cons cs i d h ∙ ap (λ n. get_or cs i d ∷ drop n cs) more

rest_made_in : (cs : List Change) (d : Change) (ds : List Change) → cs ≡ d ∷ ds → IsTrue (list_all is_made cs) → IsTrue (list_all is_made ds)
rest_made_in cs d ds e h = and_second (is_made d) (list_all is_made ds) (ap (list_all is_made) (sym e) ∙ h)

pub rest_made : (cs : List Change) (i : ℕ) → i < length cs → IsTrue (list_all is_made (drop i cs)) → IsTrue (list_all is_made (drop (i + 1) cs))
rest_made cs i h made = rest_made_in (drop i cs) (get_or cs i c.Settle) (drop (i + 1) cs) (next_of cs i c.Settle h) made

rest_enough_in : (scope : Scope) (cs : List Change) (d : Change) (ds : List Change) (t : Table) → cs ≡ d ∷ ds → AreEnough scope cs t → AreEnough scope ds (perform d t)
rest_enough_in scope cs d ds t e h = let w : AreEnough scope (d ∷ ds) t = subst (λ xs. AreEnough scope xs t) e h in w.1

pub rest_enough : (scope : Scope) (cs : List Change) (i : ℕ) (d : Change) (now next : Table) → i < length cs → AreEnough scope (drop i cs) now → next ≡ perform (get_or cs i d) now → AreEnough scope (drop (i + 1) cs) next
rest_enough scope cs i d now next h enough e =
    subst (AreEnough scope (drop (i + 1) cs)) (sym e) (rest_enough_in scope (drop i cs) (get_or cs i d) (drop (i + 1) cs) now (next_of cs i d h) enough)
