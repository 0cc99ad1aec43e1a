-- The history that one thread makes is legal, and fits the script.
use Rattle.std.proofs.Common.{◌≡◌, ◌==◌, ℕ, zero, suc, ◌+◌, ◌≤◌, inl, Bool, true, false, cond, ◌&&◌, IsTrue, List, [], ◌∷◌, ◌++◌, length, map, take, drop, is_some, Option, Some, None, refl, sym, ap, ◌∙◌, subst, append_assoc, append-nil, zero-add, take-append-drop, arith}
use Rattle.std.proofs.Math.Bool.{and-false, and-true}
use Rattle.std.specs.List.{AllByRecursion, flat_map}
use Rattle.std.proofs.lemmas.Bool.{and_from}
use Rattle.std.proofs.lemmas.Bool.Decides.{nat_tests}
use Rattle.std.proofs.lemmas.Grind.{flat_map-append}
use Rattle.std.proofs.lemmas.List.{take_all}
use Rattle.sid_core.specs.declared.ids.Moment.{Moment}
use Rattle.sid_core.specs.declared.entry.Entry.{Entry}
use Rattle.sid_core.specs.declared.call.Call.{Call}
use Rattle.sid_core.specs.declared.outside.Point.{Point}
use Rattle.sid_core.specs.declared.setup.Setup.{Setup}
use Rattle.sid_core.specs.Counting.{CountsFrom, RisesAbove}
use Rattle.serial_table.specs.declared.table.Table.{Table}
use Rattle.serial_table.specs.History as history
use Rattle.serial_table.specs.History.{start, after_entry, after_all, own_seq, seqs_of, AreLegal, IsLegal, IsLegalEntry}
use Rattle.sid_core.specs.declared.call.Tables.{Tables}
use Rattle.serial_table.specs.View.{view}
use Rattle.serial_table.specs.Tables.{tables}
use Rattle.serial_table.specs.Text.{block, text_from}
use Rattle.worker_script.specs.declared.script.Planned.{Planned}
use Rattle.worker_script.specs.declared.script.Phase.{Phase}
use Rattle.worker_script.specs.declared.script.Script.{Script}
use Rattle.worker_script.specs.Script as planned
use Rattle.worker_script.specs.Script.{all_calls, DiesLast, IsPlanned, IsPhase, IsScript}
use Rattle.worker_script.specs.Fits.{own_call, calls_of, planned_of, own_plan, is_entered, is_death_of, deaths_of, stops_of, CallsBeforeDeath, IsAt, IsTidiedBy, IsEnteredBy, dead_after, FitsPhase, FitsPhases, AreEnteredByLiving, FitsFirst}
use Rattle.opendb_run.specs.Order.{in_order}
use Rattle.opendb_run.specs.Play.{after_call, after_death, after_planned, after_calls, after_phase, call_entry, death_entry, dying_in, entries_of, history_from, history_of, PrintsFirst, Prints, ShowsTables}
use Rattle.opendb_run.specs.Playing.{text_of_call, text_of_death, text_of_planned, text_of_calls, text_of_phase, text_of_phases, after_phases, TakesCalls, TakesPhases}
use Rattle.opendb_run.proofs.Ordering.{all-in_order, planned_in_order, stops_in_order, dies_in_order}

-- ---- what is entered of one planned call: its entry, or not, and the death's, or not

abbrev either : Bool → Entry → List Entry
either b e = cond b (e ∷ []) []

all_step : (P : Entry → Type 0) (e1 e2 : Entry) (es : List Entry) (b1 b2 : Bool) → P e1 → P e2 → AllByRecursion P es → AllByRecursion P (either b1 e1 ++ (either b2 e2 ++ es))
all_step P e1 e2 es true true first second all = (first, (second, all))
all_step P e1 e2 es true false first second all = (first, all)
all_step P e1 e2 es false true first second all = (second, all)
all_step P e1 e2 es false false first second all = all

flat_step : {X : Type 0} (f : Entry → List X) (e1 e2 : Entry) (es : List Entry) (b1 b2 : Bool) → f e2 ≡ [] → flat_map f (either b1 e1 ++ (either b2 e2 ++ es)) ≡ cond b1 (f e1) [] ++ flat_map f es
flat_step f e1 e2 es true true none = ap (λ l. f e1 ++ (l ++ flat_map f es)) none
flat_step f e1 e2 es true false none = refl
flat_step f e1 e2 es false true none = ap (λ l. l ++ flat_map f es) none
flat_step f e1 e2 es false false none = refl

calls_step : (w : ℕ) (e1 e2 : Entry) (es : List Entry) (b1 b2 : Bool) → own_call w e2 ≡ [] → calls_of w (either b1 e1 ++ (either b2 e2 ++ es)) ≡ cond b1 (own_call w e1) [] ++ calls_of w es
calls_step w e1 e2 es true true none = ap (λ l. own_call w e1 ++ (l ++ calls_of w es)) none
calls_step w e1 e2 es true false none = refl
calls_step w e1 e2 es false true none = ap (λ l. l ++ calls_of w es) none
calls_step w e1 e2 es false false none = refl

deaths_step : (w : ℕ) (e1 e2 : Entry) (es : List Entry) (b1 b2 : Bool) → is_death_of w e1.what ≡ false
    → deaths_of w (either b1 e1 ++ (either b2 e2 ++ es)) ≡ cond (is_death_of w e2.what && b2) 1 0 + deaths_of w es
deaths_step w e1 e2 es true true none = rw (none, and-true (is_death_of w e2.what)) (zero-add (cond (is_death_of w e2.what) 1 0 + deaths_of w es))
deaths_step w e1 e2 es true false none = rw (none, and-false (is_death_of w e2.what)) refl
deaths_step w e1 e2 es false true none = rw (and-true (is_death_of w e2.what)) refl
deaths_step w e1 e2 es false false none = rw (and-false (is_death_of w e2.what)) (sym (zero-add (deaths_of w es)))

last_step : (w : ℕ) (e1 e2 : Entry) (es : List Entry) (b1 b2 : Bool) → (IsTrue (is_death_of w e1.what) → ⊥) → (IsTrue (is_death_of w e2.what) → IsTrue b2 → calls_of w es ≡ []) → CallsBeforeDeath w es
    → CallsBeforeDeath w (either b1 e1 ++ (either b2 e2 ++ es))
last_step w e1 e2 es true true call death rest = ((λ e. absurd (call e)), ((λ e. death e refl), rest))
last_step w e1 e2 es true false call death rest = ((λ e. absurd (call e)), rest)
last_step w e1 e2 es false true call death rest = ((λ e. death e refl), rest)
last_step w e1 e2 es false false call death rest = rest

enters_step : (setup : Setup) (e1 e2 : Entry) (es rest : List Entry) (b1 b2 : Bool) → ((dead : List ℕ) → IsEnteredBy setup dead e1.by e1.what) → ((dead : List ℕ) → IsEnteredBy setup dead e2.by e2.what)
    → ((dead : List ℕ) → AreEnteredByLiving setup dead (es ++ rest)) → (dead : List ℕ) → AreEnteredByLiving setup dead ((either b1 e1 ++ (either b2 e2 ++ es)) ++ rest)
enters_step setup e1 e2 es rest true true first second all dead = (first dead, (second (dead_after dead e1.what), all (dead_after (dead_after dead e1.what) e2.what)))
enters_step setup e1 e2 es rest true false first second all dead = (first dead, all (dead_after dead e1.what))
enters_step setup e1 e2 es rest false true first second all dead = (second dead, all (dead_after dead e2.what))
enters_step setup e1 e2 es rest false false first second all dead = all dead

legal_step : (setup : Setup) (t : Table) (e1 e2 : Entry) (es rest : List Entry) (b1 b2 : Bool) → (IsTrue b1 → IsLegalEntry setup t e1) → (IsTrue b2 → IsLegalEntry setup (cond b1 (after_entry setup t e1) t) e2)
    → AreLegal setup (cond b2 (after_entry setup (cond b1 (after_entry setup t e1) t) e2) (cond b1 (after_entry setup t e1) t)) (es ++ rest) → AreLegal setup t ((either b1 e1 ++ (either b2 e2 ++ es)) ++ rest)
legal_step setup t e1 e2 es rest true true first second all = (first refl, (second refl, all))
legal_step setup t e1 e2 es rest true false first second all = (first refl, all)
legal_step setup t e1 e2 es rest false true first second all = (second refl, all)
legal_step setup t e1 e2 es rest false false first second all = all

text_step : (setup : Setup) (t : Table) (e1 e2 : Entry) (es rest : List Entry) (b1 b2 : Bool)
    → text_from setup t ((either b1 e1 ++ (either b2 e2 ++ es)) ++ rest)
    ≡ (cond b1 (block setup t e1) [] ++ cond b2 (block setup (cond b1 (after_entry setup t e1) t) e2) [])
    ++ text_from setup (cond b2 (after_entry setup (cond b1 (after_entry setup t e1) t) e2) (cond b1 (after_entry setup t e1) t)) (es ++ rest)
text_step setup t e1 e2 es rest true true =
    sym (append_assoc (block setup t e1) (block setup (after_entry setup t e1) e2) (text_from setup (after_entry setup (after_entry setup t e1) e2) (es ++ rest)))
text_step setup t e1 e2 es rest true false = ap (λ l. l ++ text_from setup (after_entry setup t e1) (es ++ rest)) (sym (append-nil (block setup t e1)))
text_step setup t e1 e2 es rest false true = refl
text_step setup t e1 e2 es rest false false = refl

after_step : (setup : Setup) (t : Table) (e1 e2 : Entry) (es rest : List Entry) (b1 b2 : Bool) → after_all setup t ((either b1 e1 ++ (either b2 e2 ++ es)) ++ rest)
    ≡ after_all setup (cond b2 (after_entry setup (cond b1 (after_entry setup t e1) t) e2) (cond b1 (after_entry setup t e1) t)) (es ++ rest)
after_step setup t e1 e2 es rest true true = refl
after_step setup t e1 e2 es rest true false = refl
after_step setup t e1 e2 es rest false true = refl
after_step setup t e1 e2 es rest false false = refl

runner_step : (deaths : ℕ) (e1 e2 : Entry) (es rest : List Entry) (b1 b2 : Bool) → own_seq 0 e1 ≡ [] → own_seq 0 e2 ≡ (deaths + 1) ∷ []
    → CountsFrom (deaths + cond b2 1 0 + 1) (seqs_of 0 (es ++ rest)) → CountsFrom (deaths + 1) (seqs_of 0 ((either b1 e1 ++ (either b2 e2 ++ es)) ++ rest))
runner_step deaths e1 e2 es rest true true none one all = rw (none, one) (refl, all)
runner_step deaths e1 e2 es rest true false none one all = rw none (subst (λ n. CountsFrom n (seqs_of 0 (es ++ rest))) (omega arith) all)
runner_step deaths e1 e2 es rest false true none one all = rw one (refl, all)
runner_step deaths e1 e2 es rest false false none one all = subst (λ n. CountsFrom n (seqs_of 0 (es ++ rest))) (omega arith) all

-- ---- a list of calls

nothing : {X : Type 0} (b : Bool) → ◌≡◌ {A = List X} (cond b [] []) []
nothing true = refl
nothing false = refl

swapped : {X : Type 0} (a b : Bool) (x : X) → cond b (cond a (x ∷ []) []) [] ≡ cond (a && b) (x ∷ []) []
swapped true b x = refl
swapped false true x = refl
swapped false false x = refl

numbered : (a b : Bool) (number : ℕ) (call : Call) (others : List (ℕ × Call))
    → cond b (cond a (number ∷ []) []) [] ++ map (λ (c : ℕ × Call). c.0) others ≡ map (λ (c : ℕ × Call). c.0) (cond (a && b) ((number, call) ∷ []) [] ++ others)
numbered true true number call others = refl
numbered true false number call others = refl
numbered false true number call others = refl
numbered false false number call others = refl

none_step : (w : ℕ) (p : Planned) (others : List ℕ) (b : Bool) → (p.worker == w) ≡ b → cond b (p.number ∷ []) [] ++ others ≡ [] → ((p.worker == w) ≡ false) × (others ≡ [])
none_step w p others true e none = absurd cc
none_step w p others false e none = (e, none)

none_planned : (w : ℕ) (calls : List Planned) → planned.numbers_of w calls ≡ [] → planned_of w calls ≡ []
none_planned w [] none = refl
none_planned w (p ∷ calls) none =
    let parts = none_step w p (planned.numbers_of w calls) (p.worker == w) refl none in
    rw (parts.0) (none_planned w calls parts.1)

-- the numbers of a worker's calls that are planned and are to be entered
abbrev numbers_in : ℕ → List Planned → List ℕ
numbers_in w calls = map (λ (c : ℕ × Call). c.0) (planned_of w calls)

module _ (setup : Setup) where
  calls_calls : (w : ℕ) (t : Table) (deaths : ℕ) (moment : Moment) (calls : List Planned) → calls_of w (entries_of setup t deaths moment calls) ≡ planned_of w calls
  calls_calls w t deaths moment [] = refl
  calls_calls w t deaths moment (p ∷ calls) =
      let rest = calls_calls w (after_planned setup t moment p) (deaths + cond (is_some p.stop) 1 0) moment calls in
      calls_step w (call_entry setup t moment p) (death_entry deaths moment p) _ (is_entered p.stop) (is_some p.stop) (nothing (0 == w))
      ∙ ap (λ l. l ++ calls_of w (entries_of setup (after_planned setup t moment p) (deaths + cond (is_some p.stop) 1 0) moment calls)) (swapped (p.worker == w) (is_entered p.stop) (p.number, p.call))
      ∙ ap (λ l. own_plan w p ++ l) rest

  deaths_calls : (w : ℕ) (t : Table) (deaths : ℕ) (moment : Moment) (calls : List Planned) → deaths_of w (entries_of setup t deaths moment calls) ≡ stops_of w calls
  deaths_calls w t deaths moment [] = refl
  deaths_calls w t deaths moment (p ∷ calls) =
      deaths_step w (call_entry setup t moment p) (death_entry deaths moment p) _ (is_entered p.stop) (is_some p.stop) refl
      ∙ ap (λ n. cond ((p.worker == w) && is_some p.stop) 1 0 + n) (deaths_calls w (after_planned setup t moment p) (deaths + cond (is_some p.stop) 1 0) moment calls)

  last_calls : (w : ℕ) (t : Table) (deaths : ℕ) (moment : Moment) (calls : List Planned) → DiesLast w calls → CallsBeforeDeath w (entries_of setup t deaths moment calls)
  last_calls w t deaths moment [] last = tt
  last_calls w t deaths moment (p ∷ calls) last =
      let u = after_planned setup t moment p in
      let more = deaths + cond (is_some p.stop) 1 0 in
      last_step w (call_entry setup t moment p) (death_entry deaths moment p) (entries_of setup u more moment calls) (is_entered p.stop) (is_some p.stop)
      (λ e. let never : false ≡ true = e in cc)
      (λ own stop. calls_calls w u more moment calls ∙ none_planned w calls (last.0 (and_from (p.worker == w) (is_some p.stop) own stop)))
      (last_calls w u more moment calls last.1)

  moment_calls : (t : Table) (deaths : ℕ) (moment : Moment) (calls : List Planned) → AllByRecursion (λ entry. IsAt moment entry.what) (entries_of setup t deaths moment calls)
  moment_calls t deaths moment [] = tt
  moment_calls t deaths moment (p ∷ calls) =
      all_step (λ entry. IsAt moment entry.what) (call_entry setup t moment p) (death_entry deaths moment p) _ (is_entered p.stop) (is_some p.stop) refl refl
      (moment_calls (after_planned setup t moment p) (deaths + cond (is_some p.stop) 1 0) moment calls)

  nobody_tidies : (all : List Planned) (t : Table) (deaths : ℕ) (moment : Moment) (calls : List Planned) → AllByRecursion (IsTidiedBy all) (entries_of setup t deaths moment calls)
  nobody_tidies all t deaths moment [] = tt
  nobody_tidies all t deaths moment (p ∷ calls) =
      all_step (IsTidiedBy all) (call_entry setup t moment p) (death_entry deaths moment p) _ (is_entered p.stop) (is_some p.stop) tt tt
      (nobody_tidies all (after_planned setup t moment p) (deaths + cond (is_some p.stop) 1 0) moment calls)

  enters_calls : (rest : List Entry) → ((dead : List ℕ) → AreEnteredByLiving setup dead rest) → (t : Table) (deaths : ℕ) (moment : Moment) (calls : List Planned) (dead : List ℕ)
      → AreEnteredByLiving setup dead (entries_of setup t deaths moment calls ++ rest)
  enters_calls rest all t deaths moment [] dead = all dead
  enters_calls rest all t deaths moment (p ∷ calls) dead =
      enters_step setup (call_entry setup t moment p) (death_entry deaths moment p) (entries_of setup (after_planned setup t moment p) (deaths + cond (is_some p.stop) 1 0) moment calls) rest (is_entered p.stop) (is_some p.stop)
      (λ _. tt) (λ _. inl refl)
      (λ d. enters_calls rest all (after_planned setup t moment p) (deaths + cond (is_some p.stop) 1 0) moment calls d) dead

  legal_calls : (rest : List Entry) (t : Table) (deaths : ℕ) (moment : Moment) (calls : List Planned) → TakesCalls setup t moment calls → AreLegal setup (after_calls setup t moment calls) rest
      → AreLegal setup t (entries_of setup t deaths moment calls ++ rest)
  unfolding after_call after_death
  legal_calls rest t deaths moment [] all legal = legal
  legal_calls rest t deaths moment (p ∷ calls) all legal =
      legal_step setup t (call_entry setup t moment p) (death_entry deaths moment p) (entries_of setup (after_planned setup t moment p) (deaths + cond (is_some p.stop) 1 0) moment calls) rest (is_entered p.stop) (is_some p.stop)
      all.0.call all.0.death (legal_calls rest (after_planned setup t moment p) (deaths + cond (is_some p.stop) 1 0) moment calls all.1 legal)

  text_calls : (rest : List Entry) (t : Table) (deaths : ℕ) (moment : Moment) (calls : List Planned)
      → text_from setup t (entries_of setup t deaths moment calls ++ rest) ≡ text_of_calls setup t moment calls ++ text_from setup (after_calls setup t moment calls) rest
  unfolding after_call after_death text_of_call text_of_death
  text_calls rest t deaths moment [] = refl
  text_calls rest t deaths moment (p ∷ calls) =
      let u = after_planned setup t moment p in
      let more = deaths + cond (is_some p.stop) 1 0 in
      text_step setup t (call_entry setup t moment p) (death_entry deaths moment p) (entries_of setup u more moment calls) rest (is_entered p.stop) (is_some p.stop)
      ∙ ap (λ l. text_of_planned setup t moment p ++ l) (text_calls rest u more moment calls)
      ∙ sym (append_assoc (text_of_planned setup t moment p) (text_of_calls setup u moment calls) (text_from setup (after_calls setup u moment calls) rest))

  table_after_calls : (rest : List Entry) (t : Table) (deaths : ℕ) (moment : Moment) (calls : List Planned)
      → after_all setup t (entries_of setup t deaths moment calls ++ rest) ≡ after_all setup (after_calls setup t moment calls) rest
  unfolding after_call after_death
  table_after_calls rest t deaths moment [] = refl
  table_after_calls rest t deaths moment (p ∷ calls) =
      let u = after_planned setup t moment p in
      let more = deaths + cond (is_some p.stop) 1 0 in
      after_step setup t (call_entry setup t moment p) (death_entry deaths moment p) (entries_of setup u more moment calls) rest (is_entered p.stop) (is_some p.stop)
      ∙ table_after_calls rest u more moment calls

  -- what goes by the numbers of a worker's calls
  numbers_calls : (f : Entry → List ℕ) (w : ℕ) → ((t : Table) (moment : Moment) (p : Planned) → f (call_entry setup t moment p) ≡ cond (p.worker == w) (p.number ∷ []) [])
      → ((deaths : ℕ) (moment : Moment) (p : Planned) → f (death_entry deaths moment p) ≡ []) → (t : Table) (deaths : ℕ) (moment : Moment) (calls : List Planned)
      → flat_map f (entries_of setup t deaths moment calls) ≡ numbers_in w calls
  numbers_calls f w call death t deaths moment [] = refl
  numbers_calls f w call death t deaths moment (p ∷ calls) =
      let u = after_planned setup t moment p in
      let more = deaths + cond (is_some p.stop) 1 0 in
      flat_step f (call_entry setup t moment p) (death_entry deaths moment p) (entries_of setup u more moment calls) (is_entered p.stop) (is_some p.stop) (death deaths moment p)
      ∙ ap (λ l. cond (is_entered p.stop) l [] ++ flat_map f (entries_of setup u more moment calls)) (call t moment p)
      ∙ ap (λ l. cond (is_entered p.stop) (cond (p.worker == w) (p.number ∷ []) []) [] ++ l) (numbers_calls f w call death u more moment calls)
      ∙ numbered (p.worker == w) (is_entered p.stop) p.number p.call (planned_of w calls)

  runner_calls : (rest : List Entry) (t : Table) (deaths : ℕ) (moment : Moment) (calls : List Planned) → AllByRecursion (IsPlanned setup) calls
      → CountsFrom (deaths + dying_in calls + 1) (seqs_of 0 rest) → CountsFrom (deaths + 1) (seqs_of 0 (entries_of setup t deaths moment calls ++ rest))
  runner_calls rest t deaths moment [] all counted = subst (λ n. CountsFrom n (seqs_of 0 rest)) (omega arith) counted
  runner_calls rest t deaths moment (p ∷ calls) all counted =
      let u = after_planned setup t moment p in
      let more = deaths + cond (is_some p.stop) 1 0 in
      let low : 1 ≤ p.worker = all.0.worker.0 in
      let other : (p.worker == 0) ≡ false = grind (arith, nat_tests) in
      runner_step deaths (call_entry setup t moment p) (death_entry deaths moment p) (entries_of setup u more moment calls) rest (is_entered p.stop) (is_some p.stop) (rw other refl) refl
      (runner_calls rest u more moment calls all.1 (subst (λ n. CountsFrom n (seqs_of 0 rest)) (omega arith) counted))

-- ---- a list of phases

planned_of-append : (w : ℕ) (xs ys : List Planned) → planned_of w (xs ++ ys) ≡ planned_of w xs ++ planned_of w ys
planned_of-append w [] ys = refl
planned_of-append w (x ∷ xs) ys = ap (λ l. own_plan w x ++ l) (planned_of-append w xs ys) ∙ sym (append_assoc (own_plan w x) (planned_of w xs) (planned_of w ys))

map-append : {X Y : Type 0} (f : X → Y) (xs ys : List X) → map f (xs ++ ys) ≡ map f xs ++ map f ys
map-append f [] ys = refl
map-append f (x ∷ xs) ys = ap (λ l. f x ∷ l) (map-append f xs ys)

numbers_in-append : (w : ℕ) (xs ys : List Planned) → numbers_in w (xs ++ ys) ≡ numbers_in w xs ++ numbers_in w ys
numbers_in-append w xs ys =
    ap (map (λ (c : ℕ × Call). c.0)) (planned_of-append w xs ys) ∙ map-append (λ (c : ℕ × Call). c.0) (planned_of w xs) (planned_of w ys)

numbers_of-append : (w : ℕ) (xs ys : List Planned) → planned.numbers_of w (xs ++ ys) ≡ planned.numbers_of w xs ++ planned.numbers_of w ys
numbers_of-append w [] ys = refl
numbers_of-append w (x ∷ xs) ys =
    ap (λ l. planned.own_number w x ++ l) (numbers_of-append w xs ys) ∙ sym (append_assoc (planned.own_number w x) (planned.numbers_of w xs) (planned.numbers_of w ys))

none_first : (a b : List ℕ) → a ++ b ≡ [] → a ≡ []
none_first [] b e = refl
none_first (n ∷ a) b e = absurd cc

dies_first : (w : ℕ) (xs ys : List Planned) → DiesLast w (xs ++ ys) → DiesLast w xs
dies_first w [] ys last = tt
dies_first w (p ∷ xs) ys last =
    ((λ stop. none_first (planned.numbers_of w xs) (planned.numbers_of w ys) (sym (numbers_of-append w xs ys) ∙ last.0 stop)), dies_first w xs ys last.1)

dies_rest : (w : ℕ) (xs ys : List Planned) → DiesLast w (xs ++ ys) → DiesLast w ys
dies_rest w [] ys last = last
dies_rest w (p ∷ xs) ys last = dies_rest w xs ys last.1

module _ (setup : Setup) where
  phase_fits : (t : Table) (deaths : ℕ) (phase : Phase) → IsPhase setup phase → ((w : ℕ) → DiesLast w (in_order setup phase.calls)) → FitsPhase phase (entries_of setup t deaths phase.moment (in_order setup phase.calls))
  phase_fits t deaths phase h last = record {
    moment = moment_calls setup t deaths phase.moment (in_order setup phase.calls);
    calls = λ w. calls_calls setup w t deaths phase.moment (in_order setup phase.calls) ∙ planned_in_order setup w phase.calls h.calls;
    deaths = λ w. deaths_calls setup w t deaths phase.moment (in_order setup phase.calls) ∙ stops_in_order setup w phase.calls h.calls;
    last = λ w. last_calls setup w t deaths phase.moment (in_order setup phase.calls) (last w);
    tidied = nobody_tidies setup phase.calls t deaths phase.moment (in_order setup phase.calls);
  }

  phases_fit : (t : Table) (deaths : ℕ) (phases : List Phase) → AllByRecursion (IsPhase setup) phases → ((w : ℕ) → DiesLast w (all_calls phases)) → FitsPhases phases (history_from setup t deaths phases)
  phases_fit t deaths [] all last = refl
  phases_fit t deaths (phase ∷ phases) all last = (
    entries_of setup t deaths phase.moment (in_order setup phase.calls),
    history_from setup (after_phase setup t phase) (deaths + dying_in (in_order setup phase.calls)) phases,
    refl,
    phase_fits t deaths phase all.0 (λ w. dies_first w (in_order setup phase.calls) (all_calls phases) (dies_in_order setup w phase.calls (all_calls phases) all.0.calls (last w))),
    phases_fit (after_phase setup t phase) (deaths + dying_in (in_order setup phase.calls)) phases all.1 (λ w. dies_rest w phase.calls (all_calls phases) (last w)),
  )

  phases_enter : (t : Table) (deaths : ℕ) (phases : List Phase) (dead : List ℕ) → AreEnteredByLiving setup dead (history_from setup t deaths phases)
  phases_enter t deaths [] dead = tt
  phases_enter t deaths (phase ∷ phases) dead =
      enters_calls setup (history_from setup (after_phase setup t phase) (deaths + dying_in (in_order setup phase.calls)) phases)
      (phases_enter (after_phase setup t phase) (deaths + dying_in (in_order setup phase.calls)) phases) t deaths phase.moment (in_order setup phase.calls) dead

  phases_are_legal : (t : Table) (deaths : ℕ) (phases : List Phase) → TakesPhases setup t phases → AreLegal setup t (history_from setup t deaths phases)
  phases_are_legal t deaths [] all = tt
  phases_are_legal t deaths (phase ∷ phases) all =
      legal_calls setup (history_from setup (after_phase setup t phase) (deaths + dying_in (in_order setup phase.calls)) phases) t deaths phase.moment (in_order setup phase.calls) all.0
      (phases_are_legal (after_phase setup t phase) (deaths + dying_in (in_order setup phase.calls)) phases all.1)

  pub phases_text : (t : Table) (deaths : ℕ) (phases : List Phase) → text_from setup t (history_from setup t deaths phases) ≡ text_of_phases setup t phases
  phases_text t deaths [] = refl
  phases_text t deaths (phase ∷ phases) =
      text_calls setup (history_from setup (after_phase setup t phase) (deaths + dying_in (in_order setup phase.calls)) phases) t deaths phase.moment (in_order setup phase.calls)
      ∙ ap (λ l. text_of_phase setup t phase ++ l) (phases_text (after_phase setup t phase) (deaths + dying_in (in_order setup phase.calls)) phases)

  table_after_phases : (t : Table) (deaths : ℕ) (phases : List Phase) → after_all setup t (history_from setup t deaths phases) ≡ after_phases setup t phases
  table_after_phases t deaths [] = refl
  table_after_phases t deaths (phase ∷ phases) =
      table_after_calls setup (history_from setup (after_phase setup t phase) (deaths + dying_in (in_order setup phase.calls)) phases) t deaths phase.moment (in_order setup phase.calls)
      ∙ table_after_phases (after_phase setup t phase) (deaths + dying_in (in_order setup phase.calls)) phases

  numbers_phases : (f : Entry → List ℕ) (w : ℕ) → ((t : Table) (moment : Moment) (p : Planned) → f (call_entry setup t moment p) ≡ cond (p.worker == w) (p.number ∷ []) [])
      → ((deaths : ℕ) (moment : Moment) (p : Planned) → f (death_entry deaths moment p) ≡ []) → (t : Table) (deaths : ℕ) (phases : List Phase) → AllByRecursion (IsPhase setup) phases
      → flat_map f (history_from setup t deaths phases) ≡ numbers_in w (all_calls phases)
  numbers_phases f w call death t deaths [] all = refl
  numbers_phases f w call death t deaths (phase ∷ phases) all =
      let here = entries_of setup t deaths phase.moment (in_order setup phase.calls) in
      let rest = history_from setup (after_phase setup t phase) (deaths + dying_in (in_order setup phase.calls)) phases in
      flat_map-append f here rest
      ∙ ap (λ l. l ++ flat_map f rest) (numbers_calls setup f w call death t deaths phase.moment (in_order setup phase.calls) ∙ ap (map (λ (c : ℕ × Call). c.0)) (planned_in_order setup w phase.calls all.0.calls))
      ∙ ap (λ l. numbers_in w phase.calls ++ l) (numbers_phases f w call death (after_phase setup t phase) (deaths + dying_in (in_order setup phase.calls)) phases all.1)
      ∙ sym (numbers_in-append w phase.calls (all_calls phases))

  runner_phases : (t : Table) (deaths : ℕ) (phases : List Phase) → AllByRecursion (IsPhase setup) phases → CountsFrom (deaths + 1) (seqs_of 0 (history_from setup t deaths phases))
  runner_phases t deaths [] all = tt
  runner_phases t deaths (phase ∷ phases) all =
      runner_calls setup (history_from setup (after_phase setup t phase) (deaths + dying_in (in_order setup phase.calls)) phases) t deaths phase.moment (in_order setup phase.calls)
      (all-in_order (IsPlanned setup) setup phase.calls all.0.calls)
      (runner_phases (after_phase setup t phase) (deaths + dying_in (in_order setup phase.calls)) phases all.1)

-- ---- numbers that count

-- Those that are entered count too, since only a worker's last call may be left out.
counts_step : (n w : ℕ) (p : Planned) (calls : List Planned) (a b : Bool) → (p.worker == w) ≡ a → is_entered p.stop ≡ b → (b ≡ false → IsTrue (is_some p.stop))
    → CountsFrom n (cond a (p.number ∷ []) [] ++ planned.numbers_of w calls) → DiesLast w (p ∷ calls)
    → ((m : ℕ) → CountsFrom m (planned.numbers_of w calls) → CountsFrom m (numbers_in w calls))
    → CountsFrom n (map (λ (c : ℕ × Call). c.0) (cond (a && b) ((p.number, p.call) ∷ []) [] ++ planned_of w calls))
counts_step n w p calls true true e f stops counted last rest = (counted.0, rest (n + 1) counted.1)
counts_step n w p calls true false e f stops counted last rest =
    rw (none_planned w calls (last.0 (and_from (p.worker == w) (is_some p.stop) e (stops refl)))) tt
counts_step n w p calls false b e f stops counted last rest = rest n counted

left_out : (stop : Option Point) → is_entered stop ≡ false → IsTrue (is_some stop)
left_out None e = absurd cc
left_out (Some point) e = refl

counts_entered : (w : ℕ) (calls : List Planned) → DiesLast w calls → (n : ℕ) → CountsFrom n (planned.numbers_of w calls) → CountsFrom n (numbers_in w calls)
counts_entered w [] last n counted = tt
counts_entered w (p ∷ calls) last n counted =
    counts_step n w p calls (p.worker == w) (is_entered p.stop) refl refl (left_out p.stop) counted last (counts_entered w calls last.1)

numbers_rise : (n : ℕ) (ms : List ℕ) → CountsFrom (n + 1) ms → RisesAbove n ms
numbers_rise n [] c = tt
numbers_rise n (m ∷ ms) c =
    let same : m ≡ n + 1 = c.0 in
    (omega arith, numbers_rise m ms (subst (λ k. CountsFrom (k + 1) ms) (sym same) c.1))

counts_first : (n : ℕ) (xs ys : List ℕ) → CountsFrom n (xs ++ ys) → CountsFrom n xs
counts_first n [] ys c = tt
counts_first n (x ∷ xs) ys c = (c.0, counts_first (n + 1) xs ys c.1)

-- ---- what is made of these phases prints their history

pub record IsPlayable (setup : Setup) (phases : List Phase) : Type 0 where
  pub each : AllByRecursion (IsPhase setup) phases
  pub numbered : (worker : ℕ) → CountsFrom 1 (planned.numbers_of worker (all_calls phases))
  pub stopped : (worker : ℕ) → DiesLast worker (all_calls phases)
  pub taken : TakesPhases setup (start setup) phases

counted_by : (setup : Setup) (phases : List Phase) → IsPlayable setup phases → (by : ℕ) → CountsFrom 1 (seqs_of by (history_of setup phases))
counted_by setup phases h zero = runner_phases setup (start setup) 0 phases h.each
counted_by setup phases h (suc w) =
    let other : (0 == suc w) ≡ false = grind (arith, nat_tests) in
    subst (CountsFrom 1) (sym (numbers_phases setup (own_seq (suc w)) (suc w) (λ t moment p. refl) (λ deaths moment p. rw other refl) (start setup) 0 phases h.each))
    (counts_entered (suc w) (all_calls phases) (h.stopped (suc w)) 1 (h.numbered (suc w)))

rising_by : (setup : Setup) (phases : List Phase) → IsPlayable setup phases → (by : ℕ) → RisesAbove 0 (history.numbers_of by (history_of setup phases))
rising_by setup phases h by =
    subst (RisesAbove 0) (sym (numbers_phases setup (history.own_number by) by (λ t moment p. refl) (λ deaths moment p. nothing (0 == by)) (start setup) 0 phases h.each))
    (numbers_rise 0 (numbers_in by (all_calls phases)) (counts_entered by (all_calls phases) (h.stopped by) 1 (h.numbered by)))

playable_is_legal : (setup : Setup) (phases : List Phase) → IsPlayable setup phases → IsLegal setup (history_of setup phases)
playable_is_legal setup phases h = record {
  entries = phases_are_legal setup (start setup) 0 phases h.taken;
  counted = counted_by setup phases h;
  rising = rising_by setup phases h;
}

playable_fits : (script : Script) (count : ℕ) → IsPlayable script.setup (take count script.phases) → FitsFirst count script (history_of script.setup (take count script.phases))
playable_fits script count h = record {
  phases = phases_fit script.setup (start script.setup) 0 (take count script.phases) h.each h.stopped;
  entered = phases_enter script.setup (start script.setup) 0 (take count script.phases) [];
}

-- ---- the first phases of a script

all_first : {X : Type 0} (P : X → Type 0) (xs ys : List X) → AllByRecursion P (xs ++ ys) → AllByRecursion P xs
all_first P [] ys all = tt
all_first P (x ∷ xs) ys all = (all.0, all_first P xs ys all.1)

takes_first : (setup : Setup) (t : Table) (xs ys : List Phase) → TakesPhases setup t (xs ++ ys) → TakesPhases setup t xs
takes_first setup t [] ys all = tt
takes_first setup t (x ∷ xs) ys all = (all.0, takes_first setup (after_phase setup t x) xs ys all.1)

all_calls-append : (xs ys : List Phase) → all_calls (xs ++ ys) ≡ all_calls xs ++ all_calls ys
all_calls-append xs ys = flat_map-append (λ (phase : Phase). phase.calls) xs ys

first_playable : (setup : Setup) (xs ys : List Phase) → IsPlayable setup (xs ++ ys) → IsPlayable setup xs
first_playable setup xs ys h = record {
  each = all_first (IsPhase setup) xs ys h.each;
  numbered = λ w. counts_first 1 (planned.numbers_of w (all_calls xs)) (planned.numbers_of w (all_calls ys))
      (subst (CountsFrom 1) (ap (planned.numbers_of w) (all_calls-append xs ys) ∙ numbers_of-append w (all_calls xs) (all_calls ys)) (h.numbered w));
  stopped = λ w. dies_first w (all_calls xs) (all_calls ys) (subst (DiesLast w) (all_calls-append xs ys) (h.stopped w));
  taken = takes_first setup (start setup) xs ys h.taken;
}

playable_first : (script : Script) → IsScript script → TakesPhases script.setup (start script.setup) script.phases → (count : ℕ) → IsPlayable script.setup (take count script.phases)
playable_first script h taken count =
    let whole : IsPlayable script.setup script.phases = record { each = h.phases; numbered = h.numbered; stopped = h.stopped; taken = taken } in
    first_playable script.setup (take count script.phases) (drop count script.phases) (subst (IsPlayable script.setup) (sym (take-append-drop count script.phases)) whole)

-- What is printed of the first phases is the text of a legal history that fits them.
pub first_prints : (script : Script) → IsScript script → TakesPhases script.setup (start script.setup) script.phases → (count : ℕ)
    → PrintsFirst count script (text_of_phases script.setup (start script.setup) (take count script.phases))
first_prints script h taken count =
    let playable = playable_first script h taken count in
    record {
      history = history_of script.setup (take count script.phases);
      legal = playable_is_legal script.setup (take count script.phases) playable;
      fits = playable_fits script count playable;
      printed_is = sym (phases_text script.setup (start script.setup) 0 (take count script.phases));
    }

all_phases : (script : Script) → take (length script.phases) script.phases ≡ script.phases
all_phases script = take_all _ _ (omega arith)

pub whole_prints : (script : Script) → IsScript script → TakesPhases script.setup (start script.setup) script.phases
    → Prints script (text_of_phases script.setup (start script.setup) script.phases)
whole_prints script h taken =
    subst (λ ps. PrintsFirst (length script.phases) script (text_of_phases script.setup (start script.setup) ps)) (all_phases script) (first_prints script h taken (length script.phases))

-- The tables at the end are those of what such a history makes.
pub end_shows : (script : Script) (chosen : Tables) → IsScript script → TakesPhases script.setup (start script.setup) script.phases
    → ShowsTables chosen script (tables script.setup (view (after_phases script.setup (start script.setup) script.phases)) chosen)
end_shows script chosen h taken =
    let setup = script.setup in
    let count = length script.phases in
    let playable = playable_first script h taken count in
    record {
      history = history_of setup (take count script.phases);
      legal = playable_is_legal setup (take count script.phases) playable;
      fits = playable_fits script count playable;
      printed_is = ap (λ (t : Table). tables setup (view t) chosen) (sym (table_after_phases setup (start setup) 0 (take count script.phases) ∙ ap (after_phases setup (start setup)) (all_phases script)));
    }
