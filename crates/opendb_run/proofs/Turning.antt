-- The loops of a run: what is played of a worker, of a phase and of a script when one more is played.
use Rattle.std.proofs.Common.{◌≡◌, ◌<◌, ℕ, suc, ◌+◌, ◌-◌, Bool, true, false, cond, IsTrue, List, [], ◌∷◌, ◌++◌, Option, length, take, drop, get_or, refl, sym, ap, ◌∙◌, subst, append-nil, append_assoc, take-append-drop, arith}
use Rattle.std.specs.Io.KnownBytes.{Appends}
use Rattle.std.proofs.KnownBytes.{Appends-trans}
use Rattle.std.proofs.lemmas.List.{at_drop_more, take_more}
use Rattle.sid_core.specs.declared.ids.Moment.{Moment}
use Rattle.sid_core.specs.declared.setup.Setup.{Setup}
use Rattle.serial_table.specs.declared.table.Table.{Table}
use Rattle.serial_table.specs.History.{start}
use Rattle.worker_script.specs.declared.script.Planned.{Planned}
use Rattle.worker_script.specs.declared.script.Phase.{Phase}
use Rattle.worker_script.specs.declared.script.Script.{Script}
use Rattle.opendb_run.specs.declared.play.Cut.{Cut}
use Rattle.opendb_run.specs.declared.play.Cut.TheVariants.{WriteFault, OutOfMemory}
use Rattle.opendb_run.specs.Output.{AppendsPrefix}
use Rattle.opendb_run.specs.Order.{is_by, calls_by, in_turn}
use Rattle.opendb_run.specs.Play.{after_planned, after_calls, after_phase}
use Rattle.opendb_run.specs.Playing.{text_of_planned, text_of_calls, text_of_phase, text_of_phases, after_phases, Takes, TakesCalls, TakesPhase, TakesPhases, PhaseIsCut, IsCut}
use Rattle.opendb_run.proofs.Appending.{AppendsPrefix-first, AppendsPrefix-next}

module _ (setup : Setup) (moment : Moment) where
  -- ---- lists of calls behind each other

  after_calls-append : (t : Table) (xs ys : List Planned) → after_calls setup t moment (xs ++ ys) ≡ after_calls setup (after_calls setup t moment xs) moment ys
  after_calls-append t [] ys = refl
  after_calls-append t (p ∷ xs) ys = after_calls-append (after_planned setup t moment p) xs ys

  text_of_calls-append : (t : Table) (xs ys : List Planned) → text_of_calls setup t moment (xs ++ ys) ≡ text_of_calls setup t moment xs ++ text_of_calls setup (after_calls setup t moment xs) moment ys
  text_of_calls-append t [] ys = refl
  text_of_calls-append t (p ∷ xs) ys =
      ap (λ l. text_of_planned setup t moment p ++ l) (text_of_calls-append (after_planned setup t moment p) xs ys)
      ∙ sym (append_assoc (text_of_planned setup t moment p) (text_of_calls setup (after_planned setup t moment p) moment xs) (text_of_calls setup (after_calls setup (after_planned setup t moment p) moment xs) moment ys))

  takes_first : (t : Table) (xs ys : List Planned) → TakesCalls setup t moment (xs ++ ys) → TakesCalls setup t moment xs
  takes_first t [] ys all = tt
  takes_first t (p ∷ xs) ys all = (all.0, takes_first (after_planned setup t moment p) xs ys all.1)

  takes_rest : (t : Table) (xs ys : List Planned) → TakesCalls setup t moment (xs ++ ys) → TakesCalls setup (after_calls setup t moment xs) moment ys
  takes_rest t [] ys all = all
  takes_rest t (p ∷ xs) ys all = takes_rest (after_planned setup t moment p) xs ys all.1

  -- ---- a call that may be the worker's

  own_table : (t : Table) (p : Planned) (rest : List Planned) (b : Bool) → after_calls setup (cond b (after_planned setup t moment p) t) moment rest ≡ after_calls setup t moment (cond b (p ∷ rest) rest)
  own_table t p rest true = refl
  own_table t p rest false = refl

  own_text : (t : Table) (p : Planned) (rest : List Planned) (text : List ℕ) (b : Bool)
      → (text ++ cond b (text_of_planned setup t moment p) []) ++ text_of_calls setup (cond b (after_planned setup t moment p) t) moment rest ≡ text ++ text_of_calls setup t moment (cond b (p ∷ rest) rest)
  own_text t p rest text true = append_assoc text (text_of_planned setup t moment p) (text_of_calls setup (after_planned setup t moment p) moment rest)
  own_text t p rest text false = ap (λ l. l ++ text_of_calls setup t moment rest) (append-nil text)

  own_rest : (t : Table) (p : Planned) (rest : List Planned) (b : Bool) → TakesCalls setup t moment (cond b (p ∷ rest) rest) → TakesCalls setup (cond b (after_planned setup t moment p) t) moment rest
  own_rest t p rest true all = all.1
  own_rest t p rest false all = all

  own_first : (t : Table) (p : Planned) (rest : List Planned) (b : Bool) → TakesCalls setup t moment (cond b (p ∷ rest) rest) → IsTrue b → Takes setup t moment p
  own_first t p rest true all e = all.0
  own_first t p rest false all e = absurd cc

  by_more : (w : ℕ) (calls : List Planned) (i : ℕ) (p : Planned) → i < length calls → p ≡ get_or calls i p
      → calls_by w (drop i calls) ≡ cond (is_by w p) (p ∷ calls_by w (drop (i + 1) calls)) (calls_by w (drop (i + 1) calls))
  by_more w calls i p h item =
      at_drop_more (λ (ps : List Planned). calls_by w ps) calls i p h ∙ ap (λ (q : Planned). calls_by w (q ∷ drop (i + 1) calls)) (sym item)

  pub worker_first : (t : Table) (w : ℕ) (calls : List Planned) (i : ℕ) (p : Planned) → i < length calls → p ≡ get_or calls i p
      → TakesCalls setup t moment (calls_by w (drop i calls)) → IsTrue (is_by w p) → Takes setup t moment p
  worker_first t w calls i p h item all e =
      own_first t p (calls_by w (drop (i + 1) calls)) (is_by w p) (subst (TakesCalls setup t moment) (by_more w calls i p h item) all) e

  pub worker_rest : (t next : Table) (w : ℕ) (calls : List Planned) (i : ℕ) (p : Planned) → i < length calls → p ≡ get_or calls i p → next ≡ cond (is_by w p) (after_planned setup t moment p) t
      → TakesCalls setup t moment (calls_by w (drop i calls)) → TakesCalls setup next moment (calls_by w (drop (i + 1) calls))
  worker_rest t next w calls i p h item moved all =
      subst (λ u. TakesCalls setup u moment (calls_by w (drop (i + 1) calls))) (sym moved)
      (own_rest t p (calls_by w (drop (i + 1) calls)) (is_by w p) (subst (TakesCalls setup t moment) (by_more w calls i p h item) all))

  pub worker_table : (t next all : Table) (w : ℕ) (calls : List Planned) (i : ℕ) (p : Planned) → i < length calls → p ≡ get_or calls i p → next ≡ cond (is_by w p) (after_planned setup t moment p) t
      → after_calls setup t moment (calls_by w (drop i calls)) ≡ all → after_calls setup next moment (calls_by w (drop (i + 1) calls)) ≡ all
  worker_table t next all w calls i p h item moved so_far =
      ap (λ u. after_calls setup u moment (calls_by w (drop (i + 1) calls))) moved
      ∙ own_table t p (calls_by w (drop (i + 1) calls)) (is_by w p)
      ∙ ap (after_calls setup t moment) (sym (by_more w calls i p h item))
      ∙ so_far

  pub worker_text : (t next : Table) (text more all : List ℕ) (w : ℕ) (calls : List Planned) (i : ℕ) (p : Planned) → i < length calls → p ≡ get_or calls i p → next ≡ cond (is_by w p) (after_planned setup t moment p) t
      → more ≡ text ++ cond (is_by w p) (text_of_planned setup t moment p) [] → text ++ text_of_calls setup t moment (calls_by w (drop i calls)) ≡ all → more ++ text_of_calls setup next moment (calls_by w (drop (i + 1) calls)) ≡ all
  worker_text t next text more all w calls i p h item moved pushed so_far =
      ap (λ l. l ++ text_of_calls setup next moment (calls_by w (drop (i + 1) calls))) pushed
      ∙ ap (λ u. (text ++ cond (is_by w p) (text_of_planned setup t moment p) []) ++ text_of_calls setup u moment (calls_by w (drop (i + 1) calls))) moved
      ∙ own_text t p (calls_by w (drop (i + 1) calls)) text (is_by w p)
      ∙ ap (λ ps. text ++ text_of_calls setup t moment ps) (sym (by_more w calls i p h item))
      ∙ so_far

  -- ---- a worker more

  turn_more : (n place : ℕ) (calls : List Planned) → place < n → in_turn (place + 1) (n - place) calls ≡ calls_by (place + 1) calls ++ in_turn (place + 1 + 1) (n - (place + 1)) calls
  turn_more n place calls h =
      let left : n - place ≡ suc (n - (place + 1)) = omega (arith, h) in
      let next : suc (place + 1) ≡ place + 1 + 1 = omega arith in
      ap (λ k. in_turn (place + 1) k calls) left ∙ ap (λ v. calls_by (place + 1) calls ++ in_turn v (n - (place + 1)) calls) next

  pub turn_first : (t : Table) (n place : ℕ) (calls : List Planned) → place < n → TakesCalls setup t moment (in_turn (place + 1) (n - place) calls) → TakesCalls setup t moment (calls_by (place + 1) calls)
  turn_first t n place calls h all =
      takes_first t (calls_by (place + 1) calls) (in_turn (place + 1 + 1) (n - (place + 1)) calls) (subst (TakesCalls setup t moment) (turn_more n place calls h) all)

  pub turn_rest : (t next : Table) (n place : ℕ) (calls : List Planned) → place < n → next ≡ after_calls setup t moment (calls_by (place + 1) calls)
      → TakesCalls setup t moment (in_turn (place + 1) (n - place) calls) → TakesCalls setup next moment (in_turn (place + 1 + 1) (n - (place + 1)) calls)
  turn_rest t next n place calls h moved all =
      subst (λ u. TakesCalls setup u moment (in_turn (place + 1 + 1) (n - (place + 1)) calls)) (sym moved)
      (takes_rest t (calls_by (place + 1) calls) (in_turn (place + 1 + 1) (n - (place + 1)) calls) (subst (TakesCalls setup t moment) (turn_more n place calls h) all))

  pub turn_table : (t next all : Table) (n place : ℕ) (calls : List Planned) → place < n → next ≡ after_calls setup t moment (calls_by (place + 1) calls)
      → after_calls setup t moment (in_turn (place + 1) (n - place) calls) ≡ all → after_calls setup next moment (in_turn (place + 1 + 1) (n - (place + 1)) calls) ≡ all
  turn_table t next all n place calls h moved so_far =
      ap (λ u. after_calls setup u moment (in_turn (place + 1 + 1) (n - (place + 1)) calls)) moved
      ∙ sym (after_calls-append t (calls_by (place + 1) calls) (in_turn (place + 1 + 1) (n - (place + 1)) calls))
      ∙ ap (after_calls setup t moment) (sym (turn_more n place calls h))
      ∙ so_far

  pub turn_text : (t next : Table) (text more all : List ℕ) (n place : ℕ) (calls : List Planned) → place < n → next ≡ after_calls setup t moment (calls_by (place + 1) calls)
      → more ≡ text ++ text_of_calls setup t moment (calls_by (place + 1) calls) → text ++ text_of_calls setup t moment (in_turn (place + 1) (n - place) calls) ≡ all
      → more ++ text_of_calls setup next moment (in_turn (place + 1 + 1) (n - (place + 1)) calls) ≡ all
  turn_text t next text more all n place calls h moved pushed so_far =
      let own = calls_by (place + 1) calls in
      let rest = in_turn (place + 1 + 1) (n - (place + 1)) calls in
      ap (λ l. l ++ text_of_calls setup next moment rest) pushed
      ∙ ap (λ u. (text ++ text_of_calls setup t moment own) ++ text_of_calls setup u moment rest) moved
      ∙ append_assoc text (text_of_calls setup t moment own) (text_of_calls setup (after_calls setup t moment own) moment rest)
      ∙ ap (λ l. text ++ l) (sym (text_of_calls-append t own rest) ∙ ap (text_of_calls setup t moment) (sym (turn_more n place calls h)))
      ∙ so_far

-- ---- a phase more

module _ (setup : Setup) where
  after_phases-append : (t : Table) (xs ys : List Phase) → after_phases setup t (xs ++ ys) ≡ after_phases setup (after_phases setup t xs) ys
  after_phases-append t [] ys = refl
  after_phases-append t (p ∷ xs) ys = after_phases-append (after_phase setup t p) xs ys

  text_of_phases-append : (t : Table) (xs ys : List Phase) → text_of_phases setup t (xs ++ ys) ≡ text_of_phases setup t xs ++ text_of_phases setup (after_phases setup t xs) ys
  text_of_phases-append t [] ys = refl
  text_of_phases-append t (p ∷ xs) ys =
      ap (λ l. text_of_phase setup t p ++ l) (text_of_phases-append (after_phase setup t p) xs ys)
      ∙ sym (append_assoc (text_of_phase setup t p) (text_of_phases setup (after_phase setup t p) xs) (text_of_phases setup (after_phases setup (after_phase setup t p) xs) ys))

  phase_first : (t : Table) (phases : List Phase) (i : ℕ) (p : Phase) → i < length phases → p ≡ get_or phases i p → TakesPhases setup t (drop i phases) → TakesPhase setup t p × TakesPhases setup (after_phase setup t p) (drop (i + 1) phases)
  phase_first t phases i p h item all =
      subst (TakesPhases setup t) (at_drop_more (λ (ps : List Phase). ps) phases i p h ∙ ap (λ (q : Phase). q ∷ drop (i + 1) phases) (sym item)) all

  pub phase_taken : (t : Table) (phases : List Phase) (i : ℕ) (p : Phase) → i < length phases → p ≡ get_or phases i p → TakesPhases setup t (drop i phases) → TakesPhase setup t p
  phase_taken t phases i p h item all = (phase_first t phases i p h item all).0

  phase_rest : (t next : Table) (phases : List Phase) (i : ℕ) (p : Phase) → i < length phases → p ≡ get_or phases i p → next ≡ after_phase setup t p → TakesPhases setup t (drop i phases) → TakesPhases setup next (drop (i + 1) phases)
  phase_rest t next phases i p h item moved all = subst (λ u. TakesPhases setup u (drop (i + 1) phases)) (sym moved) (phase_first t phases i p h item all).1

  one_more : (phases : List Phase) (i : ℕ) (p : Phase) → i < length phases → p ≡ get_or phases i p → take (i + 1) phases ≡ take i phases ++ p ∷ []
  one_more phases i p h item = take_more phases i p h ∙ ap (λ (q : Phase). take i phases ++ q ∷ []) (sym item)

  phase_table : (t now next : Table) (phases : List Phase) (i : ℕ) (p : Phase) → i < length phases → p ≡ get_or phases i p → now ≡ after_phases setup t (take i phases) → next ≡ after_phase setup now p
      → next ≡ after_phases setup t (take (i + 1) phases)
  phase_table t now next phases i p h item so_far moved =
      moved ∙ ap (λ u. after_phase setup u p) so_far ∙ sym (after_phases-append t (take i phases) (p ∷ [])) ∙ ap (after_phases setup t) (sym (one_more phases i p h item))

  -- the table behind the phases so far, and that it takes those that are left
  pub record PhaseMore (t next : Table) (phases : List Phase) (i : ℕ) : Type 0 where
    pub table : next ≡ after_phases setup t (take i phases)
    pub taken : TakesPhases setup next (drop i phases)

  pub phase_more : (t now next : Table) (phases : List Phase) (i : ℕ) (p : Phase) → i < length phases → p ≡ get_or phases i p → PhaseMore t now phases i → next ≡ after_phase setup now p → PhaseMore t next phases (i + 1)
  phase_more t now next phases i p h item so_far moved = record {
    table = phase_table t now next phases i p h item so_far.table moved;
    taken = phase_rest now next phases i p h item moved so_far.taken;
  }

  text_more : (t now : Table) (phases : List Phase) (i : ℕ) (p : Phase) → i < length phases → p ≡ get_or phases i p → now ≡ after_phases setup t (take i phases)
      → text_of_phases setup t (take (i + 1) phases) ≡ text_of_phases setup t (take i phases) ++ text_of_phase setup now p
  text_more t now phases i p h item so_far =
      ap (text_of_phases setup t) (one_more phases i p h item)
      ∙ text_of_phases-append t (take i phases) (p ∷ [])
      ∙ ap (λ l. text_of_phases setup t (take i phases) ++ l) (append-nil (text_of_phase setup (after_phases setup t (take i phases)) p) ∙ ap (λ u. text_of_phase setup u p) (sym so_far))

  pub phase_printed : (a b c : Option (List ℕ)) (t now : Table) (phases : List Phase) (i : ℕ) (p : Phase) → i < length phases → p ≡ get_or phases i p → now ≡ after_phases setup t (take i phases)
      → Appends a b (text_of_phases setup t (take i phases)) → Appends b c (text_of_phase setup now p) → Appends a c (text_of_phases setup t (take (i + 1) phases))
  phase_printed a b c t now phases i p h item so_far first next =
      subst (Appends a c) (sym (text_more t now phases i p h item so_far)) (Appends-trans a b c _ _ first next)

  pub phase_cut : (a b c : Option (List ℕ)) (t now : Table) (phases : List Phase) (i : ℕ) (p : Phase) → i < length phases → p ≡ get_or phases i p → now ≡ after_phases setup t (take i phases)
      → Appends a b (text_of_phases setup t (take i phases)) → AppendsPrefix b c (text_of_phase setup now p) → AppendsPrefix a c (text_of_phases setup t phases)
  phase_cut a b c t now phases i p h item so_far first next =
      let part : AppendsPrefix a c (text_of_phases setup t (take (i + 1) phases)) =
      subst (AppendsPrefix a c) (sym (text_more t now phases i p h item so_far)) (AppendsPrefix-next a b c _ _ first next) in
      subst (AppendsPrefix a c) (sym (text_of_phases-append t (take (i + 1) phases) (drop (i + 1) phases)) ∙ ap (text_of_phases setup t) (take-append-drop (i + 1) phases))
      (AppendsPrefix-first a c _ (text_of_phases setup (after_phases setup t (take (i + 1) phases)) (drop (i + 1) phases)) part)

-- a run is cut short in this phase
cut_in : (script : Script) (a b c : Option (List ℕ)) (rose rose' : Type 0) (now : Table) (i : ℕ) (p : Phase) (cut : Cut) → i < length script.phases → p ≡ get_or script.phases i p
    → now ≡ after_phases script.setup (start script.setup) (take i script.phases) → Appends a b (text_of_phases script.setup (start script.setup) (take i script.phases))
    → (rose → rose') → PhaseIsCut b c rose (text_of_phase script.setup now p) cut → IsCut script a c rose' cut
cut_in script a b c rose rose' now i p WriteFault h item so_far first raise here =
    (raise here.0, phase_cut script.setup a b c (start script.setup) now script.phases i p h item so_far first here.1)
cut_in script a b c rose rose' now i p OutOfMemory h item so_far first raise here = (i, subst (λ d. Appends a d (text_of_phases script.setup (start script.setup) (take i script.phases))) (sym here) first)

pub run_cut : (script : Script) (phases : List Phase) (a b c : Option (List ℕ)) (rose rose' : Type 0) (now : Table) (i : ℕ) (p : Phase) (cut : Cut) → phases ≡ script.phases → i < length phases → p ≡ get_or phases i p
    → now ≡ after_phases script.setup (start script.setup) (take i phases) → Appends a b (text_of_phases script.setup (start script.setup) (take i phases))
    → (rose → rose') → PhaseIsCut b c rose (text_of_phase script.setup now p) cut → IsCut script a c rose' cut
run_cut script phases a b c rose rose' now i p cut items h item so_far first raise here =
    cut_in script a b c rose rose' now i p cut (subst (λ (ps : List Phase). i < length ps) items h) (subst (λ (ps : List Phase). p ≡ get_or ps i p) items item)
    (subst (λ ps. now ≡ after_phases script.setup (start script.setup) (take i ps)) items so_far)
    (subst (λ ps. Appends a b (text_of_phases script.setup (start script.setup) (take i ps))) items first) raise here
