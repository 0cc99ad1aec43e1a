-- Steps on chains alone are moves by the table, entry by entry, and legal where the table says so.
use Rattle.std.proofs.Common.{◌≡◌, ℕ, ◌≤◌, List, [], ◌∷◌, ◌++◌, Option, Some, None, refl, sym, ap, ◌∙◌, subst}
use Rattle.std.specs.Prelude.{IsSome, IfSome}
use Rattle.std.proofs.Props.{props}
use mathlib.Core.Option.{is_set as option_set}
use Rattle.sid_core.specs.declared.call.Call.{Call}
use Rattle.sid_core.specs.declared.call.Call.TheVariants as c
use Rattle.sid_core.specs.declared.call.LeaseAsk.{LeaseAsk}
use Rattle.sid_core.specs.Call.{IsCall}
use Rattle.sid_core.specs.Values.{IsU64, IsState}
use Rattle.sid_core.specs.declared.entry.Entry.{Entry}
use Rattle.sid_core.specs.declared.entry.Event.{Event}
use Rattle.sid_core.specs.declared.entry.Event.TheVariants.{Called, Died, Tidied}
use Rattle.sid_core.specs.declared.setup.Setup.{Setup}
use Rattle.sid_core.specs.Setup.{IsSetup}
use Rattle.serial_table.specs.declared.table.Table.{Table}
use Rattle.serial_table.specs.History.{start, after, after_entry, after_all, IsLegal, IsLegalEvent}
use Rattle.serial_table.specs.Step.{answer_of, death_of, view_after}
use Rattle.serial_table.specs.View.{View, view}
use Rattle.serial_table.proofs.Alike.{view-after_event, after_all-append}
use Rattle.stored_table.specs.Places.{Chains}
use Rattle.stored_table.specs.Histories.{moved_from, moved_by}
use Rattle.stored_table.specs.Move.{move, first_chains}
use Rattle.stored_table.specs.Stands.{StandsFor}
use Rattle.stored_table.specs.Decoded.{records_of}
use Rattle.table_laws.proofs.Chains.{legal_is_fine}
use Rattle.table_laws.proofs.HistoryEvents.{grouped, legal_begin, history_stands}
use Rattle.table_laws.proofs.Lists.{append_nothing}
use Rattle.stored_reading.specs.Reading.{view_of_chains}
use Rattle.stored_reading.specs.Steps.{step, stepped_from, stepped_by, IsLegalAt, IsLegalStep, IsLegalAlike, StepIsMove}
use Rattle.stored_reading.proofs.Shown.{view_is}

-- ---- one entry more

moved_longer : (setup : Setup) (n : ℕ) (k : Chains) (t : Table) (es : List Entry) (e : Entry)
    → moved_from setup n k t (es ++ e ∷ []) ≡ move setup n (moved_from setup n k t es) e (view (after_entry setup (after_all setup t es) e))
moved_longer setup n k t [] e = refl
moved_longer setup n k t (d ∷ es) e = moved_longer setup n (move setup n k d (view (after_entry setup t d))) (after_entry setup t d) es e

pub stepped_longer : (setup : Setup) (n : ℕ) (k : Chains) (es : List Entry) (e : Entry) → stepped_from setup n k (es ++ e ∷ []) ≡ step setup n (stepped_from setup n k es) e
stepped_longer setup n k [] e = refl
stepped_longer setup n k (d ∷ es) e = stepped_longer setup n (step setup n k d) es e

-- ---- legality has one proof

ask_single : (lease : Option LeaseAsk) → IsProp (IfSome lease (λ ask. IsU64 ask.key × IsState ask.state.0))
ask_single None = hlevel props
ask_single (Some ask) = hlevel props

call_single : (setup : Setup) (call : Call) → IsProp (IsCall setup call)
call_single setup (c.OpenFile file access share lease durable overwrite delete) = hlevel (ask_single, props)
call_single setup _ = hlevel props

legal_at_single : (setup : Setup) (v : View) (by : ℕ) (event : Event) → IsProp (IsLegalAt setup v by event)
legal_at_single setup v by (Called number moment call reply) = hlevel (call_single, props, option_set)
legal_at_single setup v by (Died worker moment) = hlevel props
legal_at_single setup v by (Tidied chain) = hlevel props

pub legal_step_single : (setup : Setup) (n : ℕ) (k : Chains) (e : Entry) → IsProp (IsLegalStep setup n k e)
legal_step_single setup n k e = legal_at_single setup (view_of_chains setup n k) e.by e.what

-- ---- legal where the table says so

legal_to : (setup : Setup) (v : View) (t : Table) (by : ℕ) (event : Event) → v ≡ view t → IsLegalAt setup v by event → IsLegalEvent setup t by event
legal_to setup v t by (Called number moment call reply) e h =
    record { numbered = h.numbered; timed = h.timed; in_sets = h.in_sets; answered = ap (λ w. answer_of setup w by number moment call) (sym e) ∙ h.answered }
legal_to setup v t by (Died worker moment) e h = record { timed = h.timed; dies = subst (λ w. IsSome (death_of setup w worker moment)) e h.dies }
legal_to setup v t by (Tidied chain) e h = tt

legal_from : (setup : Setup) (v : View) (t : Table) (by : ℕ) (event : Event) → v ≡ view t → IsLegalEvent setup t by event → IsLegalAt setup v by event
legal_from setup v t by (Called number moment call reply) e h =
    record { numbered = h.numbered; timed = h.timed; in_sets = h.in_sets; answered = ap (λ w. answer_of setup w by number moment call) e ∙ h.answered }
legal_from setup v t by (Died worker moment) e h = record { timed = h.timed; dies = subst (λ w. IsSome (death_of setup w worker moment)) (sym e) h.dies }
legal_from setup v t by (Tidied chain) e h = tt

module _ (setup : Setup) (n : ℕ) (is : IsSetup setup) where
  -- ---- behind a legal history

  pub shows : (before : List Entry) (k : Chains) → IsLegal setup before → StandsFor setup n k (view (after setup before)) → view_of_chains setup n k ≡ view (after setup before)
  shows before k legal stands =
      let fine = legal_is_fine setup before is legal in
      view_is setup (records_of setup n k) (after setup before) stands.agree fine.sets fine.sound

  pub step_is_move : (before : List Entry) (e : Entry) → IsLegal setup before → StepIsMove setup n before e
  step_is_move before e legal k stands =
      ap (move setup n k e)
      (ap (λ v. view_after setup v e.by e.what) (shows before k legal stands)
      ∙ sym (view-after_event setup (after setup before) e.by e.what)
      ∙ ap view (sym (after_all-append setup (start setup) before e)))

  pub legal_alike : (before : List Entry) (e : Entry) (k : Chains) → IsLegal setup before → StandsFor setup n k (view (after setup before)) → IsLegalAlike setup n before e k
  legal_alike before e k legal stands =
      let shown = shows before k legal stands in
      record {
        to_table = legal_to setup (view_of_chains setup n k) (after setup before) e.by e.what shown;
        from_table = legal_from setup (view_of_chains setup n k) (after setup before) e.by e.what shown;
      }

  -- ---- whole histories

  one_more : 1 ≤ n → (done : List Entry) (e : Entry) → IsLegal setup done → stepped_by setup n done ≡ moved_by setup n done → stepped_by setup n (done ++ e ∷ []) ≡ moved_by setup n (done ++ e ∷ [])
  one_more some done e legal same =
      stepped_longer setup n (first_chains setup n) done e
      ∙ ap (λ k. step setup n k e) same
      ∙ step_is_move done e legal (moved_by setup n done) (history_stands setup n is done some legal)
      ∙ ap (λ u. move setup n (moved_by setup n done) e (view u)) (after_all-append setup (start setup) done e)
      ∙ sym (moved_longer setup n (first_chains setup n) (start setup) done e)

  along : 1 ≤ n → (done todo : List Entry) → IsLegal setup (done ++ todo) → stepped_by setup n done ≡ moved_by setup n done → stepped_by setup n (done ++ todo) ≡ moved_by setup n (done ++ todo)
  along some done [] legal same = subst (λ es. stepped_by setup n es ≡ moved_by setup n es) (sym (append_nothing done)) same
  along some done (e ∷ todo) legal same =
      subst (λ es. stepped_by setup n es ≡ moved_by setup n es) (grouped done (e ∷ []) todo)
      (along some (done ++ e ∷ []) todo (subst (IsLegal setup) (sym (grouped done (e ∷ []) todo)) legal) (one_more some done e (legal_begin setup done (e ∷ todo) legal) same))

  pub steps_move : 1 ≤ n → (history : List Entry) → IsLegal setup history → stepped_by setup n history ≡ moved_by setup n history
  steps_move some history legal = along some [] history legal refl

  pub steps_stand : 1 ≤ n → (history : List Entry) → IsLegal setup history → StandsFor setup n (stepped_by setup n history) (view (after setup history))
  steps_stand some history legal = subst (λ k. StandsFor setup n k (view (after setup history))) (sym (steps_move some history legal)) (history_stands setup n is history some legal)
