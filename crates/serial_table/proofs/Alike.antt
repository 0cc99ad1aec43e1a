-- What an event does goes by what the table shows, and histories go on.
use Rattle.std.proofs.Common.{◌≡◌, ℕ, Bool, true, false, ◌&&◌, ◌||◌, List, [], ◌∷◌, ◌++◌, refl, sym, ap, ◌∙◌, subst}
use Rattle.std.specs.Prelude.{IsSome}
use Rattle.sid_core.specs.declared.entry.Entry.{Entry}
use Rattle.sid_core.specs.declared.entry.Event.{Event}
use Rattle.sid_core.specs.declared.entry.Event.TheVariants.{Called, Died, Tidied}
use Rattle.sid_core.specs.declared.setup.Setup.{Setup}
use Rattle.serial_table.specs.declared.table.Table.{Table}
use Rattle.serial_table.specs.Share.{takes_part, is_hindered, share_conflict}
use Rattle.serial_table.specs.View.{view}
use Rattle.serial_table.specs.Step.{answer_of, death_of, changes_of, view_after}
use Rattle.serial_table.specs.History.{after_event, after_entry, after_all, IsLegalEvent, IsLegalEntry, AreLegal}
use Rattle.serial_table.proofs.Views.{view-perform_all}

pub view-after_event : (setup : Setup) (t : Table) (by : ℕ) (event : Event) → view (after_event setup t by event) ≡ view_after setup (view t) by event
view-after_event setup t by event = view-perform_all (changes_of setup (view t) by event) t

-- tables that show the same show the same after an event
pub alike_after : (setup : Setup) (t u : Table) (by : ℕ) (event : Event) → view t ≡ view u → view (after_event setup t by event) ≡ view (after_event setup u by event)
alike_after setup t u by event e = view-after_event setup t by event ∙ ap (λ v. view_after setup v by event) e ∙ sym (view-after_event setup u by event)

-- what is legal at a table is legal at one that shows the same
pub alike_legal : (setup : Setup) (t u : Table) (by : ℕ) (event : Event) → view t ≡ view u → IsLegalEvent setup t by event → IsLegalEvent setup u by event
alike_legal setup t u by (Called number moment call reply) e h =
    record { numbered = h.numbered; timed = h.timed; in_sets = h.in_sets; answered = ap (λ v. answer_of setup v by number moment call) (sym e) ∙ h.answered }
alike_legal setup t u by (Died worker moment) e h = record { timed = h.timed; dies = subst (λ v. IsSome (death_of setup v worker moment)) e h.dies }
alike_legal setup t u by (Tidied chain) e h = tt

pub after_all-append : (setup : Setup) (t : Table) (history : List Entry) (entry : Entry) → after_all setup t (history ++ entry ∷ []) ≡ after_entry setup (after_all setup t history) entry
after_all-append setup t [] entry = refl
after_all-append setup t (first ∷ history) entry = after_all-append setup (after_entry setup t first) history entry

pub legal_goes_on : (setup : Setup) (t : Table) (history : List Entry) (entry : Entry) → AreLegal setup t history → IsLegalEntry setup (after_all setup t history) entry → AreLegal setup t (history ++ entry ∷ [])
legal_goes_on setup t [] entry legal h = (h, tt)
legal_goes_on setup t (first ∷ history) entry legal h = (legal.0, legal_goes_on setup (after_entry setup t first) history entry legal.1 h)

either_way : (p q a b : Bool) → (p && q && (a || b)) ≡ (q && p && (b || a))
either_way true true true true = refl
either_way true true true false = refl
either_way true true false true = refl
either_way true true false false = refl
either_way true false a b = refl
either_way false true a b = refl
either_way false false a b = refl

pub share_conflict-swap : (a s b t : ℕ) → share_conflict a s b t ≡ share_conflict b t a s
share_conflict-swap a s b t = either_way (takes_part a) (takes_part b) (is_hindered a t) (is_hindered b s)
