-- What an entry makes of chains alone, and where it is legal: by what the chains show.
use Rattle.std.specs.Prelude.{◌≡◌, ℕ, IsSome, List, [], ◌∷◌, ◌++◌, Some}
use Rattle.sid_core.specs.declared.ids.Moment.{Moment}
use Rattle.sid_core.specs.declared.call.Call.{Call}
use Rattle.sid_core.specs.declared.entry.Entry.{Entry}
use Rattle.sid_core.specs.declared.entry.Event.{Event}
use Rattle.sid_core.specs.declared.entry.Event.TheVariants.{Called, Died, Tidied}
use Rattle.sid_core.specs.declared.reply.Reply.{Reply}
use Rattle.sid_core.specs.declared.setup.Setup.{Setup}
use Rattle.sid_core.specs.Call.{IsCall, IsCallNumber}
use Rattle.sid_core.specs.Values.{IsMoment}
use Rattle.serial_table.specs.View.{View, view}
use Rattle.serial_table.specs.Step.{answer_of, death_of, view_after}
use Rattle.serial_table.specs.History.{after, IsLegalEntry}
use Rattle.stored_table.specs.Places.{Chains}
use Rattle.stored_table.specs.Move.{move, first_chains}
use Rattle.stored_table.specs.Stands.{StandsFor}
use Rattle.stored_reading.specs.Reading.{view_of_chains}

-- ---- what an entry makes of chains

-- The entry happens on what the chains show, and what it meets becomes exact.
abbrev pub step : Setup → ℕ → Chains → Entry → Chains
step setup n k e = move setup n k e (view_after setup (view_of_chains setup n k) e.by e.what)

-- entry by entry
abbrev pub stepped_from : Setup → ℕ → Chains → List Entry → Chains
stepped_from setup n k [] = k
stepped_from setup n k (e ∷ es) = stepped_from setup n (step setup n k e) es

-- from the first chains
abbrev pub stepped_by : Setup → ℕ → List Entry → Chains
stepped_by setup n history = stepped_from setup n (first_chains setup n) history

-- ---- which entries are legal

-- A call has one answer, where its worker is declared and shown alive: that is the reply.
pub record IsLegalCallAt (setup : Setup) (v : View) (worker number : ℕ) (moment : Moment) (call : Call) (reply : Reply) : Type 0 where
  pub numbered : IsCallNumber number
  pub timed : IsMoment moment.0
  pub in_sets : IsCall setup call
  pub answered : answer_of setup v worker number moment call ≡ Some reply

-- A death is legal where its worker is declared and shown alive.
pub record IsLegalDeathAt (setup : Setup) (v : View) (worker : ℕ) (moment : Moment) : Type 0 where
  pub timed : IsMoment moment.0
  pub dies : IsSome (death_of setup v worker moment)

-- A tidied chain always is legal.
abbrev pub IsLegalAt : Setup → View → ℕ → Event → Type 0
IsLegalAt setup v by (Called number moment call reply) = IsLegalCallAt setup v by number moment call reply
IsLegalAt setup v by (Died worker moment) = IsLegalDeathAt setup v worker moment
IsLegalAt setup v by (Tidied chain) = Unit {0}

-- by what the chains show
abbrev pub IsLegalStep : Setup → ℕ → Chains → Entry → Type 0
IsLegalStep setup n k e = IsLegalAt setup (view_of_chains setup n k) e.by e.what

-- ---- behind a history

-- Of chains that stand for the table there: the step is the move that goes by the table after the entry.
abbrev pub StepIsMove : Setup → ℕ → List Entry → Entry → Type 0
StepIsMove setup n before e =
    (k : Chains) → StandsFor setup n k (view (after setup before)) → step setup n k e ≡ move setup n k e (view (after setup (before ++ e ∷ [])))

-- Of chains that stand for the table there: what is legal by them is what is legal at the table.
pub record IsLegalAlike (setup : Setup) (n : ℕ) (before : List Entry) (e : Entry) (k : Chains) : Type 0 where
  pub to_table : IsLegalStep setup n k e → IsLegalEntry setup (after setup before) e
  pub from_table : IsLegalEntry setup (after setup before) e → IsLegalStep setup n k e
