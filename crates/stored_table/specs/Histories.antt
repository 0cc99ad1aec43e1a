-- What a history makes of the databases, and which histories are swept.
use Rattle.std.specs.Prelude.{ℕ, suc, ◌+◌, ◌*◌, ◌<◌, ◌≤◌, ◌==◌, ◌&&◌, Bool, true, false, if◌then◌else◌, max, List, [], ◌∷◌, length, take}
use Rattle.std.specs.List.{flat_map}
use Rattle.sid_core.specs.declared.call.Call.TheVariants.{Tidy}
use Rattle.sid_core.specs.declared.entry.Entry.{Entry}
use Rattle.sid_core.specs.declared.entry.Event.{Event}
use Rattle.sid_core.specs.declared.entry.Event.TheVariants.{Called}
use Rattle.sid_core.specs.declared.setup.Setup.{Setup}
use Rattle.serial_table.specs.declared.table.Table.{Table}
use Rattle.serial_table.specs.View.{view}
use Rattle.serial_table.specs.History.{start, after_entry, table_at}
use Rattle.stored_table.specs.Places.{Chains}
use Rattle.stored_table.specs.Move.{move, first_chains}
use Rattle.stored_table.specs.Stands.{IsSwept}

-- ---- the chains that a history makes

-- entry by entry, from chains and the table that they stand for
abbrev pub moved_from : Setup → ℕ → Chains → Table → List Entry → Chains
moved_from setup n k t [] = k
moved_from setup n k t (e ∷ es) = moved_from setup n (move setup n k e (view (after_entry setup t e))) (after_entry setup t e) es

-- from the first chains and the first table
abbrev pub moved_by : Setup → ℕ → List Entry → Chains
moved_by setup n history = moved_from setup n (first_chains setup n) (start setup) history

-- the chains at a place of a history: after so many entries
abbrev pub chains_at : Setup → ℕ → List Entry → ℕ → Chains
chains_at setup n history place = moved_by setup n (take place history)

-- ---- where records have no stale part

-- At a place of the history no record of the chain has a stale part.
abbrev pub IsSweptAt : Setup → ℕ → List Entry → ℕ → ℕ → Type 0
IsSweptAt setup n history c place = IsSwept setup n (chains_at setup n history place) (view (table_at setup history place)) c

-- There is such a place from the first to the last of these.
abbrev pub IsSweptBetween : Setup → ℕ → List Entry → ℕ → ℕ → ℕ → Type 0
IsSweptBetween setup n history first last c = (place : ℕ) × (first ≤ place) × (place ≤ last) × IsSweptAt setup n history c place

abbrev pub AllSweptBetween : Setup → ℕ → List Entry → ℕ → ℕ → Type 0
AllSweptBetween setup n history first last = (c : ℕ) → c < 7 * n → IsSweptBetween setup n history first last c

-- ---- histories in which a `tidy` leaves no stale part where it was

abbrev pub is_call : Event → Bool
is_call (Called number moment call reply) = true
is_call _ = false

-- the place behind the last call of a worker among entries that begin at a place; else the one that is given
abbrev pub behind_last_call : ℕ → ℕ → ℕ → List Entry → ℕ
behind_last_call by found place [] = found
behind_last_call by found place (e ∷ es) = behind_last_call by (if is_call e.what && (e.by == by) then suc place else found) (suc place) es

-- A `tidy` call at a place of a phase that begins at another: behind the phase's beginning and behind its caller's call before, each chain
-- was swept once.
abbrev pub IsSweptEvent : Setup → ℕ → List Entry → ℕ → ℕ → ℕ → Event → Type 0
IsSweptEvent setup n history phase place by (Called number moment Tidy reply) =
    AllSweptBetween setup n history (max phase (behind_last_call by 0 0 (take place history))) place
IsSweptEvent setup n history phase place by _ = Unit {0}

abbrev pub IsSweptPhase : Setup → ℕ → List Entry → ℕ → ℕ → List Entry → Type 0
IsSweptPhase setup n history phase place [] = Unit {0}
IsSweptPhase setup n history phase place (e ∷ es) = IsSweptEvent setup n history phase place e.by e.what × IsSweptPhase setup n history phase (suc place) es

abbrev pub ArePhasesSwept : Setup → ℕ → List Entry → ℕ → List (List Entry) → Type 0
ArePhasesSwept setup n history phase [] = Unit {0}
ArePhasesSwept setup n history phase (es ∷ more) = IsSweptPhase setup n history phase phase es × ArePhasesSwept setup n history (phase + length es) more

-- a history that is told phase by phase
abbrev pub IsSweptHistory : Setup → ℕ → List (List Entry) → Type 0
IsSweptHistory setup n phases = ArePhasesSwept setup n (flat_map (λ es. es) phases) 0 phases
