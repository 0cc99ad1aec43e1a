-- The code's own: what a reader keeps of the lines so far. No rule is stated here.
use Rattle.std.specs.Prelude.{◌≡◌, ℕ, ◌+◌, ◌<◌, ◌≤◌, true, false, List, [], length, slice_index_or, Option, Some, None, is_none, Result, Ok, Err}
use Rattle.std.specs.declared.cmp.Ordering.{Ordering}
use Rattle.std.specs.List.{list_any}
use Rattle.std.specs.BTreeSet.{contains}
use Rattle.std.specs.Ordering.{nat_cmp, ordering_then}
use Rattle.sid_core.specs.declared.limits.TheConstants.{MAX_WORKERS, MAX_FILES, MAX_PHASES, MAX_CALLS}
use Rattle.worker_script.specs.declared.fault.Fault.{Fault}
use Rattle.worker_script.specs.declared.fault.Fault.TheVariants.{Bad, NoMemory}
use Rattle.worker_script.specs.declared.reason.Reason.{Reason}
use Rattle.worker_script.specs.declared.script.Planned.{Planned}
use Rattle.worker_script.specs.declared.reader.Tally.{Tally}
use Rattle.worker_script.specs.declared.reader.Reader.{Reader}
use Rattle.worker_script.specs.Lines.{Draft, planned_in, is_place}
use Rattle.worker_script.specs.Script.{numbers_of, statuses_in}
use Rattle.worker_script.specs.Calls.{has_stopped}

abbrev pub draft_of : Reader → Draft
draft_of reader = record { workers = reader.workers; files = reader.files; phases = reader.phases; current = reader.current }

-- by device, then by inode
abbrev pub place_cmp : ℕ × ℕ → ℕ × ℕ → Ordering
place_cmp a b = ordering_then (nat_cmp a.0 b.0) (nat_cmp a.1 b.1)

-- what is planned for a worker: how many calls, and whether it dies in one
abbrev pub tally_in : List Planned → ℕ → Tally
tally_in calls worker = record { made = length (numbers_of worker calls); stopped = has_stopped worker calls }

abbrev pub no_tally : Tally
no_tally = record { made = 0; stopped = false }

-- Beside what the lines say: where the files are, and how many calls there are.
pub record IsReader (reader : Reader) : Type 0 where
  pub few_workers : length reader.workers ≤ MAX_WORKERS
  pub few_files : length reader.files ≤ MAX_FILES
  pub few_phases : length reader.phases ≤ MAX_PHASES
  pub begun : is_none reader.current ≡ true → reader.phases ≡ []
  pub places : (place : ℕ × ℕ) → contains place_cmp reader.places place ≡ list_any (is_place place.0 place.1) reader.files
  pub calls : reader.calls ≡ length (planned_in (draft_of reader))
  pub few_calls : reader.calls ≤ MAX_CALLS
  pub statuses : reader.statuses ≡ statuses_in (planned_in (draft_of reader))
  pub few_statuses : reader.statuses ≤ reader.calls
  pub tallies : length reader.tallies.items ≡ length reader.workers
  pub each_tally : (i : ℕ) → i < length reader.tallies.items
      → slice_index_or reader.tallies.items i no_tally ≡ tally_in (planned_in (draft_of reader)) (i + 1)

-- Which fault was found, or what the line's numbers are.
abbrev pub Finds : {X : Type 0} → Option Reason → X → Result X Reason → Type 0
Finds fault numbers (Ok found) = (fault ≡ None) × (found ≡ numbers)
Finds fault numbers (Err reason) = fault ≡ Some reason

-- A line's answer, and what the reader keeps after it. Where memory ran out, nothing is known.
abbrev pub Reads : {X : Type 0} → Result Draft Reason → Reader → Result X Fault → Type 0
Reads answer after (Ok x) = (answer ≡ Ok (draft_of after)) × IsReader after
Reads answer after (Err (Bad reason)) = answer ≡ Err reason
Reads answer after (Err NoMemory) = Unit {0}
