-- What an event does, by the view alone: a call's answer, a death, and the view after it.
pub use Rattle.serial_table.specs.ByNumber.{declared_at}
use Rattle.std.specs.Prelude.{ℕ, List, [], Option, Some, None, option_and_then, if◌then◌else◌}
use Rattle.std.specs.Option.{option_map, option_map_or}
use Rattle.sid_core.specs.declared.ids.Moment.{Moment}
use Rattle.sid_core.specs.declared.call.Call.{Call}
use Rattle.sid_core.specs.declared.entry.Event.{Event}
use Rattle.sid_core.specs.declared.entry.Event.TheVariants.{Called, Died, Tidied}
use Rattle.sid_core.specs.declared.entry.Post.{Post}
use Rattle.sid_core.specs.declared.reply.Reply.{Reply}
use Rattle.sid_core.specs.declared.setup.Setup.{Setup}
use Rattle.sid_core.specs.declared.setup.WorkerInfo.{WorkerInfo}
use Rattle.serial_table.specs.declared.rows.WorkerRow.{WorkerRow}
use Rattle.serial_table.specs.declared.change.Change.{Change}
use Rattle.serial_table.specs.declared.decision.Caller.{Caller}
use Rattle.serial_table.specs.View.{View}
use Rattle.serial_table.specs.Change.{perform_all_by_key}
use Rattle.serial_table.specs.Decision.{Outcome, conclude}
use Rattle.serial_table.specs.Session.{end_of_session}
use Rattle.serial_table.specs.Decide.{outcome}

abbrev pub caller_if_alive : WorkerInfo → ℕ → Moment → WorkerRow → Option Caller
caller_if_alive info number moment row =
    if row.alive then Some (record { sid = record { pid = row.pid; session = row.session }; guid = info.guid; number = number; moment = moment }) else None

-- the caller, where the worker is declared and alive
unfoldable pub caller_of : Setup → View → ℕ → ℕ → Moment → Option Caller
caller_of setup v worker number moment =
    option_and_then (λ info. option_and_then (caller_if_alive info number moment) (v.worker_of info.pid)) (declared_at setup.workers worker)

-- what a call of this worker comes to, where the worker is declared and alive
abbrev pub call_of : Setup → View → ℕ → ℕ → Moment → Call → Option Outcome
call_of setup v worker number moment call = option_map (λ caller. outcome setup v caller call) (caller_of setup v worker number moment)

-- its answer
abbrev pub answer_of : Setup → View → ℕ → ℕ → Moment → Call → Option Reply
answer_of setup v worker number moment call = option_map (λ done. done.reply) (call_of setup v worker number moment call)

-- what the death of a worker comes to, where it is declared and alive: its current session ends, and no other begins
abbrev pub death_of : Setup → View → ℕ → Moment → Option Outcome
death_of setup v worker moment =
    option_map (λ (caller : Caller). conclude v (end_of_session v caller.sid moment [])) (caller_of setup v worker 0 moment)

-- ---- what an event comes to

-- A tidied chain of the records, a call of one who can't call and a death of one who can't die come to nothing.
abbrev pub outcome_of : Setup → View → ℕ → Event → Option Outcome
outcome_of setup v by (Called number moment call reply) = call_of setup v by number moment call
outcome_of setup v by (Died worker moment) = death_of setup v worker moment
outcome_of setup v by (Tidied chain) = None

abbrev pub changes_of : Setup → View → ℕ → Event → List Change
changes_of setup v by event = option_map_or (λ done. done.changes) (outcome_of setup v by event) []

abbrev pub posts_of : Setup → View → ℕ → Event → List Post
posts_of setup v by event = option_map_or (λ done. done.posts) (outcome_of setup v by event) []

abbrev pub view_after : Setup → View → ℕ → Event → View
view_after setup v by event = perform_all_by_key (changes_of setup v by event) v
