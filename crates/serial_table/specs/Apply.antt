-- Which entries a table accepts, and why it refuses the others.
use Rattle.std.specs.Prelude.{◌≡◌, ◌≢◌, ◌<◌, ◌+◌, ◌^◌, ℕ, IsSome, IfSome, List, Some, None}
use Rattle.sid_core.specs.declared.entry.Post.{Post}
use Rattle.sid_core.specs.declared.entry.Event.{Event}
use Rattle.sid_core.specs.declared.entry.Event.TheVariants.{Called, Died, Tidied}
use Rattle.sid_core.specs.declared.reply.Reply.{Reply}
use Rattle.sid_core.specs.declared.setup.Setup.{Setup}
use Rattle.serial_table.specs.declared.apply.Apply.{Apply}
use Rattle.serial_table.specs.declared.apply.Apply.TheVariants as refusals
use Rattle.serial_table.specs.declared.table.Table.{Table}
use Rattle.serial_table.specs.View.{view}
use Rattle.serial_table.specs.Step.{caller_of, answer_of, death_of, posts_of}
use Rattle.serial_table.specs.History.{after_event}

-- The number of the caller's session, and that of the next one, have 32 bits.
abbrev pub HasNext : Setup → Table → ℕ → Event → Type 0
HasNext setup t by (Called number moment call reply) = IfSome (caller_of setup (view t) by number moment) (λ caller. caller.sid.session + 1 < 2 ^ 32)
HasNext setup t by (Died worker moment) = Unit {0}
HasNext setup t by (Tidied chain) = Unit {0}

-- The reply of a call is the table's. Who dies is declared and alive.
abbrev pub AnswersEvent : Setup → Table → ℕ → Event → Type 0
AnswersEvent setup t by (Called number moment call reply) = answer_of setup (view t) by number moment call ≡ Some reply
AnswersEvent setup t by (Died worker moment) = IsSome (death_of setup (view t) worker moment)
AnswersEvent setup t by (Tidied chain) = Unit {0}

-- What this worker does is right at the table old, makes it new, and posts these letters.
pub record Accepts (setup : Setup) (by : ℕ) (event : Event) (old new : Table) (posts : List Post) : Type 0 where
  pub answers : AnswersEvent setup old by event
  pub table : new ≡ after_event setup old by event
  pub posts_are : posts ≡ posts_of setup (view old) by event

-- The table's reply is another than the given one; or want of memory, of which nothing is said.
abbrev pub DiffersFrom : Reply → Reply → Apply → Type 0
DiffersFrom reply own (refusals.Differs given) = (own ≡ given) × (given ≢ reply)
DiffersFrom reply own (refusals.NotAlive worker) = ⊥
DiffersFrom reply own refusals.OutOfMemory = Unit {0}

-- Why: the table's reply is another one; the worker that calls or dies isn't declared or is dead; or want of memory, of which
-- nothing is said.
abbrev pub Refuses : Setup → ℕ → Event → Table → Apply → Type 0
Refuses setup by (Called number moment call reply) t (refusals.Differs given) = (answer_of setup (view t) by number moment call ≡ Some given) × (given ≢ reply)
Refuses setup by (Called number moment call reply) t (refusals.NotAlive worker) = (worker ≡ by) × (caller_of setup (view t) by number moment ≡ None)
Refuses setup by (Died worker moment) t (refusals.NotAlive named) = (named ≡ worker) × (caller_of setup (view t) worker 0 moment ≡ None)
Refuses setup by event t refusals.OutOfMemory = Unit {0}
Refuses setup by (Died worker moment) t (refusals.Differs given) = ⊥
Refuses setup by (Tidied chain) t (refusals.Differs given) = ⊥
Refuses setup by (Tidied chain) t (refusals.NotAlive worker) = ⊥
