-- Calls and deaths, as a table answers them.
use Rattle.std.proofs.Common.{◌≡◌, ℕ, true, List, [], Option, Some, None, option_and_then, find, refl, sym, ap, ◌∙◌, subst}
use Rattle.std.specs.Prelude.{IsSome, IfSome, IfOk, IfErr, OnOk, OnErr, Result, Ok, Err}
use Rattle.std.specs.Global.{Vec}
use Rattle.sid_core.specs.declared.entry.Event.{Event}
use Rattle.serial_table.specs.declared.apply.Apply.{Apply}
use Rattle.serial_table.specs.declared.decision.Decision.{Decision}
use Rattle.serial_table.specs.Settle.{settle}
use Rattle.serial_table.specs.History.{start, after_event}
use Rattle.serial_table.proofs.Callers.{is_caller_of}
use Rattle.serial_table.proofs.Concluding.{start-settled}
use Rattle.serial_table.proofs.Expiring.{after_event-settled}
use Rattle.std.specs.Option.{option_map, option_map_or}
use Rattle.sid_core.specs.declared.ids.Moment.{Moment}
use Rattle.sid_core.specs.declared.call.Call.{Call}
use Rattle.sid_core.specs.declared.entry.Event.TheVariants.{Called, Died}
use Rattle.sid_core.specs.declared.entry.Post.{Post}
use Rattle.sid_core.specs.declared.reply.Reply.{Reply}
use Rattle.sid_core.specs.declared.setup.Setup.{Setup}
use Rattle.sid_core.specs.declared.setup.WorkerInfo.{WorkerInfo}
use Rattle.serial_table.specs.declared.rows.WorkerRow.{WorkerRow}
use Rattle.serial_table.specs.declared.table.Table.{Table}
use Rattle.serial_table.specs.declared.decision.Caller.{Caller}
use Rattle.serial_table.specs.View.{View, view, lives, has_pid}
use Rattle.serial_table.specs.Change.{perform_all}
use Rattle.serial_table.specs.Decision.{Outcome, conclude}
use Rattle.serial_table.specs.Decide.{outcome}
use Rattle.serial_table.specs.Session.{end_of_session}
use Rattle.serial_table.specs.Step.{declared_at, caller_if_alive, caller_of, call_of, answer_of, death_of}
use Rattle.serial_table.specs.declared.apply.Apply.TheVariants as refusals
use Rattle.serial_table.specs.Apply.{Accepts, DiffersFrom, Refuses}

pub caller_is : (setup : Setup) (t : Table) (worker number : ℕ) (moment : Moment) (infos : List WorkerInfo) (rows : List WorkerRow) (info : WorkerInfo) (row : WorkerRow)
    → infos ≡ setup.workers → rows ≡ t.workers → Some info ≡ declared_at infos worker → Some row ≡ find (has_pid info.pid) rows
    → caller_of setup (view t) worker number moment ≡ caller_if_alive info number moment row
unfolding caller_of
caller_is setup t worker number moment infos rows info row e f g h =
    ap (option_and_then (λ i. option_and_then (caller_if_alive i number moment) ((view t).worker_of i.pid))) (ap (λ is. declared_at is worker) (sym e) ∙ sym g)
    ∙ ap (option_and_then (caller_if_alive info number moment)) (ap (find (has_pid info.pid)) (sym f) ∙ sym h)

-- what a call comes to, where its caller is known
call_is : (setup : Setup) (t : Table) (worker number : ℕ) (moment : Moment) (call : Call) (caller : Caller) → caller_of setup (view t) worker number moment ≡ Some caller
    → call_of setup (view t) worker number moment call ≡ Some (outcome setup (view t) caller call)
call_is setup t worker number moment call caller e = ap (option_map (λ c. outcome setup (view t) c call)) e

pub answer_is : (setup : Setup) (t : Table) (worker number : ℕ) (moment : Moment) (call : Call) (caller : Caller) → caller_of setup (view t) worker number moment ≡ Some caller
    → answer_of setup (view t) worker number moment call ≡ Some (outcome setup (view t) caller call).reply
answer_is setup t worker number moment call caller e = ap (option_map (λ (done : Outcome). done.reply)) (call_is setup t worker number moment call caller e)

pub accepts_call : (setup : Setup) (t next : Table) (worker number : ℕ) (moment : Moment) (call : Call) (reply : Reply) (caller : Caller) (posts : List Post)
    → caller_of setup (view t) worker number moment ≡ Some caller → (outcome setup (view t) caller call).reply ≡ reply
    → next ≡ perform_all (outcome setup (view t) caller call).changes t → posts ≡ (outcome setup (view t) caller call).posts
    → Accepts setup worker (Called number moment call reply) t next posts
accepts_call setup t next worker number moment call reply caller posts e f g h =
    let known = call_is setup t worker number moment call caller e in
    record {
      answers = answer_is setup t worker number moment call caller e ∙ ap (λ (r : Reply). Some r) f;
      table = g ∙ ap (λ o. perform_all (option_map_or (λ (done : Outcome). done.changes) o []) t) (sym known);
      posts_are = h ∙ ap (λ o. option_map_or (λ (done : Outcome). done.posts) o []) (sym known);
    }

-- the same of a result: an entry is accepted, or refused for its reply or for want of memory
pub accepts_result : (setup : Setup) (t next : Table) (worker number : ℕ) (moment : Moment) (call : Call) (reply : Reply) (caller : Caller) (r : Result (Vec Post) Apply)
    → caller_of setup (view t) worker number moment ≡ Some caller → OnOk r ((outcome setup (view t) caller call).reply ≡ reply)
    → OnOk r (next ≡ perform_all (outcome setup (view t) caller call).changes t) → IfOk r (λ posts. posts.items ≡ (outcome setup (view t) caller call).posts)
    → IfOk r (λ posts. Accepts setup worker (Called number moment call reply) t next posts.items)
accepts_result setup t next worker number moment call reply caller (Ok posts) e f g h = accepts_call setup t next worker number moment call reply caller posts.items e f g h
accepts_result setup t next worker number moment call reply caller (Err refusal) e f g h = tt

refuses_call : (setup : Setup) (t : Table) (worker number : ℕ) (moment : Moment) (call : Call) (reply : Reply) (caller : Caller) (refusal : Apply) → caller_of setup (view t) worker number moment ≡ Some caller
    → DiffersFrom reply (outcome setup (view t) caller call).reply refusal → Refuses setup worker (Called number moment call reply) t refusal
refuses_call setup t worker number moment call reply caller (refusals.Differs given) e h = (answer_is setup t worker number moment call caller e ∙ ap (λ (r : Reply). Some r) h.0, h.1)
refuses_call setup t worker number moment call reply caller (refusals.NotAlive named) e h = absurd h
refuses_call setup t worker number moment call reply caller refusals.OutOfMemory e h = tt

pub refuses_result : (setup : Setup) (t : Table) (worker number : ℕ) (moment : Moment) (call : Call) (reply : Reply) (caller : Caller) (r : Result (Vec Post) Apply) → caller_of setup (view t) worker number moment ≡ Some caller
    → IfErr r (DiffersFrom reply (outcome setup (view t) caller call).reply) → IfErr r (Refuses setup worker (Called number moment call reply) t)
refuses_result setup t worker number moment call reply caller (Ok posts) e h = tt
refuses_result setup t worker number moment call reply caller (Err refusal) e h = refuses_call setup t worker number moment call reply caller refusal e h

death_is : (setup : Setup) (t : Table) (worker : ℕ) (moment : Moment) (caller : Caller) → caller_of setup (view t) worker 0 moment ≡ Some caller
    → death_of setup (view t) worker moment ≡ Some (conclude (view t) (end_of_session (view t) caller.sid moment []))
death_is setup t worker moment caller e = ap (option_map (λ (c : Caller). conclude (view t) (end_of_session (view t) c.sid moment []))) e

pub accepts_death : (setup : Setup) (t next : Table) (by worker : ℕ) (moment : Moment) (caller : Caller) (posts : List Post)
    → caller_of setup (view t) worker 0 moment ≡ Some caller
    → next ≡ perform_all (conclude (view t) (end_of_session (view t) caller.sid moment [])).changes t → posts ≡ (conclude (view t) (end_of_session (view t) caller.sid moment [])).posts
    → Accepts setup by (Died worker moment) t next posts
accepts_death setup t next by worker moment caller posts e g h =
    let known = death_is setup t worker moment caller e in
    record {
      answers = subst IsSome (sym known) refl;
      table = g ∙ ap (λ o. perform_all (option_map_or (λ (done : Outcome). done.changes) o []) t) (sym known);
      posts_are = h ∙ ap (λ o. option_map_or (λ (done : Outcome). done.posts) o []) (sym known);
    }

-- a caller lives
pub lives_if : (setup : Setup) (t : Table) (worker number : ℕ) (moment : Moment) (o : Option Caller) → o ≡ caller_of setup (view t) worker number moment → IfSome o (λ caller. lives (view t) caller.sid ≡ true)
lives_if setup t worker number moment None e = tt
lives_if setup t worker number moment (Some caller) e = (is_caller_of setup t worker number moment caller (sym e)).alive

pub conclude-reply : (v : View) (d : Decision) → (conclude v d).reply ≡ d.reply
unfolding conclude
conclude-reply v d = refl

pub settled_if_start : (setup : Setup) (t : Table) → t ≡ start setup → settle t ≡ t
settled_if_start setup t e = ap settle e ∙ start-settled setup ∙ sym e

-- a table that has taken an entry, or refused it, is settled as before
pub settled_then : (setup : Setup) (by : ℕ) (event : Event) (t next : Table) (r : Result (Vec Post) Apply) → IfOk r (λ posts. Accepts setup by event t next posts.items) → OnErr r (next ≡ t) → settle t ≡ t → settle next ≡ next
settled_then setup by event t next (Ok posts) taken same s = let is : next ≡ after_event setup t by event = taken.table in ap settle is ∙ after_event-settled setup t by event s ∙ sym is
settled_then setup by event t next (Err refusal) taken same s = let is : next ≡ t = same in ap settle is ∙ s ∙ sym is
