-- What each entry of a legal history finds: a table that its changes fit, and numbers below its own.
use Rattle.std.proofs.Common.{◌≡◌, ◌==◌, ◌≤◌, ◌<◌, ℕ, cond, List, [], ◌∷◌, ◌++◌, Option, Some, None, refl, sym, ap, ◌∙◌, subst, arith}
use Rattle.std.specs.Option.{option_map, option_map_or}
use Rattle.sid_core.specs.declared.ids.Moment.{Moment}
use Rattle.sid_core.specs.declared.call.Call.{Call}
use Rattle.sid_core.specs.declared.reply.Reply.{Reply}
use Rattle.sid_core.specs.declared.entry.Entry.{Entry}
use Rattle.sid_core.specs.declared.entry.Event.{Event}
use Rattle.sid_core.specs.declared.entry.Event.TheVariants.{Called, Died, Tidied}
use Rattle.sid_core.specs.declared.setup.Setup.{Setup}
use Rattle.sid_core.specs.declared.setup.WorkerInfo.{WorkerInfo}
use Rattle.sid_core.specs.Setup.{IsSetup}
use Rattle.serial_table.specs.declared.table.Table.{Table}
use Rattle.serial_table.specs.declared.decision.Caller.{Caller}
use Rattle.serial_table.specs.View.{view}
use Rattle.serial_table.specs.Decision.{Outcome, conclude}
use Rattle.serial_table.specs.Session.{end_of_session}
use Rattle.serial_table.specs.Decide.{decide, outcome}
use Rattle.serial_table.specs.Expire.{expired_by}
use Rattle.serial_table.specs.Step.{caller_of, declared_at, changes_of}
use Rattle.sid_core.specs.Counting.{RisesAbove}
use Rattle.serial_table.specs.History.{start, after, IsLegalCall, IsLegalEvent, IsLegal, call_number, numbers_of}
use Rattle.serial_table.specs.Sound.{AllFit, AreBelow}
use Rattle.serial_table.proofs.Members.{all_by}
use Rattle.serial_table.specs.declared.change.Change.{Change}
use Rattle.serial_table.proofs.Views.{view-perform_all}
use Rattle.serial_table.proofs.Fitting.{fit_append}
use Rattle.serial_table.proofs.Expiring.{behind, caller_behind}
use Rattle.serial_table.proofs.ExpiringFits.{expired_fits}
use Rattle.serial_table.proofs.Callers.{IsCallerOf, is_caller_of}
use Rattle.serial_table.proofs.Numbered.{IsNumbered}
use Rattle.serial_table.proofs.Along.{right_call, Rises, rises_at, along_before, legal_before}
use Rattle.serial_table.proofs.Soundness.{IsReached, call_fits, dying_fits, expiries_reach, calls_reach, deaths_reach, start_reached}

-- the table before an entry is reached, and the entry's number is above the last one of its worker
reached_before : (setup : Setup) (before later : List Entry) (entry : Entry) → IsSetup setup → IsLegal setup (before ++ entry ∷ later)
    → (low : ℕ → ℕ) × IsReached low (after setup before) × Rises setup low (entry ∷ later)
reached_before setup before later entry s legal =
    along_before setup s IsReached (expiries_reach setup) (calls_reach setup) (deaths_reach setup) (λ pid. 0) (start setup) before (entry ∷ later) (start_reached setup s)
    (legal_before setup (start setup) before later entry legal.entries).0 (λ worker info d. legal.rising worker)

-- ---- the changes of an entry fit

called_fits : (setup : Setup) (low : ℕ → ℕ) (t : Table) (by number : ℕ) (moment : Moment) (call : Call) (reply : Reply) (o : Option Caller) → IsReached low t → IsLegalCall setup t by number moment call reply
    → caller_of setup (view t) by number moment ≡ o → ((caller : Caller) → IsCallerOf setup t by number moment caller → low caller.sid.pid < number)
    → AllFit (option_map_or (λ (done : Outcome). done.changes) (option_map (λ caller. outcome setup (view t) caller call) o) []) t
called_fits setup low t by number moment call reply None r legal is above = tt
called_fits setup low t by number moment call reply (Some caller) r legal is above =
    let of = is_caller_of setup t by number moment caller is in
    let first : List Change = expired_by setup (view t) caller call in
    let u : Table = behind setup t caller call in
    let there = is_caller_of setup u by number moment caller (caller_behind setup t caller call by number moment ∙ is) in
    let later : AllFit (conclude (view u) (decide setup (view u) caller call)).changes u =
    call_fits setup low u by number moment call caller (expiries_reach setup low t caller call r) (right_call setup t by number moment call reply legal) there (above caller of) in
    fit_append first _ t (expired_fits setup t caller call r.consistent) (subst (λ v. AllFit (conclude v (decide setup v caller call)).changes u) (view-perform_all first t) later)

died_fits : (setup : Setup) (low : ℕ → ℕ) (t : Table) (worker : ℕ) (moment : Moment) (o : Option Caller) → IsReached low t → caller_of setup (view t) worker 0 moment ≡ o
    → AllFit (option_map_or (λ (done : Outcome). done.changes) (option_map (λ (caller : Caller). conclude (view t) (end_of_session (view t) caller.sid moment [])) o) []) t
died_fits setup low t worker moment None r is = tt
died_fits setup low t worker moment (Some caller) r is = dying_fits low t caller moment r (is_caller_of setup t worker 0 moment caller is).alive

number_above : (setup : Setup) (low : ℕ → ℕ) (t : Table) (by number : ℕ) (moment : Moment) (rest : List Entry) (caller : Caller) → IsCallerOf setup t by number moment caller
    → ((x : ℕ) (info : WorkerInfo) → declared_at setup.workers x ≡ Some info → RisesAbove (low info.pid) (cond (by == x) (number ∷ []) [] ++ numbers_of x rest)) → low caller.sid.pid < number
number_above setup low t by number moment rest caller of rises =
    subst (λ pid. low pid < number) (sym of.pid) (rises_at (low of.info.pid) by number (numbers_of by rest) (by == by) refl (rises by of.info of.declared))

event_fits : (setup : Setup) (low : ℕ → ℕ) (t : Table) (by : ℕ) (event : Event) (rest : List Entry) → IsReached low t → IsLegalEvent setup t by event
    → ((x : ℕ) (info : WorkerInfo) → declared_at setup.workers x ≡ Some info → RisesAbove (low info.pid) (cond (by == x) (call_number event) [] ++ numbers_of x rest)) → AllFit (changes_of setup (view t) by event) t
event_fits setup low t by (Called number moment call reply) rest r legal rises =
    called_fits setup low t by number moment call reply (caller_of setup (view t) by number moment) r legal refl (λ caller of. number_above setup low t by number moment rest caller of rises)
event_fits setup low t by (Died worker moment) rest r legal rises = died_fits setup low t worker moment (caller_of setup (view t) worker 0 moment) r refl
event_fits setup low t by (Tidied chain) rest r legal rises = tt

pub entry_fits : (setup : Setup) (before later : List Entry) (entry : Entry) → IsSetup setup → IsLegal setup (before ++ entry ∷ later) → AllFit (changes_of setup (view (after setup before)) entry.by entry.what) (after setup before)
entry_fits setup before later entry s legal =
    let reached = reached_before setup before later entry s legal in
    event_fits setup reached.0 (after setup before) entry.by entry.what later reached.1 (legal_before setup (start setup) before later entry legal.entries).1 reached.2

-- ---- the numbers before a call are below its own

below : (low : ℕ → ℕ) (t : Table) (number pid : ℕ) → IsNumbered low t → low pid < number → AreBelow number pid t
below low t number pid n above =
    let lower : (own k : ℕ) → k ≤ low own → own ≡ pid → k < number = λ own k h e. let same : low own ≡ low pid = ap low e in omega arith in
    record {
      ids = all_by (λ o. o.id.pid ≡ pid → o.id.call < number) t.opens (λ o i. lower o.id.pid o.id.call (n.opens o i).id);
      handles = all_by (λ o. o.owner.pid ≡ pid → o.handle < number) t.opens (λ o i. lower o.owner.pid o.handle (n.opens o i).handle);
      calls = all_by (λ w. w.sid.pid ≡ pid → w.call < number) t.waiters (λ w i. lower w.sid.pid w.call (n.waiters w i).call);
    }

pub call_is_new : (setup : Setup) (before later : List Entry) (by seq number : ℕ) (moment : Moment) (call : Call) (reply : Reply) (caller : Caller) → IsSetup setup
    → IsLegal setup (before ++ (record { by = by; seq = seq; what = Called number moment call reply }) ∷ later) → caller_of setup (view (after setup before)) by number moment ≡ Some caller
    → AreBelow number caller.sid.pid (after setup before)
call_is_new setup before later by seq number moment call reply caller s legal is =
    let reached = reached_before setup before later (record { by = by; seq = seq; what = Called number moment call reply }) s legal in
    let t = after setup before in
    below reached.0 t number caller.sid.pid reached.1.numbered (number_above setup reached.0 t by number moment later caller (is_caller_of setup t by number moment caller is) reached.2)
