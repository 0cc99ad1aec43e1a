-- What expires before a call: it keeps who lives and whether the table is settled, and a call decides from the table behind it.
use Rattle.std.proofs.Common.{◌≡◌, ℕ, true, Bool, find, List, [], ◌∷◌, ◌++◌, map, filter, Option, Some, None, refl, sym, ap, ◌∙◌, subst}
use Rattle.std.specs.Prelude.{option_and_then, IfSome, IfNone, OnOk, OnErr, Result, Ok, Err}
use Rattle.std.specs.List.{list_all, flat_map}
use Rattle.std.specs.Option.{option_map, option_map_or}
use Rattle.std.proofs.lemmas.Bool.{and_from}
use Rattle.std.proofs.lemmas.List.Folds.{list_all-append, list_all-map}
use Rattle.sid_core.specs.declared.call.Call.{Call}
use Rattle.sid_core.specs.declared.entry.Entry.{Entry}
use Rattle.sid_core.specs.declared.entry.Event.{Event}
use Rattle.sid_core.specs.declared.entry.Event.TheVariants.{Called, Died, Tidied}
use Rattle.sid_core.specs.declared.ids.LeaseName.{LeaseName}
use Rattle.sid_core.specs.declared.ids.Moment.{Moment}
use Rattle.sid_core.specs.declared.setup.Setup.{Setup}
use Rattle.sid_core.specs.declared.setup.WorkerInfo.{WorkerInfo}
use Rattle.serial_table.specs.declared.rows.LeaseRow.{LeaseRow}
use Rattle.serial_table.specs.declared.table.Table.{Table}
use Rattle.serial_table.specs.declared.change.Change.{Change}
use Rattle.serial_table.specs.declared.change.Change.TheVariants as c
use Rattle.serial_table.specs.declared.decision.Caller.{Caller}
use Rattle.serial_table.specs.declared.decision.Decision.{Decision}
use Rattle.serial_table.specs.View.{View, view, lives, has_name, has_pid}
use Rattle.serial_table.specs.Settle.{settle}
use Rattle.serial_table.specs.Change.{perform_all}
use Rattle.serial_table.specs.Decision.{Outcome, conclude}
use Rattle.serial_table.specs.Session.{end_of_session}
use Rattle.serial_table.specs.History.{after_event, after_all}
use Rattle.serial_table.specs.Decide.{decide, outcome, outcome_behind}
use Rattle.serial_table.specs.Expire.{look, is_due, expires, due, then_settles, expired_by}
use Rattle.serial_table.specs.Step.{caller_of, caller_if_alive, declared_at}
use Rattle.serial_table.specs.InPlace.{lives_by}
use Rattle.serial_table.specs.Sound.{AllAlong}
use Rattle.std.proofs.lemmas.List.Elements.{filter-append}
use Rattle.serial_table.proofs.Filters.{filter-filter}
use Rattle.serial_table.proofs.Every.{all_pass}
use Rattle.serial_table.proofs.Members.{IsIn, in_filter, in_flat_map}
use Rattle.serial_table.proofs.Views.{view-perform_all}
use Rattle.serial_table.proofs.Settled.{settle-settle}
use Rattle.serial_table.proofs.Concluding.{perform_all-append, concluded_is_settled}
use Rattle.serial_table.proofs.SameWorkers.{keeps_workers, workers-perform_all}
use Rattle.serial_table.proofs.Fitting.{along_append, along_mapped}

-- the table behind what expires before a call
abbrev pub behind : Setup → Table → Caller → Call → Table
behind setup t caller call = perform_all (expired_by setup (view t) caller call) t

-- ---- a call decides from the table behind

module _ (first : List Change) (setup : Setup) (t : Table) (caller : Caller) (call : Call) where
  pub behind_table : perform_all (outcome_behind first setup (view t) caller call).changes t
      ≡ perform_all (conclude (view (perform_all first t)) (decide setup (view (perform_all first t)) caller call)).changes (perform_all first t)
  behind_table =
      perform_all-append first _ t
      ∙ ap (λ v. perform_all (conclude v (decide setup v caller call)).changes (perform_all first t)) (sym (view-perform_all first t))

  pub behind_reply : (outcome_behind first setup (view t) caller call).reply ≡ (conclude (view (perform_all first t)) (decide setup (view (perform_all first t)) caller call)).reply
  behind_reply = ap (λ v. (conclude v (decide setup v caller call)).reply) (sym (view-perform_all first t))

  pub behind_posts : (outcome_behind first setup (view t) caller call).posts ≡ (conclude (view (perform_all first t)) (decide setup (view (perform_all first t)) caller call)).posts
  behind_posts = ap (λ v. (conclude v (decide setup v caller call)).posts) (sym (view-perform_all first t))

pub outcome_table : (setup : Setup) (t : Table) (caller : Caller) (call : Call) → perform_all (outcome setup (view t) caller call).changes t
    ≡ perform_all (conclude (view (behind setup t caller call)) (decide setup (view (behind setup t caller call)) caller call)).changes (behind setup t caller call)
outcome_table setup t caller call = behind_table (expired_by setup (view t) caller call) setup t caller call

-- ---- what holds of each change that it makes

-- what holds of each change of a lease and of settling
pub settles_all : (p : Change → Bool) → p c.Settle ≡ true → (cs : List Change) → list_all p cs ≡ true → list_all p (then_settles cs) ≡ true
settles_all p h [] e = refl
settles_all p h (change ∷ cs) e = list_all-append p (change ∷ cs) (c.Settle ∷ []) ∙ and_from (list_all p (change ∷ cs)) (list_all p (c.Settle ∷ [])) e (and_from (p c.Settle) true h refl)

pub settles_along : (Q : Change → Table → Type 0) → ((u : Table) → Q c.Settle u) → (cs : List Change) (t : Table) → AllAlong Q cs t → AllAlong Q (then_settles cs) t
settles_along Q h [] t a = a
settles_along Q h (change ∷ cs) t a = along_append Q (change ∷ cs) (c.Settle ∷ []) t a (h _, tt)

pub expired_all : (p : Change → Bool) → ((l : LeaseRow) → p (expires l) ≡ true) → p c.Settle ≡ true → (setup : Setup) (v : View) (caller : Caller) (call : Call) → list_all p (expired_by setup v caller call) ≡ true
unfolding expired_by
expired_all p each h setup v caller call = settles_all p h (map expires (due v caller.moment _)) (list_all-map p expires (due v caller.moment _) ∙ all_pass (λ l. p (expires l)) each (due v caller.moment _))

-- the leases that expire are of the table, and due
pub due_there : (t : Table) (now : Moment) (names : List LeaseName) (l : LeaseRow) → IsIn l (due (view t) now names) → IsIn l t.leases × (is_due now l ≡ true)
due_there t now names l i =
    let here = in_filter (is_due now) (flat_map (λ name. (view t).leases_of name) names) l i in
    let name = in_flat_map (λ name. (view t).leases_of name) names l here.0 in
    ((in_filter (has_name name.0) t.leases l name.2).0, here.1)

pub expired_along : (Q : Change → Table → Type 0) → ((u : Table) → Q c.Settle u) → (setup : Setup) (t : Table) (caller : Caller) (call : Call)
    → ((l : LeaseRow) → IsIn l t.leases → is_due caller.moment l ≡ true → (u : Table) → Q (expires l) u) → AllAlong Q (expired_by setup (view t) caller call) t
unfolding expired_by
expired_along Q h setup t caller call each =
    settles_along Q h (map expires (due (view t) caller.moment _)) t
    (along_mapped Q expires (due (view t) caller.moment _) t (λ l i. let here = due_there t caller.moment _ l i in each l here.0 here.1))

-- ---- the leases that are due, by a scan of the rows

due_named : (t : Table) (now : Moment) (names : List LeaseName) → flat_map (λ name. filter (has_name name) (filter (is_due now) t.leases)) names ≡ due (view t) now names
due_named t now [] = refl
due_named t now (name ∷ names) =
    (λ i. filter-filter (has_name name) (is_due now) t.leases i ++ due_named t now names i)
    ∙ sym (filter-append (is_due now) ((view t).leases_of name) (flat_map (λ name. (view t).leases_of name) names))

pub due_among : (t : Table) (now : Moment) (names : List LeaseName) (rows : List LeaseRow) → rows ≡ filter (is_due now) t.leases → flat_map (λ name. filter (has_name name) rows) names ≡ due (view t) now names
due_among t now names rows e = ap (λ rows. flat_map (λ name. filter (has_name name) rows) names) e ∙ due_named t now names

none_named : (names : List LeaseName) → flat_map (λ name. filter (has_name name) []) names ≡ []
none_named [] = refl
none_named (name ∷ names) = none_named names

pub none_due_among : (t : Table) (now : Moment) (names : List LeaseName) (rows : List LeaseRow) → rows ≡ filter (is_due now) t.leases → rows ≡ [] → rows ≡ due (view t) now names
none_due_among t now names rows e none =
    none ∙ sym (none_named names) ∙ ap (λ rows. flat_map (λ name. filter (has_name name) rows) names) (sym none) ∙ due_among t now names rows e

-- where some expire, the table settles after them
pub settles_if_some : (rows : List LeaseRow) (t : Table) → (rows ≡ [] → ⊥) → settle (perform_all (map expires rows) t) ≡ perform_all (then_settles (map expires rows)) t
settles_if_some [] t some = absurd (some refl)
settles_if_some (l ∷ rows) t some = sym (perform_all-append (map expires (l ∷ rows)) (c.Settle ∷ []) t)

pub some_expire : (setup : Setup) (t : Table) (caller : Caller) (call : Call) (rows : List LeaseRow) → rows ≡ due (view t) caller.moment (look setup (view t) caller call) → (rows ≡ [] → ⊥)
    → settle (perform_all (map expires rows) t) ≡ behind setup t caller call
unfolding expired_by
some_expire setup t caller call rows e some = settles_if_some rows t some ∙ ap (λ rows. perform_all (then_settles (map expires rows)) t) e

pub none_expire : (setup : Setup) (t : Table) (caller : Caller) (call : Call) (rows : List LeaseRow) → rows ≡ due (view t) caller.moment (look setup (view t) caller call) → rows ≡ [] → expired_by setup (view t) caller call ≡ []
unfolding expired_by
none_expire setup t caller call rows e none = ap (λ rows. then_settles (map expires rows)) (sym e ∙ none)

-- ---- what it keeps

pub expired_workers : (setup : Setup) (t : Table) (caller : Caller) (call : Call) → (behind setup t caller call).workers ≡ t.workers
expired_workers setup t caller call = workers-perform_all (expired_by setup (view t) caller call) t (expired_all keeps_workers (λ l. refl) refl setup (view t) caller call)

settles_settled : (cs : List Change) (t : Table) → settle t ≡ t → settle (perform_all (then_settles cs) t) ≡ perform_all (then_settles cs) t
settles_settled [] t s = s
settles_settled (change ∷ cs) t s =
    let is = perform_all-append (change ∷ cs) (c.Settle ∷ []) t in ap settle is ∙ settle-settle (perform_all (change ∷ cs) t) ∙ sym is

pub expired_settled : (setup : Setup) (t : Table) (caller : Caller) (call : Call) → settle t ≡ t → settle (behind setup t caller call) ≡ behind setup t caller call
unfolding expired_by
expired_settled setup t caller call s = settles_settled (map expires (due (view t) caller.moment _)) t s

pub caller_behind : (setup : Setup) (t : Table) (caller : Caller) (call : Call) (worker number : ℕ) (moment : Moment)
    → caller_of setup (view (behind setup t caller call)) worker number moment ≡ caller_of setup (view t) worker number moment
unfolding caller_of
caller_behind setup t caller call worker number moment =
    ap (λ workers. option_and_then (λ (info : WorkerInfo). option_and_then (caller_if_alive info number moment) (find (has_pid info.pid) workers)) (declared_at setup.workers worker))
    (expired_workers setup t caller call)

pub lives_behind : (setup : Setup) (t : Table) (caller : Caller) (call : Call) → lives (view t) caller.sid ≡ true → lives (view (behind setup t caller call)) caller.sid ≡ true
lives_behind setup t caller call alive = ap (λ workers. lives_by workers caller.sid) (expired_workers setup t caller call) ∙ alive

-- ---- tables of histories are settled

called_settled : (setup : Setup) (t : Table) (call : Call) (o : Option Caller) → settle t ≡ t
    → settle (perform_all (option_map_or (λ (done : Outcome). done.changes) (option_map (λ caller. outcome setup (view t) caller call) o) []) t)
    ≡ perform_all (option_map_or (λ (done : Outcome). done.changes) (option_map (λ caller. outcome setup (view t) caller call) o) []) t
called_settled setup t call None s = s
called_settled setup t call (Some caller) s =
    let u : Table = behind setup t caller call in
    ap settle (outcome_table setup t caller call) ∙ concluded_is_settled (decide setup (view u) caller call) u ∙ sym (outcome_table setup t caller call)

died_settled : (t : Table) (moment : Moment) (o : Option Caller) → settle t ≡ t
    → settle (perform_all (option_map_or (λ (done : Outcome). done.changes) (option_map (λ (caller : Caller). conclude (view t) (end_of_session (view t) caller.sid moment [])) o) []) t)
    ≡ perform_all (option_map_or (λ (done : Outcome). done.changes) (option_map (λ (caller : Caller). conclude (view t) (end_of_session (view t) caller.sid moment [])) o) []) t
died_settled t moment None s = s
died_settled t moment (Some caller) s = concluded_is_settled (end_of_session (view t) caller.sid moment []) t

-- a settled table is settled after each event
pub after_event-settled : (setup : Setup) (t : Table) (by : ℕ) (event : Event) → settle t ≡ t → settle (after_event setup t by event) ≡ after_event setup t by event
after_event-settled setup t by (Called number moment call reply) s = called_settled setup t call (caller_of setup (view t) by number moment) s
after_event-settled setup t by (Died worker moment) s = died_settled t moment (caller_of setup (view t) worker 0 moment) s
after_event-settled setup t by (Tidied chain) s = s

pub after_all-settled : (setup : Setup) (t : Table) (history : List Entry) → settle t ≡ t → settle (after_all setup t history) ≡ after_all setup t history
after_all-settled setup t [] s = s
after_all-settled setup t (entry ∷ history) s = after_all-settled setup (after_event setup t entry.by entry.what) history (after_event-settled setup t entry.by entry.what s)

-- ---- what the code knows of a call behind what expires

behind_copy : (setup : Setup) (t u : Table) (caller : Caller) (call : Call) → u ≡ behind setup t caller call
    → perform_all (outcome setup (view t) caller call).changes t ≡ perform_all (conclude (view u) (decide setup (view u) caller call)).changes u
behind_copy setup t u caller call e = outcome_table setup t caller call ∙ ap (λ (w : Table). perform_all (conclude (view w) (decide setup (view w) caller call)).changes w) (sym e)

pub behind_copy_reply : (setup : Setup) (t u : Table) (caller : Caller) (call : Call) → u ≡ behind setup t caller call → (outcome setup (view t) caller call).reply ≡ (decide setup (view u) caller call).reply
unfolding conclude
behind_copy_reply setup t u caller call e = behind_reply (expired_by setup (view t) caller call) setup t caller call ∙ ap (λ (w : Table). (decide setup (view w) caller call).reply) (sym e)

behind_copy_posts : (setup : Setup) (t u : Table) (caller : Caller) (call : Call) → u ≡ behind setup t caller call
    → (outcome setup (view t) caller call).posts ≡ (conclude (view u) (decide setup (view u) caller call)).posts
behind_copy_posts setup t u caller call e = behind_posts (expired_by setup (view t) caller call) setup t caller call ∙ ap (λ (w : Table). (conclude (view w) (decide setup (view w) caller call)).posts) (sym e)

-- where none expires, the table itself is the one behind
pub itself_behind : (setup : Setup) (t : Table) (caller : Caller) (call : Call) → expired_by setup (view t) caller call ≡ [] → t ≡ behind setup t caller call
itself_behind setup t caller call none = sym (ap (λ cs. perform_all cs t) none)

-- what is known of the table at which the call is decided
pub record IsBehind (setup : Setup) (t u : Table) (caller : Caller) (call : Call) : Type 0 where
  pub settled : settle t ≡ t → settle u ≡ u
  pub lives : lives (view t) caller.sid ≡ true → lives (view u) caller.sid ≡ true
  pub changed : perform_all (outcome setup (view t) caller call).changes t ≡ perform_all (conclude (view u) (decide setup (view u) caller call)).changes u
  pub reply : (outcome setup (view t) caller call).reply ≡ (decide setup (view u) caller call).reply
  pub posts : (outcome setup (view t) caller call).posts ≡ (conclude (view u) (decide setup (view u) caller call)).posts

is_behind : (setup : Setup) (t u : Table) (caller : Caller) (call : Call) → u ≡ behind setup t caller call → IsBehind setup t u caller call
is_behind setup t u caller call is = record {
  settled = λ s. ap settle is ∙ expired_settled setup t caller call s ∙ sym is;
  lives = λ alive. ap (λ (w : Table). lives (view w) caller.sid) is ∙ lives_behind setup t caller call alive;
  changed = behind_copy setup t u caller call is;
  reply = behind_copy_reply setup t u caller call is;
  posts = behind_copy_posts setup t u caller call is;
}

-- a copy at which leases have expired
pub copy_is_behind : (setup : Setup) (t : Table) (caller : Caller) (call : Call) (o : Option Table) (u : Table) → o ≡ Some u → IfSome o (λ copy. copy ≡ behind setup t caller call) → IsBehind setup t u caller call
copy_is_behind setup t caller call o u e is = is_behind setup t u caller call (subst (λ o. IfSome o (λ copy. copy ≡ behind setup t caller call)) e is)

-- the table itself, where none expires
pub itself_is_behind : (setup : Setup) (t : Table) (caller : Caller) (call : Call) (o : Option Table) → o ≡ None → IfNone o (expired_by setup (view t) caller call ≡ []) → IsBehind setup t t caller call
itself_is_behind setup t caller call o e none = is_behind setup t t caller call (itself_behind setup t caller call (subst (λ o. IfNone o (expired_by setup (view t) caller call ≡ [])) e none))

-- a call is carried out, or refused
pub settled_either : {V E : Type 0} (r : Result V E) (d : Decision) (t next : Table) → OnOk r (next ≡ perform_all (conclude (view t) d).changes t) → OnErr r (next ≡ t) → settle t ≡ t → settle next ≡ next
settled_either (Ok v) d t next done same s = let is : next ≡ perform_all (conclude (view t) d).changes t = done in ap settle is ∙ concluded_is_settled d t ∙ sym is
settled_either (Err e) d t next done same s = let is : next ≡ t = same in ap settle is ∙ s ∙ sym is
