-- What is made after a table has settled leaves it settled.
use Rattle.std.proofs.Common.{◌≡◌, ◌==◌, ◌&&◌, ℕ, Bool, true, false, List, [], ◌∷◌, ◌++◌, map, Option, Some, None, refl, sym, ap, ◌∙◌}
use Rattle.std.proofs.lemmas.Bool.{and_parts, and_from}
use Rattle.std.proofs.lemmas.List.Folds.{list_all-append, list_all-map}
use Rattle.std.specs.List.{list_all}
use Rattle.sid_core.specs.declared.ids.Sid.{Sid}
use Rattle.sid_core.specs.declared.entry.Post.{Post}
use Rattle.sid_core.specs.declared.setup.Setup.{Setup}
use Rattle.serial_table.specs.declared.rows.WaiterRow.{WaiterRow}
use Rattle.serial_table.specs.declared.rows.Watch.{Watch}
use Rattle.serial_table.specs.declared.table.Table.{Table}
use Rattle.serial_table.specs.declared.change.Change.{Change}
use Rattle.serial_table.specs.declared.change.Change.TheVariants as c
use Rattle.serial_table.specs.declared.decision.Decision.{Decision}
use Rattle.serial_table.specs.View.{View, view, lives}
use Rattle.serial_table.specs.Settle.{settle, settle_where}
use Rattle.serial_table.specs.Change.{perform, perform_all}
use Rattle.serial_table.specs.Decision.{conclude, settling, finishing, waits_now, waits_no_more, woken_by}
use Rattle.serial_table.specs.Local.{all_in}
use Rattle.serial_table.specs.History.{start}
use Rattle.serial_table.proofs.Every.{all_pass}
use Rattle.serial_table.proofs.Settled.{settle-settle, settle_after}

-- ---- what all changes of an outcome have

-- a test that every change passes that is made once the table has settled
pub record PassesFinishing (p : Change → Bool) : Type 0 where
  pub comes : (waiter : WaiterRow) → p (c.AddWaiter waiter) ≡ true
  pub goes : (sid : Sid) (call : ℕ) → p (c.DropWaiter sid call) ≡ true
  pub sent : (post : Post) → p (c.Send post) ≡ true

waits_now_all : (p : Change → Bool) → PassesFinishing p → (waits : Option WaiterRow) → list_all p (waits_now waits) ≡ true
waits_now_all p h None = refl
waits_now_all p h (Some waiter) = and_from (p (c.AddWaiter waiter)) true (h.comes waiter) refl

pub no_more_all : (p : Change → Bool) → PassesFinishing p → (watches : List Watch) → list_all p (map waits_no_more watches) ≡ true
no_more_all p h watches = list_all-map p waits_no_more watches ∙ all_pass (λ watch. p (waits_no_more watch)) (λ watch. h.goes watch.sid watch.call) watches

pub finishing_all : (p : Change → Bool) → PassesFinishing p → (woken : List Watch) (waits : Option WaiterRow) (posts : List Post) → list_all p (finishing woken waits posts) ≡ true
finishing_all p h woken waits posts =
    let send = λ (post : Post). c.Send post in
    let letters = list_all-map p send posts ∙ all_pass (λ post. p (send post)) h.sent posts in
    list_all-append p (map waits_no_more woken) (waits_now waits ++ map send posts)
    ∙ and_from (list_all p (map waits_no_more woken)) (list_all p (waits_now waits ++ map send posts)) (no_more_all p h woken)
    (list_all-append p (waits_now waits) (map send posts) ∙ and_from (list_all p (waits_now waits)) (list_all p (map send posts)) (waits_now_all p h waits) letters)

-- the changes of an outcome have what those of the decision have, Settle, and each waiter and letter
pub conclude_all : (p : Change → Bool) → PassesFinishing p → p c.Settle ≡ true → (v : View) (d : Decision) → list_all p d.changes ≡ true → list_all p (conclude v d).changes ≡ true
unfolding conclude
conclude_all p h s v d e =
    let woken = woken_by v d in
    let posts = (conclude v d).posts in
    list_all-append p (settling d) (finishing woken d.waits posts)
    ∙ and_from (list_all p (settling d)) (list_all p (finishing woken d.waits posts))
    (list_all-append p d.changes (c.Settle ∷ []) ∙ and_from (list_all p d.changes) (p c.Settle && true) e (and_from (p c.Settle) true s refl))
    (finishing_all p h woken d.waits posts)

-- ---- changes that touch no open, lease, range or worker

abbrev pub leaves_files : Change → Bool
leaves_files (c.AddHold hold) = true
leaves_files (c.SetHold key owner mode) = true
leaves_files (c.DropHold key owner) = true
leaves_files (c.AddWaiter waiter) = true
leaves_files (c.DropWaiter sid call) = true
leaves_files (c.Send post) = true
leaves_files (c.TakeLetter to) = true
leaves_files _ = false

-- a settled table stays settled
one_stays_settled : (change : Change) (t : Table) → leaves_files change ≡ true → settle t ≡ t → settle (perform change t) ≡ perform change t
unfolding settle_where
one_stays_settled (c.AddHold hold) t e s = ap (perform (c.AddHold hold)) s
one_stays_settled (c.SetHold key owner mode) t e s = ap (perform (c.SetHold key owner mode)) s
one_stays_settled (c.DropHold key owner) t e s = ap (perform (c.DropHold key owner)) s
one_stays_settled (c.AddWaiter waiter) t e s = ap (perform (c.AddWaiter waiter)) s
one_stays_settled (c.DropWaiter sid call) t e s = ap (perform (c.DropWaiter sid call)) s
one_stays_settled (c.Send post) t e s = ap (perform (c.Send post)) s
one_stays_settled (c.TakeLetter to) t e s = ap (perform (c.TakeLetter to)) s
one_stays_settled (c.AddOpen row) t e s = absurd cc
one_stays_settled (c.DropOpen file id) t e s = absurd cc
one_stays_settled (c.TakeOver file id owner handle) t e s = absurd cc
one_stays_settled (c.AddLease lease) t e s = absurd cc
one_stays_settled (c.SetLease file name held breaking) t e s = absurd cc
one_stays_settled (c.Acknowledge file name state) t e s = absurd cc
one_stays_settled (c.AddRange range) t e s = absurd cc
one_stays_settled (c.DropRange range) t e s = absurd cc
one_stays_settled (c.AddPending file) t e s = absurd cc
one_stays_settled (c.DropPending file) t e s = absurd cc
one_stays_settled (c.EndSession sid moment) t e s = absurd cc
one_stays_settled (c.NextSession sid moment) t e s = absurd cc
one_stays_settled c.Settle t e s = absurd cc

pub stays_settled : (cs : List Change) (t : Table) → list_all leaves_files cs ≡ true → settle t ≡ t → settle (perform_all cs t) ≡ perform_all cs t
stays_settled [] t e s = s
stays_settled (change ∷ cs) t e s =
    let both = and_parts (leaves_files change) (list_all leaves_files cs) e in
    stays_settled cs (perform change t) both.1 (one_stays_settled change t both.0 s)

pub perform_all-append : (cs ds : List Change) (t : Table) → perform_all (cs ++ ds) t ≡ perform_all ds (perform_all cs t)
perform_all-append [] ds t = refl
perform_all-append (change ∷ cs) ds t = perform_all-append cs ds (perform change t)

-- what is made once the table has settled
abbrev pub after_settling : Table → Decision → List Change
after_settling t d = finishing (woken_by (view t) d) d.waits (conclude (view t) d).posts

-- the decision's changes are made, the table settles, and the others are made
pub concluded_is : (d : Decision) (t : Table) → perform_all (conclude (view t) d).changes t ≡ perform_all (after_settling t d) (settle (perform_all d.changes t))
unfolding conclude
concluded_is d t = perform_all-append (settling d) (after_settling t d) t ∙ ap (perform_all (after_settling t d)) (perform_all-append d.changes (c.Settle ∷ []) t)

-- where the table is settled before changes of one file, that file alone has to settle
pub concluded_in_file : (file : ℕ) (d : Decision) (t : Table) → settle t ≡ t → all_in (lives (view t)) file d.changes ≡ true
    → perform_all (conclude (view t) d).changes t ≡ perform_all (after_settling t d) (settle_where (λ g. g == file) (perform_all d.changes t))
concluded_in_file file d t s e = concluded_is d t ∙ ap (perform_all (after_settling t d)) (settle_after file d.changes t s e)

-- a table is settled after what a decision comes to
pub concluded_is_settled : (d : Decision) (t : Table) → settle (perform_all (conclude (view t) d).changes t) ≡ perform_all (conclude (view t) d).changes t
concluded_is_settled d t =
    let leaves = finishing_all leaves_files (record { comes = λ _. refl; goes = λ _ _. refl; sent = λ _. refl }) (woken_by (view t) d) d.waits (conclude (view t) d).posts in
    ap settle (concluded_is d t) ∙ stays_settled (after_settling t d) (settle (perform_all d.changes t)) leaves (settle-settle (perform_all d.changes t)) ∙ sym (concluded_is d t)

-- ---- tables of histories

pub start-settled : (setup : Setup) → settle (start setup) ≡ start setup
unfolding settle_where
start-settled setup = refl
