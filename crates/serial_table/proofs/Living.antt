-- Who lives after the workers have changed.
use Rattle.std.proofs.Common.{◌≤◌, arith, sym, ◌≡◌, ◌==◌, ◌&&◌, ◌+◌, ℕ, Bool, true, false, List, map, Option, Some, None, find, refl, ap, ◌∙◌, eq-eqb}
use Rattle.std.specs.Prelude.{nat_le}
use Rattle.std.specs.List.{IsDistinct, list_any}
use Rattle.std.specs.Option.{option_map, option_map_or}
use Rattle.std.proofs.lemmas.Bool.{eqb-true, and_parts, and_from, and_right, cond-false, cond_both, both_ways, le-leb, leb-true}
use Rattle.sid_core.specs.declared.ids.Sid.{Sid}
use Rattle.sid_core.specs.declared.ids.Moment.{Moment}
use Rattle.sid_core.specs.Ids.{same_sid}
use Rattle.serial_table.specs.declared.rows.WorkerRow.{WorkerRow}
use Rattle.serial_table.specs.View.{has_pid}
use Rattle.serial_table.specs.Change.{end_session, begin_session}
use Rattle.serial_table.proofs.Filters.{find-map}
use Rattle.serial_table.proofs.Views.{pid-end_session, pid-begin_session}
use Rattle.serial_table.proofs.Members.{IsIn, found_in, none_of, any_none, in_map, one_in}
use Rattle.serial_table.proofs.SameIds.{eqb-flip}
use Rattle.serial_table.specs.Sound.{have_same_pid}

-- the session is the current one of a living worker among these
abbrev pub lives_among : List WorkerRow → Sid → Bool
lives_among workers sid = option_map_or (λ worker. worker.alive && (worker.session == sid.session)) (find (has_pid sid.pid) workers) false

-- the row of a session that lives
pub record IsRowOf (workers : List WorkerRow) (sid : Sid) (worker : WorkerRow) : Type 0 where
  pub found : find (has_pid sid.pid) workers ≡ Some worker
  pub within : IsIn worker workers
  pub alive : worker.alive ≡ true
  pub session : worker.session ≡ sid.session
  pub pid : worker.pid ≡ sid.pid

row_found : (workers : List WorkerRow) (sid : Sid) (o : Option WorkerRow) → find (has_pid sid.pid) workers ≡ o
    → option_map_or (λ worker. worker.alive && (worker.session == sid.session)) o false ≡ true → (worker : WorkerRow) × IsRowOf workers sid worker
row_found workers sid None f e = absurd cc
row_found workers sid (Some worker) f e =
    let here = found_in (has_pid sid.pid) workers worker f in
    let both = and_parts worker.alive (worker.session == sid.session) e in (
      worker,
      record { found = f; within = here.0; alive = both.0; session = eqb-true worker.session sid.session both.1; pid = eqb-true worker.pid sid.pid here.1 },
    )

pub row_of : (workers : List WorkerRow) (sid : Sid) → lives_among workers sid ≡ true → (worker : WorkerRow) × IsRowOf workers sid worker
row_of workers sid e = row_found workers sid (find (has_pid sid.pid) workers) refl e

-- A map of the workers that leaves a session's row alone leaves it living.
pub still_lives : (f : WorkerRow → WorkerRow) → ((worker : WorkerRow) → (f worker).pid ≡ worker.pid) → (workers : List WorkerRow) (sid : Sid)
    → ((worker : WorkerRow) → IsRowOf workers sid worker → f worker ≡ worker) → lives_among workers sid ≡ true → lives_among (map f workers) sid ≡ true
still_lives f pids workers sid same e =
    let row = row_of workers sid e in
    let found : find (has_pid sid.pid) (map f workers) ≡ option_map f (find (has_pid sid.pid) workers) =
    find-map (has_pid sid.pid) f (λ worker. ap (λ pid. pid == sid.pid) (pids worker)) workers in
    ap (λ o. option_map_or (λ (worker : WorkerRow). worker.alive && (worker.session == sid.session)) o false) (found ∙ ap (option_map f) row.1.found)
    ∙ ap (λ (worker : WorkerRow). worker.alive && (worker.session == sid.session)) (same row.0 row.1)
    ∙ and_from row.0.alive (row.0.session == sid.session) row.1.alive (eq-eqb row.0.session sid.session row.1.session)

-- Where a session ends, all others that lived live on.
pub lives-end_session : (workers : List WorkerRow) (ending sid : Sid) → same_sid sid ending ≡ false → lives_among workers sid ≡ true → lives_among (map (end_session ending) workers) sid ≡ true
unfolding end_session
lives-end_session workers ending sid other e =
    still_lives (end_session ending) (pid-end_session ending) workers sid
    (λ worker row. cond-false ((worker.pid == ending.pid) && (worker.session == ending.session)) (record worker { alive = false }) worker
    ((λ i. (row.pid i == ending.pid) && (row.session i == ending.session)) ∙ other)) e

not_this : (pid : ℕ) (worker : WorkerRow) (b : Bool) → (worker.pid == pid) ≡ b → (b && worker.alive) ≡ false → worker.alive ≡ true → b ≡ false
not_this pid worker true e none alive = absurd (both_ways worker.alive none alive)
not_this pid worker false e none alive = refl

-- Where a session of a worker begins that doesn't live, all that lived live on.
pub lives-begin_session : (workers : List WorkerRow) (after : Sid) (moment : Moment) (sid : Sid) → list_any (λ worker. has_pid after.pid worker && worker.alive) workers ≡ false
    → lives_among workers sid ≡ true → lives_among (map (begin_session after moment) workers) sid ≡ true
unfolding begin_session
lives-begin_session workers after moment sid none e =
    still_lives (begin_session after moment) (pid-begin_session after moment) workers sid
    (λ worker row. cond-false ((worker.pid == after.pid) && (worker.session == after.session)) (record worker { alive = true; session = after.session + 1; connected = moment }) worker
    (ap (λ b. b && (worker.session == after.session)) (not_this after.pid worker (worker.pid == after.pid) refl (none_of (λ w. has_pid after.pid w && w.alive) workers none worker row.within) row.alive))) e

-- ---- sessions that workers have had

-- the worker among these has had this session
abbrev pub had_among : List WorkerRow → Sid → Bool
had_among workers sid = option_map_or (λ worker. nat_le sid.session worker.session) (find (has_pid sid.pid) workers) false

-- who lives is a session that its worker has had
pub lives_had : (workers : List WorkerRow) (sid : Sid) → lives_among workers sid ≡ true → had_among workers sid ≡ true
lives_had workers sid e =
    let row = row_of workers sid e in
    ap (λ o. option_map_or (λ (worker : WorkerRow). nat_le sid.session worker.session) o false) row.1.found
    ∙ le-leb sid.session row.0.session (let same : row.0.session ≡ sid.session = row.1.session in omega arith)

had_on : (f : WorkerRow → WorkerRow) (sid : Sid) → ((worker : WorkerRow) → worker.session ≤ (f worker).session) → (o : Option WorkerRow)
    → option_map_or (λ worker. nat_le sid.session worker.session) o false ≡ true → option_map_or (λ worker. nat_le sid.session worker.session) (option_map f o) false ≡ true
had_on f sid more None e = e
had_on f sid more (Some worker) e =
    let up : worker.session ≤ (f worker).session = more worker in
    let old : sid.session ≤ worker.session = leb-true sid.session worker.session e in
    le-leb sid.session (f worker).session (omega arith)

still_had : (f : WorkerRow → WorkerRow) → ((worker : WorkerRow) → (f worker).pid ≡ worker.pid) → ((worker : WorkerRow) → worker.session ≤ (f worker).session) → (workers : List WorkerRow) (sid : Sid)
    → had_among workers sid ≡ true → had_among (map f workers) sid ≡ true
still_had f pids more workers sid e =
    ap (λ o. option_map_or (λ (worker : WorkerRow). nat_le sid.session worker.session) o false) (find-map (has_pid sid.pid) f (λ worker. ap (λ pid. pid == sid.pid) (pids worker)) workers)
    ∙ had_on f sid more (find (has_pid sid.pid) workers) e

pub had-end_session : (workers : List WorkerRow) (ending sid : Sid) → had_among workers sid ≡ true → had_among (map (end_session ending) workers) sid ≡ true
unfolding end_session
had-end_session workers ending sid e =
    still_had (end_session ending) (pid-end_session ending)
    (λ w. cond_both ((w.pid == ending.pid) && (w.session == ending.session)) (record w { alive = false }) w (λ (x : WorkerRow). w.session ≤ x.session) (λ _. omega arith) (λ _. omega arith)) workers sid e

pub had-begin_session : (workers : List WorkerRow) (after : Sid) (moment : Moment) (sid : Sid) → had_among workers sid ≡ true → had_among (map (begin_session after moment) workers) sid ≡ true
unfolding begin_session
had-begin_session workers after moment sid e =
    still_had (begin_session after moment) (pid-begin_session after moment)
    (λ w. cond_both ((w.pid == after.pid) && (w.session == after.session)) (record w { alive = true; session = after.session + 1; connected = moment }) w (λ (x : WorkerRow). w.session ≤ x.session)
    (λ h. let same = eqb-true w.session after.session (and_parts (w.pid == after.pid) (w.session == after.session) h).1 in omega (arith, same)) (λ _. omega arith)) workers sid e

-- Once the session of a worker has ended, none of its pid lives: the next one may begin.
pub none_lives : (workers : List WorkerRow) (sid : Sid) → IsDistinct have_same_pid workers → lives_among workers sid ≡ true → list_any (λ worker. has_pid sid.pid worker && worker.alive) (map (end_session sid) workers) ≡ false
unfolding end_session
none_lives workers sid differ live =
    any_none (λ worker. has_pid sid.pid worker && worker.alive) (map (end_session sid) workers) (λ worker i.
    let w = in_map (end_session sid) workers worker i in
    ap (λ (x : WorkerRow). has_pid sid.pid x && x.alive) (sym w.2) ∙ dead w.0 w.1 (w.0.pid == sid.pid) refl)
  where
    dead : (w : WorkerRow) → IsIn w workers → (b : Bool) → (w.pid == sid.pid) ≡ b → (has_pid sid.pid (end_session sid w) && (end_session sid w).alive) ≡ false
    dead w i true e =
        let row = row_of workers sid live in
        let same : row.0 ≡ w = one_in have_same_pid (λ a b. eqb-flip a.pid b.pid) workers differ row.0 w row.1.within i (eq-eqb row.0.pid w.pid (row.1.pid ∙ sym (eqb-true w.pid sid.pid e))) in
        let own : ((w.pid == sid.pid) && (w.session == sid.session)) ≡ true =
        and_from (w.pid == sid.pid) (w.session == sid.session) e (eq-eqb w.session sid.session (ap (λ (x : WorkerRow). x.session) (sym same) ∙ row.1.session)) in
        cond_both ((w.pid == sid.pid) && (w.session == sid.session)) (record w { alive = false }) w (λ (x : WorkerRow). (has_pid sid.pid x && x.alive) ≡ false)
        (λ _. and_right (w.pid == sid.pid) false refl) (λ f. absurd (both_ways ((w.pid == sid.pid) && (w.session == sid.session)) f own))
    dead w i false e =
        ap (λ pid. (pid == sid.pid) && (end_session sid w).alive) (pid-end_session sid w) ∙ ap (λ b. b && (end_session sid w).alive) e
