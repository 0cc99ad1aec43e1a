-- Which workers are declared, and which calls leave the workers as they are.
use Rattle.std.proofs.Common.{◌≡◌, ◌==◌, ◌<◌, ◌≤◌, ℕ, zero, suc, length, arith, Bool, true, false, cond, List, [], ◌∷◌, ◌++◌, find, map, Option, Some, refl, ap, ◌∙◌, eq-eqb}
use Rattle.std.specs.Prelude.{slice_get}
use Rattle.std.specs.List.{list_all}
use Rattle.std.specs.Option.{option_map_or}
use Rattle.sid_core.specs.declared.setup.WorkerInfo.{WorkerInfo}
use Rattle.sid_core.specs.Setup.{IsDeclared}
use Rattle.serial_table.specs.declared.rows.WorkerRow.{WorkerRow}
use Rattle.serial_table.specs.declared.table.Table.{Table}
use Rattle.serial_table.specs.declared.decision.Decision.{Decision}
use Rattle.serial_table.specs.View.{view, has_pid}
use Rattle.serial_table.specs.Wake.{wake}
use Rattle.serial_table.specs.Change.{perform_all}
use Rattle.serial_table.specs.Decision.{settling, finishing, woken_by, conclude}
use Rattle.serial_table.specs.Step.{declared_at}
use Rattle.serial_table.specs.History.{start_worker, start_workers}
use Rattle.serial_table.proofs.Concluding.{PassesFinishing, finishing_all, conclude_all, perform_all-append}
use Rattle.serial_table.proofs.SameWorkers.{keeps_workers, workers-perform_all}

-- ---- what is found at the start

some_is : {A : Type 0} (x y : A) → ◌≡◌ {A = Option A} (Some x) (Some y) → x ≡ y
some_is x y e = cc

-- a declared worker lives
lives_here : (b : Bool) (n : ℕ) (info : WorkerInfo) (rest : Option WorkerRow) → option_map_or (λ (r : WorkerRow). r.alive) rest false ≡ true
    → option_map_or (λ (r : WorkerRow). r.alive) (cond b (Some (start_worker n info)) rest) false ≡ true
lives_here true n info rest later = refl
lives_here false n info rest later = later

lives_first : (b : Bool) (n : ℕ) (info : WorkerInfo) (rest : Option WorkerRow) → b ≡ true → option_map_or (λ (r : WorkerRow). r.alive) (cond b (Some (start_worker n info)) rest) false ≡ true
lives_first true n info rest e = refl
lives_first false n info rest e = absurd cc

declared_lives : (infos : List WorkerInfo) (n place : ℕ) (info : WorkerInfo) → slice_get infos place ≡ Some info
    → option_map_or (λ (r : WorkerRow). r.alive) (find (has_pid info.pid) (start_workers n infos)) false ≡ true
declared_lives [] n place info e = absurd cc
declared_lives (first ∷ infos) n zero info e =
    lives_first (first.pid == info.pid) n first (find (has_pid info.pid) (start_workers (suc n) infos)) (eq-eqb first.pid info.pid (ap (λ (i : WorkerInfo). i.pid) (some_is first info e)))
declared_lives (first ∷ infos) n (suc place) info e =
    lives_here (first.pid == info.pid) n first (find (has_pid info.pid) (start_workers (suc n) infos)) (declared_lives infos (suc n) place info e)

pub worker_lives : (infos : List WorkerInfo) (worker : ℕ) (info : WorkerInfo) → declared_at infos worker ≡ Some info
    → option_map_or (λ (r : WorkerRow). r.alive) (find (has_pid info.pid) (start_workers 1 infos)) false ≡ true
worker_lives infos zero info e = absurd cc
worker_lives infos (suc place) info e = declared_lives infos 1 place info e

declared_there : (infos : List WorkerInfo) (place : ℕ) → place < length infos → (info : WorkerInfo) × (slice_get infos place ≡ Some info)
declared_there [] place h = absurd (omega arith)
declared_there (info ∷ infos) zero h = (info, refl)
declared_there (info ∷ infos) (suc place) h = declared_there infos place (omega arith)

pub declared_is : (infos : List WorkerInfo) (worker : ℕ) → IsDeclared infos worker → (info : WorkerInfo) × (declared_at infos worker ≡ Some info)
declared_is infos zero h = absurd (let low : 1 ≤ 0 = h.0 in omega arith)
declared_is infos (suc place) h = declared_there infos place (let high : suc place ≤ length infos = h.1 in omega arith)

-- ---- what calls decide keeps the workers

pub keeps_waits : PassesFinishing keeps_workers
keeps_waits = record { comes = λ _. refl; goes = λ _ _. refl; sent = λ _. refl }

-- ---- the workers once a decision is concluded

pub concluded_workers : (d : Decision) (t : Table) → (perform_all (conclude (view t) d).changes t).workers ≡ (perform_all (settling d) t).workers
unfolding conclude
concluded_workers d t =
    let woken = woken_by (view t) d in
    let last = finishing woken d.waits (d.posts ++ map wake woken) in
    ap (λ (u : Table). u.workers) (perform_all-append (settling d) last t)
    ∙ workers-perform_all last (perform_all (settling d) t) (finishing_all keeps_workers keeps_waits woken d.waits (d.posts ++ map wake woken))

pub kept_workers : (d : Decision) (t : Table) → list_all keeps_workers d.changes ≡ true → (perform_all (conclude (view t) d).changes t).workers ≡ t.workers
kept_workers d t e = workers-perform_all (conclude (view t) d).changes t (conclude_all keeps_workers keeps_waits refl (view t) d e)
