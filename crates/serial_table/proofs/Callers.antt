-- Who calls: a declared worker whose session lives.
use Rattle.std.proofs.Common.{◌≡◌, ◌==◌, ◌&&◌, ℕ, zero, suc, Bool, true, false, cond, List, [], ◌∷◌, map, find, Option, Some, None, refl, sym, ap, ◌∙◌, eq-eqb}
use Rattle.std.specs.Prelude.{option_and_then, slice_get, nat_eq}
use Rattle.std.specs.List.{AllByRecursion, IsDistinct}
use Rattle.std.specs.Option.{option_map_or}
use Rattle.std.proofs.lemmas.Bool.{eqb-true, and_from, both_ways}
use Rattle.sid_core.specs.declared.ids.Moment.{Moment}
use Rattle.sid_core.specs.declared.setup.Setup.{Setup}
use Rattle.sid_core.specs.declared.setup.WorkerInfo.{WorkerInfo}
use Rattle.serial_table.specs.declared.rows.WorkerRow.{WorkerRow}
use Rattle.serial_table.specs.declared.table.Table.{Table}
use Rattle.serial_table.specs.declared.decision.Caller.{Caller}
use Rattle.serial_table.specs.View.{view, lives, has_pid}
use Rattle.serial_table.specs.Step.{caller_of, caller_if_alive, declared_at}
use Rattle.serial_table.proofs.Members.{found_in, some_same}

-- a caller of a declared worker, with its number and moment
pub record IsCallerOf (setup : Setup) (t : Table) (worker number : ℕ) (moment : Moment) (caller : Caller) : Type 0 where
  pub info : WorkerInfo
  pub declared : declared_at setup.workers worker ≡ Some info
  pub pid : caller.sid.pid ≡ info.pid
  pub alive : lives (view t) caller.sid ≡ true
  pub number_is : caller.number ≡ number
  pub moment_is : caller.moment ≡ moment
  pub guid_is : caller.guid ≡ info.guid

abbrev made : WorkerInfo → ℕ → Moment → WorkerRow → Caller
made info number moment row = record { sid = record { pid = row.pid; session = row.session }; guid = info.guid; number = number; moment = moment }

made_alive : (info : WorkerInfo) (number : ℕ) (moment : Moment) (row : WorkerRow) (b : Bool) (caller : Caller) → row.alive ≡ b
    → cond b (Some (record { sid = record { pid = row.pid; session = row.session }; guid = info.guid; number = number; moment = moment })) None ≡ Some caller
    → (row.alive ≡ true) × (made info number moment row ≡ caller)
made_alive info number moment row true caller a e = (a, some_same (made info number moment row) caller e)
made_alive info number moment row false caller a e = absurd cc

by_row : (setup : Setup) (t : Table) (worker number : ℕ) (moment : Moment) (caller : Caller) (info : WorkerInfo) (o : Option WorkerRow) → declared_at setup.workers worker ≡ Some info
    → find (has_pid info.pid) t.workers ≡ o → option_and_then (caller_if_alive info number moment) o ≡ Some caller → IsCallerOf setup t worker number moment caller
by_row setup t worker number moment caller info None d f e = absurd cc
by_row setup t worker number moment caller info (Some row) d f e =
    let is = made_alive info number moment row row.alive caller refl e in
    let own : row.pid ≡ info.pid = eqb-true row.pid info.pid (found_in (has_pid info.pid) t.workers row f).1 in
    let alive : lives (view t) (made info number moment row).sid ≡ true =
    ap (λ pid. option_map_or (λ (w : WorkerRow). w.alive && (w.session == row.session)) (find (has_pid pid) t.workers) false) own
    ∙ ap (λ o. option_map_or (λ (w : WorkerRow). w.alive && (w.session == row.session)) o false) f
    ∙ and_from row.alive (row.session == row.session) is.0 (eq-eqb row.session row.session refl) in
    record {
      info = info;
      declared = d;
      pid = ap (λ (c : Caller). c.sid.pid) (sym is.1) ∙ own;
      alive = ap (λ (c : Caller). lives (view t) c.sid) (sym is.1) ∙ alive;
      number_is = ap (λ (c : Caller). c.number) (sym is.1);
      moment_is = ap (λ (c : Caller). c.moment) (sym is.1);
      guid_is = ap (λ (c : Caller). c.guid) (sym is.1);
    }

by_info : (setup : Setup) (t : Table) (worker number : ℕ) (moment : Moment) (caller : Caller) (o : Option WorkerInfo) → declared_at setup.workers worker ≡ o
    → option_and_then (λ info. option_and_then (caller_if_alive info number moment) ((view t).worker_of info.pid)) o ≡ Some caller → IsCallerOf setup t worker number moment caller
by_info setup t worker number moment caller None d e = absurd cc
by_info setup t worker number moment caller (Some info) d e = by_row setup t worker number moment caller info (find (has_pid info.pid) t.workers) d refl e

pub is_caller_of : (setup : Setup) (t : Table) (worker number : ℕ) (moment : Moment) (caller : Caller) → caller_of setup (view t) worker number moment ≡ Some caller → IsCallerOf setup t worker number moment caller
unfolding caller_of
is_caller_of setup t worker number moment caller e = by_info setup t worker number moment caller (declared_at setup.workers worker) refl e

-- ---- one pid, one worker

pid_is_other : (p : ℕ) (infos : List WorkerInfo) (place : ℕ) (info : WorkerInfo) → AllByRecursion (λ q. nat_eq p q ≡ false) (map (λ w. w.pid) infos) → slice_get infos place ≡ Some info → nat_eq p info.pid ≡ false
pid_is_other p [] place info all e = absurd cc
pid_is_other p (first ∷ infos) zero info all e = ap (λ (i : WorkerInfo). nat_eq p i.pid) (sym (some_same first info e)) ∙ all.0
pid_is_other p (first ∷ infos) (suc place) info all e = pid_is_other p infos place info all.1 e

pids_clash : (p q : ℕ) → p ≡ q → nat_eq p q ≡ false → ⊥
pids_clash p q e f = let g : nat_eq p q ≡ true = eq-eqb p q e in both_ways (nat_eq p q) f g

one_place : (infos : List WorkerInfo) (i j : ℕ) (a b : WorkerInfo) → IsDistinct nat_eq (map (λ w. w.pid) infos) → slice_get infos i ≡ Some a → slice_get infos j ≡ Some b → a.pid ≡ b.pid → i ≡ j
unfolding IsDistinct
one_place [] i j a b d e f g = absurd cc
one_place (first ∷ infos) zero zero a b d e f g = refl
one_place (first ∷ infos) zero (suc j) a b d e f g =
    absurd (pids_clash first.pid b.pid (ap (λ (w : WorkerInfo). w.pid) (some_same first a e) ∙ g) (pid_is_other first.pid infos j b d.0 f))
one_place (first ∷ infos) (suc i) zero a b d e f g =
    absurd (pids_clash first.pid a.pid (ap (λ (w : WorkerInfo). w.pid) (some_same first b f) ∙ sym g) (pid_is_other first.pid infos i a d.0 e))
one_place (first ∷ infos) (suc i) (suc j) a b d e f g = ap suc (one_place infos i j a b d.1 e f g)

pub one_worker : (infos : List WorkerInfo) (w x : ℕ) (a b : WorkerInfo) → IsDistinct nat_eq (map (λ w. w.pid) infos) → declared_at infos w ≡ Some a → declared_at infos x ≡ Some b → a.pid ≡ b.pid → w ≡ x
one_worker infos zero x a b d e f g = absurd cc
one_worker infos (suc i) zero a b d e f g = absurd cc
one_worker infos (suc i) (suc j) a b d e f g = ap suc (one_place infos i j a b d e f g)
