-- A call is legal by its footprint alone, where its caller's register record is met and its reply goes by what is met.
use Rattle.std.proofs.Common.{◌≡◌, ℕ, Bool, true, cond, Option, Some, None, refl, sym, ap, ◌∙◌}
use Rattle.std.specs.Option.{option_map, option_and_then}
use Rattle.std.proofs.lemmas.Bool.{eqb-true}
use Rattle.sid_core.specs.declared.call.Call.{Call}
use Rattle.sid_core.specs.declared.ids.Moment.{Moment}
use Rattle.sid_core.specs.declared.reply.Reply.{Reply}
use Rattle.sid_core.specs.declared.setup.Setup.{Setup}
use Rattle.sid_core.specs.declared.setup.WorkerInfo.{WorkerInfo}
use Rattle.sid_core.specs.Call.{IsCall}
use Rattle.serial_table.specs.declared.rows.WorkerRow.{WorkerRow}
use Rattle.serial_table.specs.declared.table.Table.{Table}
use Rattle.serial_table.specs.declared.decision.Caller.{Caller}
use Rattle.serial_table.specs.View.{View, view, lives, has_pid}
use Rattle.serial_table.specs.Change.{perform_all}
use Rattle.serial_table.specs.Decision.{Outcome}
use Rattle.serial_table.specs.Decide.{decide, outcome}
use Rattle.serial_table.specs.Expire.{expired_by}
use Rattle.serial_table.specs.History.{start, after, IsLegalCall}
use Rattle.serial_table.specs.Settle.{settle}
use Rattle.serial_table.specs.Step.{declared_at, caller_if_alive, caller_of}
use Rattle.serial_table.proofs.Callers.{is_caller_of}
use Rattle.serial_table.proofs.Concluding.{start-settled}
use Rattle.serial_table.proofs.Expiring.{after_all-settled, behind_copy_reply}
use Rattle.serial_table.proofs.Members.{found_in}
use Rattle.record_codec.specs.declared.register_rec.RegisterRec.{RegisterRec}
use Rattle.record_codec.specs.Counts.{Records}
use Rattle.stored_table.specs.Places.{Chains, Place, HasChains, among, value_at}
use Rattle.stored_table.specs.Decoded.{AllRecords, deciding, records_of}
use Rattle.stored_table.specs.Exact.{register_record}
use Rattle.stored_table.specs.Met.{met, all_met}
use Rattle.stored_table.specs.Stands.{AgreeWith, StandsFor, clean_register}
use Rattle.table_laws.specs.Standing.{call_entry}
use Rattle.table_laws.specs.ByFootprint.{AgreeOnFootprint, IsLegalByFootprint}
use Rattle.table_laws.proofs.Chains.{IsFine, legal_is_fine}
use Rattle.table_laws.proofs.Footprints.{met_value}

-- ---- who calls, by the register record

abbrev pub told : RegisterRec → Bool × ℕ
told r = (r.alive, r.session)

abbrev pub told_row : WorkerRow → Bool × ℕ
told_row row = (row.alive, row.session)

told_clean : (r : Records) (o : Option RegisterRec) → option_map told (option_map (clean_register r) o) ≡ option_map told o
told_clean r None = refl
told_clean r (Some x) = refl

told_exact : (v : View) (o : Option WorkerRow) → option_map told (option_map (register_record v) o) ≡ option_map told_row o
told_exact v None = refl
told_exact v (Some row) = refl

-- what the record tells of the worker
pub told_worker : (setup : Setup) (s : AllRecords) (v : View) → AgreeWith setup s v → (pid : ℕ) → option_map told_row (v.worker_of pid) ≡ option_map told (s.register pid)
told_worker setup s v agree pid = sym (told_exact v (v.worker_of pid)) ∙ ap (option_map told) (sym (agree.register pid)) ∙ told_clean (deciding s) (s.register pid)

abbrev made : WorkerInfo → ℕ → Moment → Bool × ℕ → Option Caller
made info number moment q = cond q.0 (Some (record { sid = record { pid = info.pid; session = q.1 }; guid = info.guid; number = number; moment = moment })) None

made_by : (info : WorkerInfo) (number : ℕ) (moment : Moment) (o : Option WorkerRow) → ((row : WorkerRow) → o ≡ Some row → row.pid ≡ info.pid)
    → option_and_then (caller_if_alive info number moment) o ≡ option_and_then (made info number moment) (option_map told_row o)
made_by info number moment None h = refl
made_by info number moment (Some row) h = λ i. cond row.alive (Some (record { sid = record { pid = h row refl i; session = row.session }; guid = info.guid; number = number; moment = moment })) None

made_from : (info : WorkerInfo) (number : ℕ) (moment : Moment) (t : Table) → option_and_then (caller_if_alive info number moment) ((view t).worker_of info.pid) ≡ option_and_then (made info number moment) (option_map told_row ((view t).worker_of info.pid))
made_from info number moment t = made_by info number moment ((view t).worker_of info.pid) (λ row e. eqb-true row.pid info.pid (found_in (has_pid info.pid) t.workers row e).1)

pub caller_same : (setup : Setup) (s z : AllRecords) (t u : Table) → AgreeWith setup s (view t) → AgreeWith setup z (view u) → (by number : ℕ) (moment : Moment) (info : WorkerInfo) → declared_at setup.workers by ≡ Some info
    → s.register info.pid ≡ z.register info.pid → caller_of setup (view t) by number moment ≡ caller_of setup (view u) by number moment
unfolding caller_of
caller_same setup s z t u agree agree_other by number moment info declared same =
    ap (option_and_then (λ (info : WorkerInfo). option_and_then (caller_if_alive info number moment) ((view t).worker_of info.pid))) declared
    ∙ made_from info number moment t
    ∙ ap (option_and_then (made info number moment)) (told_worker setup s (view t) agree info.pid ∙ ap (option_map told) same ∙ sym (told_worker setup z (view u) agree_other info.pid))
    ∙ sym (made_from info number moment u)
    ∙ sym (ap (option_and_then (λ (info : WorkerInfo). option_and_then (caller_if_alive info number moment) ((view u).worker_of info.pid))) declared)

-- ---- one call

-- what a call owes of two databases where each met record is the same
pub record IsAnsweredAlike (setup : Setup) (n : ℕ) (k j : Chains) (which : Call) (caller : Caller) (info : WorkerInfo) : Type 0 where
  pub worker : (t : Table) → StandsFor setup n k (view t) → lives (view t) caller.sid ≡ true → (records_of setup n k).register info.pid ≡ (records_of setup n j).register info.pid
  pub answers : (t u : Table) → StandsFor setup n k (view t) → StandsFor setup n j (view u) → IsFine setup t → IsFine setup u → lives (view t) caller.sid ≡ true → lives (view u) caller.sid ≡ true → settle t ≡ t → settle u ≡ u
      → (decide setup (view (perform_all (expired_by setup (view t) caller which) t)) caller which).reply ≡ (decide setup (view (perform_all (expired_by setup (view u) caller which) u)) caller which).reply

module _ (setup : Setup) (n by seq number : ℕ) (moment : Moment) (which : Call) (reply : Reply)
    (owes : (k j : Chains) → HasChains n k → (caller : Caller) (info : WorkerInfo) → declared_at setup.workers by ≡ Some info → caller.sid.pid ≡ info.pid → caller.guid ≡ info.guid → IsCall setup which
    → AgreeOnFootprint setup n k j (call_entry by seq number moment which reply) → IsAnsweredAlike setup n k j which caller info) where
  pub legal_if_agreed : IsLegalByFootprint setup n (call_entry by seq number moment which reply)
  legal_if_agreed k j before other is legal legal_other stands stands_other agree at = from_caller (caller_of setup (view (after setup before)) by number moment) refl
    where
      from_caller : (o : Option Caller) → caller_of setup (view (after setup before)) by number moment ≡ o → IsLegalCall setup (after setup other) by number moment which reply
      from_caller None from = absurd (no_answer (ap (λ o. option_map (λ (done : Outcome). done.reply) (option_map (λ caller. outcome setup (view (after setup before)) caller which) o)) (sym from) ∙ at.answered))
        where
          no_answer : ◌≡◌ {A = Option Reply} None (Some reply) → ⊥
          no_answer h = cc
      from_caller (Some caller) from =
          let t = after setup before in
          let u = after setup other in
          let of = is_caller_of setup t by number moment caller from in
          let alike = owes k j stands.well_formed.chains caller of.info of.declared of.pid of.guid_is at.in_sets agree in
          let from_other = sym (caller_same setup (records_of setup n k) (records_of setup n j) t u stands.agree stands_other.agree by number moment of.info of.declared (alike.worker t stands of.alive)) ∙ from in
          let answers = alike.answers t u stands stands_other (legal_is_fine setup before is legal) (legal_is_fine setup other is legal_other) of.alive (is_caller_of setup u by number moment caller from_other).alive
          (after_all-settled setup (start setup) before (start-settled setup)) (after_all-settled setup (start setup) other (start-settled setup)) in
          record {
            numbered = at.numbered;
            timed = at.timed;
            in_sets = at.in_sets;
            answered =
                ap (λ o. option_map (λ (done : Outcome). done.reply) (option_map (λ caller. outcome setup (view u) caller which) o)) from_other
                ∙ ap Some (behind_copy_reply setup u (perform_all (expired_by setup (view u) caller which) u) caller which refl
                ∙ sym answers
                ∙ sym (behind_copy_reply setup t (perform_all (expired_by setup (view t) caller which) t) caller which refl))
                ∙ ap (λ o. option_map (λ (done : Outcome). done.reply) (option_map (λ caller. outcome setup (view t) caller which) o)) (sym from) ∙ at.answered;
          }

module _ (setup : Setup) (n by seq number : ℕ) (moment : Moment) (which : Call) (reply : Reply)
    (owes : (k j : Chains) → HasChains n k → (caller : Caller) (info : WorkerInfo) → declared_at setup.workers by ≡ Some info → caller.sid.pid ≡ info.pid → caller.guid ≡ info.guid → IsCall setup which
    → ((p : Place) → among p (all_met (met setup n k (call_entry by seq number moment which reply))) ≡ true → value_at n k p ≡ value_at n j p) → IsAnsweredAlike setup n k j which caller info) where
  pub legal_if : IsLegalByFootprint setup n (call_entry by seq number moment which reply)
  legal_if =
      legal_if_agreed setup n by seq number moment which reply (λ k j a caller info declared pid guid in_sets agree.
      owes k j a caller info declared pid guid in_sets (met_value setup n k j (call_entry by seq number moment which reply) a agree))
