-- `ack`.
use Rattle.std.proofs.Common.{◌≡◌, ◌==◌, ℕ, Bool, true, List, [], ◌∷◌, Option, Some, None, refl, sym, ap, subst, inl, inr, arith, append-nil, eq-eqb}
use Rattle.std.specs.List.{list_all}
use Rattle.std.proofs.lemmas.Bool.{and_parts, and_from, cond_both, cond-true}
use Rattle.sid_core.specs.declared.bits.LeaseState.{LeaseState}
use Rattle.sid_core.specs.declared.reply.Reply.{Reply}
use Rattle.sid_core.specs.declared.reply.Reply.TheVariants.{RequestNotAccepted}
use Rattle.sid_core.specs.declared.setup.Setup.{Setup}
use Rattle.sid_core.specs.Ids.{same_name}
use Rattle.sid_core.specs.Values.{IsMoment, IsState, is_state, is_part_of}
use Rattle.sid_core.specs.declared.ids.Moment.{Moment}
use Rattle.serial_table.specs.declared.rows.LeaseRow.{LeaseRow}
use Rattle.serial_table.specs.declared.rows.Breaking.{Breaking}
use Rattle.serial_table.specs.declared.table.Table.{Table}
use Rattle.serial_table.specs.declared.change.Change.{Change}
use Rattle.serial_table.specs.declared.change.Change.TheVariants as c
use Rattle.serial_table.specs.declared.decision.Caller.{Caller}
use Rattle.serial_table.specs.declared.decision.Decision.{Decision}
use Rattle.serial_table.specs.View.{View, view, lives, has_name}
use Rattle.serial_table.specs.File.{file_view}
use Rattle.serial_table.specs.Change.{perform, is_lease, set_lease}
use Rattle.serial_table.specs.Decision.{only_reply}
use Rattle.serial_table.specs.Break.{Breaks, break_lease}
use Rattle.serial_table.specs.Asked.{own_lease}
use Rattle.serial_table.specs.Ack.{acknowledged, accept, ack_lease, ack_first, ack}
use Rattle.serial_table.specs.Sound.{IsConsistent, breaks_well, states_agree}
use Rattle.serial_table.specs.InSets.{IsLeaseRow, IsInSets}
use Rattle.serial_table.specs.InPlace.{is_made}
use Rattle.serial_table.proofs.SameIds.{same_name-refl}
use Rattle.serial_table.proofs.Members.{IsIn, each, all_of, in_filter, mapped_in}
use Rattle.serial_table.proofs.SameWorkers.{keeps_workers}
use Rattle.serial_table.proofs.Consistent.{consistent-perform}
use Rattle.serial_table.proofs.Shown.{shows_itself, shown_open}
use Rattle.serial_table.proofs.BreaksFit.{lease_fits}
use Rattle.serial_table.proofs.BreaksLose.{lease_loses}
use Rattle.serial_table.proofs.BreaksBring.{BreaksBring, lease_brings}
use Rattle.serial_table.proofs.Owing.{IsCalling, IsCallingInSets, DecisionHolds, DecisionBrings, spots_differ, reply_holds, reply_brings}
use Rattle.serial_table.proofs.BreaksOwed.{PassesRows, rows_keep, rows_made, one_passes, lease_passes, BreaksHold, IsRound, round_holds, round_brings}

-- ---- what it can decide

abbrev breaks_again : Moment → View → LeaseState → LeaseRow → Breaking → Breaks
breaks_again now v state lease breaking = break_lease now lease.file (file_view lease.file v) breaking.needed.0 (acknowledged lease state)

-- what holds of each decision of an `ack` of these leases
record HoldsOfEach (P : Decision → Type 0) (now : Moment) (v : View) (state : LeaseState) (leases : List LeaseRow) : Type 0 where
  replies : (reply : Reply) → P (only_reply reply)
  accepts : (lease : LeaseRow) → IsIn lease leases → (breaking : Breaking) → lease.breaking ≡ Some breaking → P (accept lease state (breaks_again now v state lease breaking))

module _ (P : Decision → Type 0) (now : Moment) (v : View) (state : LeaseState) where
  of_breaking : (lease : LeaseRow) → HoldsOfEach P now v state (lease ∷ []) → (breaking : Option Breaking) → lease.breaking ≡ breaking → P (ack_lease now (file_view lease.file v) lease state breaking)
  of_breaking lease h None e = h.replies _
  of_breaking lease h (Some breaking) e =
      cond_both (is_part_of state.0 breaking.asked.0) (accept lease state (breaks_again now v state lease breaking)) (only_reply RequestNotAccepted) P (λ _. h.accepts lease (inl refl) breaking e) (λ _. h.replies _)

  of_ack : (leases : List LeaseRow) → HoldsOfEach P now v state leases → P (ack_first now v leases state)
  of_ack [] h = h.replies _
  of_ack (lease ∷ leases) h = of_breaking lease (record { replies = h.replies; accepts = λ l i breaking e. h.accepts l (only i) breaking e }) lease.breaking refl
    where
      only : {l : LeaseRow} → IsIn l (lease ∷ []) → IsIn l (lease ∷ leases)
      only (inl e) = inl e
      only (inr i) = absurd i

-- ---- what it owes

ack_round : (lease : LeaseRow) (state : LeaseState) (b : Breaks) → IsRound (accept lease state b) (c.Acknowledge lease.file lease.name state ∷ []) b []
ack_round lease state b = record { changes = ap (λ cs. c.Acknowledge lease.file lease.name state ∷ cs) (sym (append-nil b.changes)); posts = refl; first = refl; later = refl }

module _ (now : Moment) (t : Table) (k : IsConsistent t) (state : LeaseState) (is : IsState state.0) (lease : LeaseRow) (here : IsIn lease t.leases) (breaking : Breaking) (broke : lease.breaking ≡ Some breaking) where
  abbrev after_ack : Table
  after_ack = perform (c.Acknowledge lease.file lease.name state) t

  set_itself : set_lease lease.file lease.name state None lease ≡ acknowledged lease state
  unfolding set_lease
  set_itself =
      cond-true (is_lease lease.file lease.name lease) (acknowledged lease state) lease (and_from (lease.file == lease.file) (same_name lease.name lease.name) (eq-eqb lease.file lease.file refl) (same_name-refl lease.name))

  still_there : IsIn (acknowledged lease state) after_ack.leases
  still_there = subst (λ l. IsIn l after_ack.leases) set_itself (mapped_in (set_lease lease.file lease.name state None) t.leases lease here)

  needed_is : is_state breaking.needed.0 ≡ true
  needed_is =
      let agree = subst (λ o. states_agree lease.held.0 o ≡ true) broke (each (λ (l : LeaseRow). states_agree l.held.0 l.breaking) t.leases k.leases_agree lease here) in
      let held = and_parts (is_state lease.held.0) (breaks_well lease.held.0 (Some breaking)) agree in
      let asked = and_parts (is_state breaking.asked.0) _ held.1 in
      (and_parts (is_state breaking.needed.0) _ asked.1).0

  again_holds : BreaksHold lease.file after_ack (breaks_again now (view t) state lease breaking)
  again_holds =
      let f = file_view lease.file (view t) in
      record {
        fit = lease_fits now lease.file (lives (view t)) breaking.needed.0 needed_is f (acknowledged lease state) (λ row i. (shown_open lease.file f t (shows_itself lease.file t) lease.name row i).1)
            (and_from (is_state state.0) true is refl);
        lose = lease_loses now breaking.needed.0 needed_is after_ack (consistent-perform (c.Acknowledge lease.file lease.name state) t k is) (acknowledged lease state) still_there lease.file f refl;
      }

  accepted_holds : (low : ℕ → ℕ) → DecisionHolds low t (accept lease state (breaks_again now (view t) state lease breaking))
  accepted_holds low =
      let b = breaks_again now (view t) state lease breaking in
      round_holds low lease.file t k (accept lease state b) (c.Acknowledge lease.file lease.name state ∷ []) b [] (ack_round lease state b) (is, tt) again_holds tt (tt, tt) tt
      (record { rows = omega arith; bits = omega arith; spots = spots_differ lease.file }) (λ u same. tt) (λ u. tt)

  accepted_brings : (setup : Setup) → IsMoment now.0 → IsInSets setup t → DecisionBrings setup t (accept lease state (breaks_again now (view t) state lease breaking))
  accepted_brings setup timed n =
      let f = file_view lease.file (view t) in
      let b = breaks_again now (view t) state lease breaking in
      let own = all_of (IsLeaseRow setup) t.leases n.leases lease here in
      let row : IsLeaseRow setup (acknowledged lease state) = record { name = own.name; file = own.file; held = is; breaking = tt } in
      let brought : BreaksBring setup b = lease_brings setup now timed lease.file breaking.needed.0 needed_is f (acknowledged lease state) row refl in
      round_brings setup t (accept lease state b) (c.Acknowledge lease.file lease.name state ∷ []) b [] (ack_round lease state b) (tt, tt) brought tt (λ u. tt)

-- The state has to be one that a lease can be in, as that of each call that a script can make: 2 is part of 3, but no lease may hold 2 alone.
pub ack_holds : (low : ℕ → ℕ) (t : Table) (caller : Caller) (key : ℕ) (state : LeaseState) → IsCalling low t caller → IsState state.0 → DecisionHolds low t (ack (view t) caller key state)
unfolding ack
ack_holds low t caller key state k is =
    of_ack (DecisionHolds low t) caller.moment (view t) state ((view t).leases_of (own_lease caller key)) (record {
      replies = λ reply. reply_holds low t reply k.consistent;
      accepts = λ lease i breaking e. accepted_holds caller.moment t k.consistent state is lease (in_filter (has_name (own_lease caller key)) t.leases lease i).0 breaking e low;
    })

pub ack_brings : (setup : Setup) (t : Table) (caller : Caller) (key : ℕ) (state : LeaseState) → IsCallingInSets setup t caller → IsState state.0 → DecisionBrings setup t (ack (view t) caller key state)
unfolding ack
ack_brings setup t caller key state k is =
    of_ack (DecisionBrings setup t) caller.moment (view t) state ((view t).leases_of (own_lease caller key)) (record {
      replies = λ reply. reply_brings setup t reply;
      accepts = λ lease i breaking e. accepted_brings caller.moment t k.consistent state is lease (in_filter (has_name (own_lease caller key)) t.leases lease i).0 breaking e setup k.moment k.in_sets;
    })

-- ---- the changes that it makes

ack_passes : (p : Change → Bool) → PassesRows p → (now : Moment) (v : View) (state : LeaseState) (leases : List LeaseRow) → list_all p (ack_first now v leases state).changes ≡ true
ack_passes p h now v state leases =
    of_ack (λ d. list_all p d.changes ≡ true) now v state leases (record {
      replies = λ reply. refl;
      accepts = λ lease i breaking e. one_passes p h _ _ (h.rows (c.Acknowledge lease.file lease.name state) refl) (lease_passes p h now lease.file (file_view lease.file v) breaking.needed.0 (acknowledged lease state));
    })

pub ack_keeps : (v : View) (caller : Caller) (key : ℕ) (state : LeaseState) → list_all keeps_workers (ack v caller key state).changes ≡ true
unfolding ack
ack_keeps v caller key state = ack_passes keeps_workers rows_keep caller.moment v state (v.leases_of (own_lease caller key))

pub ack_made : (v : View) (caller : Caller) (key : ℕ) (state : LeaseState) → list_all is_made (ack v caller key state).changes ≡ true
unfolding ack
ack_made v caller key state = ack_passes is_made rows_made caller.moment v state (v.leases_of (own_lease caller key))
