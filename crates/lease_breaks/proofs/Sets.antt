-- The record of a lease keeps its sets through breaks and acknowledgements.
use Rattle.std.proofs.Common.{◌≡◌, ℕ, Bool, true, false, cond, ◌==◌, not, Option, Some, None, refl, sym, ap, ◌∙◌, subst, arith}
use Rattle.std.specs.Prelude.{bit_and}
use Rattle.std.specs.Option.{option_map_or}
use Rattle.std.proofs.lemmas.Bool.{cond_both, and_from}
use Rattle.sid_core.specs.declared.bits.LeaseState.{LeaseState}
use Rattle.sid_core.specs.declared.ids.Sid.{Sid}
use Rattle.sid_core.specs.declared.ids.Moment.{Moment}
use Rattle.sid_core.specs.declared.ids.LeaseName.{LeaseName}
use Rattle.sid_core.specs.Values.{IsMoment, IsState, is_state, is_part_of}
use Rattle.sid_core.specs.Words.{lease_state}
use Rattle.serial_table.specs.declared.rows.Breaking.{Breaking}
use Rattle.serial_table.specs.Break.{Breaks, no_break, breaks_read, begins_to_break, new_breaking, until_of}
use Rattle.serial_table.specs.LeaseBreak.{breaks_of_owner, breaks_further_by, break_by_owner}
use Rattle.serial_table.proofs.States.{state_and, part_itself, part_and, less_and, part_less}
use Rattle.record_codec.specs.declared.lease_rec.LeaseRec.{LeaseRec}
use Rattle.record_codec.specs.Fields.{is_proper_part_of}
use Rattle.record_codec.specs.LeaseRec.{IsLeaseRec, IsExpiry}
use Rattle.record_codec.specs.Counts.{Records, is_unanswered}
use Rattle.record_codec.proofs.Unbroken.{unbroken_sets}
use Rattle.sid_core.specs.declared.reply.Reply.TheVariants.{RequestNotAccepted}
use Rattle.serial_table.specs.declared.decision.Decision.{Decision}
use Rattle.serial_table.specs.Decision.{only_reply}
use Rattle.record_rows.specs.Rows.{lease_row, breaking_of}
use Rattle.leases_db.proofs.Sets.{broken_or_not, fewer_refs}
use Rattle.leases_db.proofs.Settled.{settled_record}
use Rattle.lease_breaks.specs.Breaks.{with_state, settled, all_changed, kept}
use Rattle.lease_breaks.specs.Acks.{ack_by_owner, accept_by_owner, Answers}
use Rattle.lease_breaks.specs.declared.acks.Acked.{Acked}
use Rattle.lease_breaks.specs.declared.acks.Acked.TheVariants.{Unsuccessful, NotAccepted, Taken}

-- ---- the state

-- What a break may be: a state below the one that is held, and what is needed a part of it.
pub record IsBreakOf (held : LeaseState) (b : Breaking) : Type 0 where
  pub asked : IsState b.asked.0
  pub needed : IsState b.needed.0
  pub less : is_proper_part_of b.asked.0 held.0 ≡ true
  pub part : is_part_of b.needed.0 b.asked.0 ≡ true
  pub until : IsExpiry b.until.0

abbrev pub IsBreakIn : LeaseState → Option Breaking → Type 0
IsBreakIn held None = Unit {0}
IsBreakIn held (Some b) = IsBreakOf held b

pub with_state_keeps : (held : LeaseState) (b : Option Breaking) (r : LeaseRec) → IsLeaseRec r → IsState held.0 → IsBreakIn held b → IsLeaseRec (with_state held b r)
with_state_keeps held None r h s i = unbroken_sets r.file held r.refs h.file s h.refs
with_state_keeps held (Some b) r h s i = record {
  file = h.file;
  held = s;
  asked = i.asked;
  needed = i.needed;
  unbroken_asked = λ e. absurd cc;
  unbroken_needed = λ e. absurd cc;
  broken_asked = λ _. i.less;
  broken_needed = λ _. i.part;
  unbroken_until = λ e. absurd cc;
  broken_until = λ _. i.until;
  refs = h.refs;
}

pub settled_keeps : (records : Records) (r : LeaseRec) → IsLeaseRec r → IsLeaseRec (settled records r)
settled_keeps records r h =
    subst IsLeaseRec (settled_record records r (is_unanswered records r)) (fewer_refs _ _ (broken_or_not (is_unanswered records r) r h))

-- ---- breaks

expires_in_time : (now : Moment) → IsMoment now.0 → IsExpiry (until_of now).0
expires_in_time now h = record { first = omega (arith, h); last = omega (arith, h) }

pub kept_is_state : (bits : LeaseState) → is_state (kept bits) ≡ true
kept_is_state bits =
    cond_both (bits.0 == 2) _ _ (λ n. is_state n ≡ true) (λ _. refl) (λ _. cond_both (bits.0 == 4) _ _ (λ n. is_state n ≡ true) (λ _. refl) (λ _. refl))

module _ (records : Records) (now : Moment) (to : Option Sid) (name : LeaseName) (k : ℕ) (r : LeaseRec) (state : is_state k ≡ true) (timed : IsMoment now.0) (h : IsLeaseRec r) where
  breaks_keep : (to : Option Sid) → is_part_of r.held.0 k ≡ false → IsLeaseRec (all_changed records (breaks_of_owner now r.file to (lease_row name r) (bit_and r.held.0 k)).changes r)
  breaks_keep None less =
      settled_keeps records (with_state (lease_state (bit_and r.held.0 k)) None r) (with_state_keeps (lease_state (bit_and r.held.0 k)) None r h (state_and r.held.0 k h.held state) tt)
  breaks_keep (Some to) less =
      cond_both (r.held.0 == 1) (breaks_read r.file to (lease_row name r) (bit_and r.held.0 k)) (begins_to_break now r.file to (lease_row name r) (bit_and r.held.0 k))
      (λ (b : Breaks). IsLeaseRec (all_changed records b.changes r))
      (λ _. with_state_keeps (lease_state (bit_and r.held.0 k)) None r h (state_and r.held.0 k h.held state) tt)
      (λ _. with_state_keeps (lease_state r.held.0) (Some (new_breaking now (bit_and r.held.0 k))) r h h.held (record {
        asked = state_and r.held.0 k h.held state;
        needed = state_and r.held.0 k h.held state;
        less = and_from (is_part_of (bit_and r.held.0 k) r.held.0) (not (bit_and r.held.0 k == r.held.0)) (part_and r.held.0 k h.held state) (less_and r.held.0 k h.held state less);
        part = part_itself (bit_and r.held.0 k) (state_and r.held.0 k h.held state);
        until = expires_in_time now timed;
      }))

  further_keeps : r.breaking ≡ true
      → IsLeaseRec (all_changed records (breaks_further_by r.file to (lease_row name r) (record { asked = r.asked; needed = r.needed; until = record { 0 = r.until } }) k).changes r)
  further_keeps e = with_state_keeps (lease_state r.held.0) (Some (record { asked = r.asked; needed = lease_state (bit_and r.needed.0 k); until = record { 0 = r.until } })) r h h.held (record {
    asked = h.asked;
    needed = state_and r.needed.0 k h.needed state;
    less = h.broken_asked e;
    part = part_less r.needed.0 r.asked.0 k h.needed h.asked state (h.broken_needed e);
    until = h.broken_until e;
  })

  by_break : (b : Bool) → r.breaking ≡ b
      → IsLeaseRec (all_changed records (break_by_owner now r.file to k (lease_row name r) (cond b (Some (record { asked = r.asked; needed = r.needed; until = record { 0 = r.until } })) None)).changes r)
  by_break true e = further_keeps e
  by_break false e =
      cond_both (is_part_of r.held.0 k) no_break (breaks_of_owner now r.file to (lease_row name r) (bit_and r.held.0 k)) (λ (b : Breaks). IsLeaseRec (all_changed records b.changes r))
      (λ _. h) (λ less. breaks_keep to less)

  pub break_keeps : IsLeaseRec (all_changed records (break_by_owner now r.file to k (lease_row name r) (breaking_of r)).changes r)
  break_keeps = by_break r.breaking refl

-- ---- acknowledgements

needed_by : (b : Bool) (r : LeaseRec) → IsLeaseRec r
    → option_map_or (λ (k : Breaking). is_state k.needed.0) (cond b (Some (record { asked = r.asked; needed = r.needed; until = record { 0 = r.until } })) None) true ≡ true
needed_by true r h = h.needed
needed_by false r h = refl

needed_is_state : (r : LeaseRec) (b : Breaking) → breaking_of r ≡ Some b → IsLeaseRec r → is_state b.needed.0 ≡ true
needed_is_state r b e h = sym (ap (λ o. option_map_or (λ (k : Breaking). is_state k.needed.0) o true) e) ∙ needed_by r.breaking r h

module _ (records : Records) (now : Moment) (to : Option Sid) (name : LeaseName) (state : LeaseState) (b : Breaking) (old new : LeaseRec) where
  taken_keeps : is_state state.0 ≡ true → is_state b.needed.0 ≡ true → IsMoment now.0 → IsLeaseRec old
      → IsLeaseRec (settled records (all_changed records (ack_by_owner now to (lease_row name old) state (Some b)).changes old))
  taken_keeps is needed timed h =
      cond_both (is_part_of state.0 b.asked.0) (accept_by_owner now to (lease_row name old) state b.needed) (only_reply RequestNotAccepted)
      (λ (d : Decision). IsLeaseRec (settled records (all_changed records d.changes old)))
      (λ _. settled_keeps records (all_changed records (break_by_owner now old.file to b.needed.0 (lease_row name (with_state state None old)) None).changes (with_state state None old))
      (break_keeps records now to name b.needed.0 (with_state state None old) needed timed (with_state_keeps state None old h is tt)))
      (λ _. settled_keeps records old h)

  pub answer_keeps : (result : Acked) → Answers records (ack_by_owner now to (lease_row name old) state (Some b)) result old new → breaking_of old ≡ Some b
      → IsLeaseRec old → IsMoment now.0 → is_state state.0 ≡ true → IsLeaseRec new
  answer_keeps Unsuccessful a e h timed is = subst IsLeaseRec (sym a.same) h
  answer_keeps (NotAccepted asked) a e h timed is = subst IsLeaseRec (sym a.0.same) h
  answer_keeps (Taken post) a e h timed is = subst IsLeaseRec (sym a.changes) (taken_keeps is (needed_is_state old b e h) timed h)
