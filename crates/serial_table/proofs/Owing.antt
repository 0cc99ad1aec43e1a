-- What a call's decision owes, so that legal histories stay sound, bounded and in their sets.
use Rattle.std.proofs.Common.{◌≡◌, ◌==◌, ◌≤◌, ◌<◌, ◌+◌, ◌*◌, ◌&&◌, ℕ, true, false, [], ◌∷◌, length, Option, Some, None, refl, sym, ap, subst, arith}
use Rattle.std.specs.List.{IsDistinct, list_any, sum_by}
use Rattle.std.proofs.lemmas.Bool.{eqb-true, and_parts, false_from_ne_true}
use Rattle.std.proofs.lemmas.List.Sums.{sum_by-cons, sum_by-append}
use Rattle.sid_core.specs.declared.entry.Post.{Post}
use Rattle.sid_core.specs.declared.reply.Reply.{Reply}
use Rattle.sid_core.specs.declared.setup.Setup.{Setup}
use Rattle.sid_core.specs.Setup.{IsSetup}
use Rattle.sid_core.specs.Ids.{same_sid, same_id, same_spot}
use Rattle.sid_core.specs.Values.{IsU32, IsU64, IsMoment}
use Rattle.serial_table.specs.declared.rows.WaiterRow.{WaiterRow}
use Rattle.serial_table.specs.declared.table.Table.{Table}
use Rattle.serial_table.specs.declared.change.Change.{Change}
use Rattle.serial_table.specs.declared.change.Change.TheVariants as c
use Rattle.serial_table.specs.declared.decision.Caller.{Caller}
use Rattle.serial_table.specs.declared.decision.Decision.{Decision}
use Rattle.serial_table.specs.View.{view, lives}
use Rattle.serial_table.specs.Change.{perform_all}
use Rattle.serial_table.specs.Decision.{only_reply, spots_of, waits_now, settling}
use Rattle.serial_table.specs.Sound.{IsConsistent, AllAlong, AllFit}
use Rattle.serial_table.specs.InSets.{IsInSets, IsLetter, AllBring}
use Rattle.serial_table.proofs.Members.{IsIn, any_none}
use Rattle.serial_table.proofs.Waits.{waits_of, adds_waits, waits-perform, grows}
use Rattle.serial_table.proofs.Fitting.{DecisionFits, settling_fits}
use Rattle.serial_table.proofs.Losing.{to_lose, adds_bits, bits-perform_all}
use Rattle.serial_table.proofs.Numbered.{IsNumbered, Numbers}

-- ---- who calls

-- no open has the id or the handle that the call's open would get, and no wait of the session its number
pub record IsFresh (caller : Caller) (t : Table) : Type 0 where
  pub id : list_any (λ other. same_id other.id (record { pid = caller.sid.pid; call = caller.number })) t.opens ≡ false
  pub handle : list_any (λ other. same_sid other.owner caller.sid && (other.handle == caller.number)) t.opens ≡ false
  pub wait : list_any (λ other. same_sid other.sid caller.sid && (other.call == caller.number)) t.waiters ≡ false

-- a number above all that the session's worker has used
pub fresh_above : (low : ℕ → ℕ) (t : Table) (caller : Caller) → IsNumbered low t → low caller.sid.pid < caller.number → IsFresh caller t
fresh_above low t caller n above = record {
  id = any_none (λ other. same_id other.id (record { pid = caller.sid.pid; call = caller.number })) t.opens (λ o i. false_from_ne_true (same_id o.id (record { pid = caller.sid.pid; call = caller.number }))
      (λ e. let both = and_parts (o.id.pid == caller.sid.pid) (o.id.call == caller.number) e in
      clashes o.id.pid o.id.call (eqb-true o.id.pid caller.sid.pid both.0) (eqb-true o.id.call caller.number both.1) (n.opens o i).id));
  handle = any_none (λ other. same_sid other.owner caller.sid && (other.handle == caller.number)) t.opens (λ o i. false_from_ne_true (same_sid o.owner caller.sid && (o.handle == caller.number))
      (λ e. let both = and_parts (same_sid o.owner caller.sid) (o.handle == caller.number) e in
      let sids = and_parts (o.owner.pid == caller.sid.pid) (o.owner.session == caller.sid.session) both.0 in
      clashes o.owner.pid o.handle (eqb-true o.owner.pid caller.sid.pid sids.0) (eqb-true o.handle caller.number both.1) (n.opens o i).handle));
  wait = any_none (λ other. same_sid other.sid caller.sid && (other.call == caller.number)) t.waiters (λ w i. false_from_ne_true (same_sid w.sid caller.sid && (w.call == caller.number))
      (λ e. let both = and_parts (same_sid w.sid caller.sid) (w.call == caller.number) e in
      let sids = and_parts (w.sid.pid == caller.sid.pid) (w.sid.session == caller.sid.session) both.0 in
      clashes w.sid.pid w.call (eqb-true w.sid.pid caller.sid.pid sids.0) (eqb-true w.call caller.number both.1) (n.waiters w i).call));
}
  where
    clashes : (pid number : ℕ) → pid ≡ caller.sid.pid → number ≡ caller.number → number ≤ low pid → ⊥
    clashes pid number p q h = let same : low pid ≡ low caller.sid.pid = ap low p in absurd (omega arith)

-- the caller's session lives at a consistent table, its number is new, and by now the last one of its worker
pub record IsCalling (low : ℕ → ℕ) (t : Table) (caller : Caller) : Type 0 where
  pub consistent : IsConsistent t
  pub alive : lives (view t) caller.sid ≡ true
  pub fresh : IsFresh caller t
  pub number : caller.number ≤ low caller.sid.pid
  pub session : caller.sid.session ≤ low caller.sid.pid

-- the caller's numbers, and those of the table, lie in their sets
pub record IsCallingInSets (setup : Setup) (t : Table) (caller : Caller) : Type 0 where
  pub declared : IsSetup setup
  pub in_sets : IsInSets setup t
  pub consistent : IsConsistent t
  pub alive : lives (view t) caller.sid ≡ true
  pub number : IsU32 caller.number
  pub guid : IsU64 caller.guid
  pub moment : IsMoment caller.moment.0
  pub next : IsU32 (caller.sid.session + 1)

-- ---- what is counted

-- the rows that a change brings, or the file that is to go
abbrev pub brings : Change → ℕ
brings (c.AddOpen o) = 1
brings (c.AddLease lease) = 1
brings (c.AddRange range) = 1
brings (c.AddHold hold) = 1
brings (c.AddPending file) = 1
brings _ = 0

-- a worker may begin to live
abbrev pub begins : Change → ℕ
begins (c.NextSession sid moment) = 64
begins _ = 0

-- What it adds, n times what a call may: two rows of a list, the sessions of 64 workers, and four of letters, waiters and bits that
-- leases can lose, beside those that go.
-- The spots that it may free differ, so that nobody is woken twice.
pub record DecisionAdds (t : Table) (d : Decision) (n : ℕ) : Type 0 where
  pub rows : sum_by brings d.changes ≤ 2 * n
  pub sessions : sum_by begins d.changes ≤ 64 * n
  pub waits : waits_of (perform_all (settling d) t) + to_lose (perform_all (settling d) t).leases + (length d.posts + length (waits_now d.waits)) ≤ waits_of t + to_lose t.leases + 4 * n
  pub spots : IsDistinct same_spot d.spots

-- where no change of it adds bits, none are added
pub no_more_to_lose : (t : Table) (d : Decision) → IsConsistent t → AllFit d.changes t → sum_by adds_bits d.changes ≤ 0 → to_lose (perform_all (settling d) t).leases ≤ to_lose t.leases
no_more_to_lose t d k fit none =
    let settle_none : sum_by adds_bits (c.Settle ∷ []) ≡ 0 = omega (arith, sum_by-cons adds_bits c.Settle []) in
    omega (arith, bits-perform_all (settling d) t k (settling_fits t d fit), sum_by-append adds_bits d.changes (c.Settle ∷ []))

-- Where no change adds a waiter or a letter, those are no more.
pub no_more_waits : (t : Table) (d : Decision) → sum_by adds_waits d.changes ≤ 0 → waits_of (perform_all (settling d) t) ≤ waits_of t
no_more_waits t d none =
    let settle_none : sum_by adds_waits (c.Settle ∷ []) ≡ 0 = omega (arith, sum_by-cons adds_waits c.Settle []) in
    omega (arith, grows waits_of adds_waits waits-perform (settling d) t, sum_by-append adds_waits d.changes (c.Settle ∷ []))

pub length-waits_now : (waits : Option WaiterRow) → length (waits_now waits) ≤ 1
length-waits_now None = omega arith
length-waits_now (Some w) = omega arith

-- where it makes two rows at most, no session, no letter and no bit
pub adds_rows : (t : Table) (d : Decision) → IsConsistent t → AllFit d.changes t → sum_by brings d.changes ≤ 2 → sum_by begins d.changes ≤ 0 → sum_by adds_waits d.changes ≤ 0 → sum_by adds_bits d.changes ≤ 0
    → length d.posts ≤ 3 → IsDistinct same_spot d.spots → DecisionAdds t d 1
adds_rows t d k fit rows sessions waits bits posts spots = record {
  rows = omega (arith, rows);
  sessions = omega (arith, sessions);
  waits = omega (arith, no_more_waits t d waits, no_more_to_lose t d k fit bits, length-waits_now d.waits, posts);
  spots = spots;
}

-- one change, that adds no session, letter or bit
pub one_adds : (t : Table) (d : Decision) (change : Change) → d.changes ≡ change ∷ [] → IsConsistent t → AllFit d.changes t → brings change ≤ 2 → begins change ≡ 0 → adds_waits change ≡ 0 → adds_bits change ≡ 0
    → length d.posts ≤ 3 → IsDistinct same_spot d.spots → DecisionAdds t d 1
one_adds t d change is k fit rows sessions waits bits posts spots =
    adds_rows t d k fit (by_one brings (omega (arith, rows))) (by_one begins (omega (arith, sessions))) (by_one adds_waits (omega (arith, waits))) (by_one adds_bits (omega (arith, bits))) posts spots
  where
    by_one : {n : ℕ} (adds : Change → ℕ) → adds change ≤ n → sum_by adds d.changes ≤ n
    by_one {n} adds h = let one : sum_by adds (change ∷ []) ≤ n = omega (arith, sum_by-cons adds change [], h) in subst (λ cs. sum_by adds cs ≤ n) (sym is) one

pub spots_differ : (file : ℕ) → IsDistinct same_spot (spots_of file)
unfolding IsDistinct
spots_differ file = ((refl, tt), (tt, tt))

-- ---- what is owed

-- its numbers are at most the last ones used
pub record DecisionNumbers (low : ℕ → ℕ) (t : Table) (d : Decision) : Type 0 where
  pub changes : AllAlong (Numbers low) d.changes t
  pub waits : (u : Table) → AllAlong (Numbers low) (waits_now d.waits) u

-- what it makes of the table fits, has new numbers, and is little
pub record DecisionHolds (low : ℕ → ℕ) (t : Table) (d : Decision) : Type 0 where
  pub fits : DecisionFits t d
  pub numbers : DecisionNumbers low t d
  pub adds : DecisionAdds t d 1

-- what it brings lies in its sets
pub record DecisionBrings (setup : Setup) (t : Table) (d : Decision) : Type 0 where
  pub changes : AllBring setup d.changes t
  pub waits : (u : Table) → AllBring setup (waits_now d.waits) u
  pub letters : (post : Post) → IsIn post d.posts → IsLetter setup post.letter

-- ---- nothing but a reply

pub reply_holds : (low : ℕ → ℕ) (t : Table) (reply : Reply) → IsConsistent t → DecisionHolds low t (only_reply reply)
unfolding IsDistinct
reply_holds low t reply k = record {
  fits = record { changes = tt; waits = tt; posts = refl };
  numbers = record { changes = tt; waits = λ u. tt };
  adds = adds_rows t (only_reply reply) k tt (omega arith) (omega arith) (omega arith) (omega arith) (omega arith) tt;
}

pub reply_brings : (setup : Setup) (t : Table) (reply : Reply) → DecisionBrings setup t (only_reply reply)
reply_brings setup t reply = record { changes = tt; waits = λ u. tt; letters = λ post i. absurd i }
