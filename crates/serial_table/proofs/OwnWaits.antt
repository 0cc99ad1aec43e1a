-- A decision before which the caller's own waits end owes what it owes at the table without them.
use Rattle.std.proofs.Common.{◌≡◌, ◌==◌, ◌≤◌, ◌&&◌, ◌||◌, ℕ, Bool, true, List, [], ◌∷◌, ◌++◌, filter, map, Option, refl, sym, ap, ◌∙◌, subst, inl, inr, ◌⊎◌, arith, eq-eqb}
use Rattle.std.specs.List.{list_all, sum_by}
use Rattle.std.specs.Option.{option_map_or}
use Rattle.std.proofs.lemmas.Bool.{and_parts, and_from, or_cases, not-true, both_ways, false_from_ne_true}
use Rattle.std.proofs.lemmas.List.Sums.{sum_by-append}
use Rattle.std.proofs.lemmas.List.Folds.{list_all-append}
use Rattle.sid_core.specs.declared.ids.Sid.{Sid}
use Rattle.sid_core.specs.declared.ids.Spot.{Spot}
use Rattle.sid_core.specs.declared.setup.Setup.{Setup}
use Rattle.sid_core.specs.Ids.{same_sid, same_spot}
use Rattle.serial_table.specs.declared.rows.WaiterRow.{WaiterRow}
use Rattle.serial_table.specs.declared.rows.Watch.{Watch}
use Rattle.serial_table.specs.declared.table.Table.{Table}
use Rattle.serial_table.specs.declared.change.Change.{Change}
use Rattle.serial_table.specs.declared.change.Change.TheVariants as c
use Rattle.serial_table.specs.declared.decision.Caller.{Caller}
use Rattle.serial_table.specs.declared.decision.Decision.{Decision}
use Rattle.serial_table.specs.View.{view, lives, waits_on, watch_on}
use Rattle.serial_table.specs.Change.{perform, perform_all, is_other_wait}
use Rattle.serial_table.specs.Decision.{waits_no_more, own_waits_end, no_longer_waits, waits_now, settling}
use Rattle.serial_table.specs.Sound.{IsConsistent, IsNewWaiter, AllAlong, AllFit, cannot_both_wait}
use Rattle.serial_table.specs.InSets.{Brings}
use Rattle.serial_table.proofs.SameIds.{same_sid-refl}
use Rattle.serial_table.proofs.Members.{IsIn, any_none, none_of, mapped_in, passes_in}
use Rattle.serial_table.proofs.Concluding.{no_more_all, perform_all-append}
use Rattle.serial_table.proofs.Workers.{keeps_waits}
use Rattle.serial_table.proofs.Consistent.{consistent-perform_all}
use Rattle.serial_table.proofs.Counting.{sum_mapped}
use Rattle.serial_table.proofs.Waits.{waits_of, adds_waits, waits-perform, grows}
use Rattle.serial_table.proofs.Losing.{to_lose}
use Rattle.serial_table.proofs.Numbered.{Numbers}
use Rattle.serial_table.proofs.Fitting.{along_append, along_mapped, fit_append, drops_fit, after_drops}
use Rattle.serial_table.proofs.SameWorkers.{keeps_workers}
use Rattle.serial_table.proofs.Owing.{IsFresh, brings, begins, DecisionHolds, DecisionBrings}

abbrev own_of : Caller → List Watch → List Watch
own_of caller watches = filter (λ watch. same_sid watch.sid caller.sid) watches

-- these are left once the caller's own waits among some have ended
pub record IsLeft (t : Table) (caller : Caller) (watches : List Watch) (waiters : List WaiterRow) : Type 0 where
  pub before : (w : WaiterRow) → IsIn w waiters → IsIn w t.waiters
  pub others : (w : WaiterRow) → IsIn w waiters → (watch : Watch) → IsIn watch watches → same_sid watch.sid caller.sid ≡ true → is_other_wait watch.sid watch.call w.sid w.call ≡ true
  pub consistent : IsConsistent (record t { waiters = waiters })

module _ (t : Table) (caller : Caller) (watches : List Watch) (d : Decision) where
  -- the table as the decision's own changes find it
  without_own : (waiters : List WaiterRow) → perform_all (own_waits_end caller watches) t ≡ record t { waiters = waiters }
      → perform_all (settling (no_longer_waits caller watches d)) t ≡ perform_all (settling d) (record t { waiters = waiters })
  without_own waiters same =
      perform_all-append (own_waits_end caller watches ++ d.changes) (c.Settle ∷ []) t
      ∙ ap (perform c.Settle) (perform_all-append (own_waits_end caller watches) d.changes t ∙ ap (perform_all d.changes) same)
      ∙ sym (perform_all-append d.changes (c.Settle ∷ []) (record t { waiters = waiters }))

  sum_own : (adds : Change → ℕ) → ((sid : Sid) (call : ℕ) → adds (c.DropWaiter sid call) ≡ 0) → sum_by adds (own_waits_end caller watches ++ d.changes) ≡ sum_by adds d.changes
  sum_own adds goes = omega (arith, sum_by-append adds (own_waits_end caller watches) d.changes, sum_mapped adds waits_no_more (λ watch. goes watch.sid watch.call) (own_of caller watches))

  pub own_holds : (low : ℕ → ℕ) → IsConsistent t → ((waiters : List WaiterRow) → IsLeft t caller watches waiters → DecisionHolds low (record t { waiters = waiters }) d) → DecisionHolds low t (no_longer_waits caller watches d)
  own_holds low k h =
      let own = own_of caller watches in
      let after = after_drops own t in
      let u : Table = record t { waiters = after.waiters } in
      let left : IsLeft t caller watches after.waiters = record {
        before = after.before;
        others = λ w i watch j e. after.others w i watch (passes_in (λ watch. same_sid watch.sid caller.sid) watches watch j e);
        consistent = subst IsConsistent after.same (consistent-perform_all (map waits_no_more own) t k (drops_fit own t));
      } in
      let holds = h after.waiters left in
      let settled = without_own after.waiters after.same in
      let fewer : waits_of u ≤ waits_of t =
      subst (λ (x : Table). waits_of x ≤ waits_of t) after.same
      (omega (arith, grows waits_of adds_waits waits-perform (map waits_no_more own) t, sum_mapped adds_waits waits_no_more (λ watch. refl) own)) in
      record {
        fits = record {
          changes = fit_append (map waits_no_more own) d.changes t (drops_fit own t) (subst (AllFit d.changes) (sym after.same) holds.fits.changes);
          waits = subst (AllFit (waits_now d.waits)) (sym settled) holds.fits.waits;
          posts = ap (λ (x : Table). list_all (λ post. lives (view x) post.to) d.posts) settled ∙ holds.fits.posts;
        };
        numbers = record {
          changes = along_append (Numbers low) (map waits_no_more own) d.changes t (along_mapped (Numbers low) waits_no_more own t (λ watch i x. tt)) (subst (AllAlong (Numbers low) d.changes) (sym after.same) holds.numbers.changes);
          waits = holds.numbers.waits;
        };
        adds = record {
          rows = omega (arith, sum_own brings (λ sid call. refl), holds.adds.rows);
          sessions = omega (arith, sum_own begins (λ sid call. refl), holds.adds.sessions);
          waits = omega (arith, ap waits_of settled, ap (λ (x : Table). to_lose x.leases) settled, fewer, holds.adds.waits);
          spots = holds.adds.spots;
        };
      }

  pub own_brings : (setup : Setup) → ((waiters : List WaiterRow) → DecisionBrings setup (record t { waiters = waiters }) d) → DecisionBrings setup t (no_longer_waits caller watches d)
  own_brings setup h =
      let own = own_of caller watches in
      let after = after_drops own t in
      let rest = h after.waiters in
      record {
        changes = along_append (Brings setup) (map waits_no_more own) d.changes t (along_mapped (Brings setup) waits_no_more own t (λ watch i x. tt)) (subst (AllAlong (Brings setup) d.changes) (sym after.same) rest.changes);
        waits = rest.waits;
        letters = rest.letters;
      }

pub own_keeps : (caller : Caller) (watches : List Watch) (d : Decision) → list_all keeps_workers d.changes ≡ true → list_all keeps_workers (no_longer_waits caller watches d).changes ≡ true
own_keeps caller watches d e =
    list_all-append keeps_workers (own_waits_end caller watches) d.changes
    ∙ and_from (list_all keeps_workers (own_waits_end caller watches)) (list_all keeps_workers d.changes) (no_more_all keeps_workers keeps_waits (own_of caller watches)) e

-- ---- who comes to wait

pub still_fresh : (t : Table) (caller : Caller) (watches : List Watch) (waiters : List WaiterRow) → IsLeft t caller watches waiters → IsFresh caller t → IsFresh caller (record t { waiters = waiters })
still_fresh t caller watches waiters left fresh = record {
  id = fresh.id;
  handle = fresh.handle;
  wait = any_none (λ other. same_sid other.sid caller.sid && (other.call == caller.number)) waiters
      (λ w i. none_of (λ other. same_sid other.sid caller.sid && (other.call == caller.number)) t.waiters fresh.wait w (left.before w i));
}

-- Once the caller's own waits on a spot have ended, it may wait there with a new number, behind one who lives.
pub new_waiter : (t : Table) (caller : Caller) (spot : Spot) (waiters : List WaiterRow) → IsLeft t caller ((view t).watches_on spot) waiters → IsFresh caller t → (x : Table) → x.waiters ≡ waiters
    → lives (view x) caller.sid ≡ true → (blocker : Option Sid) → option_map_or (lives (view x)) blocker true ≡ true → (upgrade : Bool)
    → IsNewWaiter (record { sid = caller.sid; call = caller.number; spot = spot; blocker = blocker; upgrade = upgrade }) x
new_waiter t caller spot waiters left fresh x same live blocker behind upgrade = record {
  living = and_from (lives (view x) caller.sid) (option_map_or (lives (view x)) blocker true) live behind;
  others = any_none (λ other. cannot_both_wait other (record { sid = caller.sid; call = caller.number; spot = spot; blocker = blocker; upgrade = upgrade })) x.waiters (λ w i. false_from_ne_true (same_sid w.sid caller.sid && (same_spot w.spot spot || (w.call == caller.number)))
      (λ e. let both = and_parts (same_sid w.sid caller.sid) (same_spot w.spot spot || (w.call == caller.number)) e in
      clash w (subst (IsIn w) same i) both.0 (or_cases (same_spot w.spot spot) (w.call == caller.number) both.1)));
}
  where
    itself : (sid : Sid) (call : ℕ) → is_other_wait sid call sid call ≡ true → ⊥
    itself sid call e = both_ways (same_sid sid sid && (call == call)) (not-true (same_sid sid sid && (call == call)) e) (and_from (same_sid sid sid) (call == call) (same_sid-refl sid) (eq-eqb call call refl))

    clash : (w : WaiterRow) → IsIn w waiters → same_sid w.sid caller.sid ≡ true → (same_spot w.spot spot ≡ true) ⊎ ((w.call == caller.number) ≡ true) → ⊥
    clash w i own (inl e) =
        itself w.sid w.call (left.others w i (watch_on spot w) (mapped_in (watch_on spot) (filter (waits_on spot) t.waiters) w (passes_in (waits_on spot) t.waiters w (left.before w i) e)) own)
    clash w i own (inr e) =
        both_ways (same_sid w.sid caller.sid && (w.call == caller.number)) (none_of (λ other. same_sid other.sid caller.sid && (other.call == caller.number)) t.waiters fresh.wait w (left.before w i))
        (and_from (same_sid w.sid caller.sid) (w.call == caller.number) own e)
