-- What a decision owes that breaks leases, with changes of rows before the breaks and after them.
use Rattle.std.proofs.Common.{◌≡◌, ◌≤◌, ◌+◌, ◌==◌, ℕ, Bool, true, false, List, [], ◌∷◌, ◌++◌, length, filter, Option, Some, None, refl, sym, ap, ◌∙◌, subst, arith}
use Rattle.std.specs.List.{IsDistinct, list_all, sum_by}
use Rattle.std.proofs.lemmas.Bool.{and_parts, and_from, cond_both}
use Rattle.std.proofs.lemmas.List.Folds.{list_all-append}
use Rattle.std.proofs.lemmas.List.Sums.{sum_by-cons, sum_by-append}
use Rattle.sid_core.specs.declared.bits.LeaseState.{LeaseState}
use Rattle.sid_core.specs.declared.ids.Sid.{Sid}
use Rattle.sid_core.specs.declared.ids.LeaseName.{LeaseName}
use Rattle.sid_core.specs.declared.setup.Setup.{Setup}
use Rattle.sid_core.specs.Ids.{same_sid, same_spot}
use Rattle.sid_core.specs.Values.{is_state}
use Rattle.sid_core.specs.declared.ids.Moment.{Moment}
use Rattle.serial_table.specs.declared.rows.OpenRow.{OpenRow}
use Rattle.serial_table.specs.declared.rows.LeaseRow.{LeaseRow}
use Rattle.serial_table.specs.declared.rows.RangeRow.{RangeRow}
use Rattle.serial_table.specs.declared.rows.Breaking.{Breaking}
use Rattle.serial_table.specs.declared.rows.Watch.{Watch}
use Rattle.serial_table.specs.declared.table.Table.{Table}
use Rattle.serial_table.specs.declared.change.Change.{Change}
use Rattle.serial_table.specs.declared.change.Change.TheVariants as c
use Rattle.serial_table.specs.declared.decision.Caller.{Caller}
use Rattle.serial_table.specs.declared.decision.Decision.{Decision}
use Rattle.serial_table.specs.View.{view, lives}
use Rattle.serial_table.specs.File.{FileView}
use Rattle.serial_table.specs.Settle.{settle_where}
use Rattle.serial_table.specs.Change.{perform, perform_all}
use Rattle.serial_table.specs.Local.{perform_all_in_file}
use Rattle.serial_table.specs.Decision.{own_waits_end, no_longer_waits, waits_now, settling}
use Rattle.serial_table.specs.Break.{Breaks, no_break, breaks_read, begins_to_break, breaks_to, break_by, connected_under, break_lease, break_first, both, break_each}
use Rattle.serial_table.specs.Sound.{IsConsistent, AllAlong, AllFit}
use Rattle.serial_table.specs.InSets.{Brings, AllBring}
use Rattle.serial_table.specs.InPlace.{is_made}
use Rattle.serial_table.proofs.Members.{IsIn, all_each}
use Rattle.serial_table.proofs.SameWorkers.{keeps_workers}
use Rattle.serial_table.proofs.Living.{lives_among}
use Rattle.serial_table.proofs.Concluding.{PassesFinishing, no_more_all, perform_all-append}
use Rattle.serial_table.proofs.Workers.{keeps_waits}
use Rattle.serial_table.proofs.Deciding.{made_waits, kept_made}
use Rattle.serial_table.proofs.Consistent.{consistent-perform_all}
use Rattle.serial_table.proofs.Waits.{adds_waits}
use Rattle.serial_table.proofs.Losing.{to_lose, adds_bits, bits-perform_all}
use Rattle.serial_table.proofs.Numbered.{Numbers}
use Rattle.serial_table.proofs.Fitting.{along_append, fit_append}
use Rattle.serial_table.proofs.Shown.{Shows, is_of_break, lives-breaks}
use Rattle.serial_table.proofs.BreaksFit.{BreaksFit, both_fit, each_fits}
use Rattle.serial_table.proofs.BreaksLose.{Loses, both_lose, each_loses}
use Rattle.serial_table.proofs.BreaksBring.{by_break, breaks_along, breaks_add_none, BreaksBring}
use Rattle.serial_table.proofs.Owing.{brings, begins, no_more_waits, DecisionHolds, DecisionBrings}

-- ---- changes of rows alone

abbrev pub is_of_rows : Change → Bool
is_of_rows (c.AddOpen row) = true
is_of_rows (c.AddLease lease) = true
is_of_rows (c.SetLease file name held breaking) = true
is_of_rows (c.Acknowledge file name state) = true
is_of_rows (c.AddRange range) = true
is_of_rows c.Settle = true
is_of_rows _ = false

pub by_row : (P : Change → Type 0) → ((row : OpenRow) → P (c.AddOpen row)) → ((lease : LeaseRow) → P (c.AddLease lease))
    → ((file : ℕ) (name : LeaseName) (held : LeaseState) (breaking : Option Breaking) → P (c.SetLease file name held breaking)) → ((file : ℕ) (name : LeaseName) (state : LeaseState) → P (c.Acknowledge file name state))
    → ((range : RangeRow) → P (c.AddRange range)) → P c.Settle → (change : Change) → is_of_rows change ≡ true → P change
by_row P opened leased set acknowledged ranged settled (c.AddOpen row) e = opened row
by_row P opened leased set acknowledged ranged settled (c.AddLease lease) e = leased lease
by_row P opened leased set acknowledged ranged settled (c.SetLease file name held breaking) e = set file name held breaking
by_row P opened leased set acknowledged ranged settled (c.Acknowledge file name state) e = acknowledged file name state
by_row P opened leased set acknowledged ranged settled (c.AddRange range) e = ranged range
by_row P opened leased set acknowledged ranged settled c.Settle e = settled
by_row P opened leased set acknowledged ranged settled (c.DropOpen file id) e = absurd cc
by_row P opened leased set acknowledged ranged settled (c.TakeOver file id owner handle) e = absurd cc
by_row P opened leased set acknowledged ranged settled (c.DropRange range) e = absurd cc
by_row P opened leased set acknowledged ranged settled (c.AddPending file) e = absurd cc
by_row P opened leased set acknowledged ranged settled (c.DropPending file) e = absurd cc
by_row P opened leased set acknowledged ranged settled (c.AddHold hold) e = absurd cc
by_row P opened leased set acknowledged ranged settled (c.SetHold key owner mode) e = absurd cc
by_row P opened leased set acknowledged ranged settled (c.DropHold key owner) e = absurd cc
by_row P opened leased set acknowledged ranged settled (c.AddWaiter waiter) e = absurd cc
by_row P opened leased set acknowledged ranged settled (c.DropWaiter sid call) e = absurd cc
by_row P opened leased set acknowledged ranged settled (c.Send post) e = absurd cc
by_row P opened leased set acknowledged ranged settled (c.TakeLetter to) e = absurd cc
by_row P opened leased set acknowledged ranged settled (c.EndSession sid moment) e = absurd cc
by_row P opened leased set acknowledged ranged settled (c.NextSession sid moment) e = absurd cc

-- ---- tests of changes that those of rows pass, and the end of waits

pub record PassesRows (p : Change → Bool) : Type 0 where
  pub finishing : PassesFinishing p
  pub rows : (change : Change) → is_of_rows change ≡ true → p change ≡ true

pub rows_keep : PassesRows keeps_workers
rows_keep = record { finishing = keeps_waits; rows = by_row (λ change. keeps_workers change ≡ true) (λ row. refl) (λ lease. refl) (λ g name held breaking. refl) (λ g name state. refl) (λ range. refl) refl }

pub rows_made : PassesRows is_made
rows_made = record { finishing = made_waits; rows = λ change e. kept_made change (rows_keep.rows change e) }

module _ (p : Change → Bool) (h : PassesRows p) where
  pub one_passes : (change : Change) (cs : List Change) → p change ≡ true → list_all p cs ≡ true → list_all p (change ∷ cs) ≡ true
  one_passes change cs e rest = and_from (p change) (list_all p cs) e rest

  pub both_pass : (cs ds : List Change) → list_all p cs ≡ true → list_all p ds ≡ true → list_all p (cs ++ ds) ≡ true
  both_pass cs ds first later = list_all-append p cs ds ∙ and_from (list_all p cs) (list_all p ds) first later

  -- where the caller's own waits end before
  pub own_pass : (caller : Caller) (watches : List Watch) (d : Decision) → list_all p d.changes ≡ true → list_all p (no_longer_waits caller watches d).changes ≡ true
  own_pass caller watches d e = both_pass (own_waits_end caller watches) d.changes (no_more_all p h.finishing (filter (λ (watch : Watch). same_sid watch.sid caller.sid) watches)) e

  to_passes : (now : Moment) (file : ℕ) (connected : List OpenRow) (l : LeaseRow) (target : ℕ) → list_all p (breaks_to now file connected l target).changes ≡ true
  to_passes now file [] l target = one_passes _ (c.Settle ∷ []) (h.rows _ refl) (one_passes c.Settle [] (h.rows c.Settle refl) refl)
  to_passes now file (first ∷ others) l target =
      cond_both (l.held.0 == 1) (breaks_read file first.owner l target) (begins_to_break now file first.owner l target) (λ (b : Breaks). list_all p b.changes ≡ true) (λ _. one_passes _ [] (h.rows _ refl) refl)
      (λ _. one_passes _ [] (h.rows _ refl) refl)

  by_passes : (now : Moment) (file : ℕ) (connected : List OpenRow) (kept : ℕ) (l : LeaseRow) (breaking : Option Breaking) → list_all p (break_by now file connected kept l breaking).changes ≡ true
  by_passes now file connected kept l (Some b) = one_passes _ [] (h.rows _ refl) refl
  by_passes now file connected kept l None = cond_both _ no_break (breaks_to now file connected l _) (λ (b : Breaks). list_all p b.changes ≡ true) (λ _. refl) (λ _. to_passes now file connected l _)

  pub lease_passes : (now : Moment) (file : ℕ) (f : FileView) (kept : ℕ) (l : LeaseRow) → list_all p (break_lease now file f kept l).changes ≡ true
  unfolding break_lease
  lease_passes now file f kept l = by_passes now file (connected_under f l.name) kept l l.breaking

  first_passes : (now : Moment) (file : ℕ) (f : FileView) (kept : ℕ) (ls : List LeaseRow) → list_all p (break_first now file f kept ls).changes ≡ true
  first_passes now file f kept [] = refl
  first_passes now file f kept (l ∷ ls) = lease_passes now file f kept l

  pub each_passes : (now : Moment) (file : ℕ) (f : FileView) (kept : ℕ) (names : List LeaseName) → list_all p (break_each now file f kept names).changes ≡ true
  unfolding break_each
  each_passes now file f kept [] = refl
  each_passes now file f kept (name ∷ names) =
      let first = break_first now file f kept (f.leases name) in
      both_pass first.changes _ (first_passes now file f kept (f.leases name)) (each_passes now file (perform_all_in_file first.changes f) kept names)

-- ---- who waits and who lives stays as it is

-- the same who wait, and the same workers
pub record IsSame (t u : Table) : Type 0 where
  pub waiters : u.waiters ≡ t.waiters
  pub workers : u.workers ≡ t.workers

same_row : (change : Change) → is_of_rows change ≡ true → (t : Table) → IsSame t (perform change t)
unfolding settle_where
same_row =
    by_row (λ change. (t : Table) → IsSame t (perform change t)) (λ row t. record { waiters = refl; workers = refl }) (λ lease t. record { waiters = refl; workers = refl })
    (λ file name held breaking t. record { waiters = refl; workers = refl }) (λ file name state t. record { waiters = refl; workers = refl }) (λ range t. record { waiters = refl; workers = refl })
    (λ t. record { waiters = refl; workers = refl })

pub same_rows : (cs : List Change) (t : Table) → list_all is_of_rows cs ≡ true → IsSame t (perform_all cs t)
same_rows [] t e = record { waiters = refl; workers = refl }
same_rows (change ∷ cs) t e =
    let all = and_parts (is_of_rows change) (list_all is_of_rows cs) e in
    let here = same_row change all.0 t in
    let rest = same_rows cs (perform change t) all.1 in
    record { waiters = rest.waiters ∙ here.waiters; workers = rest.workers ∙ here.workers }

pub same_lives : (t u : Table) → IsSame t u → (sid : Sid) → lives (view u) sid ≡ lives (view t) sid
same_lives t u same sid = ap (λ workers. lives_among workers sid) same.workers

add_none : (adds : Change → ℕ) → ((change : Change) → is_of_rows change ≡ true → adds change ≡ 0) → (cs : List Change) → list_all is_of_rows cs ≡ true → sum_by adds cs ≡ 0
add_none adds h [] e = refl
add_none adds h (change ∷ cs) e =
    let all = and_parts (is_of_rows change) (list_all is_of_rows cs) e in omega (arith, sum_by-cons adds change cs, h change all.0, add_none adds h cs all.1)

of_break_of_rows : (file : ℕ) (change : Change) → is_of_break file change ≡ true → is_of_rows change ≡ true
of_break_of_rows file = by_break file (λ change. is_of_rows change ≡ true) (λ g name held breaking. refl) (λ g name state. refl) refl

pub breaks_of_rows : (file : ℕ) (cs : List Change) → list_all (is_of_break file) cs ≡ true → list_all is_of_rows cs ≡ true
breaks_of_rows file [] e = refl
breaks_of_rows file (change ∷ cs) e =
    let all = and_parts (is_of_break file change) (list_all (is_of_break file) cs) e in and_from (is_of_rows change) (list_all is_of_rows cs) (of_break_of_rows file change all.0) (breaks_of_rows file cs all.1)

-- ---- what breaks owe

-- They fit, and each letter of theirs takes a bit.
pub record BreaksHold (file : ℕ) (t : Table) (b : Breaks) : Type 0 where
  pub fit : BreaksFit file (lives (view t)) b
  pub lose : Loses t b

pub each_hold : (now : Moment) (file kept : ℕ) → is_state kept ≡ true → (names : List LeaseName) (f : FileView) (t : Table) → Shows file f t → IsConsistent t → BreaksHold file t (break_each now file f kept names)
each_hold now file kept kept_is names f t s k = record { fit = each_fits now file kept kept_is names f t s k; lose = each_loses now file kept kept_is names f t s k }

pub both_hold : (file : ℕ) (t : Table) (a b : Breaks) → BreaksHold file t a → BreaksHold file (perform_all a.changes t) b → BreaksHold file t (both a b)
both_hold file t a b ha hb = record {
  fit = both_fit file (lives (view t)) a b ha.fit (subst (λ alive. BreaksFit file alive b) (lives-breaks file a.changes t ha.fit.inside) hb.fit);
  lose = both_lose t a b ha.lose hb.lose;
}

-- ---- what a decision owes that makes changes of rows, then breaks, then changes of rows

-- which these are
pub record IsRound (d : Decision) (before : List Change) (b : Breaks) (after : List Change) : Type 0 where
  pub changes : d.changes ≡ before ++ (b.changes ++ after)
  pub posts : d.posts ≡ b.posts
  pub first : list_all is_of_rows before ≡ true
  pub later : list_all is_of_rows after ≡ true

-- two rows at most, and four bits and waiters
pub record IsLittle (d : Decision) (before after : List Change) : Type 0 where
  pub rows : sum_by brings before + sum_by brings after ≤ 2
  pub bits : sum_by adds_bits before + sum_by adds_bits after + length (waits_now d.waits) ≤ 4
  pub spots : IsDistinct same_spot d.spots

module _ (low : ℕ → ℕ) (file : ℕ) (t : Table) (k : IsConsistent t) (d : Decision) (before : List Change) (b : Breaks) (after : List Change) (is : IsRound d before b after) where
  abbrev at_breaks : Table
  at_breaks = perform_all before t

  abbrev broken : Table
  broken = perform_all b.changes at_breaks

  settled_is : perform_all (settling d) t ≡ perform_all (after ++ c.Settle ∷ []) broken
  settled_is =
      perform_all-append d.changes (c.Settle ∷ []) t
      ∙ ap (λ cs. perform c.Settle (perform_all cs t)) is.changes
      ∙ ap (perform c.Settle) (perform_all-append before (b.changes ++ after) t ∙ perform_all-append b.changes after at_breaks)
      ∙ sym (perform_all-append after (c.Settle ∷ []) broken)

  pub round_holds : AllFit before t → BreaksHold file at_breaks b → AllFit after broken → AllAlong (Numbers low) before t → AllAlong (Numbers low) after broken → IsLittle d before after
      → ((u : Table) → IsSame t u → AllFit (waits_now d.waits) u) → ((u : Table) → AllAlong (Numbers low) (waits_now d.waits) u) → DecisionHolds low t d
  round_holds fit_before hold fit_after numbers_before numbers_after little waits numbers_waits =
      let rows_breaks = breaks_of_rows file b.changes hold.fit.inside in
      let all_rows : list_all is_of_rows d.changes ≡ true =
      ap (list_all is_of_rows) is.changes ∙ list_all-append is_of_rows before (b.changes ++ after) ∙ and_from (list_all is_of_rows before) (list_all is_of_rows (b.changes ++ after)) is.first
      (list_all-append is_of_rows b.changes after ∙ and_from (list_all is_of_rows b.changes) (list_all is_of_rows after) rows_breaks is.later) in
      let all_settling : list_all is_of_rows (settling d) ≡ true = list_all-append is_of_rows d.changes (c.Settle ∷ []) ∙ and_from (list_all is_of_rows d.changes) true all_rows refl in
      let same = same_rows (settling d) t all_settling in
      let fits : AllFit d.changes t = subst (λ cs. AllFit cs t) (sym is.changes) (fit_append before (b.changes ++ after) t fit_before (fit_append b.changes after at_breaks (hold.fit.fits at_breaks) fit_after)) in
      let k_first = consistent-perform_all before t k fit_before in
      let k_broken = consistent-perform_all b.changes at_breaks k_first (hold.fit.fits at_breaks) in
      let lost : to_lose (perform_all (settling d) t).leases ≤ to_lose broken.leases + sum_by adds_bits after =
      omega (
        arith,
        ap (λ (u : Table). to_lose u.leases) settled_is,
        bits-perform_all (after ++ c.Settle ∷ []) broken k_broken (fit_append after (c.Settle ∷ []) broken fit_after (tt, tt)),
        sum_by-append adds_bits after (c.Settle ∷ []),
        sum_by-cons adds_bits c.Settle [],
      ) in
      let at_first = bits-perform_all before t k fit_before in
      let before_same = same_rows before t is.first in
      record {
        fits = record {
          changes = fits;
          waits = waits (perform_all (settling d) t) same;
          posts = all_each (λ post. lives (view (perform_all (settling d) t)) post.to) d.posts (λ post i. same_lives t (perform_all (settling d) t) same post.to ∙ sym (same_lives t at_breaks before_same post.to) ∙ hold.fit.posts post (subst (IsIn post) is.posts i));
        };
        numbers = record {
          changes = subst (λ cs. AllAlong (Numbers low) cs t) (sym is.changes)
              (along_append (Numbers low) before (b.changes ++ after) t numbers_before
              (along_append (Numbers low) b.changes after at_breaks (breaks_along file (Numbers low) (by_break file (λ change. (u : Table) → Numbers low change u) (λ g name held breaking u. tt) (λ g name state u. tt) (λ u. tt)) b.changes at_breaks hold.fit.inside) numbers_after));
          waits = numbers_waits;
        };
        adds = record {
          rows = omega (
            arith,
            ap (sum_by brings) is.changes,
            sum_by-append brings before (b.changes ++ after),
            sum_by-append brings b.changes after,
            breaks_add_none file brings (by_break file (λ change. brings change ≡ 0) (λ g name held breaking. refl) (λ g name state. refl) refl) b.changes hold.fit.inside,
            little.rows,
          );
          sessions = omega (arith, add_none begins (by_row (λ change. begins change ≡ 0) (λ row. refl) (λ lease. refl) (λ g name held breaking. refl) (λ g name state. refl) (λ range. refl) refl) d.changes all_rows);
          waits = omega (
            arith,
            no_more_waits t d (omega (arith, add_none adds_waits (by_row (λ change. adds_waits change ≡ 0) (λ row. refl) (λ lease. refl) (λ g name held breaking. refl) (λ g name state. refl) (λ range. refl) refl) d.changes all_rows)),
            lost,
            hold.lose,
            at_first,
            ap length is.posts,
            little.bits,
          );
          spots = little.spots;
        };
      }

pub round_brings : (setup : Setup) (t : Table) (d : Decision) (before : List Change) (b : Breaks) (after : List Change) → IsRound d before b after → AllBring setup before t → BreaksBring setup b
    → AllBring setup after (perform_all b.changes (perform_all before t)) → ((u : Table) → AllBring setup (waits_now d.waits) u) → DecisionBrings setup t d
round_brings setup t d before b after is first brought later waits = record {
  changes = subst (λ cs. AllBring setup cs t) (sym is.changes)
      (along_append (Brings setup) before (b.changes ++ after) t first (along_append (Brings setup) b.changes after (perform_all before t) (brought.changes (perform_all before t)) later));
  waits = waits;
  letters = λ post i. brought.letters post (subst (IsIn post) is.posts i);
}
