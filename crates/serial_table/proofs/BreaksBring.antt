-- What breaks bring lies in its sets, and their letters too. They bring no rows, no waiters and no sessions.
use Rattle.std.proofs.Common.{◌≡◌, ◌==◌, ◌+◌, ◌-◌, ◌≤◌, ◌^◌, ℕ, true, false, not, List, [], ◌∷◌, Option, Some, None, refl, subst, inl, inr, ◌⊎◌, arith}
use Rattle.std.specs.Prelude.{IfSome, min, bit_and}
use Rattle.std.specs.List.{list_all, sum_by}
use Rattle.std.proofs.lemmas.Bool.{and_parts, and_from, cond_both}
use Rattle.std.proofs.lemmas.List.Sums.{sum_by-cons}
use Rattle.sid_core.specs.declared.bits.LeaseState.{LeaseState}
use Rattle.sid_core.specs.declared.ids.LeaseName.{LeaseName}
use Rattle.sid_core.specs.declared.entry.Post.{Post}
use Rattle.sid_core.specs.declared.setup.Setup.{Setup}
use Rattle.sid_core.specs.declared.limits.TheConstants.{MAX_MOMENT}
use Rattle.std.proofs.Math.Nat.{min-eq_left}
use Rattle.sid_core.specs.Values.{IsMoment, is_state, is_part_of}
use Rattle.sid_core.specs.declared.ids.Moment.{Moment}
use Rattle.serial_table.specs.declared.rows.OpenRow.{OpenRow}
use Rattle.serial_table.specs.declared.rows.LeaseRow.{LeaseRow}
use Rattle.serial_table.specs.declared.rows.Breaking.{Breaking}
use Rattle.serial_table.specs.declared.table.Table.{Table}
use Rattle.serial_table.specs.declared.change.Change.{Change}
use Rattle.serial_table.specs.declared.change.Change.TheVariants as c
use Rattle.serial_table.specs.File.{FileView}
use Rattle.serial_table.specs.Change.{perform, perform_all}
use Rattle.serial_table.specs.Local.{perform_all_in_file}
use Rattle.serial_table.specs.Break.{Breaks, no_break, until_of, breaks_read, begins_to_break, breaks_to, breaks_further, break_by, connected_under, break_lease, break_first, both, break_each}
use Rattle.serial_table.specs.Sound.{IsConsistent, AllAlong}
use Rattle.serial_table.specs.InSets.{IsFileNumber, IsBreakLetter, IsLetter, IsBreaking, IsLeaseRow, IsInSets, Brings, AllBring}
use Rattle.serial_table.proofs.Members.{IsIn, all_of, in_append}
use Rattle.serial_table.proofs.Consistent.{consistent-perform_all}
use Rattle.serial_table.proofs.Fitting.{along_append}
use Rattle.serial_table.proofs.InSets.{in_sets-perform_all}
use Rattle.serial_table.proofs.States.{state_and, part_and, less_and}
use Rattle.serial_table.proofs.Shown.{Shows, shown_lease, is_of_break, shows-perform_all}
use Rattle.serial_table.proofs.BreaksFit.{first_fits}

-- ---- what holds of each change that breaks make

pub by_break : (file : ℕ) (P : Change → Type 0) → ((g : ℕ) (name : LeaseName) (held : LeaseState) (breaking : Option Breaking) → P (c.SetLease g name held breaking))
    → ((g : ℕ) (name : LeaseName) (state : LeaseState) → P (c.Acknowledge g name state)) → P c.Settle → (change : Change) → is_of_break file change ≡ true → P change
by_break file P set ack settle (c.SetLease g name held breaking) e = set g name held breaking
by_break file P set ack settle (c.Acknowledge g name state) e = ack g name state
by_break file P set ack settle c.Settle e = settle
by_break file P set ack settle (c.AddOpen row) e = absurd cc
by_break file P set ack settle (c.DropOpen g id) e = absurd cc
by_break file P set ack settle (c.TakeOver g id owner handle) e = absurd cc
by_break file P set ack settle (c.AddLease lease) e = absurd cc
by_break file P set ack settle (c.AddRange range) e = absurd cc
by_break file P set ack settle (c.DropRange range) e = absurd cc
by_break file P set ack settle (c.AddPending g) e = absurd cc
by_break file P set ack settle (c.DropPending g) e = absurd cc
by_break file P set ack settle (c.AddHold hold) e = absurd cc
by_break file P set ack settle (c.SetHold key owner mode) e = absurd cc
by_break file P set ack settle (c.DropHold key owner) e = absurd cc
by_break file P set ack settle (c.AddWaiter waiter) e = absurd cc
by_break file P set ack settle (c.DropWaiter sid call) e = absurd cc
by_break file P set ack settle (c.Send post) e = absurd cc
by_break file P set ack settle (c.TakeLetter to) e = absurd cc
by_break file P set ack settle (c.EndSession sid moment) e = absurd cc
by_break file P set ack settle (c.NextSession sid moment) e = absurd cc

-- what holds of each of them at every table holds along them
pub breaks_along : (file : ℕ) (Q : Change → Table → Type 0) → ((change : Change) → is_of_break file change ≡ true → (t : Table) → Q change t) → (cs : List Change) (t : Table) → list_all (is_of_break file) cs ≡ true → AllAlong Q cs t
breaks_along file Q h [] t e = tt
breaks_along file Q h (change ∷ cs) t e =
    let both = and_parts (is_of_break file change) (list_all (is_of_break file) cs) e in (h change both.0 t, breaks_along file Q h cs (perform change t) both.1)

-- what none of them adds, all don't
pub breaks_add_none : (file : ℕ) (adds : Change → ℕ) → ((change : Change) → is_of_break file change ≡ true → adds change ≡ 0) → (cs : List Change) → list_all (is_of_break file) cs ≡ true → sum_by adds cs ≡ 0
breaks_add_none file adds h [] e = refl
breaks_add_none file adds h (change ∷ cs) e =
    let both = and_parts (is_of_break file change) (list_all (is_of_break file) cs) e in
    omega (arith, sum_by-cons adds change cs, h change both.0, breaks_add_none file adds h cs both.1)

-- ---- sets

pub record BreaksBring (setup : Setup) (b : Breaks) : Type 0 where
  pub changes : (t : Table) → AllBring setup b.changes t
  pub letters : (post : Post) → IsIn post b.posts → IsLetter setup post.letter

pub no_break_brings : (setup : Setup) → BreaksBring setup no_break
no_break_brings setup = record { changes = λ t. tt; letters = λ post i. absurd i }

pub both_bring : (setup : Setup) (a b : Breaks) → BreaksBring setup a → BreaksBring setup b → BreaksBring setup (both a b)
both_bring setup a b ha hb = record {
  changes = λ t. along_append (Brings setup) a.changes b.changes t (ha.changes t) (hb.changes (perform_all a.changes t));
  letters = λ post i. either post (in_append a.posts b.posts post i);
}
  where
    either : (post : Post) → IsIn post a.posts ⊎ IsIn post b.posts → IsLetter setup post.letter
    either post (inl i) = ha.letters post i
    either post (inr i) = hb.letters post i

-- a break that is made at a moment of the script's clock ends 35 seconds after one
until_in_sets : (now : Moment) → IsMoment now.0 → (35 ≤ (until_of now).0) × ((until_of now).0 ≤ MAX_MOMENT + 35)
until_in_sets now timed =
    let is : min (now.0 + 35) (2 ^ 64 - 1) ≡ now.0 + 35 = min-eq_left (omega arith) in
    (omega (arith, is), omega (arith, is))

module _ (setup : Setup) (now : Moment) (timed : IsMoment now.0) (file kept : ℕ) (kept_is : is_state kept ≡ true) where
  to_brings : (connected : List OpenRow) (l : LeaseRow) → IsLeaseRow setup l → l.file ≡ file → is_part_of l.held.0 kept ≡ false → BreaksBring setup (breaks_to now file connected l (bit_and l.held.0 kept))
  to_brings [] l h own less = record { changes = λ t. ((state_and l.held.0 kept h.held kept_is, tt), (tt, tt)); letters = λ post i. absurd i }
  to_brings (first ∷ others) l h own less =
      let target = bit_and l.held.0 kept in
      let state = state_and l.held.0 kept h.held kept_is in
      let letter : IsBreakLetter setup file l.name.key l.held.0 target = record {
        file = subst (IsFileNumber setup) own h.file;
        key = h.name.key;
        from = h.held;
        to = state;
        less = and_from (is_part_of target l.held.0) (not (target == l.held.0)) (part_and l.held.0 kept h.held kept_is) (less_and l.held.0 kept h.held kept_is less);
      } in
      cond_both (l.held.0 == 1) (breaks_read file first.owner l target) (begins_to_break now file first.owner l target) (BreaksBring setup)
      (λ _. record { changes = λ t. ((state, tt), tt); letters = λ post i. only post i letter })
      (λ _. record { changes = λ t. ((h.held, record { asked = state; needed = state; until = until_in_sets now timed }), tt); letters = λ post i. only post i letter })
    where
      only : {post : Post} (other : Post) → IsIn other (post ∷ []) → IsLetter setup post.letter → IsLetter setup other.letter
      only other (inl e) is = subst (λ (p : Post). IsLetter setup p.letter) e is
      only other (inr i) is = absurd i

  further_brings : (connected : List OpenRow) (l : LeaseRow) (b : Breaking) → IsLeaseRow setup l → l.breaking ≡ Some b → BreaksBring setup (breaks_further file connected l b kept)
  further_brings connected l b h is =
      let old = subst (λ o. IfSome o IsBreaking) is h.breaking in
      record { changes = λ t. ((h.held, record { asked = old.asked; needed = state_and b.needed.0 kept old.needed kept_is; until = old.until }), tt); letters = λ post i. absurd i }

  break_brings : (connected : List OpenRow) (l : LeaseRow) (breaking : Option Breaking) → IsLeaseRow setup l → l.file ≡ file → l.breaking ≡ breaking → BreaksBring setup (break_by now file connected kept l breaking)
  break_brings connected l (Some b) h own is = further_brings connected l b h is
  break_brings connected l None h own is =
      cond_both (is_part_of l.held.0 kept) no_break (breaks_to now file connected l (bit_and l.held.0 kept)) (BreaksBring setup) (λ _. no_break_brings setup) (λ less. to_brings connected l h own less)

  pub lease_brings : (f : FileView) (l : LeaseRow) → IsLeaseRow setup l → l.file ≡ file → BreaksBring setup (break_lease now file f kept l)
  unfolding break_lease
  lease_brings f l h own = break_brings (connected_under f l.name) l l.breaking h own refl

  first_brings : (f : FileView) (t : Table) → IsInSets setup t → (ls : List LeaseRow) → ((l : LeaseRow) → IsIn l ls → IsIn l t.leases × (l.file ≡ file)) → BreaksBring setup (break_first now file f kept ls)
  first_brings f t n [] there = no_break_brings setup
  first_brings f t n (l ∷ ls) there = let here = there l (inl refl) in lease_brings f l (all_of (IsLeaseRow setup) t.leases n.leases l here.0) here.1

  pub each_brings : (names : List LeaseName) (f : FileView) (t : Table) → Shows file f t → IsConsistent t → IsInSets setup t → BreaksBring setup (break_each now file f kept names)
  unfolding break_each
  each_brings [] f t s k n = no_break_brings setup
  each_brings (name ∷ names) f t s k n =
      let first = break_first now file f kept (f.leases name) in
      let a = first_fits now file kept kept_is f t s k (f.leases name) (λ l i. (shown_lease file f t s name l i).0) in
      let b = first_brings f t n (f.leases name) (λ l i. let here = shown_lease file f t s name l i in (here.0, here.1)) in
      both_bring setup first (break_each now file (perform_all_in_file first.changes f) kept names) b
      (each_brings names (perform_all_in_file first.changes f) (perform_all first.changes t) (shows-perform_all file first.changes f t a.inside s) (consistent-perform_all first.changes t k (a.fits t))
      (in_sets-perform_all setup first.changes t n (a.fits t) (b.changes t)))
