-- Each letter of a break takes a bit at least from what leases can still lose.
use Rattle.std.proofs.Common.{◌≡◌, ◌≤◌, ◌+◌, ◌==◌, ℕ, true, false, ◌&&◌, List, [], ◌∷◌, length, Option, Some, None, refl, ap, subst, inl, arith}
use Rattle.std.specs.Prelude.{bit_and}
use Rattle.std.specs.Option.{option_map_or}
use Rattle.std.proofs.lemmas.Bool.{and_parts, cond_both}
use Rattle.std.proofs.lemmas.List.{length-append}
use Rattle.sid_core.specs.declared.ids.LeaseName.{LeaseName}
use Rattle.sid_core.specs.declared.bits.LeaseState.{LeaseState}
use Rattle.sid_core.specs.Words.{lease_state}
use Rattle.sid_core.specs.Values.{is_state, is_part_of}
use Rattle.sid_core.specs.declared.ids.Moment.{Moment}
use Rattle.serial_table.specs.declared.rows.OpenRow.{OpenRow}
use Rattle.serial_table.specs.declared.rows.LeaseRow.{LeaseRow}
use Rattle.serial_table.specs.declared.rows.Breaking.{Breaking}
use Rattle.serial_table.specs.declared.table.Table.{Table}
use Rattle.serial_table.specs.declared.change.Change.TheVariants as c
use Rattle.serial_table.specs.File.{FileView}
use Rattle.serial_table.specs.Change.{perform, perform_all}
use Rattle.serial_table.specs.Local.{perform_all_in_file}
use Rattle.serial_table.specs.Break.{Breaks, no_break, new_breaking, breaks_read, begins_to_break, breaks_to, breaks_further, break_by, connected_under, break_lease, break_first, both, break_each}
use Rattle.serial_table.specs.Sound.{IsConsistent, states_agree}
use Rattle.serial_table.proofs.Members.{IsIn, each}
use Rattle.serial_table.proofs.Concluding.{perform_all-append}
use Rattle.serial_table.proofs.Consistent.{consistent-perform, consistent-perform_all}
use Rattle.serial_table.proofs.Losing.{bits, goal_of, to_lose, set_one, bits-perform}
use Rattle.serial_table.proofs.States.{state_and, bits_and, bits_less}
use Rattle.serial_table.proofs.Shown.{Shows, shown_lease, shows-perform_all}
use Rattle.serial_table.proofs.BreaksFit.{first_fits}

abbrev pub Loses : Table → Breaks → Type 0
Loses t b = length b.posts + to_lose (perform_all b.changes t).leases ≤ to_lose t.leases

pub both_lose : (t : Table) (a b : Breaks) → Loses t a → Loses (perform_all a.changes t) b → Loses t (both a b)
both_lose t a b la lb = omega (arith, length-append a.posts b.posts, ap (λ (u : Table). to_lose u.leases) (perform_all-append a.changes b.changes t))

-- ---- one lease of the table

module _ (now : Moment) (kept : ℕ) (kept_is : is_state kept ≡ true) (t : Table) (k : IsConsistent t) (l : LeaseRow) (i : IsIn l t.leases) where
  set_bits : (held : LeaseState) (breaking : Option Breaking)
      → to_lose (perform (c.SetLease l.file l.name held breaking) t).leases + bits (goal_of l) ≡ to_lose t.leases + bits (goal_of (record l { held = held; breaking = breaking }))
  set_bits held breaking = set_one l held breaking t.leases k.leases_differ i

  held_goal : l.breaking ≡ None → goal_of l ≡ l.held.0
  held_goal is = ap (λ o. option_map_or (λ (b : Breaking). b.asked.0) o l.held.0) is

  to_loses : (connected : List OpenRow) → l.breaking ≡ None → is_state l.held.0 ≡ true → is_part_of l.held.0 kept ≡ false → Loses t (breaks_to now l.file connected l (bit_and l.held.0 kept))
  to_loses [] is h less =
      let target = bit_and l.held.0 kept in
      let u = perform (c.SetLease l.file l.name (lease_state target) None) t in
      let agrees : IsConsistent u = consistent-perform (c.SetLease l.file l.name (lease_state target) None) t k (ap (λ b. b && true) (state_and l.held.0 kept h kept_is)) in
      let own : bits (goal_of l) ≡ bits l.held.0 = ap bits (held_goal is) in
      omega (arith, bits-perform c.Settle u agrees, set_bits (lease_state target) None, bits_and l.held.0 kept h kept_is)
  to_loses (first ∷ others) is h less =
      let target = bit_and l.held.0 kept in
      let own : bits (goal_of l) ≡ bits l.held.0 = ap bits (held_goal is) in
      cond_both (l.held.0 == 1) (breaks_read l.file first.owner l target) (begins_to_break now l.file first.owner l target) (Loses t)
      (λ _. omega (arith, set_bits (lease_state target) None, bits_less l.held.0 kept h kept_is less))
      (λ _. omega (arith, set_bits (lease_state l.held.0) (Some (new_breaking now target)), bits_less l.held.0 kept h kept_is less))

  further_loses : (connected : List OpenRow) (b : Breaking) → l.breaking ≡ Some b → Loses t (breaks_further l.file connected l b kept)
  further_loses connected b is =
      let own : bits (goal_of l) ≡ bits b.asked.0 = ap (λ o. bits (option_map_or (λ (b : Breaking). b.asked.0) o l.held.0)) is in
      omega (arith, set_bits (lease_state l.held.0) (Some (record b { needed = lease_state (bit_and b.needed.0 kept) })))

  break_loses : (connected : List OpenRow) (breaking : Option Breaking) → l.breaking ≡ breaking → states_agree l.held.0 breaking ≡ true → Loses t (break_by now l.file connected kept l breaking)
  break_loses connected (Some b) is e = further_loses connected b is
  break_loses connected None is e =
      cond_both (is_part_of l.held.0 kept) no_break (breaks_to now l.file connected l (bit_and l.held.0 kept)) (Loses t) (λ _. omega arith) (λ less. to_loses connected is (and_parts (is_state l.held.0) true e).0 less)

  pub lease_loses : (file : ℕ) (f : FileView) → l.file ≡ file → Loses t (break_lease now file f kept l)
  unfolding break_lease
  lease_loses file f own =
      subst (λ g. Loses t (break_by now g (connected_under f l.name) kept l l.breaking)) own
      (break_loses (connected_under f l.name) l.breaking refl (each (λ l. states_agree l.held.0 l.breaking) t.leases k.leases_agree l i))

-- ---- leases one after another

module _ (now : Moment) (file kept : ℕ) (kept_is : is_state kept ≡ true) where
  first_loses : (f : FileView) (t : Table) → IsConsistent t → (ls : List LeaseRow) → ((l : LeaseRow) → IsIn l ls → IsIn l t.leases × (l.file ≡ file)) → Loses t (break_first now file f kept ls)
  first_loses f t k [] there = omega arith
  first_loses f t k (l ∷ ls) there = let here = there l (inl refl) in lease_loses now kept kept_is t k l here.0 file f here.1

  pub each_loses : (names : List LeaseName) (f : FileView) (t : Table) → Shows file f t → IsConsistent t → Loses t (break_each now file f kept names)
  unfolding break_each
  each_loses [] f t s k = omega arith
  each_loses (name ∷ names) f t s k =
      let first = break_first now file f kept (f.leases name) in
      let a = first_fits now file kept kept_is f t s k (f.leases name) (λ l i. (shown_lease file f t s name l i).0) in
      both_lose t first (break_each now file (perform_all_in_file first.changes f) kept names)
      (first_loses f t k (f.leases name) (λ l i. let here = shown_lease file f t s name l i in (here.0, here.1)))
      (each_loses names (perform_all_in_file first.changes f) (perform_all first.changes t) (shows-perform_all file first.changes f t a.inside s) (consistent-perform_all first.changes t k (a.fits t)))
