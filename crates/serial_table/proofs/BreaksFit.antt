-- What the breaks of leases come to: their changes fit any table, and those to whom they post, and for whom they wait, live.
use Rattle.std.proofs.Common.{◌≡◌, ◌==◌, ℕ, Bool, true, false, not, ◌&&◌, List, [], ◌∷◌, Option, Some, None, refl, sym, ap, ◌∙◌, subst, inl, inr, ◌⊎◌, eq-eqb}
use Rattle.std.specs.Prelude.{bit_and}
use Rattle.std.specs.List.{list_all}
use Rattle.std.specs.Option.{option_map_or}
use Rattle.std.proofs.lemmas.Bool.{and_parts, and_from, cond_both}
use Rattle.std.proofs.lemmas.List.Folds.{list_all-append}
use Rattle.sid_core.specs.declared.ids.Sid.{Sid}
use Rattle.sid_core.specs.declared.ids.LeaseName.{LeaseName}
use Rattle.sid_core.specs.declared.entry.Post.{Post}
use Rattle.sid_core.specs.Values.{is_state, is_part_of}
use Rattle.sid_core.specs.declared.ids.Moment.{Moment}
use Rattle.serial_table.specs.declared.rows.OpenRow.{OpenRow}
use Rattle.serial_table.specs.declared.rows.LeaseRow.{LeaseRow}
use Rattle.serial_table.specs.declared.rows.Breaking.{Breaking}
use Rattle.serial_table.specs.declared.table.Table.{Table}
use Rattle.serial_table.specs.View.{view, lives}
use Rattle.serial_table.specs.File.{FileView}
use Rattle.serial_table.specs.Change.{perform_all}
use Rattle.serial_table.specs.Local.{perform_all_in_file}
use Rattle.serial_table.specs.Break.{Breaks, no_break, new_breaking, breaks_read, begins_to_break, breaks_to, first_owner, breaks_further, break_by, connected_under, break_lease, break_first, first_of, both, break_each}
use Rattle.serial_table.specs.Sound.{IsConsistent, AllFit, breaks_well, states_agree}
use Rattle.serial_table.proofs.Members.{IsIn, each, in_append}
use Rattle.serial_table.proofs.Consistent.{consistent-perform_all}
use Rattle.serial_table.proofs.Fitting.{fit_append}
use Rattle.serial_table.proofs.States.{state_and, part_itself, part_and, less_and, part_less}
use Rattle.serial_table.proofs.Shown.{Shows, shown_lease, shown_open, is_of_break, shows-perform_all, lives-breaks}

pub record BreaksFit (file : ℕ) (alive : Sid → Bool) (b : Breaks) : Type 0 where
  pub inside : list_all (is_of_break file) b.changes ≡ true
  pub fits : (t : Table) → AllFit b.changes t
  pub posts : (post : Post) → IsIn post b.posts → alive post.to ≡ true
  pub blocker : option_map_or alive b.blocker true ≡ true

pub no_break_fits : (file : ℕ) (alive : Sid → Bool) → BreaksFit file alive no_break
no_break_fits file alive = record { inside = refl; fits = λ t. tt; posts = λ post i. absurd i; blocker = refl }

pub both_fit : (file : ℕ) (alive : Sid → Bool) (a b : Breaks) → BreaksFit file alive a → BreaksFit file alive b → BreaksFit file alive (both a b)
both_fit file alive a b fa fb = record {
  inside = list_all-append (is_of_break file) a.changes b.changes ∙ and_from (list_all (is_of_break file) a.changes) (list_all (is_of_break file) b.changes) fa.inside fb.inside;
  fits = λ t. fit_append a.changes b.changes t (fa.fits t) (fb.fits (perform_all a.changes t));
  posts = λ post i. either post (in_append a.posts b.posts post i);
  blocker = first_blocks a.blocker b.blocker fa.blocker fb.blocker;
}
  where
    either : (post : Post) → IsIn post a.posts ⊎ IsIn post b.posts → alive post.to ≡ true
    either post (inl i) = fa.posts post i
    either post (inr i) = fb.posts post i

    first_blocks : (x y : Option Sid) → option_map_or alive x true ≡ true → option_map_or alive y true ≡ true → option_map_or alive (first_of x y) true ≡ true
    first_blocks (Some sid) y ex ey = ex
    first_blocks None y ex ey = ey

-- ---- one lease

module _ (now : Moment) (file : ℕ) (alive : Sid → Bool) (kept : ℕ) (kept_is : is_state kept ≡ true) where
  own_file : (file == file) ≡ true
  own_file = eq-eqb file file refl

  one_post : (to : Sid) (post : Post) (other : Post) → alive to ≡ true → post.to ≡ to → IsIn other (post ∷ []) → alive other.to ≡ true
  one_post to post other live e (inl h) = ap (λ (p : Post). alive p.to) (sym h) ∙ ap alive e ∙ live
  one_post to post other live e (inr i) = absurd i

  begins_well : (held : ℕ) → is_state held ≡ true → is_part_of held kept ≡ false → states_agree held (Some (new_breaking now (bit_and held kept))) ≡ true
  begins_well held h less =
      let target = bit_and held kept in
      let state = state_and held kept h kept_is in
      and_from (is_state held) _ h (and_from (is_state target) _ state (and_from (is_state target) _ state (and_from (is_part_of target target) _ (part_itself target state)
      (and_from (is_part_of target held) (not (target == held)) (part_and held kept h kept_is) (less_and held kept h kept_is less)))))

  to_fits : (connected : List OpenRow) (l : LeaseRow) → ((row : OpenRow) → IsIn row connected → alive row.owner ≡ true) → is_state l.held.0 ≡ true → is_part_of l.held.0 kept ≡ false
      → BreaksFit file alive (breaks_to now file connected l (bit_and l.held.0 kept))
  to_fits [] l living h less = record {
    inside = ap (λ b. b && true) own_file;
    fits = λ t. (ap (λ b. b && true) (state_and l.held.0 kept h kept_is), (tt, tt));
    posts = λ post i. absurd i;
    blocker = refl;
  }
  to_fits (first ∷ others) l living h less =
      let live = living first (inl refl) in
      cond_both (l.held.0 == 1) (breaks_read file first.owner l (bit_and l.held.0 kept)) (begins_to_break now file first.owner l (bit_and l.held.0 kept)) (BreaksFit file alive)
      (λ _. record {
        inside = ap (λ b. b && true) own_file;
        fits = λ t. (ap (λ b. b && true) (state_and l.held.0 kept h kept_is), tt);
        posts = λ post i. one_post first.owner _ post live refl i;
        blocker = refl;
      })
      (λ _. record {
        inside = ap (λ b. b && true) own_file;
        fits = λ t. (begins_well l.held.0 h less, tt);
        posts = λ post i. one_post first.owner _ post live refl i;
        blocker = live;
      })

  first_lives : (connected : List OpenRow) → ((row : OpenRow) → IsIn row connected → alive row.owner ≡ true) → option_map_or alive (first_owner connected) true ≡ true
  first_lives [] living = refl
  first_lives (first ∷ others) living = living first (inl refl)

  further_fits : (connected : List OpenRow) (l : LeaseRow) (b : Breaking) → ((row : OpenRow) → IsIn row connected → alive row.owner ≡ true) → states_agree l.held.0 (Some b) ≡ true
      → BreaksFit file alive (breaks_further file connected l b kept)
  further_fits connected l b living e =
      let held = and_parts (is_state l.held.0) (breaks_well l.held.0 (Some b)) e in
      let asked = and_parts (is_state b.asked.0) _ held.1 in
      let needed = and_parts (is_state b.needed.0) _ asked.1 in
      let part = and_parts (is_part_of b.needed.0 b.asked.0) _ needed.1 in
      let less = bit_and b.needed.0 kept in
      record {
        inside = ap (λ b. b && true) own_file;
        fits = λ t. (
          and_from (is_state l.held.0) _ held.0 (and_from (is_state b.asked.0) _ asked.0 (and_from (is_state less) _ (state_and b.needed.0 kept needed.0 kept_is)
              (and_from (is_part_of less b.asked.0) _ (part_less b.needed.0 b.asked.0 kept needed.0 asked.0 kept_is part.0) part.1))),
          tt,
        );
        posts = λ post i. absurd i;
        blocker = cond_both (is_part_of l.held.0 kept) None (first_owner connected) (λ o. option_map_or alive o true ≡ true) (λ _. refl) (λ _. first_lives connected living);
      }

  break_fits : (connected : List OpenRow) (l : LeaseRow) (breaking : Option Breaking) → ((row : OpenRow) → IsIn row connected → alive row.owner ≡ true) → states_agree l.held.0 breaking ≡ true
      → BreaksFit file alive (break_by now file connected kept l breaking)
  break_fits connected l (Some b) living e = further_fits connected l b living e
  break_fits connected l None living e =
      cond_both (is_part_of l.held.0 kept) no_break (breaks_to now file connected l (bit_and l.held.0 kept)) (BreaksFit file alive) (λ _. no_break_fits file alive)
      (λ less. to_fits connected l living (and_parts (is_state l.held.0) true e).0 less)

  pub lease_fits : (f : FileView) (l : LeaseRow) → ((row : OpenRow) → IsIn row (connected_under f l.name) → alive row.owner ≡ true) → states_agree l.held.0 l.breaking ≡ true
      → BreaksFit file alive (break_lease now file f kept l)
  unfolding break_lease
  lease_fits f l living e = break_fits (connected_under f l.name) l l.breaking living e

-- ---- leases one after another

module _ (now : Moment) (file kept : ℕ) (kept_is : is_state kept ≡ true) where
  pub first_fits : (f : FileView) (t : Table) → Shows file f t → IsConsistent t → (ls : List LeaseRow) → ((l : LeaseRow) → IsIn l ls → IsIn l t.leases) → BreaksFit file (lives (view t)) (break_first now file f kept ls)
  first_fits f t s k [] there = no_break_fits file (lives (view t))
  first_fits f t s k (l ∷ ls) there =
      lease_fits now file (lives (view t)) kept kept_is f l (λ row i. (shown_open file f t s l.name row i).1) (each (λ l. states_agree l.held.0 l.breaking) t.leases k.leases_agree l (there l (inl refl)))

  pub each_fits : (names : List LeaseName) (f : FileView) (t : Table) → Shows file f t → IsConsistent t → BreaksFit file (lives (view t)) (break_each now file f kept names)
  unfolding break_each
  each_fits [] f t s k = no_break_fits file (lives (view t))
  each_fits (name ∷ names) f t s k =
      let first = break_first now file f kept (f.leases name) in
      let a = first_fits f t s k (f.leases name) (λ l i. (shown_lease file f t s name l i).0) in
      let u = perform_all first.changes t in
      let later = each_fits names (perform_all_in_file first.changes f) u (shows-perform_all file first.changes f t a.inside s) (consistent-perform_all first.changes t k (a.fits t)) in
      both_fit file (lives (view t)) first (break_each now file (perform_all_in_file first.changes f) kept names) a
      (subst (λ alive. BreaksFit file alive (break_each now file (perform_all_in_file first.changes f) kept names)) (lives-breaks file first.changes t a.inside) later)
