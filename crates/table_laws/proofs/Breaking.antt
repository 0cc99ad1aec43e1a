-- Breaks of a file's leases: they change leases of the file alone, and post to owners of its opens.
use Rattle.std.proofs.Common.{◌≡◌, ℕ, Bool, true, false, ◌==◌, ◌&&◌, List, [], ◌∷◌, filter, Option, Some, None, refl, sym, ◌∙◌, subst, inl, inr, ◌⊎◌}
use Rattle.std.specs.Prelude.{IfSome, bit_and}
use Rattle.std.specs.List.{list_all}
use Rattle.std.proofs.lemmas.Bool.{and_parts, and_from, cond_both}
use Rattle.std.proofs.lemmas.List.Folds.{list_all-append}
use Rattle.sid_core.specs.declared.entry.Post.{Post}
use Rattle.sid_core.specs.declared.ids.LeaseName.{LeaseName}
use Rattle.sid_core.specs.declared.ids.Moment.{Moment}
use Rattle.sid_core.specs.declared.ids.Sid.{Sid}
use Rattle.sid_core.specs.declared.setup.Setup.{Setup}
use Rattle.sid_core.specs.Values.{is_part_of}
use Rattle.serial_table.specs.declared.rows.OpenRow.{OpenRow}
use Rattle.serial_table.specs.declared.rows.LeaseRow.{LeaseRow}
use Rattle.serial_table.specs.declared.rows.Breaking.{Breaking}
use Rattle.serial_table.specs.declared.change.Change.{Change}
use Rattle.serial_table.specs.declared.change.Change.TheVariants as c
use Rattle.serial_table.specs.Break.{Breaks, no_break, breaks_read, begins_to_break, breaks_to, first_owner, break_by, connected_under, break_lease, break_first, first_of, both, break_each}
use Rattle.serial_table.specs.File.{FileView, FileOpen, is_under}
use Rattle.serial_table.specs.Local.{perform_in_file, perform_all_in_file}
use Rattle.serial_table.specs.Settle.{settle_file}
use Rattle.serial_table.proofs.Members.{IsIn, in_filter, in_append, in_map}
use Rattle.stored_table.specs.Places.{Place}
use Rattle.table_laws.proofs.Touching.{touches, reaches}
use Rattle.table_laws.proofs.Deciding.{adds_no_waiter}
use Rattle.table_laws.proofs.Chains.{adds_no_open}

-- it sets a lease of these files, or settles
abbrev pub is_break : (ℕ → Bool) → Change → Bool
is_break here (c.SetLease file name held breaking) = here file
is_break here c.Settle = true
is_break here _ = false

module _ (here : ℕ → Bool) where
  one_touches : (change : Change) → is_break here change ≡ true → touches here change ≡ true
  one_touches (c.SetLease file name held breaking) e = e
  one_touches c.Settle e = refl
  one_touches (c.AddOpen row) e = absurd cc
  one_touches (c.DropOpen f id) e = absurd cc
  one_touches (c.TakeOver f id owner handle) e = absurd cc
  one_touches (c.AddLease lease) e = absurd cc
  one_touches (c.Acknowledge f name state) e = absurd cc
  one_touches (c.AddRange range) e = absurd cc
  one_touches (c.DropRange range) e = absurd cc
  one_touches (c.AddPending f) e = absurd cc
  one_touches (c.DropPending f) e = absurd cc
  one_touches (c.AddHold hold) e = absurd cc
  one_touches (c.SetHold key owner mode) e = absurd cc
  one_touches (c.DropHold key owner) e = absurd cc
  one_touches (c.AddWaiter x) e = absurd cc
  one_touches (c.DropWaiter sid call) e = absurd cc
  one_touches (c.Send post) e = absurd cc
  one_touches (c.TakeLetter to) e = absurd cc
  one_touches (c.EndSession sid moment) e = absurd cc
  one_touches (c.NextSession sid moment) e = absurd cc

  -- what holds of setting a lease and of settling, holds of breaks
  pub one_passes : (p : Change → Bool) → ((file : ℕ) (name : LeaseName) (held : Rattle.sid_core.specs.declared.bits.LeaseState.LeaseState) (breaking : Option Breaking) → p (c.SetLease file name held breaking) ≡ true) → p c.Settle ≡ true
      → (change : Change) → is_break here change ≡ true → p change ≡ true
  one_passes p f s (c.SetLease file name held breaking) e = f file name held breaking
  one_passes p f s c.Settle e = s
  one_passes p f s (c.AddOpen row) e = absurd cc
  one_passes p f s (c.DropOpen g id) e = absurd cc
  one_passes p f s (c.TakeOver g id owner handle) e = absurd cc
  one_passes p f s (c.AddLease lease) e = absurd cc
  one_passes p f s (c.Acknowledge g name state) e = absurd cc
  one_passes p f s (c.AddRange range) e = absurd cc
  one_passes p f s (c.DropRange range) e = absurd cc
  one_passes p f s (c.AddPending g) e = absurd cc
  one_passes p f s (c.DropPending g) e = absurd cc
  one_passes p f s (c.AddHold hold) e = absurd cc
  one_passes p f s (c.SetHold key owner mode) e = absurd cc
  one_passes p f s (c.DropHold key owner) e = absurd cc
  one_passes p f s (c.AddWaiter x) e = absurd cc
  one_passes p f s (c.DropWaiter sid call) e = absurd cc
  one_passes p f s (c.Send post) e = absurd cc
  one_passes p f s (c.TakeLetter to) e = absurd cc
  one_passes p f s (c.EndSession sid moment) e = absurd cc
  one_passes p f s (c.NextSession sid moment) e = absurd cc

  pub all_weaker : (p q : Change → Bool) → ((change : Change) → p change ≡ true → q change ≡ true) → (cs : List Change) → list_all p cs ≡ true → list_all q cs ≡ true
  all_weaker p q f [] e = refl
  all_weaker p q f (change ∷ cs) e = let both = and_parts (p change) (list_all p cs) e in and_from (q change) (list_all q cs) (f change both.0) (all_weaker p q f cs both.1)

  pub breaks_touch : (cs : List Change) → list_all (is_break here) cs ≡ true → list_all (touches here) cs ≡ true
  breaks_touch = all_weaker (is_break here) (touches here) one_touches

  pub breaks_reach : (setup : Setup) (ps : List Place) (cs : List Change) → list_all (is_break here) cs ≡ true → list_all (reaches setup ps) cs ≡ true
  breaks_reach setup ps = all_weaker (is_break here) (reaches setup ps) (one_passes (reaches setup ps) (λ f n h b. refl) refl)

  pub breaks_wait : (cs : List Change) → list_all (is_break here) cs ≡ true → list_all adds_no_waiter cs ≡ true
  breaks_wait = all_weaker (is_break here) adds_no_waiter (one_passes adds_no_waiter (λ f n h b. refl) refl)

  pub breaks_open : (cs : List Change) → list_all (is_break here) cs ≡ true → list_all adds_no_open cs ≡ true
  breaks_open = all_weaker (is_break here) adds_no_open (one_passes adds_no_open (λ f n h b. refl) refl)

  -- no open comes to the file by breaks
  open_in_one : (change : Change) (f : FileView) (o : FileOpen) → is_break here change ≡ true → IsIn o (perform_in_file change f).opens → IsIn o f.opens
  unfolding settle_file
  open_in_one (c.SetLease file name held breaking) f o e i = i
  open_in_one c.Settle f o e i = (in_filter _ f.opens o i).0
  open_in_one (c.AddOpen row) f o e i = absurd cc
  open_in_one (c.DropOpen g id) f o e i = absurd cc
  open_in_one (c.TakeOver g id owner handle) f o e i = absurd cc
  open_in_one (c.AddLease lease) f o e i = absurd cc
  open_in_one (c.Acknowledge g name state) f o e i = absurd cc
  open_in_one (c.AddRange range) f o e i = absurd cc
  open_in_one (c.DropRange range) f o e i = absurd cc
  open_in_one (c.AddPending g) f o e i = absurd cc
  open_in_one (c.DropPending g) f o e i = absurd cc
  open_in_one (c.AddHold hold) f o e i = absurd cc
  open_in_one (c.SetHold key owner mode) f o e i = absurd cc
  open_in_one (c.DropHold key owner) f o e i = absurd cc
  open_in_one (c.AddWaiter x) f o e i = absurd cc
  open_in_one (c.DropWaiter sid call) f o e i = absurd cc
  open_in_one (c.Send post) f o e i = absurd cc
  open_in_one (c.TakeLetter to) f o e i = absurd cc
  open_in_one (c.EndSession sid moment) f o e i = absurd cc
  open_in_one (c.NextSession sid moment) f o e i = absurd cc

  pub open_in : (cs : List Change) (f : FileView) (o : FileOpen) → list_all (is_break here) cs ≡ true → IsIn o (perform_all_in_file cs f).opens → IsIn o f.opens
  open_in [] f o e i = i
  open_in (change ∷ cs) f o e i = let both = and_parts (is_break here change) (list_all (is_break here) cs) e in open_in_one change f o both.0 (open_in cs (perform_in_file change f) o both.1 i)

  -- ---- what breaks are

  -- with P of each owner
  pub record AreBreaks (P : Sid → Type 0) (b : Breaks) : Type 0 where
    pub changes : list_all (is_break here) b.changes ≡ true
    pub posts : (post : Post) → IsIn post b.posts → P post.to
    pub blocker : IfSome b.blocker P

  abbrev pub OwnersHave : (Sid → Type 0) → FileView → Type 0
  OwnersHave P f = (o : FileOpen) → IsIn o f.opens → P o.row.owner

  pub no_breaks : (P : Sid → Type 0) → AreBreaks P no_break
  no_breaks P = record { changes = refl; posts = λ post i. absurd i; blocker = tt }

  pub both_breaks : (P : Sid → Type 0) (a b : Breaks) → AreBreaks P a → AreBreaks P b → AreBreaks P (both a b)
  both_breaks P a b x y = record {
    changes = list_all-append (is_break here) a.changes b.changes ∙ and_from (list_all (is_break here) a.changes) (list_all (is_break here) b.changes) x.changes y.changes;
    posts = λ post i. either post (in_append a.posts b.posts post i);
    blocker = first a.blocker b.blocker x.blocker y.blocker;
  }
    where
      either : (post : Post) → IsIn post a.posts ⊎ IsIn post b.posts → P post.to
      either post (inl i) = x.posts post i
      either post (inr i) = y.posts post i

      first : (o q : Option Sid) → IfSome o P → IfSome q P → IfSome (first_of o q) P
      first None q h k = k
      first (Some sid) q h k = h

  module _ (P : Sid → Type 0) (now : Moment) (file kept : ℕ) (own : here file ≡ true) where
    one_post : (to : Sid) (post other : Post) → P to → post.to ≡ to → IsIn other (post ∷ []) → P other.to
    one_post to post other h e (inl k) = subst (λ (x : Post). P x.to) k (subst P (sym e) h)
    one_post to post other h e (inr k) = absurd k

    to_breaks : (connected : List OpenRow) → ((row : OpenRow) → IsIn row connected → P row.owner) → (l : LeaseRow) (target : ℕ) → AreBreaks P (breaks_to now file connected l target)
    to_breaks [] h l target = record { changes = and_from _ _ own refl; posts = λ post i. absurd i; blocker = tt }
    to_breaks (first ∷ others) h l target =
        cond_both (l.held.0 == 1) (breaks_read file first.owner l target) (begins_to_break now file first.owner l target) (AreBreaks P)
        (λ _. record { changes = and_from _ _ own refl; posts = λ post i. one_post first.owner _ post (h first (inl refl)) refl i; blocker = tt })
        (λ _. record { changes = and_from _ _ own refl; posts = λ post i. one_post first.owner _ post (h first (inl refl)) refl i; blocker = h first (inl refl) })

    first_has : (connected : List OpenRow) → ((row : OpenRow) → IsIn row connected → P row.owner) → IfSome (first_owner connected) P
    first_has [] h = tt
    first_has (first ∷ others) h = h first (inl refl)

    by_breaks : (connected : List OpenRow) → ((row : OpenRow) → IsIn row connected → P row.owner) → (l : LeaseRow) (breaking : Option Breaking) → AreBreaks P (break_by now file connected kept l breaking)
    by_breaks connected h l (Some b) = record {
      changes = and_from _ _ own refl;
      posts = λ post i. absurd i;
      blocker = cond_both (is_part_of l.held.0 kept) None (first_owner connected) (λ o. IfSome o P) (λ _. tt) (λ _. first_has connected h);
    }
    by_breaks connected h l None =
        cond_both (is_part_of l.held.0 kept) no_break (breaks_to now file connected l (bit_and l.held.0 kept)) (AreBreaks P) (λ _. no_breaks P) (λ _. to_breaks connected h l (bit_and l.held.0 kept))

    pub lease_breaks : (f : FileView) → OwnersHave P f → (l : LeaseRow) → AreBreaks P (break_lease now file f kept l)
    unfolding break_lease
    lease_breaks f h l = by_breaks (connected_under f l.name) (λ row i.
        let o = in_map (λ (x : FileOpen). x.row) (filter (λ x. is_under l.name x && x.connected) f.opens) row i in
        subst (λ (x : OpenRow). P x.owner) o.2 (h o.0 (in_filter (λ x. is_under l.name x && x.connected) f.opens o.0 o.1).0)) l l.breaking

    first_breaks : (f : FileView) → OwnersHave P f → (ls : List LeaseRow) → AreBreaks P (break_first now file f kept ls)
    first_breaks f h [] = no_breaks P
    first_breaks f h (l ∷ ls) = lease_breaks f h l

    pub each_breaks : (f : FileView) → OwnersHave P f → (names : List LeaseName) → AreBreaks P (break_each now file f kept names)
    unfolding break_each
    each_breaks f h [] = no_breaks P
    each_breaks f h (name ∷ names) =
        let first = break_first now file f kept (f.leases name) in
        let a = first_breaks f h (f.leases name) in
        both_breaks P first (break_each now file (perform_all_in_file first.changes f) kept names) a
        (each_breaks (perform_all_in_file first.changes f) (λ o i. h o (open_in first.changes f o a.changes i)) names)
