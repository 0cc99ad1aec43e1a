-- What a decision owes so that all that it comes to does nothing beside the places that are written.
use Rattle.std.proofs.Common.{◌≡◌, ℕ, Bool, true, false, List, [], ◌∷◌, ◌++◌, map, filter, Option, Some, None, refl, sym, ap, ◌∙◌, subst, inl, inr, ◌⊎◌}
use Rattle.std.specs.Prelude.{IfSome}
use Rattle.std.specs.List.{list_all, AllByRecursion}
use Rattle.std.proofs.lemmas.Bool.{and_parts, and_from}
use Rattle.std.proofs.lemmas.List.Folds.{list_all-append, list_all-map}
use Rattle.sid_core.specs.declared.ids.Spot.{Spot}
use Rattle.sid_core.specs.declared.entry.Post.{Post}
use Rattle.sid_core.specs.declared.reply.Reply.{Reply}
use Rattle.sid_core.specs.declared.setup.Setup.{Setup}
use Rattle.serial_table.specs.declared.rows.WaiterRow.{WaiterRow}
use Rattle.serial_table.specs.declared.rows.Watch.{Watch}
use Rattle.serial_table.specs.declared.table.Table.{Table}
use Rattle.serial_table.specs.declared.change.Change.{Change}
use Rattle.serial_table.specs.declared.change.Change.TheVariants as c
use Rattle.serial_table.specs.declared.decision.Decision.{Decision}
use Rattle.serial_table.specs.View.{view, waits_on, watch_on}
use Rattle.serial_table.specs.Settle.{settle_where}
use Rattle.serial_table.specs.Change.{perform, perform_all}
use Rattle.serial_table.specs.Wake.{wake, waiting_on}
use Rattle.serial_table.specs.Decision.{only_reply, waits_no_more, waits_now, settling, finishing, freed_spots, woken_by, conclude}
use Rattle.serial_table.proofs.Members.{IsIn, all_each, in_filter, in_append, in_map, in_flat_map, passes_in, mapped_in}
use Rattle.serial_table.proofs.Views.{view-perform_all}
use Rattle.serial_table.proofs.Concluding.{conclude_all}
use Rattle.stored_table.specs.Places.{Place, among}
use Rattle.stored_table.specs.Decoded.{AllRecords}
use Rattle.table_laws.proofs.Contained.{mail_place}
use Rattle.table_laws.proofs.Touching.{touches, reaches, meets_waiter, IsNewWait, IsNewIn}

-- ---- waiters that were there before

-- No waiter comes, and no session ends.
abbrev pub adds_no_waiter : Change → Bool
adds_no_waiter (c.AddWaiter x) = false
adds_no_waiter (c.TakeOver file id owner handle) = false
adds_no_waiter (c.EndSession sid moment) = false
adds_no_waiter _ = true

waiter_before_one : (change : Change) (t : Table) (x : WaiterRow) → adds_no_waiter change ≡ true → IsIn x (perform change t).waiters → IsIn x t.waiters
unfolding settle_where
waiter_before_one (c.AddWaiter y) t x e i = absurd cc
waiter_before_one (c.DropWaiter sid call) t x e i = (in_filter _ t.waiters x i).0
waiter_before_one (c.TakeOver file id owner handle) t x e i = absurd cc
waiter_before_one (c.EndSession sid moment) t x e i = absurd cc
waiter_before_one (c.AddOpen row) t x e i = i
waiter_before_one (c.DropOpen f id) t x e i = i
waiter_before_one (c.AddLease lease) t x e i = i
waiter_before_one (c.SetLease f name held breaking) t x e i = i
waiter_before_one (c.Acknowledge f name state) t x e i = i
waiter_before_one (c.AddRange range) t x e i = i
waiter_before_one (c.DropRange range) t x e i = i
waiter_before_one (c.AddPending f) t x e i = i
waiter_before_one (c.DropPending f) t x e i = i
waiter_before_one (c.AddHold hold) t x e i = i
waiter_before_one (c.SetHold key owner mode) t x e i = i
waiter_before_one (c.DropHold key owner) t x e i = i
waiter_before_one (c.Send post) t x e i = i
waiter_before_one (c.TakeLetter to) t x e i = i
waiter_before_one (c.NextSession sid moment) t x e i = i
waiter_before_one c.Settle t x e i = i

pub waiter_before : (cs : List Change) (t : Table) (x : WaiterRow) → list_all adds_no_waiter cs ≡ true → IsIn x (perform_all cs t).waiters → IsIn x t.waiters
waiter_before [] t x e i = i
waiter_before (change ∷ cs) t x e i =
    let p = and_parts (adds_no_waiter change) (list_all adds_no_waiter cs) e in
    waiter_before_one change t x p.0 (waiter_before cs (perform change t) x p.1 i)

pub watch_before : (cs : List Change) (t : Table) (spot : Spot) (y : Watch) → list_all adds_no_waiter cs ≡ true → IsIn y ((view (perform_all cs t)).watches_on spot) → IsIn y ((view t).watches_on spot)
watch_before cs t spot y e i =
    let x = in_map (watch_on spot) (filter (waits_on spot) (perform_all cs t).waiters) y i in
    let k = in_filter (waits_on spot) (perform_all cs t).waiters x.0 x.1 in
    subst (λ z. IsIn z ((view t).watches_on spot)) x.2
    (mapped_in (watch_on spot) (filter (waits_on spot) t.waiters) x.0 (passes_in (waits_on spot) t.waiters x.0 (waiter_before cs t x.0 e k.0) k.1))

-- no new wait among changes that add none
pub none_new : (s : AllRecords) (cs : List Change) → list_all adds_no_waiter cs ≡ true → AllByRecursion (IsNewIn s) cs
none_new s [] e = tt
none_new s (change ∷ cs) e = let p = and_parts (adds_no_waiter change) (list_all adds_no_waiter cs) e in (one change p.0, none_new s cs p.1)
  where
    one : (d : Change) → adds_no_waiter d ≡ true → IsNewIn s d
    one (c.AddWaiter x) e = absurd cc
    one (c.DropWaiter sid call) e = tt
    one (c.TakeOver file id owner handle) e = tt
    one (c.EndSession sid moment) e = tt
    one (c.AddOpen row) e = tt
    one (c.DropOpen f id) e = tt
    one (c.AddLease lease) e = tt
    one (c.SetLease f name held breaking) e = tt
    one (c.Acknowledge f name state) e = tt
    one (c.AddRange range) e = tt
    one (c.DropRange range) e = tt
    one (c.AddPending f) e = tt
    one (c.DropPending f) e = tt
    one (c.AddHold hold) e = tt
    one (c.SetHold key owner mode) e = tt
    one (c.DropHold key owner) e = tt
    one (c.Send post) e = tt
    one (c.TakeLetter to) e = tt
    one (c.NextSession sid moment) e = tt
    one c.Settle e = tt

-- ---- what changes owe

pub record AreContained (setup : Setup) (ps : List Place) (s : AllRecords) (here : ℕ → Bool) (cs : List Change) : Type 0 where
  pub touched : list_all (touches here) cs ≡ true
  pub reached : list_all (reaches setup ps) cs ≡ true
  pub new : AllByRecursion (IsNewIn s) cs

-- ---- what a decision owes

module _ (setup : Setup) (ps : List Place) (s : AllRecords) (here : ℕ → Bool) (t : Table) where
  -- all who wait on a spot are met
  abbrev pub AreWatchersMet : Spot → Type 0
  AreWatchersMet spot = (y : Watch) → IsIn y ((view t).watches_on spot) → among (mail_place y.sid.pid) ps ≡ true

  pub record IsContained (d : Decision) : Type 0 where
    -- Its changes are of these files.
    pub touched : list_all (touches here) d.changes ≡ true
    -- What they reach is written.
    pub reached : list_all (reaches setup ps) d.changes ≡ true
    -- Its waiter comes last.
    pub none_waits : list_all adds_no_waiter d.changes ≡ true
    -- It posts to mailboxes that are written.
    pub posts : (post : Post) → IsIn post d.posts → among (mail_place post.to.pid) ps ≡ true
    -- Who waits on a spot that it may free has a mailbox that is written.
    pub spots : (spot : Spot) → IsIn spot d.spots → AreWatchersMet spot
    -- All records of its waiter are written, and no register record has a watch of its call.
    pub waits : IfSome d.waits (λ x. (meets_waiter setup ps x ≡ true) × IsNewWait s x)

  pub reply_contained : (reply : Reply) → IsContained (only_reply reply)
  reply_contained reply = record { touched = refl; reached = refl; none_waits = refl; posts = λ post i. absurd i; spots = λ spot i. absurd i; waits = tt }

-- ---- all that it comes to

-- behind changes that leave the table, or some waiters fewer
module _ (setup : Setup) (ps : List Place) (s : AllRecords) (here : ℕ → Bool) (t u : Table) (fewer : (spot : Spot) (y : Watch) → IsIn y ((view u).watches_on spot) → IsIn y ((view t).watches_on spot))
    (d : Decision) (h : IsContained setup ps s here t d) where
  touched : list_all (touches here) (conclude (view u) d).changes ≡ true
  touched = conclude_all (touches here) (record { comes = λ x. refl; goes = λ sid call. refl; sent = λ post. refl }) refl (view u) d h.touched

  settled_none : list_all adds_no_waiter (settling d) ≡ true
  settled_none = list_all-append adds_no_waiter d.changes (c.Settle ∷ []) ∙ and_from (list_all adds_no_waiter d.changes) true h.none_waits refl

  woken_met : (y : Watch) → IsIn y (woken_by (view u) d) → among (mail_place y.sid.pid) ps ≡ true
  woken_met y i =
      let spots = freed_spots (view u) d in
      let w = perform_all (settling d) u in
      let spot = in_flat_map (λ spot. (view w).watches_on spot) spots y (subst (λ x. IsIn y (waiting_on x spots)) (sym (view-perform_all (settling d) u)) i) in
      h.spots spot.0 (in_filter _ d.spots spot.0 spot.1).0 y (fewer spot.0 y (watch_before (settling d) u spot.0 y settled_none spot.2))

  posts_met : (post : Post) → IsIn post d.posts ⊎ IsIn post (map wake (woken_by (view u) d)) → among (mail_place post.to.pid) ps ≡ true
  posts_met post (inl i) = h.posts post i
  posts_met post (inr i) =
      let y = in_map wake (woken_by (view u) d) post i in
      ap (λ (p : Post). among (mail_place p.to.pid) ps) (sym y.2) ∙ woken_met y.0 y.1

  waiter_met : (o : Option WaiterRow) → IfSome o (λ x. (meets_waiter setup ps x ≡ true) × IsNewWait s x) → list_all (reaches setup ps) (waits_now o) ≡ true
  waiter_met None w = refl
  waiter_met (Some x) w = and_from (meets_waiter setup ps x) true w.0 refl

  waiter_new : (o : Option WaiterRow) → IfSome o (λ x. (meets_waiter setup ps x ≡ true) × IsNewWait s x) → AllByRecursion (IsNewIn s) (waits_now o)
  waiter_new None w = tt
  waiter_new (Some x) w = (w.1, tt)

  reached : list_all (reaches setup ps) (conclude (view u) d).changes ≡ true
  unfolding conclude
  reached =
      let woken = woken_by (view u) d in
      let posts = d.posts ++ map wake woken in
      let sends = map (λ post. c.Send post) posts in
      list_all-append (reaches setup ps) (settling d) (finishing woken d.waits posts)
      ∙ and_from (list_all (reaches setup ps) (settling d)) (list_all (reaches setup ps) (finishing woken d.waits posts))
      (list_all-append (reaches setup ps) d.changes (c.Settle ∷ []) ∙ and_from (list_all (reaches setup ps) d.changes) true h.reached refl)
      (list_all-append (reaches setup ps) (map waits_no_more woken) (waits_now d.waits ++ sends)
      ∙ and_from (list_all (reaches setup ps) (map waits_no_more woken)) (list_all (reaches setup ps) (waits_now d.waits ++ sends))
      (list_all-map (reaches setup ps) waits_no_more woken ∙ all_each (λ y. reaches setup ps (waits_no_more y)) woken woken_met)
      (list_all-append (reaches setup ps) (waits_now d.waits) sends
      ∙ and_from (list_all (reaches setup ps) (waits_now d.waits)) (list_all (reaches setup ps) sends) (waiter_met d.waits h.waits)
      (list_all-map (reaches setup ps) (λ post. c.Send post) posts ∙ all_each (λ post. among (mail_place post.to.pid) ps) posts (λ post i. posts_met post (in_append d.posts (map wake woken) post i)))))

  all_new : AllByRecursion (IsNewIn s) (conclude (view u) d).changes
  unfolding conclude
  all_new =
      let woken = woken_by (view u) d in
      let posts = d.posts ++ map wake woken in
      Rattle.table_laws.proofs.Lists.all_joined (IsNewIn s) (settling d) (finishing woken d.waits posts) (none_new s (settling d) settled_none)
      (Rattle.table_laws.proofs.Lists.all_joined (IsNewIn s) (map waits_no_more woken) (waits_now d.waits ++ map (λ post. c.Send post) posts) (goes woken)
      (Rattle.table_laws.proofs.Lists.all_joined (IsNewIn s) (waits_now d.waits) (map (λ post. c.Send post) posts) (waiter_new d.waits h.waits) (sends posts)))
    where
      goes : (ys : List Watch) → AllByRecursion (IsNewIn s) (map waits_no_more ys)
      goes [] = tt
      goes (y ∷ ys) = (tt, goes ys)

      sends : (posts : List Post) → AllByRecursion (IsNewIn s) (map (λ post. c.Send post) posts)
      sends [] = tt
      sends (post ∷ posts) = (tt, sends posts)

  pub concluded : AreContained setup ps s here (conclude (view u) d).changes
  concluded = record { touched = touched; reached = reached; new = all_new }
