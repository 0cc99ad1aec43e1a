-- Lease records as settling leaves them: by who lives alone, and what is left of them.
use Rattle.std.proofs.Common.{◌≡◌, Bool, true, false, cond, not, ◌==◌, ◌&&◌, ◌||◌, List, [], ◌∷◌, filter, Option, Some, None, ℕ, refl, sym, ap, ◌∙◌, inl, inr, ◌⊎◌}
use Rattle.std.specs.Prelude.{IfSome}
use Rattle.std.specs.List.{list_any}
use Rattle.std.specs.Option.{option_and_then}
use Rattle.std.proofs.lemmas.Bool.{and_parts, and_from, or_left, or_right, or_cases, both_ways, not_from_false, false_from_ne_true}
use Rattle.sid_core.specs.declared.ids.Sid.{Sid}
use Rattle.sid_core.specs.declared.ids.OpenId.{OpenId}
use Rattle.sid_core.specs.declared.bits.LeaseState.{LeaseState}
use Rattle.sid_core.specs.Ids.{same_id}
use Rattle.sid_core.specs.Values.{has}
use Rattle.serial_table.proofs.Members.{IsIn, some_same, one_of, any_of, in_filter, passes_in}
use Rattle.record_codec.specs.declared.lease_rec.LeaseRef.{LeaseRef}
use Rattle.record_codec.specs.declared.lease_rec.LeaseRec.{LeaseRec}
use Rattle.record_codec.specs.Counts.{Records, lives, is_connected, is_unanswered, settled_state, ref_counts, settled_refs, with_refs, unless_empty, settled_lease, keeps}
use Rattle.stored_table.specs.Exact.{is_empty}
use Rattle.table_laws.proofs.Lists.{filter_each, filter_every, filter_twice}

-- ---- by who lives alone

module _ (r q : Records) (alike : (sid : Sid) → lives r sid ≡ lives q sid) where
  pub unanswered_alike : (lease : LeaseRec) → is_unanswered r lease ≡ is_unanswered q lease
  unanswered_alike lease = λ i. lease.breaking && not (list_any (λ ref. alike ref.owner i) lease.refs)

  pub state_alike : (lease : LeaseRec) → settled_state r lease ≡ settled_state q lease
  state_alike lease = λ i. cond (unanswered_alike lease i) lease.needed lease.held

  refs_alike : (lease : LeaseRec) → settled_refs r lease ≡ settled_refs q lease
  refs_alike lease = λ i. filter (λ ref. alike ref.owner i || (not (ref.durable == 0) && has (state_alike lease i).0 2)) lease.refs

  unless_empty_alike : (lease : LeaseRec) (refs : List LeaseRef) → unless_empty r lease refs ≡ unless_empty q lease refs
  unless_empty_alike lease [] = refl
  unless_empty_alike lease (ref ∷ refs) = λ i. Some (
      cond (unanswered_alike lease i)
      (record { file = lease.file; held = lease.needed; breaking = false; asked = record { 0 = 0 }; needed = record { 0 = 0 }; until = 0; refs = ref ∷ refs })
      (record lease { refs = ref ∷ refs }))

  pub settled_alike : (lease : LeaseRec) → settled_lease r lease ≡ settled_lease q lease
  settled_alike lease = unless_empty_alike lease (settled_refs r lease) ∙ ap (unless_empty q lease) (refs_alike lease)

  pub keeps_alike : (file : ℕ) (id : OpenId) (o : Option LeaseRec) → keeps r file id o ≡ keeps q file id o
  keeps_alike file id None = refl
  keeps_alike file id (Some lease) = λ i. (lease.file == file) && list_any (λ ref. same_id ref.id id) lease.refs && has (state_alike lease i).0 2

-- ---- what is left

module _ (r : Records) (lease : LeaseRec) where
  file_left : (b : Bool) (refs : List LeaseRef)
      → (cond b (let c : LeaseRec = record { file = lease.file; held = lease.needed; breaking = false; asked = record { 0 = 0 }; needed = record { 0 = 0 }; until = 0; refs = refs } in c) (record lease { refs = refs })).file ≡ lease.file
  file_left true refs = refl
  file_left false refs = refl

  refs_left : (b : Bool) (refs : List LeaseRef)
      → (cond b (let c : LeaseRec = record { file = lease.file; held = lease.needed; breaking = false; asked = record { 0 = 0 }; needed = record { 0 = 0 }; until = 0; refs = refs } in c) (record lease { refs = refs })).refs ≡ refs
  refs_left true refs = refl
  refs_left false refs = refl

  held_left : (b : Bool) (refs : List LeaseRef)
      → (cond b (let c : LeaseRec = record { file = lease.file; held = lease.needed; breaking = false; asked = record { 0 = 0 }; needed = record { 0 = 0 }; until = 0; refs = refs } in c) (record lease { refs = refs })).held ≡ cond b lease.needed lease.held
  held_left true refs = refl
  held_left false refs = refl

  by_refs : (left : LeaseRec) (refs : List LeaseRef) → unless_empty r lease refs ≡ Some left → with_refs r lease refs ≡ left
  by_refs left [] e = absurd cc
  by_refs left (ref ∷ refs) e = some_same (with_refs r lease (ref ∷ refs)) left e

  pub record IsLeft (left : LeaseRec) : Type 0 where
    pub file : left.file ≡ lease.file
    pub held : left.held ≡ settled_state r lease
    pub refs : left.refs ≡ settled_refs r lease

  pub is_left : (left : LeaseRec) → settled_lease r lease ≡ Some left → IsLeft left
  is_left left e =
      let is = by_refs left (settled_refs r lease) e in
      record {
        file = ap (λ (x : LeaseRec). x.file) (sym is) ∙ file_left (is_unanswered r lease) (settled_refs r lease);
        held = ap (λ (x : LeaseRec). x.held) (sym is) ∙ held_left (is_unanswered r lease) (settled_refs r lease);
        refs = ap (λ (x : LeaseRec). x.refs) (sym is) ∙ refs_left (is_unanswered r lease) (settled_refs r lease);
      }

  some_left : (refs : List LeaseRef) → is_empty refs ≡ false → unless_empty r lease refs ≡ Some (with_refs r lease refs)
  some_left [] e = absurd cc
  some_left (ref ∷ refs) e = refl

  -- A record that is settled stays as it is.
  pub stays_settled : is_unanswered r lease ≡ false → ((ref : LeaseRef) → IsIn ref lease.refs → ref_counts r lease ref ≡ true) → is_empty lease.refs ≡ false → settled_lease r lease ≡ Some lease
  stays_settled answered counts some =
      ap (unless_empty r lease) (filter_every (ref_counts r lease) lease.refs counts)
      ∙ some_left lease.refs some
      ∙ ap (λ b. Some (cond b (let c : LeaseRec = record { file = lease.file; held = lease.needed; breaking = false; asked = record { 0 = 0 }; needed = record { 0 = 0 }; until = 0; refs = lease.refs } in c) lease)) answered

-- ---- settled once more when fewer live

-- What is needed of a lease has HANDLE only where what is held has it.
abbrev pub KeepsHandle : LeaseRec → Type 0
KeepsHandle lease = lease.breaking ≡ true → has lease.needed.0 2 ≡ true → has lease.held.0 2 ≡ true

pub some_left_by : (r : Records) (lease : LeaseRec) (ref : LeaseRef) → IsIn ref (settled_refs r lease) → (left : LeaseRec) × (settled_lease r lease ≡ Some left)
some_left_by r lease ref i = by_list (settled_refs r lease) i
  where
    by_list : (refs : List LeaseRef) → IsIn ref refs → (left : LeaseRec) × (unless_empty r lease refs ≡ Some left)
    by_list [] i = absurd i
    by_list (x ∷ refs) i = (with_refs r lease (x ∷ refs), refl)

-- who owns one of these references and lives now lived before
abbrev pub AreOwnersLess : Records → Records → List LeaseRef → Type 0
AreOwnersLess new old refs = (ref : LeaseRef) → IsIn ref refs → lives new ref.owner ≡ true → lives old ref.owner ≡ true

module _ (new old : Records) where
  any_less : (refs : List LeaseRef) → AreOwnersLess new old refs → list_any (is_connected new) refs ≡ true → list_any (is_connected old) refs ≡ true
  any_less refs less e = let x = one_of (is_connected new) refs e in any_of (is_connected old) refs x.0 x.1 (less x.0 x.1 x.2)

  -- without an answer before there is none now
  unanswered_still : (lease : LeaseRec) → AreOwnersLess new old lease.refs → is_unanswered old lease ≡ true → is_unanswered new lease ≡ true
  unanswered_still lease less e =
      let p = and_parts lease.breaking (not (list_any (is_connected old) lease.refs)) e in
      and_from lease.breaking (not (list_any (is_connected new) lease.refs)) p.0
      (not_from_false (list_any (is_connected new) lease.refs) (false_from_ne_true (list_any (is_connected new) lease.refs) (λ h. both_ways (not (list_any (is_connected old) lease.refs)) (ap not (any_less lease.refs less h)) p.1)))

  -- HANDLE of what the state now is was there before
  handle_less : (lease : LeaseRec) → AreOwnersLess new old lease.refs → KeepsHandle lease → has (settled_state new lease).0 2 ≡ true → has (settled_state old lease).0 2 ≡ true
  handle_less lease less k e = by_old (is_unanswered old lease) refl
    where
      by_new : (b : Bool) → is_unanswered new lease ≡ b → has (cond b lease.needed lease.held).0 2 ≡ true → has lease.held.0 2 ≡ true
      by_new true u h = k (and_parts lease.breaking (not (list_any (is_connected new) lease.refs)) u).0 h
      by_new false u h = h

      by_old : (b : Bool) → is_unanswered old lease ≡ b → has (cond b lease.needed lease.held).0 2 ≡ true
      by_old true u = sym (ap (λ b. has (cond b lease.needed lease.held).0 2) (unanswered_still lease less u)) ∙ e
      by_old false u = by_new (is_unanswered new lease) refl e

  pub keeps_less : (file : ℕ) (id : OpenId) (o : Option LeaseRec) → IfSome o (λ lease. AreOwnersLess new old lease.refs) → IfSome o KeepsHandle → keeps new file id o ≡ true → keeps old file id o ≡ true
  keeps_less file id None less k e = e
  keeps_less file id (Some lease) less k e =
      let p = and_parts ((lease.file == file) && list_any (λ ref. same_id ref.id id) lease.refs) (has (settled_state new lease).0 2) e in
      and_from ((lease.file == file) && list_any (λ ref. same_id ref.id id) lease.refs) (has (settled_state old lease).0 2) p.0 (handle_less lease less k p.1)

  ref_less : (lease : LeaseRec) → AreOwnersLess new old lease.refs → KeepsHandle lease → (ref : LeaseRef) → IsIn ref lease.refs → ref_counts new lease ref ≡ true → ref_counts old lease ref ≡ true
  ref_less lease less k ref i e = by_case (or_cases (is_connected new ref) (not (ref.durable == 0) && has (settled_state new lease).0 2) e)
    where
      by_case : (is_connected new ref ≡ true) ⊎ ((not (ref.durable == 0) && has (settled_state new lease).0 2) ≡ true) → ref_counts old lease ref ≡ true
      by_case (inl h) = or_left (is_connected old ref) _ (less ref i h)
      by_case (inr h) =
          let p = and_parts (not (ref.durable == 0)) (has (settled_state new lease).0 2) h in
          or_right (is_connected old ref) _ (and_from (not (ref.durable == 0)) (has (settled_state old lease).0 2) p.0 (handle_less lease less k p.1))

  -- the references that count now are among those that counted
  refs_thin : (lease : LeaseRec) → AreOwnersLess new old lease.refs → KeepsHandle lease → settled_refs new lease ≡ filter (ref_counts new lease) (settled_refs old lease)
  refs_thin lease less k =
      filter_each (ref_counts new lease) (λ x. ref_counts old lease x && ref_counts new lease x) lease.refs (λ x i. both (ref_counts new lease x) (ref_counts old lease x) (ref_less lease less k x i))
      ∙ sym (filter_twice (ref_counts old lease) (ref_counts new lease) lease.refs)
    where
      both : (b c : Bool) → (b ≡ true → c ≡ true) → b ≡ (c && b)
      both true c h = sym (ap (λ x. x && true) (h refl))
      both false c h = sym (Rattle.std.proofs.Math.Bool.and-false c)

  module _ (lease : LeaseRec) (less : AreOwnersLess new old lease.refs) (k : KeepsHandle lease) where
    abbrev left : List LeaseRef → LeaseRec
    left refs = with_refs old lease refs

    abbrev kept : List LeaseRef
    kept = settled_refs old lease

    -- whether the record that was left lacks an answer, by whether there was one
    unanswered_left : (b : Bool) → is_unanswered old lease ≡ b → is_unanswered new (cond b (let c : LeaseRec = record { file = lease.file; held = lease.needed; breaking = false; asked = record { 0 = 0 }; needed = record { 0 = 0 }; until = 0; refs = kept } in c) (record lease { refs = kept }))
        ≡ cond b false (is_unanswered new lease)
    unanswered_left true u = refl
    unanswered_left false u = ap (λ x. lease.breaking && not x) (same_any (list_any (is_connected new) kept) (list_any (is_connected new) lease.refs)
        (λ e. let x = one_of (is_connected new) kept e in any_of (is_connected new) lease.refs x.0 (in_filter (ref_counts old lease) lease.refs x.0 x.1).0 x.2)
        (λ e. let x = one_of (is_connected new) lease.refs e in any_of (is_connected new) kept x.0 (passes_in (ref_counts old lease) lease.refs x.0 x.1 (or_left (is_connected old x.0) _ (less x.0 x.1 x.2))) x.2))
      where
        same_any : (b c : Bool) → (b ≡ true → c ≡ true) → (c ≡ true → b ≡ true) → b ≡ c
        same_any b c f g = Rattle.table_laws.proofs.Lists.same_test b c f g

    state_left : (b : Bool) → is_unanswered old lease ≡ b
        → settled_state new (cond b (let c : LeaseRec = record { file = lease.file; held = lease.needed; breaking = false; asked = record { 0 = 0 }; needed = record { 0 = 0 }; until = 0; refs = kept } in c) (record lease { refs = kept })) ≡ settled_state new lease
    state_left true u = sym (ap (λ x. cond x lease.needed lease.held) (unanswered_still lease less u))
    state_left false u = ap (λ x. cond x lease.needed lease.held) (unanswered_left false u)

    refs_of_left : (b : Bool) → (cond b (let c : LeaseRec = record { file = lease.file; held = lease.needed; breaking = false; asked = record { 0 = 0 }; needed = record { 0 = 0 }; until = 0; refs = kept } in c) (record lease { refs = kept })).refs ≡ kept
    refs_of_left true = refl
    refs_of_left false = refl

    -- the same references count in what was left
    refs_again : (b : Bool) → is_unanswered old lease ≡ b
        → settled_refs new (cond b (let c : LeaseRec = record { file = lease.file; held = lease.needed; breaking = false; asked = record { 0 = 0 }; needed = record { 0 = 0 }; until = 0; refs = kept } in c) (record lease { refs = kept })) ≡ settled_refs new lease
    refs_again b u =
        ap (λ (s : LeaseState). filter (λ ref. is_connected new ref || (not (ref.durable == 0) && has s.0 2))
        (cond b (let c : LeaseRec = record { file = lease.file; held = lease.needed; breaking = false; asked = record { 0 = 0 }; needed = record { 0 = 0 }; until = 0; refs = kept } in c) (record lease { refs = kept })).refs) (state_left b u)
        ∙ ap (filter (ref_counts new lease)) (refs_of_left b)
        ∙ sym (refs_thin lease less k)

    -- and the same record is left of it
    with_again : (b : Bool) → is_unanswered old lease ≡ b → (refs : List LeaseRef)
        → with_refs new (cond b (let c : LeaseRec = record { file = lease.file; held = lease.needed; breaking = false; asked = record { 0 = 0 }; needed = record { 0 = 0 }; until = 0; refs = kept } in c) (record lease { refs = kept })) refs ≡ with_refs new lease refs
    with_again true u refs = ap (λ x. cond x
        (let c : LeaseRec = record { file = lease.file; held = lease.needed; breaking = false; asked = record { 0 = 0 }; needed = record { 0 = 0 }; until = 0; refs = refs } in c) (record lease { refs = refs })) (sym (unanswered_still lease less u))
    with_again false u refs = ap (λ x. cond x
        (let c : LeaseRec = record { file = lease.file; held = lease.needed; breaking = false; asked = record { 0 = 0 }; needed = record { 0 = 0 }; until = 0; refs = refs } in c) (record lease { refs = refs })) (unanswered_left false u)

    unless_again : (b : Bool) → is_unanswered old lease ≡ b → (refs : List LeaseRef)
        → unless_empty new (cond b (let c : LeaseRec = record { file = lease.file; held = lease.needed; breaking = false; asked = record { 0 = 0 }; needed = record { 0 = 0 }; until = 0; refs = kept } in c) (record lease { refs = kept })) refs ≡ unless_empty new lease refs
    unless_again b u [] = refl
    unless_again b u (ref ∷ refs) = ap Some (with_again b u (ref ∷ refs))

    -- where nothing was left, nothing is
    by_kept : (refs : List LeaseRef) → refs ≡ kept → unless_empty new lease (filter (ref_counts new lease) refs) ≡ option_and_then (settled_lease new) (unless_empty old lease refs)
    by_kept [] e = refl
    by_kept (ref ∷ refs) e =
        ap (λ rs. unless_empty new lease (filter (ref_counts new lease) rs)) e
        ∙ ap (unless_empty new lease) (sym (refs_thin lease less k))
        ∙ sym (unless_again (is_unanswered old lease) refl (settled_refs new lease))
        ∙ ap (unless_empty new (with_refs old lease kept)) (sym (refs_again (is_unanswered old lease) refl))
        ∙ ap (λ rs. settled_lease new (with_refs old lease rs)) (sym e)

    pub settled_again : settled_lease new lease ≡ option_and_then (settled_lease new) (settled_lease old lease)
    settled_again = ap (unless_empty new lease) (refs_thin lease less k) ∙ by_kept kept refl
