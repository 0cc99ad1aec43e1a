-- Idle passes, and what an entry leaves beside them.
use Rattle.std.proofs.Common as std
use Rattle.std.specs.Prelude.{OnOk, OnErr}
use Rattle.std.proofs.Common.{◌≡◌, ℕ, zero, suc, ◌<◌, length, true, false, ◌⊎◌, inl, inr, List, [], ◌∷◌, ◌++◌, slice_set, append-nil, drop, sym, refl, ap, ◌∙◌, subst}
use Rattle.std.specs.Prelude.{fold}
use mathlib.Core.Option.{some, some-ne-none, some-injective}
use lib.ListN.{get_elem?}
use Rattle.sid_core.specs.declared.entry.Entry.{Entry}
use Rattle.turn_types.specs.Journal.{Chains}
use Rattle.turn_types.specs.Shown.{Shown, Nothing, replay, knows_freed}
use Rattle.turn_types.specs.Calls.{Able}
use Rattle.turn_types.specs.Beside.{Beside, Leaves, Tells}
use Rattle.by_hand.specs.Steps.{HasLeft}
use Rattle.by_hand.specs.Idle.{IsIdle, IsCarriedOut, IsUndone}

set_elem : {A : Type 0} (xs : List A) (k m : ℕ) (x u : A) → get_elem? (slice_set xs k x) m ≡ some u → (u ≡ x) ⊎ (get_elem? xs m ≡ some u)
set_elem [] k m x u e = absurd (some-ne-none u (sym e))
set_elem (y ∷ xs) zero zero x u e = inl (sym (some-injective x u e))
set_elem (y ∷ xs) zero (suc m) x u e = inr e
set_elem (y ∷ xs) (suc k) zero x u e = inr e
set_elem (y ∷ xs) (suc k) (suc m) x u e = set_elem xs k m x u e

same_tails : {A : Type 0} (xs ys zs : List A) → xs ++ ys ≡ xs ++ zs → ys ≡ zs
same_tails [] ys zs e = e
same_tails (x ∷ xs) ys zs e = same_tails xs ys zs (ap (λ t. drop 1 t) e)

fold_append : {A B : Type 0} (f : A → B → A) (k : A) (xs ys : List B) → fold f k (xs ++ ys) ≡ fold f (fold f k xs) ys
fold_append f k [] ys = refl
fold_append f k (x ∷ xs) ys = fold_append f (f k x) xs ys

module _ {R : Type 0} (v w : Shown R) (b d : Beside R) (gained : List Entry) (l : Leaves v w b d) (h : HasLeft v w gained) where
  pub stays_idle : IsIdle b → IsIdle d
  stays_idle idle = record { each = still } where
    either_of : (n : ℕ) (u : Shown R) → (u ≡ w) ⊎ (get_elem? b.passes n ≡ some u) → Able u × (u.held ≡ []) × (u.plan ≡ Nothing)
    either_of n u (inl is) = subst (λ (x : Shown R). Able x × (x.held ≡ []) × (x.plan ≡ Nothing)) (sym is) (h.able, h.held, h.plan)
    either_of n u (inr there) = idle.each n u there

    still : (n : ℕ) (u : Shown R) → get_elem? d.passes n ≡ some u → Able u × (u.held ≡ []) × (u.plan ≡ Nothing)
    still n u at = either_of n u (set_elem b.passes v.number n w u (ap (λ (ps : List (Shown R)). get_elem? ps n) (sym l.passes) ∙ at))

  journal_gained : d.journal ≡ b.journal ++ gained
  journal_gained = l.journal ∙ ap (λ (g : List Entry). b.journal ++ g) (same_tails v.own l.gained gained (sym l.own ∙ h.same.own))

  module _ (step : R → Chains → Entry → Chains) (before : b.chains ≡ replay step v b.journal) (now : d.chains ≡ replay step w d.journal) where
    chains_made : d.chains ≡ fold (step v.rule) b.chains gained
    chains_made = now ∙ (λ j. fold (step (h.same.rule j)) (h.same.first j) (journal_gained j)) ∙ fold_append (step v.rule) v.first b.journal gained
        ∙ ap (λ (k : Chains). fold (step v.rule) k gained) (sym before)

    pub undone : gained ≡ [] → IsUndone v w b d
    undone none = record {
      own = h.same.own ∙ ap (λ (g : List Entry). v.own ++ g) none ∙ append-nil v.own;
      journal = journal_gained ∙ ap (λ (g : List Entry). b.journal ++ g) none ∙ append-nil b.journal;
      chains = chains_made ∙ ap (λ (g : List Entry). fold (step v.rule) b.chains g) none;
    }

    pub carried_out : (e : Entry) → gained ≡ e ∷ [] → IsCarriedOut (step v.rule) v w b d e
    carried_out e one = record {
      own = h.same.own ∙ ap (λ (g : List Entry). v.own ++ g) one;
      journal = journal_gained ∙ ap (λ (g : List Entry). b.journal ++ g) one;
      chains = chains_made ∙ ap (λ (g : List Entry). fold (step v.rule) b.chains g) one;
    }

-- ---- plain cells

module _ {R : Type 0} (step : R → Chains → Entry → Chains) where
  -- what plain cells tell of their chains
  abbrev pub ChainsTold : Beside R → Type 0
  ChainsTold b = ((n : ℕ) (v : Shown R) → get_elem? b.passes n ≡ some v → v.alive ≡ true → v.held ≡ [])
      → ((n : ℕ) (v : Shown R) → get_elem? b.passes n ≡ some v → v.alive ≡ false → (m : ℕ) × (w : Shown R) × (get_elem? b.passes m ≡ some w) × (knows_freed n w ≡ true))
      → (n : ℕ) (v : Shown R) → get_elem? b.passes n ≡ some v → b.chains ≡ replay step v b.journal

  -- where all passes are idle, they are what the journal makes
  pub chains_at : (b : Beside R) (v : Shown R) → Tells v b → IsIdle b → ChainsTold b → b.chains ≡ replay step v b.journal
  chains_at b v at idle told = told (λ m u is lives. (idle.each m u is).1) (λ m u is dead. let no : true ≡ false = sym (idle.each m u is).0.lives ∙ dead in absurd cc) v.number v at

  -- the same, told of what stands beside the pass later
  module _ (v w : Shown R) (b d e : Beside R) (gained : List Entry) (same : d ≡ e) (here : Tells v b) (there : Tells w d) (l : Leaves v w b d) (h : HasLeft v w gained) (idle : IsIdle b) (told : ChainsTold b) (later : ChainsTold e) where
    now : d.chains ≡ replay step w d.journal
    now = chains_at d w there (stays_idle v w b d gained l h idle) (subst (λ (x : Beside R). ChainsTold x) (sym same) later)

    pub still_idle : IsIdle e
    still_idle = subst (λ (x : Beside R). IsIdle x) same (stays_idle v w b d gained l h idle)

    module _ (u : Shown R) (shows : w ≡ u) where
      pub is_undone : gained ≡ [] → IsUndone v u b e
      is_undone none = subst (λ (x : Beside R). IsUndone v u b x) same (subst (λ (x : Shown R). IsUndone v x b d) shows (undone v w b d gained l h step (chains_at b v here idle told) now none))

      pub is_carried_out : (entry : Entry) → gained ≡ entry ∷ [] → IsCarriedOut (step v.rule) v u b e entry
      is_carried_out entry one = subst (λ (x : Beside R). IsCarriedOut (step v.rule) v u b x entry) same
          (subst (λ (x : Shown R). IsCarriedOut (step v.rule) v x b d entry) shows (carried_out v w b d gained l h step (chains_at b v here idle told) now entry one))

-- ---- answers

pub on_ok : {T E A B : Type 0} (r : std.Result T E) → (A → B) → OnOk r A → OnOk r B
on_ok (std.Ok x) so p = so p
on_ok (std.Err e) so p = tt

pub on_err : {T E A B : Type 0} (r : std.Result T E) → (A → B) → OnErr r A → OnErr r B
on_err (std.Ok x) so p = tt
on_err (std.Err e) so p = so p

pub either : {T E A B C : Type 0} (r : std.Result T E) → OnOk r A → OnErr r B → (A → C) → (B → C) → C
either (std.Ok x) p q so or = so p
either (std.Err e) p q so or = or q
