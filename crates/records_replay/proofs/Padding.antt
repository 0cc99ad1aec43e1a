-- A journal that an entry follows is as good as one with as many entries of the pass as one likes: those that tidy no chain change nothing.
use Rattle.std.proofs.Common.{◌≡◌, ℕ, zero, suc, ◌+◌, ◌*◌, ◌/◌, ◌<◌, ◌≤◌, Bool, true, false, cond, eqb, List, [], ◌∷◌, ◌++◌, length, map, refl, sym, ap, ◌∙◌, subst, arith, append-nil}
use Rattle.std.specs.Prelude.{fold}
use Rattle.std.specs.List.{AllByRecursion}
use Rattle.std.proofs.lemmas.Bool.{eq-eqb}
use Rattle.std.proofs.lemmas.List.Sums.{fold_push}
use Rattle.sid_core.specs.declared.entry.Entry.{Entry}
use Rattle.sid_core.specs.declared.entry.Event.{Event}
use Rattle.sid_core.specs.declared.entry.Event.TheVariants.{Called, Died, Tidied}
use Rattle.sid_core.specs.declared.setup.Setup.{Setup}
use Rattle.sid_core.specs.Setup.{IsSetup}
use Rattle.serial_table.specs.History.{IsLegal, own_number, numbers_of}
use Rattle.serial_table.specs.Step.{view_after}
use Rattle.serial_table.specs.View.{View}
use Rattle.chain_map.specs.Pairs.{Pairs}
use Rattle.stored_table.specs.Met.{places_in}
use Rattle.stored_table.specs.Move.{added, db_of_number, first_chains, is_by_old, new_at}
use Rattle.stored_table.specs.Places.{Chains, HasChains, write_all}
use Rattle.table_laws.proofs.Chains.{flat_joined}
use Rattle.stored_reading.specs.Reading.{view_of_chains}
use Rattle.turn_types.specs.Journal.{of_pass}
use Rattle.records_replay.specs.Behind.{IsBehind, IsReachedBefore}
use Rattle.records_replay.specs.Rule.{per_database, step, IsLegalStep, FollowsAs}
use Rattle.records_replay.proofs.ChainLists.{none_behind}
use Rattle.records_replay.proofs.Journals.{own_of_pass, none_yet, IsHistory, is_legal, stands, one_longer, journal_is, behind}
use Rattle.records_replay.proofs.Renumbering.{renumbered, counts, counts_longer, renumbered_longer}

-- ---- an entry that tidies no chain

either_is_none : (b : Bool) → ◌≡◌ {A = List ℕ} (cond b [] [] ++ []) []
either_is_none true = refl
either_is_none false = refl

follows_alike : (by : ℕ) (x y : List Entry) (what : Event) → numbers_of by x ≡ numbers_of by y → FollowsAs by x what → FollowsAs by y what
follows_alike by x y (Called number moment call reply) e h = subst (AllByRecursion (λ earlier. earlier < number)) e h
follows_alike by x y (Died worker moment) e h = tt
follows_alike by x y (Tidied chain) e h = tt

module _ (setup : Setup) (is : IsSetup setup) (n : ℕ) (some : 1 ≤ n) (k0 : Chains) (first : k0 ≡ first_chains setup n) (by : ℕ) where
  abbrev pad : Entry
  pad = record { by = by; seq = 0; what = Tidied (7 * n) }

  stays : (k : Chains) → HasChains n k → step setup k pad ≡ k
  stays k has =
      let m = per_database k in
      let v : View = view_after setup (view_of_chains setup m k) by (Tidied (7 * n)) in
      let many : length k ≡ 7 * n = has.count in
      ap (λ (pairs : Pairs). write_all m (new_at setup m k (is_by_old setup pad) v (added setup v pad)) (places_in (db_of_number ((7 * n) / m)) (map (λ pair. pair.0) pairs)) k)
      (none_behind k (7 * n) (omega (arith, many)))

  -- the journal with so many of them behind it
  record IsPadded (done : List Entry) (more : ℕ) : Type 0 where
    pub padded : List Entry
    pub is_history : IsHistory setup is n some k0 first padded
    pub same : fold (step setup) k0 padded ≡ fold (step setup) k0 done
    pub numbers : numbers_of by padded ≡ numbers_of by done
    pub count : counts none_yet padded by ≡ counts none_yet done by + more

  padded_by : (done : List Entry) → IsHistory setup is n some k0 first done → (more : ℕ) → IsPadded done more
  padded_by done h zero = record { padded = done; is_history = h; same = refl; numbers = refl; count = omega arith }
  padded_by done h (suc more) =
      let q = padded_by done h more in
      let one : cond (eqb by by) (counts none_yet q.padded by + 1) (counts none_yet q.padded by) ≡ counts none_yet q.padded by + 1 =
      ap (λ b. cond b (counts none_yet q.padded by + 1) (counts none_yet q.padded by)) (eq-eqb by by refl) in
      record {
        padded = q.padded ++ pad ∷ [];
        is_history = one_longer setup is n some k0 first q.padded q.is_history pad tt tt;
        same = fold_push (step setup) k0 q.padded pad ∙ stays (fold (step setup) k0 q.padded) (stands setup is n some k0 first q.padded q.is_history).well_formed.chains ∙ q.same;
        numbers = flat_joined (own_number by) q.padded (pad ∷ []) ∙ ap (λ ns. numbers_of by q.padded ++ ns) (either_is_none (eqb by by)) ∙ append-nil (numbers_of by q.padded) ∙ q.numbers;
        count =
            let before = q.count in
            let longer = counts_longer none_yet q.padded pad by in
            longer ∙ one ∙ (omega (arith, before));
      }

-- ---- behind a history that goes on with the entry

-- with this seq
pub record IsReady (setup : Setup) (k : Chains) (e : Entry) (seq : ℕ) : Type 0 where
  pub is_behind : IsBehind setup k
  pub goes_on : IsLegal setup (is_behind.history ++ record e { seq = seq } ∷ [])

-- how many entries the entry's pass has in the journal
abbrev pub had : (setup : Setup) (k : Chains) (e : Entry) → IsReachedBefore setup e k → ℕ
had setup k e reached = counts none_yet reached.1 e.by

pub ready : (setup : Setup) (k : Chains) (e : Entry) (reached : IsReachedBefore setup e k) → IsLegalStep setup k e → (more : ℕ) → IsReady setup k e (had setup k e reached + more + 1)
ready setup k e (k0, journal, first, legal, follows, made) may more =
    let n = per_database k0 in
    let h = journal_is setup first.declared n first.some k0 first.is journal legal in
    let q = padded_by setup first.declared n first.some k0 first.is e.by journal h more in
    let made_so : k ≡ fold (step setup) k0 q.padded = made ∙ sym q.same in
    let h2 = one_longer setup first.declared n first.some k0 first.is q.padded q.is_history e (subst (λ j. IsLegalStep setup j e) made_so may)
    (follows_alike e.by (of_pass e.by journal) (of_pass e.by q.padded) e.what (own_of_pass e.by journal ∙ sym q.numbers ∙ sym (own_of_pass e.by q.padded)) follows) in
    record {
      is_behind = behind setup first.declared n first.some k0 first.is q.padded q.is_history k made_so;
      goes_on =
          subst (λ c. IsLegal setup (renumbered none_yet q.padded ++ record e { seq = c + 1 } ∷ [])) q.count
          (subst (IsLegal setup) (renumbered_longer none_yet q.padded e) (is_legal setup first.declared n first.some k0 first.is (q.padded ++ e ∷ []) h2));
    }
