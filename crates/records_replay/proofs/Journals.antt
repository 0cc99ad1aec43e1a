-- What a legal journal of the rule makes stands for the table behind a legal history.
use Rattle.std.proofs.Common.{◌≡◌, ℕ, ◌<◌, ◌≤◌, Bool, true, false, cond, eqb, List, [], ◌∷◌, ◌++◌, refl, sym, ap, ◌∙◌, subst, arith, append_assoc, append-nil}
use Rattle.std.specs.Prelude.{fold}
use Rattle.std.specs.List.{AllByRecursion}
use Rattle.std.proofs.lemmas.Bool.{eqb-true}
use Rattle.std.proofs.lemmas.List.Sums.{fold_push}
use Rattle.sid_core.specs.declared.entry.Entry.{Entry}
use Rattle.sid_core.specs.declared.entry.Event.{Event}
use Rattle.sid_core.specs.declared.entry.Event.TheVariants.{Called, Died, Tidied}
use Rattle.sid_core.specs.declared.setup.Setup.{Setup}
use Rattle.sid_core.specs.Counting.{RisesAbove}
use Rattle.sid_core.specs.Setup.{IsSetup}
use Rattle.serial_table.specs.declared.table.Table.{Table}
use Rattle.serial_table.specs.History.{start, after, AreLegal, IsLegal, IsLegalEvent, own_number, numbers_of, call_number}
use Rattle.serial_table.specs.View.{view}
use Rattle.serial_table.proofs.Alike.{legal_goes_on}
use Rattle.stored_table.specs.Places.{Chains}
use Rattle.stored_table.specs.Histories.{moved_by}
use Rattle.stored_table.specs.Move.{first_chains}
use Rattle.stored_table.specs.Stands.{StandsFor}
use Rattle.table_laws.proofs.Chains.{flat_joined}
use Rattle.stored_reading.specs.Steps as steps
use Rattle.stored_reading.specs.Steps.{stepped_from, stepped_by}
use Rattle.stored_reading.proofs.Stepping.{stepped_longer, legal_alike, steps_move, steps_stand}
use Rattle.turn_types.specs.Journal.{of_pass}
use Rattle.turn_types.proofs.Runs as runs
use Rattle.records_replay.specs.Behind.{IsReached, IsBehind, IsJournal, IsOfTheTable}
use Rattle.records_replay.specs.Rule.{per_database, IsFirst, step, IsLegalStep, FollowsAs, Follows}
use Rattle.records_replay.proofs.ChainLists.{sevenths}
use Rattle.records_replay.proofs.Renumbering.{renumbered, same_after, same_moves, same_steps, still_legal, same_numbers, counted}

-- ---- numbers of calls

rises_longer : (low m : ℕ) (ns : List ℕ) → RisesAbove low ns → low < m → AllByRecursion (λ n. n < m) ns → RisesAbove low (ns ++ m ∷ [])
rises_longer low m [] h l all = (l, tt)
rises_longer low m (n ∷ ns) h l all = (h.0, rises_longer n m ns h.1 all.0 all.1)

pub own_of_pass : (by : ℕ) (es : List Entry) → numbers_of by (of_pass by es) ≡ numbers_of by es
own_of_pass by [] = refl
own_of_pass by (e ∷ es) = each (eqb e.by by) refl (own_of_pass by es)
  where
    each : (b : Bool) → eqb e.by by ≡ b → numbers_of by (of_pass by es) ≡ numbers_of by es → numbers_of by (cond b (e ∷ of_pass by es) (of_pass by es)) ≡ cond b (call_number e.what) [] ++ numbers_of by es
    each true is h = ap (λ b. cond b (call_number e.what) [] ++ numbers_of by (of_pass by es)) is ∙ ap (λ ns. call_number e.what ++ ns) h
    each false is h = h

-- a call that follows its worker's earlier ones makes the numbers rise on
follows_rise : (setup : Setup) (t : Table) (own : ℕ) (done : List Entry) (what : Event) → FollowsAs own (of_pass own done) what → IsLegalEvent setup t own what → RisesAbove 0 (numbers_of own done)
    → RisesAbove 0 (numbers_of own done ++ (call_number what ++ []))
follows_rise setup t own done (Called number moment call reply) follows legal rises =
    rises_longer 0 number (numbers_of own done) rises (let n = legal.numbered in omega (arith, n)) (subst (AllByRecursion (λ earlier. earlier < number)) (own_of_pass own done) follows)
follows_rise setup t own done (Died worker moment) follows legal rises = subst (RisesAbove 0) (sym (append-nil (numbers_of own done))) rises
follows_rise setup t own done (Tidied chain) follows legal rises = subst (RisesAbove 0) (sym (append-nil (numbers_of own done))) rises

rises_on : (setup : Setup) (t : Table) (done : List Entry) (e : Entry) → Follows (of_pass e.by done) e → IsLegalEvent setup t e.by e.what → ((by : ℕ) → RisesAbove 0 (numbers_of by done)) → (by : ℕ) → RisesAbove 0 (numbers_of by (done ++ e ∷ []))
rises_on setup t done e follows legal rises by = subst (RisesAbove 0) (sym (flat_joined (own_number by) done (e ∷ []))) (each (eqb e.by by) refl)
  where
    each : (b : Bool) → eqb e.by by ≡ b → RisesAbove 0 (numbers_of by done ++ (cond b (call_number e.what) [] ++ []))
    each true is = subst (λ x. RisesAbove 0 (numbers_of x done ++ (call_number e.what ++ []))) (eqb-true e.by by is) (follows_rise setup t e.by done e.what follows legal (rises e.by))
    each false is = subst (RisesAbove 0) (sym (append-nil (numbers_of by done))) (rises by)

-- ---- along a journal

-- no entry is counted yet
abbrev pub none_yet : ℕ → ℕ
none_yet by = 0

module _ (setup : Setup) (is : IsSetup setup) (n : ℕ) (some : 1 ≤ n) (k0 : Chains) (first : k0 ≡ first_chains setup n) where
  pub record IsHistory (done : List Entry) : Type 0 where
    pub chains : fold (step setup) k0 done ≡ stepped_by setup n done
    pub entries : AreLegal setup (start setup) done
    pub rising : (by : ℕ) → RisesAbove 0 (numbers_of by done)

  module _ (done : List Entry) (h : IsHistory done) where
    abbrev pub history : List Entry
    history = renumbered none_yet done

    pub is_legal : IsLegal setup history
    is_legal = record {
      entries = still_legal setup none_yet (start setup) done h.entries;
      counted = λ by. counted by none_yet done;
      rising = λ by. subst (RisesAbove 0) (sym (same_numbers by none_yet done)) (h.rising by);
    }

    pub steps_are : stepped_by setup n history ≡ fold (step setup) k0 done
    steps_are = same_steps setup n none_yet (first_chains setup n) done ∙ sym h.chains

    pub stands : StandsFor setup n (fold (step setup) k0 done) (view (after setup history))
    stands = subst (λ k. StandsFor setup n k (view (after setup history))) steps_are (steps_stand setup n is some history is_legal)

    pub as_many : per_database (fold (step setup) k0 done) ≡ n
    as_many = sevenths n (fold (step setup) k0 done) stands.well_formed.chains

    pub one_longer : (e : Entry) → IsLegalStep setup (fold (step setup) k0 done) e → Follows (of_pass e.by done) e → IsHistory (done ++ e ∷ [])
    one_longer e legal follows =
        let alike = legal_alike setup n is history e (fold (step setup) k0 done) is_legal stands in
        let here : IsLegalEvent setup (after setup done) e.by e.what =
        subst (λ t. IsLegalEvent setup t e.by e.what) (same_after setup none_yet (start setup) done) (alike.to_table (subst (λ m. steps.IsLegalStep setup m (fold (step setup) k0 done) e) as_many legal)) in
        record {
          chains =
              fold_push (step setup) k0 done e
              ∙ ap (λ m. steps.step setup m (fold (step setup) k0 done) e) as_many
              ∙ ap (λ k. steps.step setup n k e) h.chains
              ∙ sym (stepped_longer setup n (first_chains setup n) done e);
          entries = legal_goes_on setup (start setup) done e h.entries here;
          rising = rises_on setup (after setup done) done e follows here h.rising;
        }

  along : (done todo : List Entry) → IsJournal setup k0 (done ++ todo) → IsHistory done → IsHistory (done ++ todo)
  along done [] legal h = subst IsHistory (sym (append-nil done)) h
  along done (e ∷ todo) legal h =
      let place = runs.here (step setup) (IsLegalStep setup) Follows k0 done todo e legal in
      subst IsHistory (append_assoc done (e ∷ []) todo) (along (done ++ e ∷ []) todo place.3 (one_longer done h e place.1 place.2))

  pub journal_is : (journal : List Entry) → IsJournal setup k0 journal → IsHistory journal
  journal_is journal legal = along [] journal legal (record { chains = first; entries = tt; rising = λ by. tt })

  -- ---- chains that a journal makes of first ones

  pub made_so : (done : List Entry) (h : IsHistory done) → fold (step setup) k0 done ≡ moved_by setup n (history done h)
  made_so done h = sym (steps_are done h) ∙ steps_move setup n is some (history done h) (is_legal done h)

  pub of_the_table : (done : List Entry) → IsHistory done → IsOfTheTable setup n done (fold (step setup) k0 done)
  of_the_table done h = record {
    legal = h.entries;
    rising = h.rising;
    made = made_so done h ∙ same_moves setup n none_yet (first_chains setup n) (start setup) done;
    stands = subst (λ t. StandsFor setup n (fold (step setup) k0 done) (view t)) (same_after setup none_yet (start setup) done) (stands done h);
  }

  abbrev pub behind : (done : List Entry) → IsHistory done → (k : Chains) → k ≡ fold (step setup) k0 done → IsBehind setup k
  behind done h k made =
      let many : per_database k ≡ n = ap per_database made ∙ as_many done h in
      record {
        declared = is;
        some = subst (λ m. 1 ≤ m) (sym many) some;
        history = history done h;
        legal = is_legal done h;
        made = made ∙ made_so done h ∙ ap (λ m. moved_by setup m (history done h)) (sym many);
        stands = subst (λ m. StandsFor setup m k (view (after setup (history done h)))) (sym many)
            (subst (λ j. StandsFor setup n j (view (after setup (history done h)))) (sym made) (stands done h));
      }

pub reached_is : (setup : Setup) (k : Chains) → IsReached setup k → IsBehind setup k
reached_is setup k (k0, journal, first, legal, made) =
    behind setup first.declared (per_database k0) first.some k0 first.is journal (journal_is setup first.declared (per_database k0) first.some k0 first.is journal legal) k made

pub journal_is_of_the_table : (setup : Setup) (first : Chains) (journal : List Entry) → IsFirst setup first → IsJournal setup first journal → IsOfTheTable setup (per_database first) journal (fold (step setup) first journal)
journal_is_of_the_table setup first journal is legal =
    let n = per_database first in
    of_the_table setup is.declared n is.some first is.is journal (journal_is setup is.declared n is.some first is.is journal legal)
