-- An entry after which fewer may live, and that adds no open; and one that ends a session.
use Rattle.std.proofs.Common.{◌≡◌, ℕ, Bool, true, false, List, [], ◌∷◌, ◌++◌, map, None, sym, ap, ◌∙◌, subst}
use Rattle.std.specs.List.{AllByRecursion}
use Rattle.sid_core.specs.declared.entry.Entry.{Entry}
use Rattle.sid_core.specs.declared.entry.Post.{Post}
use Rattle.sid_core.specs.declared.ids.Sid.{Sid}
use Rattle.sid_core.specs.declared.ids.Moment.{Moment}
use Rattle.sid_core.specs.declared.setup.Setup.{Setup}
use Rattle.sid_core.specs.declared.setup.WorkerInfo.{WorkerInfo}
use Rattle.sid_core.specs.Setup.{IsSetup}
use Rattle.serial_table.specs.declared.rows.OpenRow.{OpenRow}
use Rattle.serial_table.specs.declared.rows.Watch.{Watch}
use Rattle.serial_table.specs.declared.rows.WorkerRow.{WorkerRow}
use Rattle.serial_table.specs.declared.table.Table.{Table}
use Rattle.serial_table.specs.declared.change.Change.{Change}
use Rattle.serial_table.specs.declared.change.Change.TheVariants as c
use Rattle.serial_table.specs.View.{View, view, lives}
use Rattle.serial_table.specs.Settle.{settle_where}
use Rattle.serial_table.specs.Change.{perform, perform_all}
use Rattle.serial_table.specs.Decision.{waits_no_more, conclude}
use Rattle.serial_table.specs.Session.{end_of_session, wakes_behind}
use Rattle.serial_table.specs.Sound.{AllFit}
use Rattle.serial_table.specs.Step.{changes_of}
use Rattle.serial_table.specs.History.{start, after, IsLegal}
use Rattle.serial_table.proofs.Alike.{after_all-append}
use Rattle.serial_table.proofs.Concluding.{perform_all-append}
use Rattle.serial_table.proofs.Entries.{entry_fits}
use Rattle.serial_table.proofs.Members.{IsIn}
use Rattle.stored_table.specs.Places.{Chains, Place}
use Rattle.stored_table.specs.Decoded.{records_of}
use Rattle.stored_table.specs.Met.{all_met, met_by_worker}
use Rattle.stored_table.specs.Move.{added, move, places_written}
use Rattle.stored_table.specs.Moved.{moved}
use Rattle.stored_table.specs.Stands.{HasOpenRecords, StandsFor}
use Rattle.table_laws.proofs.Lessened.{Lessened}
use Rattle.table_laws.proofs.Chains.{IsFine, legal_is_fine, legal_start, old_opens, chains_stand_less}
use Rattle.table_laws.proofs.Lists.{all_joined}
use Rattle.table_laws.proofs.Thinning.{Thins, IsThinned, thinned}
use Rattle.table_laws.proofs.Ending.{own_register, own_mail, behind_met, wakes_met, drops_leave, sends_add, ended, settled_with, AreWorkers, dead, dead_before, ending}

module _ (setup : Setup) (n : ℕ) (is : IsSetup setup) (before : List Entry) (e : Entry) (legal : IsLegal setup (before ++ e ∷ [])) where
  abbrev t : Table
  t = after setup before

  pub fine_before : IsFine setup t
  fine_before = legal_is_fine setup before is (legal_start setup before e legal)

  module _ (u : Table) (after_is : after setup (before ++ e ∷ []) ≡ u) where
    pub fine_after : IsFine setup u
    fine_after = subst (IsFine setup) after_is (legal_is_fine setup (before ++ e ∷ []) is legal)

    -- what is written stands for the table after it
    pub less_stands : (k : Chains) → StandsFor setup n k (view t) → (ps : List Place) → places_written setup n k e ≡ ps → ((w : View) → added setup w e ≡ None)
        → Lessened setup ps (records_of setup n k) t u → ((o : OpenRow) → IsIn o u.opens → IsIn o t.opens)
        → StandsFor setup n (move setup n k e (view (after setup (before ++ e ∷ [])))) (view (after setup (before ++ e ∷ [])))
    less_stands k stands ps writes adds less opens =
        subst (λ x. StandsFor setup n (move setup n k e (view x)) (view x)) (sym after_is)
        (chains_stand_less setup n k e t u is stands fine_before fine_after
        (subst (λ ps. Lessened setup ps (records_of setup n k) t u) (sym writes) less)
        (λ file. subst (λ a. AllByRecursion (HasOpenRecords (moved setup (places_written setup n k e) a (view u) (records_of setup n k))) ((view u).opens_of file)) (sym (adds (view u)))
        (old_opens setup (places_written setup n k e) (records_of setup n k) t u stands.agree fine_before.sound opens file)))

-- waits that end, and letters, leave files and leases as they are
module _ (alive : Sid → Bool) (t : Table) where
  pub drops_thin : (ys : List Watch) → AllByRecursion (Thins alive t) (map waits_no_more ys)
  drops_thin [] = tt
  drops_thin (y ∷ ys) = (tt, drops_thin ys)

  pub sends_thin : (posts : List Post) → AllByRecursion (Thins alive t) (map (λ post. c.Send post) posts)
  sends_thin [] = tt
  sends_thin (post ∷ posts) = (tt, sends_thin posts)

-- ---- an entry that ends a session

module _ (setup : Setup) (n : ℕ) (is : IsSetup setup) (before : List Entry) (e : Entry) (legal : IsLegal setup (before ++ e ∷ [])) (sid : Sid) (info : WorkerInfo) (pid : sid.pid ≡ info.pid) (alive : lives (view (after setup before)) sid ≡ true)
    (moment : Moment) (others : List Change) (workers : List WorkerRow) where
  abbrev v : View
  v = view (after setup before)

  -- with what follows the end of the session
  abbrev pub changes : List Change
  changes = (conclude (view (after setup before)) (end_of_session (view (after setup before)) sid moment others)).changes

  abbrev posts : List Post
  posts = wakes_behind (view (after setup before)) sid ++ []

  abbrev u : Table
  u = settled_with (after setup before) sid moment workers posts

  module _ (changes_are : changes_of setup (view (after setup before)) e.by e.what ≡ (conclude (view (after setup before)) (end_of_session (view (after setup before)) sid moment others)).changes)
      (leaves : perform c.Settle (perform_all others (ended (after setup before) sid moment)) ≡ record (perform c.Settle (ended (after setup before) sid moment)) { workers = workers }) where
    done_is : perform_all changes (after setup before) ≡ u
    unfolding conclude end_of_session settle_where
    done_is =
        let t = after setup before in
        let drops = map waits_no_more (v.watches_behind sid) in
        let d = drops ++ c.EndSession sid moment ∷ others in
        perform_all-append (d ++ c.Settle ∷ []) (map (λ post. c.Send post) posts) t
        ∙ sends_add posts (perform_all (d ++ c.Settle ∷ []) t)
        ∙ ap (λ (x : Table). record x { letters = x.letters ++ posts })
        (perform_all-append d (c.Settle ∷ []) t
        ∙ ap (perform c.Settle) (perform_all-append drops (c.EndSession sid moment ∷ others) t ∙ ap (λ x. perform_all others (perform (c.EndSession sid moment) x)) (drops_leave (v.watches_behind sid) t))
        ∙ leaves)

    after_is : after setup (before ++ e ∷ []) ≡ u
    after_is = after_all-append setup (start setup) before e ∙ ap (λ cs. perform_all cs (after setup before)) changes_are ∙ done_is

    all_fit : AllFit changes (after setup before)
    all_fit = subst (λ cs. AllFit cs (after setup before)) changes_are (entry_fits setup before [] e is legal)

    all_thin : (living : Sid → Bool) → living sid ≡ false → AllByRecursion (Thins living (after setup before)) others → AllByRecursion (Thins living (after setup before)) changes
    unfolding conclude end_of_session
    all_thin living none rest =
        let P = Thins living (after setup before) in
        let drops = map waits_no_more (v.watches_behind sid) in
        all_joined P ((drops ++ c.EndSession sid moment ∷ others) ++ c.Settle ∷ []) (map (λ post. c.Send post) posts)
        (all_joined P (drops ++ c.EndSession sid moment ∷ others) (c.Settle ∷ [])
        (all_joined P drops (c.EndSession sid moment ∷ others) (drops_thin living (after setup before) (v.watches_behind sid)) (none, rest)) (tt, tt))
        (sends_thin living (after setup before) posts)

    -- what is written stands for the table after it
    pub ended_stands : (k : Chains) → StandsFor setup n k (view (after setup before)) → AreWorkers (after setup before) sid moment (records_of setup n k) workers
        → ((living : Sid → Bool) → AllByRecursion (Thins living (after setup before)) others) → places_written setup n k e ≡ all_met (met_by_worker n k info) → ((w : View) → added setup w e ≡ None)
        → StandsFor setup n (move setup n k e (view (after setup (before ++ e ∷ [])))) (view (after setup (before ++ e ∷ [])))
    ended_stands k stands ws rest writes adds =
        let t = after setup before in
        let s = records_of setup n k in
        let ps = all_met (met_by_worker n k info) in
        let fine = fine_before setup n is before e legal in
        let behind = behind_met setup n k t stands.agree info sid pid alive in
        let mail = own_mail setup n k t stands.agree info sid pid alive in
        let register = own_register setup n k t stands.agree info sid pid alive in
        let to = wakes_met ps t sid behind in
        let living : Sid → Bool = lives (view u) in
        let none = dead setup ps s t fine.sound sid moment alive mail register behind workers posts ws to in
        let thin : IsThinned living t u = subst (IsThinned living t) done_is
        (thinned living t changes fine.sound.rows all_fit (all_thin living none (rest living)) (dead_before setup ps s t fine.sound sid moment alive mail register behind workers posts ws to)) in
        less_stands setup n is before e legal u after_is k stands ps writes adds
        (ending setup ps s t fine.sound sid moment alive mail register behind workers posts ws to (fine_after setup n is before e legal u after_is).sound thin) thin.before
