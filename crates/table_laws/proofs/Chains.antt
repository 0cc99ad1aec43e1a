-- From records to chains: what an entry makes of the chains stands for the table after it.
use Rattle.std.proofs.Common.{◌≡◌, ℕ, ◌+◌, Bool, true, false, cond, ◌&&◌, List, [], ◌∷◌, ◌++◌, filter, Option, Some, None, refl, sym, ap, ◌∙◌, subst}
use Rattle.std.specs.List.{AllByRecursion, list_all, flat_map}
use Rattle.std.specs.Option.{option_and_then}
use Rattle.std.proofs.lemmas.Bool.{and_parts}
use Rattle.sid_core.specs.declared.entry.Entry.{Entry}
use Rattle.sid_core.specs.declared.setup.Setup.{Setup}
use Rattle.sid_core.specs.Setup.{IsSetup}
use Rattle.sid_core.specs.Counting.{CountsFrom, RisesAbove}
use Rattle.serial_table.specs.declared.rows.OpenRow.{OpenRow}
use Rattle.serial_table.specs.declared.table.Table.{Table}
use Rattle.serial_table.specs.declared.change.Change.{Change}
use Rattle.serial_table.specs.declared.change.Change.TheVariants as c
use Rattle.serial_table.specs.View.{view, is_of_file, has_id}
use Rattle.serial_table.specs.Change.{perform, perform_all}
use Rattle.serial_table.specs.History.{start, after, IsLegal, own_seq, seqs_of, own_number, numbers_of}
use Rattle.serial_table.specs.Sound.{IsSound}
use Rattle.serial_table.specs.InSets.{IsInSets}
use Rattle.serial_table.specs.Bounded.{IsBounded}
use Rattle.serial_table.proofs.SameIds.{same_id-refl}
use Rattle.serial_table.proofs.Members.{IsIn, all_of, all_by, in_filter, passes_in}
use Rattle.serial_table.proofs.Along.{legal_before}
use Rattle.serial_table.proofs.Soundness.{legal_is_sound}
use Rattle.serial_table.proofs.InSetsHistories.{legal_is_in_sets}
use Rattle.serial_table.proofs.Bounds.{legal_is_bounded}
use Rattle.chain_map.specs.declared.db.Db.TheVariants as db
use Rattle.record_codec.specs.declared.open_rec.OpenRec.{OpenRec}
use Rattle.stored_table.specs.Keys.{open_key}
use Rattle.stored_table.specs.Places.{Chains, Place, place, among}
use Rattle.stored_table.specs.Decoded.{AllRecords, records_of}
use Rattle.stored_table.specs.Exact.{is_empty}
use Rattle.stored_table.specs.Move.{added, move, places_written}
use Rattle.stored_table.specs.Moved.{if_still_open, moved_open, moved}
use Rattle.stored_table.specs.Stands.{AgreeWith, HasOpenRecords, StandsFor}
use Rattle.stored_table.proofs.Spelling.{have_spellings, added_has_spelling}
use Rattle.stored_table.proofs.Keeping.{well_formed-move}
use Rattle.stored_table.proofs.Whole.{records_moved}
use Rattle.table_laws.proofs.Contained.{Contained}
use Rattle.table_laws.proofs.Lessened.{Lessened, lessened}
use Rattle.table_laws.proofs.Handles.{leases_keep_handle}
use Rattle.table_laws.proofs.Exactly.{in_opens}
use Rattle.table_laws.proofs.Stepping.{either_of, agree_after}
use Rattle.table_laws.proofs.Touching.{touches, open_before}

-- a table that is sound and bounded, with its numbers in their sets
pub record IsFine (setup : Setup) (t : Table) : Type 0 where
  pub sound : IsSound t
  pub sets : IsInSets setup t
  pub bounded : IsBounded t

pub legal_is_fine : (setup : Setup) (history : List Entry) → IsSetup setup → IsLegal setup history → IsFine setup (after setup history)
legal_is_fine setup history is legal = record { sound = legal_is_sound setup history is legal; sets = legal_is_in_sets setup history is legal; bounded = legal_is_bounded setup history is legal }

-- ---- a history before its last entry

pub flat_joined : {X Y : Type 0} (f : X → List Y) (xs ys : List X) → flat_map f (xs ++ ys) ≡ flat_map f xs ++ flat_map f ys
flat_joined f [] ys = refl
flat_joined f (x ∷ xs) ys = ap (λ zs. f x ++ zs) (flat_joined f xs ys) ∙ grouped (f x) (flat_map f xs) (flat_map f ys)
  where
    grouped : {Y : Type 0} (a b d : List Y) → a ++ (b ++ d) ≡ (a ++ b) ++ d
    grouped [] b d = refl
    grouped (y ∷ a) b d = ap (λ zs. y ∷ zs) (grouped a b d)

pub counts_before : (n : ℕ) (xs ys : List ℕ) → CountsFrom n (xs ++ ys) → CountsFrom n xs
counts_before n [] ys h = tt
counts_before n (x ∷ xs) ys h = (h.0, counts_before (n + 1) xs ys h.1)

pub rises_before : (n : ℕ) (xs ys : List ℕ) → RisesAbove n (xs ++ ys) → RisesAbove n xs
rises_before n [] ys h = tt
rises_before n (x ∷ xs) ys h = (h.0, rises_before x xs ys h.1)

pub legal_start : (setup : Setup) (before : List Entry) (e : Entry) → IsLegal setup (before ++ e ∷ []) → IsLegal setup before
legal_start setup before e legal = record {
  entries = (legal_before setup (start setup) before [] e legal.entries).0;
  counted = λ by. counts_before 1 (seqs_of by before) (seqs_of by (e ∷ [])) (subst (CountsFrom 1) (flat_joined (own_seq by) before (e ∷ [])) (legal.counted by));
  rising = λ by. rises_before 0 (numbers_of by before) (numbers_of by (e ∷ [])) (subst (RisesAbove 0) (flat_joined (own_number by) before (e ∷ [])) (legal.rising by));
}

-- ---- opens that were there before

-- No open comes.
abbrev pub adds_no_open : Change → Bool
adds_no_open (c.AddOpen row) = false
adds_no_open _ = true

still_in : (here : ℕ → Bool) (change : Change) (t : Table) (o : OpenRow) → adds_no_open change ≡ true → touches here change ≡ true → IsIn o (perform change t).opens → IsIn o t.opens
still_in here change t o e h i = by change e (open_before here change t o h i)
  where
    by : (d : Change) → adds_no_open d ≡ true → Rattle.std.proofs.Common.◌⊎◌ (IsIn o t.opens) (Rattle.table_laws.proofs.Touching.IsAdded o d) → IsIn o t.opens
    by d e (Rattle.std.proofs.Common.inl i) = i
    by (c.AddOpen row) e (Rattle.std.proofs.Common.inr i) = absurd cc
    by (c.DropOpen f id) e (Rattle.std.proofs.Common.inr i) = absurd i
    by (c.TakeOver f id owner handle) e (Rattle.std.proofs.Common.inr i) = absurd i
    by (c.AddLease lease) e (Rattle.std.proofs.Common.inr i) = absurd i
    by (c.SetLease f name held breaking) e (Rattle.std.proofs.Common.inr i) = absurd i
    by (c.Acknowledge f name state) e (Rattle.std.proofs.Common.inr i) = absurd i
    by (c.AddRange range) e (Rattle.std.proofs.Common.inr i) = absurd i
    by (c.DropRange range) e (Rattle.std.proofs.Common.inr i) = absurd i
    by (c.AddPending f) e (Rattle.std.proofs.Common.inr i) = absurd i
    by (c.DropPending f) e (Rattle.std.proofs.Common.inr i) = absurd i
    by (c.AddHold hold) e (Rattle.std.proofs.Common.inr i) = absurd i
    by (c.SetHold key owner mode) e (Rattle.std.proofs.Common.inr i) = absurd i
    by (c.DropHold key owner) e (Rattle.std.proofs.Common.inr i) = absurd i
    by (c.AddWaiter x) e (Rattle.std.proofs.Common.inr i) = absurd i
    by (c.DropWaiter sid call) e (Rattle.std.proofs.Common.inr i) = absurd i
    by (c.Send post) e (Rattle.std.proofs.Common.inr i) = absurd i
    by (c.TakeLetter to) e (Rattle.std.proofs.Common.inr i) = absurd i
    by (c.EndSession sid moment) e (Rattle.std.proofs.Common.inr i) = absurd i
    by (c.NextSession sid moment) e (Rattle.std.proofs.Common.inr i) = absurd i
    by c.Settle e (Rattle.std.proofs.Common.inr i) = absurd i

pub all_still_in : (here : ℕ → Bool) (cs : List Change) (t : Table) (o : OpenRow) → list_all adds_no_open cs ≡ true → list_all (touches here) cs ≡ true → IsIn o (perform_all cs t).opens → IsIn o t.opens
all_still_in here [] t o e h i = i
all_still_in here (change ∷ cs) t o e h i =
    let p = and_parts (adds_no_open change) (list_all adds_no_open cs) e in
    let q = and_parts (touches here change) (list_all (touches here) cs) h in
    still_in here change t o p.0 q.0 (all_still_in here cs (perform change t) o p.1 q.1 i)

-- ---- open records

module _ (setup : Setup) (ps : List Place) (s : AllRecords) (t u : Table) (agree : AgreeWith setup s (view t)) where
  abbrev after_it : AllRecords
  after_it = moved setup ps None (view u) s

  -- the open record of an open stays
  stays_open : (pid number : ℕ) (r : OpenRec) → s.opens pid number ≡ Some r → is_empty ((view u).opens_of_id r.id) ≡ false → after_it.opens pid number ≡ Some r
  stays_open pid number r is some =
      either_of (λ x. x) (among (place db.Opens (open_key pid number)) ps) (moved_open (view u) None (place db.Opens (open_key pid number)) (s.opens pid number)) (s.opens pid number) (Some r)
      (ap (option_and_then (if_still_open (view u))) is ∙ ap (λ b. cond b None (Some r)) some)
      (λ unmet. is)

  is_some : (o : OpenRow) → IsIn o u.opens → is_empty ((view u).opens_of_id o.id) ≡ false
  is_some o i = not_empty ((view u).opens_of_id o.id) (passes_in (has_id o.id) u.opens o i (same_id-refl o.id))
    where
      not_empty : (xs : List OpenRow) → IsIn o xs → is_empty xs ≡ false
      not_empty [] i = absurd i
      not_empty (x ∷ xs) i = refl

  one_open : IsSound t → (o : OpenRow) → IsIn o t.opens → IsIn o u.opens → HasOpenRecords after_it o
  one_open sound o i j =
      let old = all_of (HasOpenRecords s) ((view t).opens_of o.file) (agree.opens o.file) o (in_opens t sound o i) in
      record {
        by_id = stays_open o.id.pid o.id.call (record { id = o.id; file = o.file }) old.by_id (is_some o j);
        by_handle = stays_open o.owner.pid o.handle (record { id = o.id; file = o.file }) old.by_handle (is_some o j);
      }

  pub old_opens : IsSound t → ((o : OpenRow) → IsIn o u.opens → IsIn o t.opens) → (file : ℕ) → AllByRecursion (HasOpenRecords (moved setup ps None (view u) s)) ((view u).opens_of file)
  old_opens sound before file = all_by (HasOpenRecords (moved setup ps None (view u) s)) ((view u).opens_of file) (λ o i. let k = in_filter (is_of_file file) u.opens o i in one_open sound o (before o k.0) k.0)

-- ---- chains

-- where fewer may live afterwards
pub chains_stand_less : (setup : Setup) (n : ℕ) (k : Chains) (e : Entry) (t u : Table) → IsSetup setup → StandsFor setup n k (view t) → IsFine setup t → IsFine setup u
    → Lessened setup (places_written setup n k e) (records_of setup n k) t u
    → ((file : ℕ) → AllByRecursion (HasOpenRecords (moved setup (places_written setup n k e) (added setup (view u) e) (view u) (records_of setup n k))) ((view u).opens_of file))
    → StandsFor setup n (move setup n k e (view u)) (view u)
chains_stand_less setup n k e t u is stands fine fine_after c opens =
    let spelled = have_spellings setup u is fine_after.sets fine_after.sound.rows fine_after.bounded in
    let added_spelled = added_has_spelling setup u is fine_after.sets fine_after.sound.rows fine_after.bounded e in
    record {
      well_formed = well_formed-move setup n k e (view u) stands.well_formed spelled added_spelled;
      agree = subst (λ r. AgreeWith setup r (view u)) (sym (records_moved setup n k e (view u) is stands.well_formed spelled added_spelled))
          (agree_after setup (places_written setup n k e) (added setup (view u) e) (records_of setup n k) t u stands.agree fine.sound fine.sets fine_after.sound fine_after.sets
          (leases_keep_handle setup n k stands.well_formed) c opens);
    }

-- where all live on
pub chains_stand : (setup : Setup) (n : ℕ) (k : Chains) (e : Entry) (t u : Table) → IsSetup setup → StandsFor setup n k (view t) → IsFine setup t → IsFine setup u
    → Contained setup (places_written setup n k e) (records_of setup n k) t u
    → ((file : ℕ) → AllByRecursion (HasOpenRecords (moved setup (places_written setup n k e) (added setup (view u) e) (view u) (records_of setup n k))) ((view u).opens_of file))
    → StandsFor setup n (move setup n k e (view u)) (view u)
chains_stand setup n k e t u is stands fine fine_after c opens =
    chains_stand_less setup n k e t u is stands fine fine_after (lessened setup (places_written setup n k e) (records_of setup n k) t u fine.sound fine_after.sound c) opens
