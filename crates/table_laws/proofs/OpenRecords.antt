-- Open records where an open may come: the one that comes gets its record, and the others keep theirs.
use Rattle.std.proofs.Common.{◌≡◌, ℕ, Bool, true, List, [], ◌∷◌, Some, refl, sym, ap, ◌∙◌, subst, inl, inr, ◌⊎◌}
use Rattle.std.specs.List.{list_all, AllByRecursion}
use Rattle.std.proofs.lemmas.Bool.{and_parts}
use Rattle.sid_core.specs.declared.ids.OpenId.{OpenId}
use Rattle.sid_core.specs.declared.setup.Setup.{Setup}
use Rattle.sid_core.specs.Values.{IsU32}
use Rattle.serial_table.specs.declared.rows.OpenRow.{OpenRow}
use Rattle.serial_table.specs.declared.table.Table.{Table}
use Rattle.serial_table.specs.declared.change.Change.{Change}
use Rattle.serial_table.specs.declared.change.Change.TheVariants as c
use Rattle.serial_table.specs.View.{view, is_of_file, has_id}
use Rattle.serial_table.specs.Change.{perform, perform_all}
use Rattle.serial_table.specs.InSets.{IsInSets}
use Rattle.serial_table.specs.Sound.{IsSound}
use Rattle.serial_table.proofs.SameIds.{same_id-eq, same_id-refl}
use Rattle.serial_table.proofs.Members.{IsIn, all_by, in_filter, passes_in}
use Rattle.chain_map.specs.declared.db.Db.TheVariants as db
use Rattle.record_codec.specs.declared.open_rec.OpenRec.{OpenRec}
use Rattle.stored_table.specs.Keys.{open_key}
use Rattle.stored_table.specs.Places.{Place, place, among}
use Rattle.stored_table.specs.Decoded.{AllRecords}
use Rattle.stored_table.specs.Move.{AddedOpen, added_for}
use Rattle.stored_table.specs.Moved.{moved}
use Rattle.stored_table.specs.Stands.{AgreeWith, HasOpenRecords}
use Rattle.table_laws.proofs.Touching.{touches, IsAdded, open_before}
use Rattle.table_laws.proofs.AddedOpens.{IsNewNumber, open_added, old_open}
use Rattle.table_laws.proofs.Chains.{old_opens}

-- ---- opens that come

-- what an added open passes, it passes by itself
added_passes : (p : Change → Bool) (change : Change) (o : OpenRow) → IsAdded o change → p change ≡ true → p (c.AddOpen o) ≡ true
added_passes p (c.AddOpen row) o e h = ap (λ x. p (c.AddOpen x)) (sym e) ∙ h
added_passes p (c.DropOpen f id) o e h = absurd e
added_passes p (c.TakeOver f id owner handle) o e h = absurd e
added_passes p (c.AddLease lease) o e h = absurd e
added_passes p (c.SetLease f name held breaking) o e h = absurd e
added_passes p (c.Acknowledge f name state) o e h = absurd e
added_passes p (c.AddRange range) o e h = absurd e
added_passes p (c.DropRange range) o e h = absurd e
added_passes p (c.AddPending f) o e h = absurd e
added_passes p (c.DropPending f) o e h = absurd e
added_passes p (c.AddHold hold) o e h = absurd e
added_passes p (c.SetHold key owner mode) o e h = absurd e
added_passes p (c.DropHold key owner) o e h = absurd e
added_passes p (c.AddWaiter x) o e h = absurd e
added_passes p (c.DropWaiter sid call) o e h = absurd e
added_passes p (c.Send post) o e h = absurd e
added_passes p (c.TakeLetter to) o e h = absurd e
added_passes p (c.EndSession sid moment) o e h = absurd e
added_passes p (c.NextSession sid moment) o e h = absurd e
added_passes p c.Settle o e h = absurd e

-- Behind changes that pass, an open was there before, or it passes.
pub opens_from : (p : Change → Bool) (here : ℕ → Bool) (cs : List Change) (t : Table) (o : OpenRow) → list_all p cs ≡ true → list_all (touches here) cs ≡ true → IsIn o (perform_all cs t).opens
    → IsIn o t.opens ⊎ (p (c.AddOpen o) ≡ true)
opens_from p here [] t o e h i = inl i
opens_from p here (change ∷ cs) t o e h i =
    let a = and_parts (p change) (list_all p cs) e in
    let b = and_parts (touches here change) (list_all (touches here) cs) h in
    one a.0 b.0 (opens_from p here cs (perform change t) o a.1 b.1 i)
  where
    last : p change ≡ true → IsIn o t.opens ⊎ IsAdded o change → IsIn o t.opens ⊎ (p (c.AddOpen o) ≡ true)
    last e (inl k) = inl k
    last e (inr k) = inr (added_passes p change o k e)

    one : p change ≡ true → touches here change ≡ true → IsIn o (perform change t).opens ⊎ (p (c.AddOpen o) ≡ true) → IsIn o t.opens ⊎ (p (c.AddOpen o) ≡ true)
    one e h (inl k) = last e (open_before here change t o h k)
    one e h (inr k) = inr k

-- ---- the open of a call

-- it is of this call, and of this file
pub record IsOwnOpen (pid number file : ℕ) (o : OpenRow) : Type 0 where
  pub id : o.id ≡ record { pid = pid; call = number }
  pub owner : o.owner.pid ≡ pid
  pub handle : o.handle ≡ number
  pub file_is : o.file ≡ file

module _ (setup : Setup) (ps : List Place) (s : AllRecords) (t u : Table) (agree : AgreeWith setup s (view t)) (sound : IsSound t) (sets : IsInSets setup t)
    (pid number file : ℕ) (small_pid : IsU32 pid) (small_number : IsU32 number) (met : among (place db.Opens (open_key pid number)) ps ≡ true) (new : IsNewNumber pid number t)
    (from : (o : OpenRow) → IsIn o u.opens → IsIn o t.opens ⊎ IsOwnOpen pid number file o) where
  abbrev id : OpenId
  id = record { pid = pid; call = number }

  abbrev own_added : OpenRow → AddedOpen
  own_added first = record { key = open_key pid number; value = record { id = first.id; file = first.file } }

  module _ (first : OpenRow) (own : IsOwnOpen pid number file first) where
    abbrev after_it : AllRecords
    after_it = moved setup ps (Some (own_added first)) (view u) s

    one_open : (o : OpenRow) → IsIn o u.opens → IsIn o t.opens ⊎ IsOwnOpen pid number file o → HasOpenRecords after_it o
    one_open o i (inl j) = old_open setup ps s t u agree sound sets pid number small_pid small_number met new (own_added first).value o j i
    one_open o i (inr is) =
        let own_record : after_it.opens pid number ≡ Some (record { id = o.id; file = o.file }) =
        open_added setup ps s t u agree sound sets pid number small_pid small_number met new (own_added first).value ∙ (λ m. Some (let r : OpenRec = record { id = (own.id ∙ sym is.id) m; file = (own.file_is ∙ sym is.file_is) m } in r)) in
        record {
          by_id = (λ m. after_it.opens (is.id m).pid (is.id m).call) ∙ own_record;
          by_handle = (λ m. after_it.opens (is.owner m) (is.handle m)) ∙ own_record;
        }

    own_opens : (g : ℕ) → AllByRecursion (HasOpenRecords after_it) ((view u).opens_of g)
    own_opens g = all_by (HasOpenRecords after_it) ((view u).opens_of g) (λ o i. let k = in_filter (is_of_file g) u.opens o i in one_open o k.0 (from o k.0))

  -- where the first open of the id is added, if there is one
  by_opens : (os : List OpenRow) → (view u).opens_of_id id ≡ os → (g : ℕ) → AllByRecursion (HasOpenRecords (moved setup ps (added_for (open_key pid number) os) (view u) s)) ((view u).opens_of g)
  by_opens [] none g = old_opens setup ps s t u agree sound (λ o i. was o i (from o i)) g
    where
      was : (o : OpenRow) → IsIn o u.opens → IsIn o t.opens ⊎ IsOwnOpen pid number file o → IsIn o t.opens
      was o i (inl j) = j
      was o i (inr is) = absurd (subst (IsIn o) none (passes_in (has_id id) u.opens o i (ap (λ x. Rattle.sid_core.specs.Ids.same_id x id) is.id ∙ same_id-refl id)))
  by_opens (first ∷ others) some g = own_opens first (own (from first at.0)) g
    where
      at : IsIn first u.opens × (has_id id first ≡ true)
      at = in_filter (has_id id) u.opens first (subst (IsIn first) (sym some) (inl refl))

      own : IsIn first t.opens ⊎ IsOwnOpen pid number file first → IsOwnOpen pid number file first
      own (inl j) = let e = same_id-eq first.id id at.1 in absurd (new.ids first j (ap (λ (x : OpenId). x.pid) e) (ap (λ (x : OpenId). x.call) e))
      own (inr is) = is

  pub added_opens : (g : ℕ) → AllByRecursion (HasOpenRecords (moved setup ps (added_for (open_key pid number) ((view u).opens_of_id id)) (view u) s)) ((view u).opens_of g)
  added_opens g = by_opens ((view u).opens_of_id id) refl g
