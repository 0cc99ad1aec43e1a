-- A lease whose record was lent, in the map of all.
use Rattle.std.proofs.Common.{◌≡◌, ◌&&◌, ℕ, Bool, true, false, cond, Option, Some, None, refl, ap, sym, subst, ◌∙◌}
use Rattle.std.specs.Option.{option_map}
use Rattle.std.specs.Prelude.{OnSome}
use Rattle.std.specs.Ordering.{nat_cmp}
use Rattle.std.specs.FinMap.{FinMap, get, insert}
use Rattle.sid_core.specs.declared.ids.LeaseName.{LeaseName}
use Rattle.sid_core.specs.Ids.{same_name}
use Rattle.serial_table.specs.View.{carries}
use Rattle.serial_table.proofs.SameIds.{same_name-eq, same_name-flip}
use Rattle.record_codec.specs.declared.share_rec.ShareEntry.{ShareEntry}
use Rattle.record_codec.specs.declared.lease_rec.LeaseRec.{LeaseRec}
use Rattle.record_codec.specs.declared.register_rec.RegisterRec.{RegisterRec}
use Rattle.leases_db.specs.Names.{name_cmp}
use Rattle.leases_db.specs.Refs.{without}
use Rattle.leases_db.proofs.Maps.{get_inserted}
use Rattle.durable_open.specs.Keeping.{is_kept_by}
use Rattle.durable_open.specs.Sweep.{once_dropped}

pub on_some_at : {A : Type 0} (r : Option A) (x : A) (P : Type 0) → r ≡ Some x → OnSome r P → P
on_some_at r x P e h = subst (λ o. OnSome o P) e h

module _ (register : FinMap nat_cmp RegisterRec) (file : ℕ) (e : ShareEntry) where
  not_its_name : (n : LeaseName) (o : Option LeaseRec) → carries n e.lease ≡ false → o ≡ option_map (once_dropped register file e n) o
  not_its_name n None h = refl
  not_its_name n (Some rec) h = ap Some (sym (ap (λ b. cond (b && is_kept_by register rec file e) (without e.id rec) rec) h))

  carried : (name n : LeaseName) → e.lease ≡ Some name → carries n e.lease ≡ same_name n name
  carried name n is = ap (carries n) is ∙ same_name-flip name n

  at_name : (old new : FinMap name_cmp LeaseRec) (name : LeaseName) (w v : LeaseRec) → e.lease ≡ Some name → get old name ≡ Some v → w ≡ cond (is_kept_by register v file e) (without e.id v) v → new ≡ insert old name w
      → (n : LeaseName) (b : Bool) → same_name n name ≡ b → get new n ≡ option_map (once_dropped register file e n) (get old n)
  at_name old new name w v is has becomes ins n true same =
      let at : n ≡ name = same_name-eq n name same in
      ap (λ m. get m n) ins ∙ get_inserted old name w n ∙ ap (λ b. cond b (Some w) (get old n)) same ∙ ap Some becomes
      ∙ ap (λ b. Some (cond (b && is_kept_by register v file e) (without e.id v) v)) (sym (carried name n is ∙ same))
      ∙ ap (option_map (once_dropped register file e n)) (sym (ap (get old) at ∙ has))
  at_name old new name w v is has becomes ins n false same =
      ap (λ m. get m n) ins ∙ get_inserted old name w n ∙ ap (λ b. cond b (Some w) (get old n)) same
      ∙ not_its_name n (get old n) (carried name n is ∙ same)

  -- The lease of the entry is left as it was dropped from, and every other as it was.
  pub dropped_under : (old new : FinMap name_cmp LeaseRec) (name : LeaseName) (w v : LeaseRec) → e.lease ≡ Some name → get old name ≡ Some v → w ≡ cond (is_kept_by register v file e) (without e.id v) v → new ≡ insert old name w
      → (n : LeaseName) → get new n ≡ option_map (once_dropped register file e n) (get old n)
  dropped_under old new name w v is has becomes ins = λ n. at_name old new name w v is has becomes ins n (same_name n name) refl
