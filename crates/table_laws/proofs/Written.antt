-- What an entry writes is the same in two databases that agree on its footprint, where the tables after it show the same at each place that
-- is written.
use Rattle.std.proofs.Common.{◌≡◌, ℕ, Bool, true, false, cond, List, Option, Some, None, refl, sym, ap, ◌∙◌, subst}
use Rattle.std.specs.List.{AllByRecursion}
use Rattle.std.specs.Option.{option_and_then}
use Rattle.sid_core.specs.declared.entry.Entry.{Entry}
use Rattle.sid_core.specs.declared.ids.LeaseName.{LeaseName}
use Rattle.sid_core.specs.declared.setup.FileInfo.{FileInfo}
use Rattle.sid_core.specs.declared.setup.Setup.{Setup}
use Rattle.serial_table.specs.ByNumber.{declared_at}
use Rattle.serial_table.specs.View.{View}
use Rattle.serial_table.proofs.Members.{IsIn, all_by, in_map}
use Rattle.chain_map.specs.declared.db.Db.{Db}
use Rattle.chain_map.specs.declared.db.Db.TheVariants as db
use Rattle.record_codec.specs.GLockRec.{glock_rec}
use Rattle.record_codec.specs.ShareRec.{share_rec}
use Rattle.record_codec.specs.LeaseRec.{lease_rec}
use Rattle.record_codec.specs.RegisterRec.{register_rec}
use Rattle.record_codec.specs.RangeRec.{range_rec}
use Rattle.record_codec.specs.MailRec.{mail_rec}
use Rattle.stored_table.specs.Keys.{is_key, file_key, lock_key, name_key, pid_key, file_in, lock_in, name_in, pid_in}
use Rattle.stored_table.specs.Places.{Chains, Place, HasChains, place, chain_at, value_at, write_all}
use Rattle.stored_table.specs.Exact.{always, share_version, spelled, share_of, ranges_of, exact_lock, exact_share, exact_lease, exact_register, exact_ranges, exact_mail, exact_at}
use Rattle.stored_table.specs.Footprint.{footprint}
use Rattle.stored_table.specs.Met.{KeyList, Met, places_in, all_met}
use Rattle.stored_table.specs.Move.{added, is_by_old, new_open_record, move, places_written}
use Rattle.stored_table.specs.Stands.{IsWellFormed}
use Rattle.stored_table.proofs.Bridging.{new_by}
use Rattle.stored_table.proofs.Locality.{local, same_new}
use Rattle.table_laws.specs.ByFootprint.{AgreeOnFootprint}
use Rattle.table_laws.proofs.Lists.{all_joined, all_mapped}
use Rattle.table_laws.proofs.KeysBack.{lock_back, name_back, pid_back, file_back}

-- the two tables show the same under each met key but those of open records
pub record AlikeAt (setup : Setup) (m : Met) (v w : View) : Type 0 where
  pub locks : (key : ℕ) → IsIn (lock_key key) m.locks → exact_lock v key ≡ exact_lock w key
  pub shares : (file : ℕ) → IsIn (file_key setup file) m.shares → exact_share setup v file ≡ exact_share setup w file
  pub leases : (name : LeaseName) → IsIn (name_key name) m.leases → exact_lease v name ≡ exact_lease w name
  pub register : (pid : ℕ) → IsIn (pid_key pid) m.register → exact_register v pid ≡ exact_register w pid
  pub ranges : (file : ℕ) → IsIn (file_key setup file) m.ranges → exact_ranges setup v file ≡ exact_ranges setup w file
  pub mail : (pid : ℕ) → IsIn (pid_key pid) m.mail → exact_mail v pid ≡ exact_mail w pid

pub places_all : (P : Place → Type 0) (d : Db) (keys : KeyList) → ((key : List ℕ) → IsIn key keys → P (place d key)) → AllByRecursion P (places_in d keys)
places_all P d keys h = all_by P (places_in d keys) (λ p i. let x = in_map (place d) keys p i in subst P x.2 (h x.0 x.1))

either : {X : Type 0} (b : Bool) (x y : Option X) → (b ≡ true → x ≡ y) → cond b x None ≡ cond b y None
either true x y h = h refl
either false x y h = refl

module _ (setup : Setup) (old : Bool) (m : Met) (v w : View) (h : AlikeAt setup m v w) (key : List ℕ) where
  pub at_lock : IsIn key m.locks → exact_at setup old v (place db.GLock key) ≡ exact_at setup old w (place db.GLock key)
  at_lock i = either (is_key db.GLock key) _ _ (λ e. ap (spelled glock_rec (always 1)) (h.locks (lock_in key) (subst (λ x. IsIn x m.locks) (sym (lock_back key e)) i)))

  pub at_share : IsIn key m.shares → exact_at setup old v (place db.Locking key) ≡ exact_at setup old w (place db.Locking key)
  at_share i = either (is_key db.Locking key) _ _ (λ e. ap (spelled share_rec (share_version old)) (by e (declared_at setup.files (file_in setup key)) refl))
    where
      by : is_key db.Locking key ≡ true → (o : Option FileInfo) → declared_at setup.files (file_in setup key) ≡ o → exact_share setup v (file_in setup key) ≡ exact_share setup w (file_in setup key)
      by e None none = ap (option_and_then (share_of v (file_in setup key))) none ∙ sym (ap (option_and_then (share_of w (file_in setup key))) none)
      by e (Some info) is = h.shares (file_in setup key) (subst (λ x. IsIn x m.shares) (sym (file_back setup key info e is)) i)

  pub at_lease : IsIn key m.leases → exact_at setup old v (place db.Leases key) ≡ exact_at setup old w (place db.Leases key)
  at_lease i = either (is_key db.Leases key) _ _ (λ e. ap (spelled lease_rec (always 2)) (h.leases (name_in key) (subst (λ x. IsIn x m.leases) (sym (name_back key e)) i)))

  pub at_register : IsIn key m.register → exact_at setup old v (place db.Register key) ≡ exact_at setup old w (place db.Register key)
  at_register i = either (is_key db.Register key) _ _ (λ e. ap (spelled register_rec (always 1)) (h.register (pid_in key) (subst (λ x. IsIn x m.register) (sym (pid_back key e)) i)))

  pub at_ranges : IsIn key m.ranges → exact_at setup old v (place db.Brlock key) ≡ exact_at setup old w (place db.Brlock key)
  at_ranges i = either (is_key db.Brlock key) _ _ (λ e. ap (spelled range_rec (always 1)) (by e (declared_at setup.files (file_in setup key)) refl))
    where
      by : is_key db.Locking key ≡ true → (o : Option FileInfo) → declared_at setup.files (file_in setup key) ≡ o → exact_ranges setup v (file_in setup key) ≡ exact_ranges setup w (file_in setup key)
      by e None none = ap (option_and_then (ranges_of v (file_in setup key))) none ∙ sym (ap (option_and_then (ranges_of w (file_in setup key))) none)
      by e (Some info) is = h.ranges (file_in setup key) (subst (λ x. IsIn x m.ranges) (sym (file_back setup key info e is)) i)

  pub at_mail : IsIn key m.mail → exact_at setup old v (place db.Mailbox key) ≡ exact_at setup old w (place db.Mailbox key)
  at_mail i = either (is_key db.Mailbox key) _ _ (λ e. ap (spelled mail_rec (always 1)) (h.mail (pid_in key) (subst (λ x. IsIn x m.mail) (sym (pid_back key e)) i)))

module _ (setup : Setup) (n : ℕ) (k j : Chains) (e : Entry) (v w : View) where
  -- the new values at all met places
  pub met_alike : (m : Met) → AlikeAt setup m v w
      → ((key : List ℕ) → IsIn key m.opens → new_open_record v (added setup v e) (place db.Opens key) (value_at n k (place db.Opens key)) ≡ new_open_record w (added setup w e) (place db.Opens key) (value_at n j (place db.Opens key)))
      → AllByRecursion (λ p. new_by setup n k e v p ≡ new_by setup n j e w p) (all_met m)
  met_alike m h opens =
      let P : Place → Type 0 = λ p. new_by setup n k e v p ≡ new_by setup n j e w p in
      let old = is_by_old setup e in
      all_joined P (places_in db.Opens m.opens) _ (places_all P db.Opens m.opens opens)
      (all_joined P (places_in db.GLock m.locks) _ (places_all P db.GLock m.locks (at_lock setup old m v w h))
      (all_joined P (places_in db.Locking m.shares) _ (places_all P db.Locking m.shares (at_share setup old m v w h))
      (all_joined P (places_in db.Leases m.leases) _ (places_all P db.Leases m.leases (at_lease setup old m v w h))
      (all_joined P (places_in db.Register m.register) _ (places_all P db.Register m.register (at_register setup old m v w h))
      (all_joined P (places_in db.Brlock m.ranges) _ (places_all P db.Brlock m.ranges (at_ranges setup old m v w h))
      (places_all P db.Mailbox m.mail (at_mail setup old m v w h)))))))

  pub written_alike : IsWellFormed n k → HasChains n j → AgreeOnFootprint setup n k j e → (ps : List Place) → places_written setup n k e ≡ ps → places_written setup n j e ≡ ps
      → AllByRecursion (λ p. new_by setup n k e v p ≡ new_by setup n j e w p) ps
      → AllByRecursion (λ c. chain_at (move setup n k e v) c ≡ chain_at (move setup n j e w) c) (footprint setup n k e)
  written_alike wf h agree ps is is_other all =
      all_mapped (λ c. chain_at k c ≡ chain_at j c) (λ c. chain_at (move setup n k e v) c ≡ chain_at (move setup n j e w) c)
      (λ c same.
      ap (λ qs. chain_at (write_all n (new_by setup n k e v) qs k) c) is
      ∙ ap (λ (x : Chains). chain_at x c) (same_new n (new_by setup n k e v) (new_by setup n j e w) ps k all)
      ∙ local n (new_by setup n j e w) ps k j c wf.chains h same
      ∙ sym (ap (λ qs. chain_at (write_all n (new_by setup n j e w) qs j) c) is_other)) (footprint setup n k e) agree
