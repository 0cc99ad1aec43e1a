-- The record of a global lock is exact, and its sets are the named ones.
use Rattle.std.proofs.Common.{◌≡◌, ◌+◌, ◌*◌, ◌++◌, length, refl, lit<, arith}
use Rattle.std.specs.Prelude.{◌↔◌, codes}
use Rattle.std.specs.List.{flat_map}
use Rattle.std.proofs.lemmas.List.{length-append}
use Rattle.byteorder.specs.Endian.{little_bytes}
use Rattle.record_codec.specs.declared.watch.WatchRec.{WatchRec}
use Rattle.record_codec.specs.declared.glock_rec.Hold.{Hold}
use Rattle.record_codec.specs.declared.glock_rec.GLockRec.{GLockRec}
use Rattle.record_codec.specs.GLockRec.{hold, IsHold, upgrade_watch, IsUpgradeWatch, glock_fields, glock_rec, IsGLockRec}
use Rattle.record_codec.proofs.Exact.{IsExact, seq_exact, via_exact}
use Rattle.record_codec.proofs.Fields.{u32_exact, sid_exact, mode_exact, truth_exact, list_exact}
use Rattle.record_codec.proofs.Sets.{sid_set, mode_valid, truth_valid, list_set}
use Rattle.record_codec.proofs.Sizes.{items_size}
use Rattle.record_codec.proofs.Stored.{stored_exact, stored_set}

pub hold_exact : IsExact hold
unfolding hold
hold_exact = via_exact _ _ _ (λ y. refl) (λ x v. refl)
    (seq_exact _ _ (sid_exact 4 5) (λ _. mode_exact 6))

pub hold_set : (h : Hold) → IsHold h ↔ hold.valid h
unfolding hold
hold_set h = (λ i. ((sid_set 4 5 h.sid).0 i.sid, mode_valid 6 h.mode), λ v. record { sid = (sid_set 4 5 h.sid).1 v.0 })

pub hold_size : (h : Hold) → length (hold.spell h) ≡ 9
unfolding hold
hold_size h = refl

pub upgrade_watch_exact : IsExact upgrade_watch
unfolding upgrade_watch
upgrade_watch_exact = via_exact _ _ _ (λ y. refl) (λ x v. refl)
    (seq_exact _ _ (sid_exact 8 9) (λ _. seq_exact _ _ (u32_exact 10) (λ _. truth_exact 11)))

pub upgrade_watch_set : (w : WatchRec) → IsUpgradeWatch w ↔ upgrade_watch.valid w
unfolding upgrade_watch
upgrade_watch_set w = (
  λ i. ((sid_set 8 9 w.sid).0 i.sid, ((i.call, refl), truth_valid 11 w.upgrade)),
  λ v. record { sid = (sid_set 8 9 w.sid).1 v.0; call = v.1.0.0 },
)

pub upgrade_watch_size : (w : WatchRec) → length (upgrade_watch.spell w) ≡ 13
unfolding upgrade_watch
upgrade_watch_size w = refl

glock_fields_exact : IsExact glock_fields
unfolding glock_fields
glock_fields_exact = via_exact _ _ _ (λ y. refl) (λ x v. refl)
    (seq_exact _ _ (list_exact 3 hold hold_exact) (λ _. list_exact 7 upgrade_watch upgrade_watch_exact))

pub glock_exact : IsExact glock_rec
glock_exact = stored_exact (codes "GLCK") 1 1 (λ _. glock_fields) (λ _. glock_fields_exact)

pub glock_fields_set : (r : GLockRec) → IsGLockRec r ↔ glock_fields.valid r
unfolding glock_fields
glock_fields_set r =
    let holds = list_set 3 hold IsHold hold_set r.holds in
    let watchers = list_set 7 upgrade_watch IsUpgradeWatch upgrade_watch_set r.watchers in
    (λ i. (holds.0 i.holds, watchers.0 i.watchers), λ v. record { holds = holds.1 v.0; watchers = watchers.1 v.1 })

pub glock_set : (r : GLockRec) → IsGLockRec r ↔ glock_rec.valid (1, r)
glock_set r = stored_set (codes "GLCK") 1 1 1 (λ _. glock_fields) IsGLockRec (lit< tt) (lit< tt) refl glock_fields_set r

pub glock_size : (r : GLockRec) → length (glock_fields.spell r) ≡ 8 + 9 * length r.holds + 13 * length r.watchers
unfolding glock_fields
glock_size r =
    let a = items_size hold.spell 9 hold_size r.holds in
    let b = items_size upgrade_watch.spell 13 upgrade_watch_size r.watchers in
    omega (arith, length-append (flat_map hold.spell r.holds) (little_bytes 4 (length r.watchers) ++ flat_map upgrade_watch.spell r.watchers), a, b)
