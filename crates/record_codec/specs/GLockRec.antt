-- The record of a global lock.
use Rattle.std.specs.Prelude.{ℕ, codes}
use Rattle.sid_core.specs.Values.{IsU32}
use Rattle.record_codec.specs.declared.watch.WatchRec.{WatchRec}
use Rattle.record_codec.specs.declared.glock_rec.Hold.{Hold}
use Rattle.record_codec.specs.declared.glock_rec.GLockRec.{GLockRec}
use Rattle.record_codec.specs.Codec.{Codec, ◌⨾◌, via}
use Rattle.record_codec.specs.Fields.{u32, sid, IsSid, mode, truth, list, IsListOf}
use Rattle.record_codec.specs.Stored.{stored}

-- one holder
pub record IsHold (h : Hold) : Type 0 where
  pub sid : IsSid h.sid

unfoldable pub hold : Codec Hold
hold = via (λ p. record { sid = p.0; mode = p.1 }) (λ h. (h.sid, h.mode)) (
    sid 4 5 ⨾ λ _.
    mode 6)

-- one waiting call; the flag says that it holds the lock already
pub record IsUpgradeWatch (w : WatchRec) : Type 0 where
  pub sid : IsSid w.sid
  pub call : IsU32 w.call

unfoldable pub upgrade_watch : Codec WatchRec
upgrade_watch = via (λ p. record { sid = p.0; call = p.1.0; upgrade = p.1.1 }) (λ w. (w.sid, (w.call, w.upgrade))) (
    sid 8 9 ⨾ λ _.
    u32 10 ⨾ λ _.
    truth 11)

pub record IsGLockRec (r : GLockRec) : Type 0 where
  pub holds : IsListOf IsHold r.holds
  pub watchers : IsListOf IsUpgradeWatch r.watchers

unfoldable pub glock_fields : Codec GLockRec
glock_fields = via (λ p. record { holds = p.0; watchers = p.1 }) (λ r. (r.holds, r.watchers)) (
    list 3 hold ⨾ λ holds.
    list 7 upgrade_watch)

abbrev pub glock_rec : Codec (ℕ × GLockRec)
glock_rec = stored (codes "GLCK") 1 1 (λ version. glock_fields)
