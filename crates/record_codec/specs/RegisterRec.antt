-- The record of a worker.
use Rattle.std.specs.Prelude.{◌≡◌, ℕ, Bool, true, false, ◌-◌, ◌≤◌, ◌==◌, if◌then◌else◌, length, codes}
use Rattle.std.specs.List.{AllByRecursion}
use Rattle.sid_core.specs.Values.{IsU32, IsMoment}
use Rattle.record_codec.specs.declared.register_rec.RegisterRec.{RegisterRec}
use Rattle.record_codec.specs.Codec.{Codec, ◌⨾◌, via}
use Rattle.record_codec.specs.Fields.{within, is_moment, u32_in, u64_in, truth, list_in, list, IsListOf, watch, IsWatch}
use Rattle.record_codec.specs.Stored.{stored}

-- All sessions have ended, but for the last one of a worker that lives.
abbrev pub ended_count : Bool → ℕ → ℕ → Bool
ended_count alive session count = count == (if alive then session - 1 else session)

abbrev pub ended : ℕ → Codec ℕ
ended field = u64_in field is_moment

pub record IsRegisterRec (r : RegisterRec) : Type 0 where
  pub first_worker : 1 ≤ r.worker
  pub last_worker : r.worker ≤ 64
  pub first_session : 1 ≤ r.session
  pub session : IsU32 r.session
  pub connected : IsMoment r.connected
  pub ended : AllByRecursion IsMoment r.ended
  pub ended_of_living : r.alive ≡ true → length r.ended ≡ r.session - 1
  pub ended_of_dead : r.alive ≡ false → length r.ended ≡ r.session
  pub watchers : IsListOf IsWatch r.watchers

unfoldable pub register_fields : Codec RegisterRec
register_fields = via
    (λ p. record { worker = p.0; alive = p.1.0; session = p.1.1.0; connected = p.1.1.1.0; ended = p.1.1.1.1.0; watchers = p.1.1.1.1.1 })
    (λ r. (r.worker, (r.alive, (r.session, (r.connected, (r.ended, r.watchers)))))) (
    u32_in 3 (within 1 64) ⨾ λ worker.
    truth 4 ⨾ λ alive.
    u32_in 5 (within 1 0xFFFFFFFF) ⨾ λ session.
    u64_in 6 is_moment ⨾ λ connected.
    list_in 7 (ended_count alive session) (ended 8) ⨾ λ ended.
    list 9 (watch 10 11 12))

abbrev pub register_rec : Codec (ℕ × RegisterRec)
register_rec = stored (codes "REGI") 1 1 (λ version. register_fields)
