-- The record of a worker is exact, and its sets are the named ones.
use Rattle.std.proofs.Common.{◌≡◌, ℕ, ◌+◌, ◌*◌, ◌-◌, ◌^◌, ◌<◌, ◌≤◌, Bool, true, false, leb, length, refl, lit<, arith}
use Rattle.std.specs.Prelude.{◌↔◌, IsTrue, codes}
use Rattle.std.specs.List.{flat_map}
use Rattle.std.proofs.lemmas.Bool.{eqb-true, eq-eqb, leb-true, le-leb}
use Rattle.std.proofs.lemmas.List.{length-append}
use Rattle.sid_core.specs.Values.{IsMoment}
use Rattle.record_codec.specs.declared.register_rec.RegisterRec.{RegisterRec}
use Rattle.record_codec.specs.Fields.{within, is_moment, list, watch, IsWatch}
use Rattle.record_codec.specs.RegisterRec.{ended_count, ended, register_fields, register_rec, IsRegisterRec}
use Rattle.record_codec.proofs.Exact.{IsExact, seq_exact, via_exact}
use Rattle.record_codec.proofs.Fields.{both, u32_in_exact, u64_in_exact, truth_exact, list_in_exact, list_exact, watch_exact}
use Rattle.record_codec.proofs.Sets.{and, moments, truth_valid, watch_set, each_to, list_set}
use Rattle.record_codec.proofs.Sizes.{items_size}
use Rattle.record_codec.proofs.Stored.{stored_exact, stored_set}

pub ended_size : (n : ℕ) → length ((ended 8).spell n) ≡ 8
ended_size n = refl

pub ended_set : (n : ℕ) → IsMoment n ↔ (ended 8).valid n
ended_set n = ((moments 8 n).1, (moments 8 n).0)

register_fields_exact : IsExact register_fields
unfolding register_fields
register_fields_exact = via_exact _ _ _ (λ y. refl) (λ x v. refl)
    (seq_exact _ _ (u32_in_exact 3 (within 1 64)) (λ worker.
    seq_exact _ _ (truth_exact 4) (λ alive.
    seq_exact _ _ (u32_in_exact 5 (within 1 0xFFFFFFFF)) (λ session.
    seq_exact _ _ (u64_in_exact 6 is_moment) (λ connected.
    seq_exact _ _ (list_in_exact 7 (ended_count alive session) (ended 8) (u64_in_exact 8 is_moment)) (λ _.
    list_exact 9 _ (watch_exact 10 11 12)))))))

pub register_exact : IsExact register_rec
register_exact = stored_exact (codes "REGI") 1 1 (λ _. register_fields) (λ _. register_fields_exact)

in_test : (low high n : ℕ) → low ≤ n → n ≤ high → IsTrue (within low high n)
in_test low high n a b = and (leb low n) (leb n high) (le-leb _ _ a) (le-leb _ _ b)

in_fact : (low high n : ℕ) → IsTrue (within low high n) → (low ≤ n) × (n ≤ high)
in_fact low high n h = let p = both (leb low n) (leb n high) h in (leb-true _ _ p.0, leb-true _ _ p.1)

count_set : (alive : Bool) (session count : ℕ) → (alive ≡ true → count ≡ session - 1) × (alive ≡ false → count ≡ session) ↔ IsTrue (ended_count alive session count)
count_set true session count = (λ p. eq-eqb _ _ (p.0 refl), λ h. (λ e. eqb-true _ _ h, λ e. absurd cc))
count_set false session count = (λ p. eq-eqb _ _ (p.1 refl), λ h. (λ e. absurd cc, λ e. eqb-true _ _ h))

-- No more sessions have ended than there were.
small_count : (alive : Bool) (session count : ℕ) → session < 2 ^ 32 → IsTrue (ended_count alive session count) → count < 256 ^ 4
small_count true session count s h = let e : count ≡ session - 1 = eqb-true _ _ h in omega arith
small_count false session count s h = let e : count ≡ session = eqb-true _ _ h in omega arith

pub register_fields_set : (r : RegisterRec) → IsRegisterRec r ↔ register_fields.valid r
unfolding register_fields
register_fields_set r =
    let count = count_set r.alive r.session (length r.ended) in
    let watchers = list_set 9 (watch 10 11 12) IsWatch (watch_set 10 11 12) r.watchers in (
      λ i.
          let w : r.worker < 256 ^ 4 = omega (arith, i.last_worker) in
          let s : r.session ≤ 0xFFFFFFFF = omega (arith, i.session) in
          let n = count.0 (i.ended_of_living, i.ended_of_dead) in (
            (w, in_test 1 64 r.worker i.first_worker i.last_worker),
            (
              truth_valid 4 r.alive,
              (
                (i.session, in_test 1 0xFFFFFFFF r.session i.first_session s),
                (
                  (moments 6 r.connected).1 i.connected,
                  (
                    ((small_count r.alive r.session (length r.ended) i.session n, n), (refl, each_to IsMoment (ended 8).valid (λ m. (ended_set m).0) r.ended i.ended)),
                    watchers.0 i.watchers,
                  ),
                ),
              ),
            ),
          ),
      λ v.
          let w = in_fact 1 64 r.worker v.0.1 in
          let n = count.1 v.1.1.1.1.0.0.1 in
          record {
            first_worker = w.0;
            last_worker = w.1;
            first_session = (in_fact 1 0xFFFFFFFF r.session v.1.1.0.1).0;
            session = v.1.1.0.0;
            connected = (moments 6 r.connected).0 v.1.1.1.0;
            ended = each_to (ended 8).valid IsMoment (λ m. (ended_set m).1) r.ended v.1.1.1.1.0.1.1;
            ended_of_living = n.0;
            ended_of_dead = n.1;
            watchers = watchers.1 v.1.1.1.1.1;
          },
    )

pub register_set : (r : RegisterRec) → IsRegisterRec r ↔ register_rec.valid (1, r)
register_set r = stored_set (codes "REGI") 1 1 1 (λ _. register_fields) IsRegisterRec (lit< tt) (lit< tt) refl register_fields_set r

pub register_size : (r : RegisterRec) → length (register_fields.spell r) ≡ 25 + 8 * length r.ended + 12 * length r.watchers
unfolding register_fields
register_size r =
    let a = items_size (ended 8).spell 8 ended_size r.ended in
    let b = items_size (watch 0 0 0).spell 12 (λ w. refl) r.watchers in
    omega (arith, length-append (flat_map (ended 8).spell r.ended) ((list 9 (watch 0 0 0)).spell r.watchers), a, b)
