-- The sets of values, as tests and as facts.
use Rattle.std.proofs.Common.{◌≡◌, ℕ, ◌^◌, ◌<◌, ◌≤◌, Bool, true, false, cond, ◌&&◌, ◌||◌, eqb, ltb, leb, List, [], ◌∷◌, length, refl, lit<, arith}
use Rattle.std.specs.Prelude.{◌↔◌, IsTrue, bit_and}
use Rattle.std.specs.List.{AllByRecursion, list_all}
use Rattle.std.proofs.lemmas.Bool.{eqb-true, eq-eqb, leb-true, le-leb, ltb-true, lt-ltb}
use Rattle.std.proofs.lemmas.Nat.{and_le_r}
use Rattle.sid_core.specs.declared.bits.Access.{Access}
use Rattle.sid_core.specs.declared.bits.Share.{Share}
use Rattle.sid_core.specs.declared.bits.LeaseState.{LeaseState}
use Rattle.sid_core.specs.Values.{IsText, IsPrintable, IsAccess, IsShare, IsState, IsMoment, is_state}
use Rattle.sid_core.specs.declared.ids.Sid.{Sid}
use Rattle.sid_core.specs.declared.ids.OpenId.{OpenId}
use Rattle.sid_core.specs.declared.call.Mode.{Mode}
use Rattle.sid_core.specs.declared.call.Mode.TheVariants.{Shared, Exclusive}
use Rattle.record_codec.specs.declared.watch.WatchRec.{WatchRec}
use Rattle.record_codec.specs.Codec.{Codec}
use Rattle.record_codec.specs.Fields.{text, is_printable, is_moment, u64_in, state, state_in, mode, truth, sid, IsSid, open_id, IsOpenId, watch, IsWatch, list, IsListOf}
use Rattle.record_codec.specs.ShareRec.{access, share_bits}
use Rattle.record_codec.proofs.Fields.{both}

pub and : (a b : Bool) → a ≡ true → b ≡ true → (a && b) ≡ true
and true b e f = f
and false b e f = e

test_of : (bytes : List ℕ) → AllByRecursion IsPrintable bytes → list_all is_printable bytes ≡ true
test_of [] h = refl
test_of (b ∷ bytes) h = and (is_printable b) (list_all is_printable bytes) (and (leb 0x21 b) (leb b 0x7E) (le-leb _ _ h.0.0) (le-leb _ _ h.0.1)) (test_of bytes h.1)

fact_of : (bytes : List ℕ) → list_all is_printable bytes ≡ true → AllByRecursion IsPrintable bytes
fact_of [] h = tt
fact_of (b ∷ bytes) h =
    let p = both (is_printable b) (list_all is_printable bytes) h in
    let q = both (leb 0x21 b) (leb b 0x7E) p.0 in
    ((leb-true _ _ q.0, leb-true _ _ q.1), fact_of bytes p.1)

text_fact : (field : ℕ) (bytes : List ℕ) → (text field).valid bytes → IsText bytes
text_fact field bytes v =
    let l = both (leb 1 (length bytes)) (leb (length bytes) 255) v.0.1 in
    record { some = leb-true _ _ l.0; short = leb-true _ _ l.1; printable = fact_of bytes v.1.1 }

text_test : (field : ℕ) (bytes : List ℕ) → IsText bytes → (text field).valid bytes
text_test field bytes t =
    let small : length bytes < 256 ^ 2 = omega (arith, t.short) in
    ((small, and (leb 1 (length bytes)) (leb (length bytes) 255) (le-leb _ _ t.some) (le-leb _ _ t.short)), (refl, test_of bytes t.printable))

pub texts : (field : ℕ) (bytes : List ℕ) → (text field).valid bytes ↔ IsText bytes
texts field bytes = (text_fact field bytes, text_test field bytes)

access_fact : (field : ℕ) (rights : Access) → (access field).valid rights → IsAccess rights.0
access_fact field rights v =
    let p = both (ltb 0 rights.0) (eqb (bit_and rights.0 0x1F01FF) rights.0) v.1 in
    record { some = ltb-true _ _ p.0; known = eqb-true _ _ p.1 }

access_test : (field : ℕ) (rights : Access) → IsAccess rights.0 → (access field).valid rights
access_test field rights a =
    let most : bit_and rights.0 0x1F01FF ≤ 0x1F01FF = and_le_r rights.0 0x1F01FF in
    let small : rights.0 < 256 ^ 4 = omega (arith, most, a.known) in
    (small, and (ltb 0 rights.0) (eqb (bit_and rights.0 0x1F01FF) rights.0) (lt-ltb _ _ a.some) (eq-eqb _ _ a.known))

pub rights : (field : ℕ) (rights : Access) → (access field).valid rights ↔ IsAccess rights.0
rights field r = (access_fact field r, access_test field r)

one_of : (k n : ℕ) (others : Bool) → k < 256 → (others ≡ true → n < 256) → (eqb k n || others) ≡ true → n < 256
one_of k n others small rest h = go (eqb k n) refl h where
  go : (b : Bool) → eqb k n ≡ b → (b || others) ≡ true → n < 256
  go true e g = omega (arith, eqb-true k n e, small)
  go false e g = rest g

pub small_state : (n : ℕ) → is_state n ≡ true → n < 256
small_state n =
    one_of 0 n (eqb 1 n || (eqb 3 n || (eqb 5 n || (eqb 7 n || false)))) (lit< tt) (
    one_of 1 n (eqb 3 n || (eqb 5 n || (eqb 7 n || false))) (lit< tt) (
    one_of 3 n (eqb 5 n || (eqb 7 n || false)) (lit< tt) (
    one_of 5 n (eqb 7 n || false) (lit< tt) (
    one_of 7 n false (lit< tt) (λ e. absurd cc)))))

pub states : (field : ℕ) (held : LeaseState) → (state field).valid held ↔ IsState held.0
states field held = (λ v. v.1, λ s. (small_state held.0 s, s))

share_fact : (field : ℕ) (share : Share) → (share_bits field).valid share → IsShare share.0
share_fact field share v =
    let p = both (leb 0 share.0) (leb share.0 7) v.1 in
    omega (arith, leb-true _ _ p.1)

share_test : (field : ℕ) (share : Share) → IsShare share.0 → (share_bits field).valid share
share_test field share s =
    let most : share.0 ≤ 7 = omega (arith, s) in
    let small : share.0 < 256 ^ 1 = omega (arith, s) in
    (small, and (leb 0 share.0) (leb share.0 7) (le-leb 0 share.0 (omega arith)) (le-leb _ _ most))

pub shares : (field : ℕ) (share : Share) → (share_bits field).valid share ↔ IsShare share.0
shares field share = (share_fact field share, share_test field share)

moment_test : (field moment : ℕ) → IsMoment moment → (u64_in field is_moment).valid moment
moment_test field moment m =
    let small : moment < 256 ^ 8 = omega (arith, m) in
    (small, le-leb _ _ m)

pub moments : (field moment : ℕ) → (u64_in field is_moment).valid moment ↔ IsMoment moment
moments field moment = (λ v. leb-true _ _ v.1, moment_test field moment)

-- ---- values of one byte, sessions, opens and watches

pub mode_valid : (field : ℕ) (m : Mode) → (mode field).valid m
mode_valid field Shared = (lit< tt, refl)
mode_valid field Exclusive = (lit< tt, refl)

pub truth_valid : (field : ℕ) (b : Bool) → (truth field).valid b
truth_valid field true = (lit< tt, refl)
truth_valid field false = (lit< tt, refl)

pub sid_set : (pid session : ℕ) (s : Sid) → IsSid s ↔ (sid pid session).valid s
sid_set pid session s = (λ i. ((i.pid, refl), (i.session, refl)), λ v. record { pid = v.0.0; session = v.1.0 })

pub open_id_set : (pid call : ℕ) (id : OpenId) → IsOpenId id ↔ (open_id pid call).valid id
open_id_set pid call id = (λ i. ((i.pid, refl), (i.call, refl)), λ v. record { pid = v.0.0; call = v.1.0 })

pub watch_set : (pid session call : ℕ) (w : WatchRec) → IsWatch w ↔ (watch pid session call).valid w
watch_set pid session call w = (
  λ i. ((sid_set pid session w.sid).0 i.sid, ((i.call, refl), i.no_upgrade)),
  λ v. record { sid = (sid_set pid session w.sid).1 v.0; call = v.1.0.0; no_upgrade = v.1.1 },
)

-- ---- states under a break

pub state_in_set : (field : ℕ) (set : ℕ → Bool) (s : LeaseState) → IsState s.0 × IsTrue (set s.0) ↔ (state_in field set).valid s
state_in_set field set s = (λ p. (small_state s.0 p.0, and (is_state s.0) (set s.0) p.0 p.1), λ v. both (is_state s.0) (set s.0) v.1)

-- a number that is 0 without a break and passes a test under one
pub by_break : (breaking : Bool) (n : ℕ) (test : Bool) → (breaking ≡ false → n ≡ 0) × (breaking ≡ true → IsTrue test) ↔ IsTrue (cond breaking test (eqb n 0))
by_break true n test = (λ p. p.1 refl, λ h. (λ e. absurd cc, λ e. h))
by_break false n test = (λ p. eq-eqb n 0 (p.0 refl), λ h. (λ e. eqb-true n 0 h, λ e. absurd cc))

-- ---- lists

pub each_to : {A : Type 0} (P Q : A → Type 0) → ((x : A) → P x → Q x) → (xs : List A) → AllByRecursion P xs → AllByRecursion Q xs
each_to P Q f [] h = tt
each_to P Q f (x ∷ xs) h = (f x h.0, each_to P Q f xs h.1)

pub list_set : {A : Type 0} (field : ℕ) (item : Codec A) (Is : A → Type 0) → ((x : A) → Is x ↔ item.valid x) → (xs : List A) → IsListOf Is xs ↔ (list field item).valid xs
list_set field item Is same xs = (
  λ l. ((l.few, refl), (refl, each_to Is item.valid (λ x. (same x).0) xs l.each)),
  λ v. record { few = v.0.0; each = each_to item.valid Is (λ x. (same x).1) xs v.1.1 },
)
