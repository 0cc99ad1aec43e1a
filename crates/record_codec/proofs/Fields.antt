-- The fields that records are made of are exact.
use Rattle.std.proofs.Common.{◌≡◌, ℕ, zero, suc, ◌<◌, Bool, true, false, ◌&&◌, length, refl, arith}
use Rattle.std.specs.Prelude.{IsTrue, nat_lt}
use Rattle.std.specs.List.{list_all}
use Rattle.std.proofs.lemmas.Bool.{ltb-true}
use Rattle.sid_core.specs.declared.call.Mode.{Mode}
use Rattle.sid_core.specs.declared.call.Mode.TheVariants.{Shared, Exclusive}
use Rattle.sid_core.specs.Values.{is_state}
use Rattle.record_codec.specs.declared.fault.Unpack.TheVariants.{BadField}
use Rattle.record_codec.specs.Codec.{Codec, number, run, ◌⨾◌, left_out, times}
use Rattle.record_codec.specs.Fields.{any, state_in, state, watch, u8_in, u32_in, u64_in, u32, u64, truth, truth_in, truth_of, truth_byte, mode, mode_of, mode_byte, sid, open_id, list_in, list, text, is_text_length, is_printable}
use Rattle.record_codec.proofs.Exact.{IsExact, number_exact, run_exact, seq_exact, left_out_exact, via_exact, times_exact}

pub both : (a b : Bool) → IsTrue (a && b) → IsTrue a × IsTrue b
both true b h = (refl, h)
both false b h = absurd cc

pub u8_in_exact : (field : ℕ) (set : ℕ → Bool) → IsExact (u8_in field set)
u8_in_exact field set = number_exact 1 set (BadField field)

pub u32_in_exact : (field : ℕ) (set : ℕ → Bool) → IsExact (u32_in field set)
u32_in_exact field set = number_exact 4 set (BadField field)

pub u64_in_exact : (field : ℕ) (set : ℕ → Bool) → IsExact (u64_in field set)
u64_in_exact field set = number_exact 8 set (BadField field)

pub u32_exact : (field : ℕ) → IsExact (u32 field)
u32_exact field = u32_in_exact field any

pub u64_exact : (field : ℕ) → IsExact (u64 field)
u64_exact field = u64_in_exact field any

-- ---- values of one byte

truth_made : (b : Bool) → truth_of (truth_byte b) ≡ b
truth_made false = refl
truth_made true = refl

truth_taken : (n : ℕ) → n < 2 → truth_byte (truth_of n) ≡ n
truth_taken zero lt = refl
truth_taken (suc zero) lt = refl
truth_taken (suc (suc n)) lt = absurd (omega arith)

pub truth_exact : (field : ℕ) → IsExact (truth field)
truth_exact field =
    via_exact truth_of truth_byte (u8_in field (λ n. nat_lt n 2)) truth_made (λ n v. truth_taken n (ltb-true _ _ v.1)) (u8_in_exact field (λ n. nat_lt n 2))

pub truth_in_exact : (field : ℕ) (set : ℕ → Bool) → IsExact (truth_in field set)
truth_in_exact field set =
    via_exact truth_of truth_byte (u8_in field (λ n. nat_lt n 2 && set n)) truth_made (λ n v. truth_taken n (ltb-true _ _ (both _ _ v.1).0)) (u8_in_exact field (λ n. nat_lt n 2 && set n))

mode_made : (m : Mode) → mode_of (mode_byte m) ≡ m
mode_made Shared = refl
mode_made Exclusive = refl

mode_taken : (n : ℕ) → n < 2 → mode_byte (mode_of n) ≡ n
mode_taken zero lt = refl
mode_taken (suc zero) lt = refl
mode_taken (suc (suc n)) lt = absurd (omega arith)

pub mode_exact : (field : ℕ) → IsExact (mode field)
mode_exact field =
    via_exact mode_of mode_byte (u8_in field (λ n. nat_lt n 2)) mode_made (λ n v. mode_taken n (ltb-true _ _ v.1)) (u8_in_exact field (λ n. nat_lt n 2))

-- ---- states

pub state_in_exact : (field : ℕ) (set : ℕ → Bool) → IsExact (state_in field set)
state_in_exact field set =
    via_exact (λ n. record { 0 = n }) (λ s. s.0) (u8_in field (λ n. is_state n && set n)) (λ y. refl) (λ p v. refl) (u8_in_exact field (λ n. is_state n && set n))

pub state_exact : (field : ℕ) → IsExact (state field)
state_exact field =
    via_exact (λ n. record { 0 = n }) (λ s. s.0) (u8_in field is_state) (λ y. refl) (λ p v. refl) (u8_in_exact field is_state)

-- ---- sessions and opens

pub sid_exact : (pid session : ℕ) → IsExact (sid pid session)
sid_exact pid session =
    via_exact (λ p. record { pid = p.0; session = p.1 }) (λ s. (s.pid, s.session)) (u32 pid ⨾ λ _. u32 session) (λ y. refl) (λ p v. refl)
    (seq_exact (u32 pid) (λ _. u32 session) (u32_exact pid) (λ _. u32_exact session))

pub open_id_exact : (pid call : ℕ) → IsExact (open_id pid call)
open_id_exact pid call =
    via_exact (λ p. record { pid = p.0; call = p.1 }) (λ s. (s.pid, s.call)) (u32 pid ⨾ λ _. u32 call) (λ y. refl) (λ p v. refl)
    (seq_exact (u32 pid) (λ _. u32 call) (u32_exact pid) (λ _. u32_exact call))

pub watch_exact : (pid session call : ℕ) → IsExact (watch pid session call)
watch_exact pid session call =
    via_exact (λ p. record { sid = p.0; call = p.1.0; upgrade = p.1.1 }) (λ w. (w.sid, (w.call, w.upgrade))) (sid pid session ⨾ λ _. u32 call ⨾ λ _. left_out false)
    (λ y. refl) (λ p v. refl)
    (seq_exact (sid pid session) (λ _. u32 call ⨾ λ _. left_out false) (sid_exact pid session)
    (λ _. seq_exact (u32 call) (λ _. left_out false) (u32_exact call) (λ _. left_out_exact false)))

-- ---- lists and texts

pub list_in_exact : {A : Type 0} (field : ℕ) (set : ℕ → Bool) (item : Codec A) → IsExact item → IsExact (list_in field set item)
list_in_exact field set item exact =
    via_exact (λ p. p.1) (λ xs. (length xs, xs)) (u32_in field set ⨾ λ count. times item count)
    (λ y. refl)
    (λ p v. rw v.1.0 refl)
    (seq_exact (u32_in field set) (λ count. times item count) (u32_in_exact field set) (λ count. times_exact item exact count))

pub list_exact : {A : Type 0} (field : ℕ) (item : Codec A) → IsExact item → IsExact (list field item)
list_exact field item exact = list_in_exact field any item exact

pub text_exact : (field : ℕ) → IsExact (text field)
text_exact field =
    via_exact (λ p. p.1) (λ bytes. (length bytes, bytes)) (number 2 is_text_length (BadField field) ⨾ λ len. run len (list_all is_printable) (BadField field))
    (λ y. refl)
    (λ p v. rw v.1.0 refl)
    (seq_exact (number 2 is_text_length (BadField field)) (λ len. run len (list_all is_printable) (BadField field)) (number_exact 2 is_text_length (BadField field)) (λ len. run_exact len (list_all is_printable) (BadField field)))
