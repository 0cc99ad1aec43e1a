-- The fields that records are made of.
use Rattle.std.specs.Prelude.{◌≡◌, ℕ, zero, suc, nat_lt, nat_le, Bool, true, false, not, ◌==◌, ◌&&◌, ◌||◌, if◌then◌else◌, List, length}
use Rattle.std.specs.List.{list_all, AllByRecursion}
use Rattle.sid_core.specs.declared.ids.Sid.{Sid}
use Rattle.sid_core.specs.declared.ids.OpenId.{OpenId}
use Rattle.sid_core.specs.declared.call.Mode.{Mode}
use Rattle.sid_core.specs.declared.call.Mode.TheVariants.{Shared, Exclusive}
use Rattle.sid_core.specs.declared.bits.LeaseState.{LeaseState}
use Rattle.sid_core.specs.Values.{IsU32, is_part_of, is_state}
use Rattle.record_codec.specs.declared.watch.WatchRec.{WatchRec}
use Rattle.record_codec.specs.declared.fault.Unpack.TheVariants.{BadField}
use Rattle.record_codec.specs.Codec.{Codec, number, run, ◌⨾◌, left_out, via, times}

-- every number
abbrev pub any : ℕ → Bool
any n = true

-- that number alone
abbrev pub only : ℕ → ℕ → Bool
only n m = m == n

-- ---- numbers of the field with this place in its table

abbrev pub u8_in : ℕ → (ℕ → Bool) → Codec ℕ
u8_in field set = number 1 set (BadField field)

abbrev pub u32_in : ℕ → (ℕ → Bool) → Codec ℕ
u32_in field set = number 4 set (BadField field)

abbrev pub u64_in : ℕ → (ℕ → Bool) → Codec ℕ
u64_in field set = number 8 set (BadField field)

abbrev pub u32 : ℕ → Codec ℕ
u32 field = u32_in field any

abbrev pub u64 : ℕ → Codec ℕ
u64 field = u64_in field any

-- ---- sets

abbrev pub within : ℕ → ℕ → ℕ → Bool
within low high n = nat_le low n && nat_le n high

abbrev pub is_moment : ℕ → Bool
is_moment n = nat_le n 9999999999

-- 0 alone, unless the condition holds
abbrev pub zero_unless : Bool → ℕ → Bool
zero_unless condition n = condition || (n == 0)

abbrev pub is_proper_part_of : ℕ → ℕ → Bool
is_proper_part_of part whole = is_part_of part whole && not (part == whole)

-- ---- values of one byte

abbrev pub truth_of : ℕ → Bool
truth_of zero = false
truth_of (suc n) = true

abbrev pub truth_byte : Bool → ℕ
truth_byte false = 0
truth_byte true = 1

-- 0 is false and 1 is true
abbrev pub truth : ℕ → Codec Bool
truth field = via truth_of truth_byte (u8_in field (λ n. nat_lt n 2))

abbrev pub truth_in : ℕ → (ℕ → Bool) → Codec Bool
truth_in field set = via truth_of truth_byte (u8_in field (λ n. nat_lt n 2 && set n))

abbrev pub mode_of : ℕ → Mode
mode_of zero = Shared
mode_of (suc n) = Exclusive

abbrev pub mode_byte : Mode → ℕ
mode_byte Shared = 0
mode_byte Exclusive = 1

-- 0 is shared and 1 is exclusive
abbrev pub mode : ℕ → Codec Mode
mode field = via mode_of mode_byte (u8_in field (λ n. nat_lt n 2))

-- ---- states

abbrev pub state_in : ℕ → (ℕ → Bool) → Codec LeaseState
state_in field set = via (λ n. record { 0 = n }) (λ s. s.0) (u8_in field (λ n. is_state n && set n))

abbrev pub state : ℕ → Codec LeaseState
state field = via (λ n. record { 0 = n }) (λ s. s.0) (u8_in field is_state)

-- what a break may lower a state to, and 0 alone where there is no break
abbrev pub lowered : Bool → LeaseState → ℕ → Bool
lowered breaking held n = if breaking then is_proper_part_of n held.0 else n == 0

-- ---- sessions and opens

pub record IsSid (sid_ : Sid) : Type 0 where
  pub pid : IsU32 sid_.pid
  pub session : IsU32 sid_.session

pub record IsOpenId (id : OpenId) : Type 0 where
  pub pid : IsU32 id.pid
  pub call : IsU32 id.call

abbrev pub sid : ℕ → ℕ → Codec Sid
sid pid session = via (λ p. record { pid = p.0; session = p.1 }) (λ s. (s.pid, s.session)) (u32 pid ⨾ λ _. u32 session)

abbrev pub open_id : ℕ → ℕ → Codec OpenId
open_id pid call = via (λ p. record { pid = p.0; call = p.1 }) (λ s. (s.pid, s.call)) (u32 pid ⨾ λ _. u32 call)

-- ---- watches

-- a watch whose flag isn't written
pub record IsWatch (watch_ : WatchRec) : Type 0 where
  pub sid : IsSid watch_.sid
  pub call : IsU32 watch_.call
  pub no_upgrade : watch_.upgrade ≡ false

-- A call that waits. Its upgrade flag is false and has no field.
abbrev pub watch : ℕ → ℕ → ℕ → Codec WatchRec
watch pid session call = via (λ p. record { sid = p.0; call = p.1.0; upgrade = p.1.1 }) (λ w. (w.sid, (w.call, w.upgrade)))
    (sid pid session ⨾ λ _. u32 call ⨾ λ _. left_out false)

-- ---- lists and texts

-- fewer than 2^32 items, each of the kind
pub record IsListOf {A : Type 0} (Is : A → Type 0) (items : List A) : Type 0 where
  pub few : IsU32 (length items)
  pub each : AllByRecursion Is items

-- A count that lies in a set, and that many items.
abbrev pub list_in : {A : Type 0} → ℕ → (ℕ → Bool) → Codec A → Codec (List A)
list_in field set item = via (λ p. p.1) (λ xs. (length xs, xs)) (u32_in field set ⨾ λ count. times item count)

abbrev pub list : {A : Type 0} → ℕ → Codec A → Codec (List A)
list field item = list_in field any item

abbrev pub is_text_length : ℕ → Bool
is_text_length n = nat_le 1 n && nat_le n 255

abbrev pub is_printable : ℕ → Bool
is_printable byte = nat_le 0x21 byte && nat_le byte 0x7E

-- A length from 1 to 255, and that many printable bytes other than the space.
abbrev pub text : ℕ → Codec (List ℕ)
text field = via (λ p. p.1) (λ bytes. (length bytes, bytes))
    (number 2 is_text_length (BadField field) ⨾ λ len. run len (list_all is_printable) (BadField field))
