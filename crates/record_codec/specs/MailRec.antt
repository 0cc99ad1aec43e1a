-- The record of a mailbox.
use Rattle.std.specs.Prelude.{ℕ, zero, suc, Bool, true, false, IsTrue, not, nat_lt, ◌==◌, ◌||◌, ◌^◌, codes}
use Rattle.sid_core.specs.Values.{IsU32, IsU64, IsState}
use Rattle.sid_core.specs.declared.bits.LeaseState.{LeaseState}
use Rattle.sid_core.specs.declared.ids.Spot.{Spot}
use Rattle.sid_core.specs.declared.ids.Spot.TheVariants.{OpenOf, RangesOf, LockOf}
use Rattle.sid_core.specs.declared.entry.Letter.{Letter}
use Rattle.sid_core.specs.declared.entry.Letter.TheVariants.{Wake, Break}
use Rattle.record_codec.specs.declared.mail_rec.Token.{Token}
use Rattle.record_codec.specs.declared.mail_rec.MailRec.{MailRec}
use Rattle.record_codec.specs.Codec.{Codec, ◌⨾◌, via}
use Rattle.record_codec.specs.Fields.{within, zero_unless, is_proper_part_of, lowered, u8_in, u32, u32_in, u64_in, truth, truth_in, state_in, list, IsListOf}
use Rattle.record_codec.specs.Stored.{stored}

-- ---- spots

abbrev pub spot_of : ℕ → ℕ → Spot
spot_of zero number = OpenOf number
spot_of (suc zero) number = RangesOf number
spot_of (suc (suc n)) number = LockOf number

abbrev pub spot_kind : Spot → ℕ
spot_kind (OpenOf file) = 0
spot_kind (RangesOf file) = 1
spot_kind (LockOf key) = 2

abbrev pub spot_number : Spot → ℕ
spot_number (OpenOf file) = file
spot_number (RangesOf file) = file
spot_number (LockOf key) = key

-- a number of 32 bits, but for the key of a global lock
abbrev pub number_of_spot : ℕ → ℕ → Bool
number_of_spot kind number = (kind == 2) || nat_lt number (2 ^ 32)

-- 0 the opens of a file, 1 its ranges, 2 a global lock; and the file's number or the key
abbrev pub spot : ℕ → ℕ → Codec Spot
spot kind number = via (λ p. spot_of p.0 p.1) (λ s. (spot_kind s, spot_number s)) (u8_in kind (within 0 2) ⨾ λ kind. u64_in number (number_of_spot kind))

abbrev pub IsSpot : Spot → Type 0
IsSpot (OpenOf file) = IsU32 file
IsSpot (RangesOf file) = IsU32 file
IsSpot (LockOf key) = IsU64 key

pub record IsToken (t : Token) : Type 0 where
  pub spot : IsSpot t.spot
  pub call : IsU32 t.call

unfoldable pub token : Codec Token
token = via (λ p. record { spot = p.0; call = p.1 }) (λ t. (t.spot, t.call)) (
    spot 5 6 ⨾ λ spot.
    u32 7)

-- ---- letters

abbrev pub LetterParts : Type 0
LetterParts = Bool × (ℕ × (ℕ × (ℕ × (LeaseState × (LeaseState × Bool)))))

abbrev pub letter_of : LetterParts → Letter
letter_of (false, (call, rest)) = Wake call
letter_of (true, (call, (file, (key, (from, (to, ack)))))) = Break file key from to ack

abbrev pub letter_parts : Letter → LetterParts
letter_parts (Wake call) = (false, (call, (0, (0, (record { 0 = 0 }, (record { 0 = 0 }, false))))))
letter_parts (Break file key from to ack) = (true, (0, (file, (key, (from, (to, ack))))))

-- Field 9 says whether it is a break.
abbrev pub letter_fields : Codec LetterParts
letter_fields =
    truth 9 ⨾ λ breaks.
    u32_in 10 (zero_unless (not breaks)) ⨾ λ call.
    u32_in 11 (zero_unless breaks) ⨾ λ file.
    u64_in 12 (zero_unless breaks) ⨾ λ key.
    state_in 13 (zero_unless breaks) ⨾ λ from.
    state_in 14 (lowered breaks from) ⨾ λ to.
    truth_in 15 (zero_unless breaks)

-- a break lowers the state
pub record IsBreak (f k : ℕ) (old new : LeaseState) : Type 0 where
  pub file : IsU32 f
  pub key : IsU64 k
  pub from : IsState old.0
  pub to : IsState new.0
  pub lowers : IsTrue (is_proper_part_of new.0 old.0)

abbrev pub IsLetter : Letter → Type 0
IsLetter (Wake call) = IsU32 call
IsLetter (Break file key from to ack) = IsBreak file key from to

unfoldable pub letter : Codec Letter
letter = via letter_of letter_parts letter_fields

pub record IsMailRec (r : MailRec) : Type 0 where
  pub session : IsU32 r.session
  pub tokens : IsListOf IsToken r.tokens
  pub letters : IsListOf IsLetter r.letters

unfoldable pub mail_fields : Codec MailRec
mail_fields = via (λ p. record { session = p.0; tokens = p.1.0; letters = p.1.1 }) (λ r. (r.session, (r.tokens, r.letters))) (
    u32 3 ⨾ λ session.
    list 4 token ⨾ λ tokens.
    list 8 letter)

abbrev pub mail_rec : Codec (ℕ × MailRec)
mail_rec = stored (codes "MAIL") 1 1 (λ version. mail_fields)
