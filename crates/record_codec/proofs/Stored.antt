-- A stored record is exact where the fields of each version are, and its sets are those of the version's fields.
use Rattle.std.proofs.Common.{◌≡◌, ℕ, ◌^◌, ◌<◌, true, false, eqb, List, length, Ok, Err, refl, sym, ap}
use Rattle.std.specs.Prelude.{◌↔◌, IsTrue}
use Rattle.std.proofs.lemmas.Bool.{eqb-true, eq-eqb}
use Rattle.byteorder.specs.Endian.{little_number}
use Rattle.record_codec.specs.declared.fault.Unpack.{Unpack}
use Rattle.record_codec.specs.declared.fault.Unpack.TheVariants.{Magic, Version, Trailing}
use Rattle.record_codec.specs.Codec.{Codec, read_all}
use Rattle.record_codec.specs.Fields.{only, within}
use Rattle.record_codec.specs.Stored.{header, stored}
use Rattle.record_codec.proofs.Exact.{IsExact, number_exact, seq_exact, via_exact}

header_exact : (magic : List ℕ) (oldest newest : ℕ) → IsExact (header magic oldest newest)
header_exact magic oldest newest =
    seq_exact _ _ (number_exact 4 (only (little_number 4 magic)) Magic) (λ _. number_exact 2 (within oldest newest) Version)

header_is : {A : Type 0} (magic : ℕ) (r : (ℕ × ℕ) × A) → IsTrue (only magic r.0.0) → ((magic, r.0.1), r.1) ≡ r
header_is {A = A} magic r h = ap (λ (n : ℕ). let q : (ℕ × ℕ) × A = ((n, r.0.1), r.1) in q) (sym (eqb-true _ _ h))

pub stored_exact : {A : Type 0} (magic : List ℕ) (oldest newest : ℕ) (fields : ℕ → Codec A) → ((version : ℕ) → IsExact (fields version)) → IsExact (stored magic oldest newest fields)
stored_exact magic oldest newest fields each =
    via_exact _ _ _ (λ y. refl) (λ r v. header_is (little_number 4 magic) r v.0.0.1)
    (seq_exact _ _ (header_exact magic oldest newest) (λ h. each h.1))

pub stored_set : {A : Type 0} (magic : List ℕ) (oldest newest version : ℕ) (fields : ℕ → Codec A) (Is : A → Type 0)
    → little_number 4 magic < 256 ^ 4 → version < 256 ^ 2 → IsTrue (within oldest newest version) → ((x : A) → Is x ↔ (fields version).valid x)
    → (x : A) → Is x ↔ (stored magic oldest newest fields).valid (version, x)
stored_set magic oldest newest version fields Is small low known same x =
    (λ i. (((small, eq-eqb _ _ refl), (low, known)), (same x).0 i), λ v. (same x).1 v.1)

-- ---- reading a stored record, step by step

module _ {A : Type 0} (magic : List ℕ) (oldest newest : ℕ) (fields : ℕ → Codec A) (bytes : List ℕ) where
  pub bad_header : (e : Unpack) → (header magic oldest newest).read bytes ≡ Err e → read_all (stored magic oldest newest fields) bytes ≡ Err e
  unfolding read_all
  bad_header e h = rw h refl

  pub bad_fields : (m version : ℕ) (rest : List ℕ) (e : Unpack) → (header magic oldest newest).read bytes ≡ Ok ((m, version), rest) → (fields version).read rest ≡ Err e
      → read_all (stored magic oldest newest fields) bytes ≡ Err e
  unfolding read_all
  bad_fields m version rest e h f = rw (h, f) refl

  pub more_bytes : (m version : ℕ) (rest : List ℕ) (x : A) (after : List ℕ) → (header magic oldest newest).read bytes ≡ Ok ((m, version), rest) → (fields version).read rest ≡ Ok (x, after)
      → eqb (length after) 0 ≡ false → read_all (stored magic oldest newest fields) bytes ≡ Err Trailing
  unfolding read_all
  more_bytes m version rest x after h f some = rw (h, f, some) refl

  pub all_read : (m version : ℕ) (rest : List ℕ) (x : A) (after : List ℕ) → (header magic oldest newest).read bytes ≡ Ok ((m, version), rest) → (fields version).read rest ≡ Ok (x, after)
      → eqb (length after) 0 ≡ true → read_all (stored magic oldest newest fields) bytes ≡ Ok (version, x)
  unfolding read_all
  all_read m version rest x after h f none = rw (h, f, none) refl
