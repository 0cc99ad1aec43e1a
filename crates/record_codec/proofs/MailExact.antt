-- The record of a mailbox is exact, and its sets are the named ones.
use Rattle.std.proofs.Common.{◌≡◌, ℕ, zero, suc, ◌+◌, ◌*◌, ◌^◌, ◌<◌, Bool, true, false, ◌&&◌, not, eqb, leb, length, refl, sym, ap, lit<, arith}
use Rattle.std.specs.Prelude.{◌↔◌, codes, IsTrue, nat_lt}
use Rattle.std.specs.List.{flat_map}
use Rattle.std.proofs.lemmas.Bool.{eqb-true, leb-true, ltb-true, lt-ltb}
use Rattle.std.proofs.lemmas.List.{length-append}
use Rattle.sid_core.specs.declared.bits.LeaseState.{LeaseState}
use Rattle.sid_core.specs.declared.ids.Spot.{Spot}
use Rattle.sid_core.specs.declared.ids.Spot.TheVariants.{OpenOf, RangesOf, LockOf}
use Rattle.sid_core.specs.declared.entry.Letter.{Letter}
use Rattle.sid_core.specs.declared.entry.Letter.TheVariants.{Wake, Break}
use Rattle.sid_core.specs.Values.{is_state}
use Rattle.record_codec.specs.declared.mail_rec.Token.{Token}
use Rattle.record_codec.specs.declared.mail_rec.MailRec.{MailRec}
use Rattle.record_codec.specs.Fields.{within, zero_unless, lowered, truth_byte, list}
use Rattle.record_codec.specs.MailRec.{spot_of, spot_kind, spot_number, number_of_spot, spot, IsSpot, token, IsToken, LetterParts, letter_of, letter_parts, letter_fields, letter, IsLetter, mail_fields, mail_rec, IsMailRec}
use Rattle.record_codec.proofs.Exact.{IsExact, seq_exact, via_exact}
use Rattle.record_codec.proofs.Fields.{both, u8_in_exact, u32_exact, u32_in_exact, u64_in_exact, truth_exact, truth_in_exact, state_in_exact, list_exact}
use Rattle.record_codec.proofs.Sets.{state_in_set, list_set}
use Rattle.record_codec.proofs.Sizes.{items_size}
use Rattle.record_codec.proofs.Stored.{stored_exact, stored_set}

spot_made : (s : Spot) → spot_of (spot_kind s) (spot_number s) ≡ s
spot_made (OpenOf file) = refl
spot_made (RangesOf file) = refl
spot_made (LockOf key) = refl

abbrev pair : ℕ → ℕ → ℕ × ℕ
pair a b = (a, b)

spot_taken : (kind number : ℕ) → IsTrue (within 0 2 kind) → pair (spot_kind (spot_of kind number)) (spot_number (spot_of kind number)) ≡ pair kind number
spot_taken zero number v = refl
spot_taken (suc zero) number v = refl
spot_taken (suc (suc zero)) number v = refl
spot_taken (suc (suc (suc n))) number v = let h = leb-true (suc (suc (suc n))) 2 (both (leb 0 (suc (suc (suc n)))) (leb (suc (suc (suc n))) 2) v).1 in absurd (omega (arith, h))

spot_exact : (kind number : ℕ) → IsExact (spot kind number)
spot_exact kind number = via_exact _ _ _ spot_made (λ p v. spot_taken p.0 p.1 v.0.1)
    (seq_exact _ _ (u8_in_exact kind (within 0 2)) (λ k. u64_in_exact number (number_of_spot k)))

pub token_exact : IsExact token
unfolding token
token_exact = via_exact _ _ _ (λ y. refl) (λ x v. refl)
    (seq_exact _ _ (spot_exact 5 6) (λ _. u32_exact 7))

letter_made : (l : Letter) → letter_of (letter_parts l) ≡ l
letter_made (Wake call) = refl
letter_made (Break file key from to ack) = refl

no_state : (s : LeaseState) → IsTrue (is_state s.0 && eqb s.0 0) → record { 0 = 0 } ≡ s
no_state s h = ap (λ (n : ℕ). let made : LeaseState = record { 0 = n } in made) (sym (eqb-true _ _ (both _ _ h).1))

no_truth : (b : Bool) → IsTrue (nat_lt (truth_byte b) 2 && eqb (truth_byte b) 0) → false ≡ b
no_truth false h = refl
no_truth true h = absurd cc

letter_taken : (p : LetterParts) → letter_fields.valid p → letter_parts (letter_of p) ≡ p
letter_taken (false, (call, (file, (key, (from, (to, ack)))))) v =
    let f : 0 ≡ file = sym (eqb-true _ _ v.1.1.0.1) in
    let k : 0 ≡ key = sym (eqb-true _ _ v.1.1.1.0.1) in
    let s = no_state from v.1.1.1.1.0.1 in
    let t = no_state to v.1.1.1.1.1.0.1 in
    let a = no_truth ack v.1.1.1.1.1.1.1 in
    rw (← f, ← k, ← s, ← t, ← a) refl
letter_taken (true, (call, rest)) v =
    let c : 0 ≡ call = sym (eqb-true _ _ v.1.0.1) in
    rw (← c) refl

pub letter_exact : IsExact letter
unfolding letter
letter_exact = via_exact _ _ _ letter_made letter_taken
    (seq_exact _ _ (truth_exact 9) (λ breaks.
    seq_exact _ _ (u32_in_exact 10 (zero_unless (not breaks))) (λ _.
    seq_exact _ _ (u32_in_exact 11 (zero_unless breaks)) (λ _.
    seq_exact _ _ (u64_in_exact 12 (zero_unless breaks)) (λ _.
    seq_exact _ _ (state_in_exact 13 (zero_unless breaks)) (λ from.
    seq_exact _ _ (state_in_exact 14 (lowered breaks from)) (λ _.
    truth_in_exact 15 (zero_unless breaks))))))))

spot_set : (kind number : ℕ) (s : Spot) → IsSpot s ↔ (spot kind number).valid s
spot_set kind number (OpenOf file) =
    (λ i. ((lit< tt, refl), (let small : file < 256 ^ 8 = omega (arith, i) in small, lt-ltb _ _ i)), λ v. ltb-true _ _ v.1.1)
spot_set kind number (RangesOf file) =
    (λ i. ((lit< tt, refl), (let small : file < 256 ^ 8 = omega (arith, i) in small, lt-ltb _ _ i)), λ v. ltb-true _ _ v.1.1)
spot_set kind number (LockOf key) = (λ i. ((lit< tt, refl), (i, refl)), λ v. v.1.0)

pub token_set : (t : Token) → IsToken t ↔ token.valid t
unfolding token
token_set t = (λ i. ((spot_set 5 6 t.spot).0 i.spot, (i.call, refl)), λ v. record { spot = (spot_set 5 6 t.spot).1 v.0; call = v.1.0 })

pub token_size : (t : Token) → length (token.spell t) ≡ 13
unfolding token
token_size t = refl

truth_in_valid : (b : Bool) → (truth_byte b < 256 ^ 1) × IsTrue (nat_lt (truth_byte b) 2 && zero_unless true (truth_byte b))
truth_in_valid true = (lit< tt, refl)
truth_in_valid false = (lit< tt, refl)

pub letter_set : (l : Letter) → IsLetter l ↔ letter.valid l
unfolding letter
letter_set (Wake call) =
    (λ i. ((lit< tt, refl), ((i, refl), ((lit< tt, refl), ((lit< tt, refl), ((lit< tt, refl), ((lit< tt, refl), (lit< tt, refl))))))), λ v. v.1.0.0)
letter_set (Break file key from to ack) =
    let from_in = state_in_set 13 (zero_unless true) from in
    let to_in = state_in_set 14 (lowered true from) to in (
      λ i. (
        (lit< tt, refl),
        (
          (lit< tt, refl),
          (
            (i.file, refl),
            (
              (i.key, refl),
              (
                from_in.0 (i.from, refl),
                (
                  to_in.0 (i.to, i.lowers),
                  truth_in_valid ack,
                ),
              ),
            ),
          ),
        ),
      ),
      λ v. record {
        file = v.1.1.0.0;
        key = v.1.1.1.0.0;
        from = (from_in.1 v.1.1.1.1.0).0;
        to = (to_in.1 v.1.1.1.1.1.0).0;
        lowers = (to_in.1 v.1.1.1.1.1.0).1;
      },
    )

pub letter_size : (l : Letter) → length (letter.spell l) ≡ 20
unfolding letter
letter_size l = refl

mail_fields_exact : IsExact mail_fields
unfolding mail_fields
mail_fields_exact = via_exact _ _ _ (λ y. refl) (λ x v. refl)
    (seq_exact _ _ (u32_exact 3) (λ _.
    seq_exact _ _ (list_exact 4 token token_exact) (λ _.
    list_exact 8 letter letter_exact)))

pub mail_exact : IsExact mail_rec
mail_exact = stored_exact (codes "MAIL") 1 1 (λ _. mail_fields) (λ _. mail_fields_exact)

pub mail_fields_set : (r : MailRec) → IsMailRec r ↔ mail_fields.valid r
unfolding mail_fields
mail_fields_set r =
    let tokens = list_set 4 token IsToken token_set r.tokens in
    let letters = list_set 8 letter IsLetter letter_set r.letters in (
      λ i. ((i.session, refl), (tokens.0 i.tokens, letters.0 i.letters)),
      λ v. record { session = v.0.0; tokens = tokens.1 v.1.0; letters = letters.1 v.1.1 },
    )

pub mail_set : (r : MailRec) → IsMailRec r ↔ mail_rec.valid (1, r)
mail_set r = stored_set (codes "MAIL") 1 1 1 (λ _. mail_fields) IsMailRec (lit< tt) (lit< tt) refl mail_fields_set r

pub mail_size : (r : MailRec) → length (mail_fields.spell r) ≡ 12 + 13 * length r.tokens + 20 * length r.letters
unfolding mail_fields
mail_size r =
    let a = items_size token.spell 13 token_size r.tokens in
    let b = items_size letter.spell 20 letter_size r.letters in
    omega (arith, length-append (flat_map token.spell r.tokens) ((list 8 letter).spell r.letters), a, b)
