-- A loop over the entries that drops those that go, in place.
use Rattle.std.proofs.Common.{◌≡◌, ℕ, ◌+◌, ◌-◌, ◌<◌, ◌≤◌, true, false, cond, List, [], ◌∷◌, ◌++◌, length, get_or, take, drop, set, Option, ap, sym, ◌∙◌, arith}
use Rattle.std.specs.Ordering.{nat_cmp}
use Rattle.std.specs.FinMap.{FinMap}
use Rattle.std.proofs.lemmas.List.{drop_more, drop_all, take_more_set, drop-set-lt, append-nil, length-set, length-take-le}
use Rattle.std.proofs.lemmas.List.{append_assoc}
use Rattle.std.proofs.lemmas.Grind.{drop_more_same}
use Rattle.sid_core.specs.declared.ids.LeaseName.{LeaseName}
use Rattle.sid_core.specs.declared.ids.Moment.{Moment}
use Rattle.record_codec.specs.declared.share_rec.ShareEntry.{ShareEntry}
use Rattle.record_codec.specs.declared.lease_rec.LeaseRec.{LeaseRec}
use Rattle.record_codec.specs.declared.register_rec.RegisterRec.{RegisterRec}
use Rattle.durable_open.specs.Sweep.{goes, after_one, kept_of, leases_after}

-- The first of them have been looked at; of these the first places have those that stay.
pub record Sweeps (register : FinMap nat_cmp RegisterRec) (file : ℕ) (now : Moment) (old leases : LeaseName → Option LeaseRec) (xs ys : List ShareEntry) (kept place : ℕ) : Type 0 where
  pub front : take kept ys ++ kept_of register file now leases (drop place xs) ≡ kept_of register file now old xs
  pub leases_then : leases_after register file now leases (drop place xs) ≡ leases_after register file now old xs
  pub rest : drop place ys ≡ drop place xs
  pub behind : kept ≤ place
  pub within : place ≤ length xs
  pub long : length ys ≡ length xs

module _ {X : Type 0} where
  read_at : (xs ys : List X) (i : ℕ) (x : X) → i < length xs → length ys ≡ length xs → drop i ys ≡ drop i xs → x ≡ get_or ys i x → drop i xs ≡ x ∷ drop (i + 1) xs
  read_at xs ys i x lt long rest is =
      let lt' : i < length ys = omega (arith, lt, long) in
      let same : get_or ys i x ≡ get_or xs i x = sym (ap (λ l. get_or l 0 x) (drop_more ys i x lt')) ∙ ap (λ l. get_or l 0 x) rest ∙ ap (λ l. get_or l 0 x) (drop_more xs i x lt) in
      drop_more xs i x lt ∙ ap (λ z. z ∷ drop (i + 1) xs) (sym (is ∙ same))

module _ (register : FinMap nat_cmp RegisterRec) (file : ℕ) (now : Moment) (old leases then_ : LeaseName → Option LeaseRec) (xs ys : List ShareEntry) (kept place : ℕ) (x : ShareEntry) where
  -- an open that goes
  pub swept_one : Sweeps register file now old leases xs ys kept place → place < length xs → x ≡ get_or ys place x → goes register file now leases x ≡ true → then_ ≡ after_one register file now x leases
      → Sweeps register file now old then_ xs ys kept (place + 1)
  swept_one s lt is gone becomes =
      let D : List ShareEntry = drop (place + 1) xs in
      let A : List ShareEntry = kept_of register file now (after_one register file now x leases) D in
      let at : drop place xs ≡ x ∷ D = read_at xs ys place x lt s.long s.rest is in
      record {
        front = ap (λ l. take kept ys ++ kept_of register file now l D) becomes
            ∙ ap (λ zs. take kept ys ++ zs) (sym (ap (λ b. cond b A (x ∷ A)) gone))
            ∙ ap (λ zs. take kept ys ++ kept_of register file now leases zs) (sym at) ∙ s.front;
        leases_then = ap (λ l. leases_after register file now l D) becomes ∙ ap (leases_after register file now leases) (sym at) ∙ s.leases_then;
        rest = drop_more_same ys xs place s.rest;
        behind = omega (arith, s.behind);
        within = omega (arith, lt);
        long = s.long;
      }

  -- one that stays
  pub left_one : Sweeps register file now old leases xs ys kept place → place < length xs → x ≡ get_or ys place x → goes register file now leases x ≡ false → then_ ≡ after_one register file now x leases
      → Sweeps register file now old then_ xs (set ys kept x) (kept + 1) (place + 1)
  left_one s lt is stays becomes =
      let D : List ShareEntry = drop (place + 1) xs in
      let A : List ShareEntry = kept_of register file now (after_one register file now x leases) D in
      let at : drop place xs ≡ x ∷ D = read_at xs ys place x lt s.long s.rest is in
      let inside : kept < length ys = omega (arith, s.behind, lt, s.long) in
      record {
        front = ap (λ zs. zs ++ kept_of register file now then_ D) (take_more_set ys kept x inside)
            ∙ ap (λ l. (take kept ys ++ x ∷ []) ++ kept_of register file now l D) becomes
            ∙ append_assoc (take kept ys) (x ∷ []) A
            ∙ ap (λ zs. take kept ys ++ zs) (sym (ap (λ b. cond b A (x ∷ A)) stays))
            ∙ ap (λ zs. take kept ys ++ kept_of register file now leases zs) (sym at) ∙ s.front;
        leases_then = ap (λ l. leases_after register file now l D) becomes ∙ ap (leases_after register file now leases) (sym at) ∙ s.leases_then;
        rest = drop-set-lt (place + 1) ys kept x (omega (arith, s.behind)) ∙ drop_more_same ys xs place s.rest;
        behind = omega (arith, s.behind);
        within = omega (arith, lt);
        long = length-set ys kept x ∙ s.long;
      }

module _ (register : FinMap nat_cmp RegisterRec) (file : ℕ) (now : Moment) (old leases : LeaseName → Option LeaseRec) (xs ys : List ShareEntry) (kept place : ℕ) where
  -- all have been looked at
  pub swept_all : Sweeps register file now old leases xs ys kept place → length xs ≤ place → take kept ys ≡ kept_of register file now old xs
  swept_all s end = sym (append-nil (take kept ys)) ∙ ap (λ zs. take kept ys ++ kept_of register file now leases zs) (sym (drop_all place xs end)) ∙ s.front

  pub leases_all : Sweeps register file now old leases xs ys kept place → length xs ≤ place → leases ≡ leases_after register file now old xs
  leases_all s end = ap (leases_after register file now leases) (sym (drop_all place xs end)) ∙ s.leases_then

  pub counted : Sweeps register file now old leases xs ys kept place → (length ys - kept) + length (take kept ys) ≡ length xs
  counted s =
      let le : kept ≤ length ys = omega (arith, s.behind, s.within, s.long) in
      let n : length (take kept ys) ≡ kept = length-take-le kept ys le in
      omega (arith, le, n, s.long)
