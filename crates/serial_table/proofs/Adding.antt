-- A text that grows by one piece after another, and a column of it.
use Rattle.std.proofs.Common.{◌≡◌, ℕ, ◌+◌, ◌-◌, List, [], ◌∷◌, ◌++◌, length, replicate, Result, sym, ap, ◌∙◌, append_assoc, length-append, arith}
use Rattle.std.proofs.lemmas.Result.{on_ok_weaker}
use Rattle.std.specs.Result.{OnOk}
use Rattle.serial_table.specs.Tables.{column}

-- two pieces, of which the last may have failed
pub on_ok_after : {T E : Type 0} (r : Result T E) (old mid new first last : List ℕ) → mid ≡ old ++ first → OnOk r (new ≡ mid ++ last) → OnOk r (new ≡ old ++ (first ++ last))
on_ok_after r old mid new first last before then = on_ok_weaker r (λ after. after ∙ ap (λ l. l ++ last) before ∙ append_assoc old first last) then

room_left : (width a b : ℕ) → (width - a) - b ≡ width - (a + b)
room_left width a b = omega arith

-- a text of two parts, filled up to the width
pub column_of_two : (old a b c new first second : List ℕ) (width : ℕ) → a ≡ old ++ first → b ≡ a ++ second → c ≡ b ++ replicate ((width - length first) - length second) 32 → new ≡ c ++ 32 ∷ []
    → new ≡ old ++ column width (first ++ second)
column_of_two old a b c new first second width ea eb ec e =
    let fill = replicate ((width - length first) - length second) 32 in
    e ∙ ap (λ l. l ++ 32 ∷ []) ec ∙ append_assoc b fill (32 ∷ [])
    ∙ ap (λ l. l ++ (fill ++ 32 ∷ [])) (eb ∙ ap (λ l. l ++ second) ea ∙ append_assoc old first second)
    ∙ append_assoc old (first ++ second) (fill ++ 32 ∷ [])
    ∙ ap (λ n. old ++ ((first ++ second) ++ (replicate n 32 ++ 32 ∷ []))) (room_left width (length first) (length second) ∙ ap (λ n. width - n) (sym (length-append first second)))

-- three pieces
pub after_three : (old a b new x y z : List ℕ) → a ≡ old ++ x → b ≡ a ++ y → new ≡ b ++ z → new ≡ old ++ (x ++ (y ++ z))
after_three old a b new x y z ea eb e = e ∙ ap (λ l. l ++ z) (eb ∙ ap (λ l. l ++ y) ea ∙ append_assoc old x y) ∙ append_assoc old (x ++ y) z ∙ ap (λ l. old ++ l) (append_assoc x y z)

-- a piece of three pieces, before the rest
pub on_ok_regroup : {T E : Type 0} (r : Result T E) (old new x y z rest : List ℕ) → OnOk r (new ≡ old ++ ((x ++ (y ++ z)) ++ rest)) → OnOk r (new ≡ old ++ (x ++ (y ++ (z ++ rest))))
on_ok_regroup r old new x y z rest then = on_ok_weaker r (λ after. after ∙ ap (λ l. old ++ l) (append_assoc x (y ++ z) rest ∙ ap (λ l. x ++ l) (append_assoc y z rest))) then

-- a row of seven pieces, of which the third is of three
pub on_ok_seven : {T E : Type 0} (r : Result T E) (old a b c d e f new p u x y z l q n t : List ℕ)
    → a ≡ old ++ p → b ≡ a ++ u → c ≡ b ++ (x ++ (y ++ z)) → d ≡ c ++ l → e ≡ d ++ q → f ≡ e ++ n → OnOk r (new ≡ f ++ t)
    → OnOk r (new ≡ old ++ (p ++ (u ++ (x ++ (y ++ (z ++ (l ++ (q ++ (n ++ t)))))))))
on_ok_seven r old a b c d e f new p u x y z l q n t ea eb ec ed ee ef then =
    on_ok_after r old a new p (u ++ (x ++ (y ++ (z ++ (l ++ (q ++ (n ++ t))))))) ea
    (on_ok_after r a b new u (x ++ (y ++ (z ++ (l ++ (q ++ (n ++ t)))))) eb
    (on_ok_regroup r b new x y z (l ++ (q ++ (n ++ t)))
    (on_ok_after r b c new (x ++ (y ++ z)) (l ++ (q ++ (n ++ t))) ec
    (on_ok_after r c d new l (q ++ (n ++ t)) ed (on_ok_after r d e new q (n ++ t) ee (on_ok_after r e f new n t ef then))))))
