-- The first row that passes, by `find` and at the head of the filtered list.
use Rattle.std.proofs.Common.{◌≡◌, Bool, true, false, cond, List, [], ◌∷◌, filter, find, Some, None, refl, ap}
use Rattle.sid_core.specs.declared.reply.Reply.TheVariants.{FileClosed}
use Rattle.serial_table.specs.declared.rows.OpenRow.{OpenRow}
use Rattle.serial_table.specs.Close.{close_first}
use Rattle.serial_table.specs.Decision.{only_reply}

close_here : (p : OpenRow → Bool) (b : Bool) (x row : OpenRow) (xs : List OpenRow) → (find p xs ≡ Some row → close_first (filter p xs) ≡ close_first (row ∷ []))
    → cond b (Some x) (find p xs) ≡ Some row → close_first (cond b (x ∷ filter p xs) (filter p xs)) ≡ close_first (row ∷ [])
close_here p true x row xs later e = let same : x ≡ row = cc in ap (λ (r : OpenRow). close_first (r ∷ [])) same
close_here p false x row xs later e = later e

pub close_found : (p : OpenRow → Bool) (xs : List OpenRow) (row : OpenRow) → find p xs ≡ Some row → close_first (filter p xs) ≡ close_first (row ∷ [])
close_found p [] row e = absurd cc
close_found p (x ∷ xs) row e = close_here p (p x) x row xs (close_found p xs row) e

close_not_here : (p : OpenRow → Bool) (b : Bool) (x : OpenRow) (xs : List OpenRow) → (find p xs ≡ None → close_first (filter p xs) ≡ only_reply FileClosed)
    → cond b (Some x) (find p xs) ≡ None → close_first (cond b (x ∷ filter p xs) (filter p xs)) ≡ only_reply FileClosed
close_not_here p true x xs later e = absurd cc
close_not_here p false x xs later e = later e

pub close_none : (p : OpenRow → Bool) (xs : List OpenRow) → find p xs ≡ None → close_first (filter p xs) ≡ only_reply FileClosed
close_none p [] e = refl
close_none p (x ∷ xs) e = close_not_here p (p x) x xs (close_none p xs) e
