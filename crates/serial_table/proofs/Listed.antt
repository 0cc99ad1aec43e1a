-- Lists with what holds of each of their rows, and how changes of a list keep that.
use Rattle.std.proofs.Common.{◌≡◌, Bool, List, [], ◌∷◌, ◌++◌, filter, map, subst, inl, inr, ◌⊎◌}
use Rattle.serial_table.specs.Lists.{drop_first}
use Rattle.serial_table.proofs.Members.{IsIn, in_filter, in_push, in_drop, in_map}

pub record Listed {X : Type 0} (P : X → Type 0) : Type 0 where
  pub rows : List X
  pub each : (x : X) → IsIn x rows → P x

module _ {X : Type 0} {P : X → Type 0} where
  pub old_or_new : (xs : List X) (x : X) → ((y : X) → IsIn y xs → P y) → P x → (y : X) → IsIn y xs ⊎ (x ≡ y) → P y
  old_or_new xs x h p y (inl i) = h y i
  old_or_new xs x h p y (inr e) = subst P e p

  -- one more row
  abbrev pub more : Listed P → (x : X) → P x → Listed P
  more r x p = record { rows = r.rows ++ x ∷ []; each = λ y i. old_or_new r.rows x r.each p y (in_push r.rows x y i) }

  -- the rows that pass
  abbrev pub kept : (X → Bool) → Listed P → Listed P
  kept p r = record { rows = filter p r.rows; each = λ y i. r.each y (in_filter p r.rows y i).0 }

  -- all but the first that passes
  abbrev pub left : (X → Bool) → Listed P → Listed P
  left p r = record { rows = drop_first p r.rows; each = λ y i. r.each y (in_drop p r.rows y i) }

  abbrev pub changed : (f : X → X) → ((x : X) → P x → P (f x)) → Listed P → Listed P
  changed f h r = record { rows = map f r.rows; each = λ y i. let m = in_map f r.rows y i in subst P m.2 (h m.0 (r.each m.0 m.1)) }
