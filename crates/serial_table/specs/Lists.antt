-- Words over lists.
use Rattle.std.specs.Prelude.{Bool, List, [], ◌∷◌, if◌then◌else◌}

-- the list without the first that passes
abbrev pub drop_first : {X : Type 0} → (X → Bool) → List X → List X
drop_first p [] = []
drop_first p (x ∷ xs) = if p x then xs else x ∷ drop_first p xs
