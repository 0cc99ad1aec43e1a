-- The pairs that are put over the leaves of a chain.
use Rattle.std.specs.Prelude.{[], ◌∷◌}
use Rattle.chain_map.specs.Pairs.{Pairs}
use Rattle.chain_map.specs.declared.over.Form.{Form}
use Rattle.chain_map.specs.declared.over.Form.TheVariants.{Empty, One, Several}

-- none, one alone, or those of a list
abbrev pub pairs_of : Form → Pairs
pairs_of Empty = []
pairs_of (One pair) = pair ∷ []
pairs_of (Several pairs) = pairs
