-- Journals in which the entries of each pass count on.
use Rattle.std.specs.Prelude.{ℕ, ◌+◌, List, [], ◌∷◌, map}
use Rattle.std.proofs.Props.{props}
use Rattle.sid_core.specs.declared.entry.Entry.{Entry}
use Rattle.sid_core.specs.Counting.{CountsFrom}
use Rattle.turn_types.specs.Journal.{of_pass}

-- The entries of each pass have seq 1, 2, 3 and so on.
abbrev pub IsCounted : List Entry → Type 0
IsCounted journal = (n : ℕ) → CountsFrom 1 (map (λ (e : Entry). e.seq) (of_pass n journal))

counts_single : (n : ℕ) (ms : List ℕ) → IsProp (CountsFrom n ms)
counts_single n [] = hlevel props
counts_single n (m ∷ ms) = hlevel (counts_single (n + 1) ms, props)

pub counted_single : (journal : List Entry) → IsProp (IsCounted journal)
counted_single journal = hlevel (counts_single, props)
