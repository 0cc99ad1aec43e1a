-- A rule of chains that count.
use Rattle.std.specs.Prelude.{ℕ, ◌+◌, List, [], ◌∷◌, ◌++◌, slice_set, slice_index_or, Option, Some, None}
use Rattle.sid_core.specs.declared.entry.Entry.{Entry}
use Rattle.sid_core.specs.declared.entry.Event.{Event}
use Rattle.sid_core.specs.declared.entry.Event.TheVariants.{Called, Died, Tidied}
use Rattle.chain_map.specs.Pairs.{Pairs, find, put}
use Rattle.turn_types.specs.Journal.{Chains}

abbrev or_nothing : Option (List ℕ) → List ℕ
or_nothing None = []
or_nothing (Some bytes) = bytes

-- a chain counts by the bytes under the empty key
abbrev pub marks : Pairs → List ℕ
marks chain = or_nothing (find [] chain)

-- one mark more
abbrev pub counted : Pairs → Pairs
counted chain = put [] (marks chain ++ 1 ∷ []) chain

abbrev chain_of_event : Event → ℕ
chain_of_event (Called n m c r) = 0
chain_of_event (Died w m) = 0
chain_of_event (Tidied c) = c

abbrev pub chain_of_entry : Entry → ℕ
chain_of_entry e = chain_of_event e.what

abbrev pub raised : Chains → ℕ → Chains
raised k c = slice_set k c (counted (slice_index_or k c []))

-- the entry's chain counts, and the next
abbrev pub added : Chains → Entry → Chains
added k e = raised (raised k (chain_of_entry e)) (chain_of_entry e + 1)
