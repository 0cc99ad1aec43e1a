-- A rule of stamps: each entry gives one record a value in each of so many chains.
use Rattle.std.specs.Prelude.{ℕ, zero, suc, ◌+◌, Bool, cond, List, [], ◌∷◌, replicate}
use Rattle.chain_map.specs.Pairs.{Pairs, put}
use Rattle.turn_types.specs.Journal.{Chains, has}

-- the key of a pid below 256
abbrev pub key : ℕ → List ℕ
key pid = 0 ∷ 0 ∷ 0 ∷ pid ∷ []

abbrev pub stamp : List ℕ
stamp = replicate 31 7

abbrev pub numbers_from : ℕ → ℕ → List ℕ
numbers_from n zero = []
numbers_from n (suc c) = n ∷ numbers_from (n + 1) c

-- The first c chains of the register's, of which there are 8 in each database. A pid's record stands in the chain with the
-- pid's number, for pids from 32 to 39.
abbrev pub stamped_chains : ℕ → List ℕ
stamped_chains c = numbers_from 32 c

abbrev pub stamp_if : Bool → ℕ → Pairs → Pairs
stamp_if b n chain = cond b (put (key n) stamp chain) chain

-- of chains whose first has the number n
abbrev pub stamped_from : ℕ → ℕ → Chains → Chains
stamped_from c n [] = []
stamped_from c n (x ∷ k) = stamp_if (has n (stamped_chains c)) n x ∷ stamped_from c (n + 1) k

abbrev pub stamped : ℕ → Chains → Chains
stamped c k = stamped_from c 0 k
