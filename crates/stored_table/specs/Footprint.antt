-- Which chains an entry reads and writes.
use Rattle.std.specs.Prelude.{ℕ, ◌*◌, ◌==◌, Bool, List, [], ◌∷◌, ◌++◌, map, filter}
use Rattle.std.specs.List.{flat_map, list_any}
use Rattle.sid_core.specs.declared.call.Call.{Call}
use Rattle.sid_core.specs.declared.call.Call.TheVariants.{Ack, Scavenge, Status}
use Rattle.sid_core.specs.declared.entry.Event.{Event}
use Rattle.sid_core.specs.declared.entry.Event.TheVariants.{Called, Died, Tidied}
use Rattle.sid_core.specs.declared.entry.Entry.{Entry}
use Rattle.sid_core.specs.declared.setup.Setup.{Setup}
use Rattle.chain_map.specs.declared.db.Db.{Db}
use Rattle.chain_map.specs.declared.db.Db.TheVariants.{Locking, Leases, Register, Brlock, Mailbox}
use Rattle.stored_table.specs.Places.{Chains, chain_of}
use Rattle.stored_table.specs.Met.{met, all_met, count_from, chains_in}

-- ---- databases that belong to it whole

abbrev pub whole_of_call : Call → List Db
whole_of_call (Ack key state) = Locking ∷ []
whole_of_call Scavenge = Locking ∷ Leases ∷ Register ∷ Brlock ∷ Mailbox ∷ []
whole_of_call (Status tables) = Locking ∷ Leases ∷ Register ∷ Brlock ∷ []
whole_of_call _ = []

abbrev pub whole_of : Event → List Db
whole_of (Called number moment call reply) = whole_of_call call
whole_of (Died worker moment) = []
whole_of (Tidied chain) = Locking ∷ Leases ∷ Register ∷ Mailbox ∷ []

-- the chain that is tidied
abbrev pub own_chain : Event → List ℕ
own_chain (Called number moment call reply) = []
own_chain (Died worker moment) = []
own_chain (Tidied chain) = chain ∷ []

-- ---- the chains

-- with repetitions, and in no order: those of all met keys, also of keys without a record
abbrev pub footprint_list : Setup → ℕ → Chains → Entry → List ℕ
footprint_list setup n k e = map (chain_of n) (all_met (met setup n k e)) ++ (flat_map (chains_in n) (whole_of e.what) ++ own_chain e.what)

abbrev pub has_number : List ℕ → ℕ → Bool
has_number cs c = list_any (λ d. d == c) cs

-- each once, rising
abbrev pub footprint : Setup → ℕ → Chains → Entry → List ℕ
footprint setup n k e = filter (has_number (footprint_list setup n k e)) (count_from 0 (7 * n))
