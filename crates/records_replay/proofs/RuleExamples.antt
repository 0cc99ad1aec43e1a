-- Worked examples: what follows what, who is buried, how many chains a database has, and what an entry names.
use Rattle.std.specs.Prelude.{◌≡◌, ℕ, [], ◌∷◌, None, Some, refl}
use Rattle.std.proofs.Common.{arith}
use Rattle.sid_core.specs.declared.call.Call.TheVariants as call
use Rattle.sid_core.specs.declared.entry.Entry.{Entry}
use Rattle.sid_core.specs.declared.reply.Reply.TheVariants as reply
use Rattle.record_codec.specs.RegisterRec.{register_fields}
use Rattle.record_codec.specs.Codec.{raw, read_run, times_read, read_all}
use Rattle.record_codec.specs.GLockRec.{hold, upgrade_watch, glock_fields}
use Rattle.stored_table.specs.Places.{Chains}
use Rattle.stored_table.specs.Move.{first_chains}
use Rattle.stored_table.proofs.Samples.{setup, calls, dies, tidies}
use Rattle.records_replay.specs.Rule.{per_database, names, Follows, buries}

-- ---- what follows what

abbrev called : ℕ → Entry
called number = calls 1 number 0 (call.GUnlock 9) reply.Done

-- Call 4 follows call 3, with a tidied chain between.
follows_lower : Follows (called 3 ∷ tidies 1 20 ∷ []) (called 4)
follows_lower = (omega arith, tt)

-- It follows no call with its own number.
not_again : Follows (called 3 ∷ called 4 ∷ []) (called 4) → ⊥
not_again h = omega (arith, h.1.0)

-- A death and a tidied chain always follow.
others_follow : Follows (called 3 ∷ []) (dies 1 0) × Follows (called 3 ∷ []) (tidies 1 20)
others_follow = (tt, tt)

-- ---- who is buried

death_buries : buries (dies 2 5) ≡ Some 2
death_buries = refl

call_buries_none : buries (called 4) ≡ None
call_buries_none = refl

-- ---- chains

unfoldable at_first : Chains
unfolding register_fields
at_first = first_chains setup 8

eight_each : per_database at_first ≡ 8
unfolding at_first
eight_each = refl

-- Global lock 9 stands in chain 9, the register record of worker 1 in chain 37, and its mailbox in chain 53.
lock_names : names setup at_first (calls 1 1 0 (call.GUnlock 9) reply.Done) ≡ 9 ∷ 37 ∷ 53 ∷ []
unfolding at_first raw read_run times_read read_all hold upgrade_watch glock_fields register_fields
lock_names = refl
