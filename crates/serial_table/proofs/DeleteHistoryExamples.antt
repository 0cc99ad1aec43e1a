-- Worked examples: histories with files that are to go, with what they print.
use Rattle.std.specs.Prelude.{◌≡◌, ℕ, true, false, [], ◌∷◌, None, Some, codes, refl}
use Rattle.sid_core.specs.declared.call.Call.{Call}
use Rattle.sid_core.specs.declared.call.Call.TheVariants as call
use Rattle.serial_table.proofs.Played.{played}
use Rattle.serial_table.proofs.Samples.{setup, state, opens}
use Rattle.serial_table.proofs.SampleCalls.{does, ends, printed}

-- a marked open, by file and access
abbrev opens_marked : ℕ → ℕ → Call
opens_marked file access = call.OpenFile file (record { 0 = access }) (record { 0 = 7 }) None 0 false true

-- the same under the lease with key 7, to last for 60 seconds
abbrev opens_durable_marked : ℕ → ℕ → Call
opens_durable_marked file access = call.OpenFile file (record { 0 = access }) (record { 0 = 7 }) (Some (record { key = 7; state = state 7 })) 60 false true

-- A marked open is closed: the file takes no further open until its last one is closed. `delete` asks for the right to.
file_goes_with_its_last_open : played setup (
    does 1 1 0 (opens_marked 1 0x10001) ∷ does 1 2 0 (opens 1 0x1 7) ∷ does 1 3 0 (call.Close 1) ∷ does 1 4 0 (opens 1 0x1 7) ∷ does 1 5 0 (call.Close 2) ∷ does 1 6 0 (opens 1 0x1 7)
    ∷ does 1 7 0 (call.Delete 6 true) ∷ []
    ) ≡ printed (
    codes "1.1 open GRANTED" ∷ codes "1.2 open GRANTED" ∷ codes "1.3 close OK" ∷ codes "1.4 open DELETE_PENDING" ∷ codes "1.5 close OK" ∷ codes "1.6 open GRANTED"
    ∷ codes "1.7 delete ACCESS_DENIED" ∷ []
    )
unfolding played
file_goes_with_its_last_open = refl

-- `delete` sets it without a close, and takes it back. A handle that is closed sets nothing.
delete_on_and_off : played setup (
    does 1 1 0 (opens 1 0x10001 7) ∷ does 1 2 0 (call.Delete 1 true) ∷ does 2 1 0 (opens 1 0x1 7) ∷ does 2 2 0 (opens 2 0x1 7) ∷ does 1 3 0 (call.Delete 1 false) ∷ does 2 3 0 (opens 1 0x1 7)
    ∷ does 1 4 0 (call.Close 1) ∷ does 1 5 0 (call.Delete 1 true) ∷ does 1 6 0 (opens 1 0x1 7) ∷ []
    ) ≡ printed (
    codes "1.1 open GRANTED" ∷ codes "1.2 delete OK" ∷ codes "2.1 open DELETE_PENDING" ∷ codes "2.2 open GRANTED" ∷ codes "1.3 delete OK" ∷ codes "2.3 open GRANTED"
    ∷ codes "1.4 close OK" ∷ codes "1.5 delete FILE_CLOSED" ∷ codes "1.6 open GRANTED" ∷ []
    )
unfolding played
delete_on_and_off = refl

-- A worker dies with a marked open: the mark goes with the open, and the file isn't to go.
mark_goes_with_a_death : played setup (
    does 1 1 0 (opens_marked 1 0x10001) ∷ does 2 1 0 (opens 1 0x1 7) ∷ ends 1 0 ∷ does 3 1 0 (opens 1 0x1 7) ∷ []
    ) ≡ printed (
    codes "1.1 open GRANTED" ∷ codes "2.1 open GRANTED" ∷ codes "1 died" ∷ codes "3.1 open GRANTED" ∷ []
    )
unfolding played
mark_goes_with_a_death = refl

-- A worker dies with the last open of a file that is to go: then it isn't any more.
last_open_goes_with_a_death : played setup (
    does 1 1 0 (opens 1 0x10001 7) ∷ does 1 2 0 (call.Delete 1 true) ∷ does 2 1 0 (opens 1 0x1 7) ∷ ends 1 0 ∷ does 2 2 0 (opens 1 0x1 7) ∷ []
    ) ≡ printed (
    codes "1.1 open GRANTED" ∷ codes "1.2 delete OK" ∷ codes "2.1 open DELETE_PENDING" ∷ codes "1 died" ∷ codes "2.2 open GRANTED" ∷ []
    )
unfolding played
last_open_goes_with_a_death = refl

-- A death doesn't take back what another's open keeps.
file_is_to_go_after_a_death : played setup (
    does 1 1 0 (opens 1 0x10001 7) ∷ does 2 1 0 (opens 1 0x1 7) ∷ does 1 2 0 (call.Delete 1 true) ∷ ends 1 0 ∷ does 3 1 0 (opens 1 0x1 7) ∷ does 2 2 0 (call.Close 1) ∷ does 3 2 0 (opens 1 0x1 7) ∷ []
    ) ≡ printed (
    codes "1.1 open GRANTED" ∷ codes "2.1 open GRANTED" ∷ codes "1.2 delete OK" ∷ codes "1 died" ∷ codes "3.1 open DELETE_PENDING" ∷ codes "2.2 close OK" ∷ codes "3.2 open GRANTED" ∷ []
    )
unfolding played
file_is_to_go_after_a_death = refl

-- A durable open keeps its mark over a disconnect: taken up again and closed, it passes to the file.
mark_is_taken_up : played setup (
    does 1 1 0 (opens_durable_marked 1 0x10001) ∷ does 1 2 0 call.Disconnect ∷ does 1 3 0 (call.Reconnect 1 1 7) ∷ does 2 1 0 (opens 1 0x80 7) ∷ does 1 4 0 (call.Close 3) ∷ does 3 1 0 (opens 1 0x80 7) ∷ []
    ) ≡ printed (
    codes "1.1 open GRANTED lease=RWH durable" ∷ codes "1.2 disconnect OK" ∷ codes "1.3 reconnect GRANTED lease=RWH durable" ∷ codes "2.1 open GRANTED" ∷ codes "1.4 close OK"
    ∷ codes "3.1 open DELETE_PENDING" ∷ []
    )
unfolding played
mark_is_taken_up = refl

-- What is scavenged takes its mark with it.
mark_is_scavenged : played setup (
    does 1 1 0 (opens_durable_marked 1 0x10001) ∷ does 2 1 0 (opens 1 0x80 7) ∷ does 1 2 0 call.Disconnect ∷ does 3 1 60 call.Scavenge ∷ does 3 2 60 (opens 1 0x1 7) ∷ []
    ) ≡ printed (
    codes "1.1 open GRANTED lease=RWH durable" ∷ codes "2.1 open GRANTED" ∷ codes "1.2 disconnect OK" ∷ codes "3.1 scavenge SCAVENGED 1" ∷ codes "3.2 open GRANTED" ∷ []
    )
unfolding played
mark_is_scavenged = refl

-- The checks in their order: the right to delete, then a lease of another file, then a file that is to go, then sharing.
checks_in_order : played setup (
    does 1 1 0 (call.OpenFile 2 (record { 0 = 0x1 }) (record { 0 = 7 }) (Some (record { key = 7; state = state 3 })) 0 false false) ∷ does 2 1 0 (opens 1 0x10001 0) ∷ does 2 2 0 (call.Delete 1 true)
    ∷ does 1 2 0 (call.OpenFile 1 (record { 0 = 0x1 }) (record { 0 = 7 }) (Some (record { key = 7; state = state 3 })) 0 false true)
    ∷ does 1 3 0 (call.OpenFile 1 (record { 0 = 0x10001 }) (record { 0 = 7 }) (Some (record { key = 7; state = state 3 })) 0 false true)
    ∷ does 1 4 0 (opens_marked 1 0x10001) ∷ does 2 3 0 (call.Delete 1 false) ∷ does 1 5 0 (opens_marked 1 0x10001) ∷ []
    ) ≡ printed (
    codes "1.1 open GRANTED lease=RH" ∷ codes "2.1 open GRANTED" ∷ codes "2.2 delete OK" ∷ codes "1.2 open ACCESS_DENIED" ∷ codes "1.3 open INVALID_PARAMETER" ∷ codes "1.4 open DELETE_PENDING"
    ∷ codes "2.3 delete OK" ∷ codes "1.5 open SHARING_VIOLATION" ∷ []
    )
unfolding played
checks_in_order = refl
