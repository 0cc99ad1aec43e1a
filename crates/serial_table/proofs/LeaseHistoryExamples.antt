-- Worked examples: histories with leases and their breaks, with what they print.
use Rattle.std.specs.Prelude.{◌≡◌, [], ◌∷◌, codes, refl}
use Rattle.sid_core.specs.declared.call.Call.TheVariants as call
use Rattle.sid_core.specs.declared.setup.Setup.{Setup}
use Rattle.serial_table.proofs.Played.{played}
use Rattle.serial_table.proofs.Samples.{setup, worker_info, state, opens}
use Rattle.serial_table.proofs.SampleCalls.{does, ends, opens_leased, overwrites, printed}

-- An open that only reads attributes and waits stands beside any other, and breaks nothing.
attributes_break_nothing : played setup (
    does 1 1 0 (opens_leased 1 0x3 0 7 7) ∷ does 2 1 1 (opens 1 0x100080 0) ∷ []
    ) ≡ printed (
    codes "1.1 open GRANTED lease=RWH" ∷ codes "2.1 open GRANTED" ∷ []
    )
unfolding played
attributes_break_nothing = refl

-- A lease that is asked with much access, beside which attributes are read.
lease_is_granted_to_all_access : played setup (
    does 1 1 0 (opens_leased 1 0x12019F 0 7 7) ∷ does 2 1 1 (opens 1 0x100080 0) ∷ []
    ) ≡ printed (
    codes "1.1 open GRANTED lease=RWH" ∷ codes "2.1 open GRANTED" ∷ []
    )
unfolding played
lease_is_granted_to_all_access = refl

-- A break delays an open until it is acknowledged. The death that follows wakes nobody again.
break_delays_an_open : played setup (
    does 1 1 0 (opens_leased 1 0x3 7 7 7) ∷ does 2 1 1 (opens 1 0x1 7) ∷ does 1 2 2 call.Recv ∷ does 1 3 2 (call.Ack 7 (state 3))
    ∷ does 2 2 3 call.Recv ∷ does 2 3 3 (opens 1 0x1 7) ∷ ends 1 4 ∷ []
    ) ≡ printed (
    codes "1.1 open GRANTED lease=RWH" ∷ codes "2.1 open PENDING" ∷ codes "  -> 1 BREAK file=1 key=7 RWH->RH ack"
    ∷ codes "1.2 recv BREAK file=1 key=7 RWH->RH ack" ∷ codes "1.3 ack OK" ∷ codes "  -> 2 WAKE 1" ∷ codes "2.2 recv WAKE 1"
    ∷ codes "2.3 open GRANTED" ∷ codes "1 died" ∷ []
    )
unfolding played
break_delays_an_open = refl

-- What an acknowledgement answers: more than was asked for, what was asked for, a lease that isn't breaking, and none.
acknowledgements_are_refused : played setup (
    does 1 1 0 (opens_leased 1 0x3 7 7 7) ∷ does 2 1 1 (opens 1 0x1 7) ∷ does 1 2 2 (call.Ack 7 (state 7))
    ∷ does 1 3 2 (call.Ack 7 (state 3)) ∷ does 1 4 2 (call.Ack 7 (state 3)) ∷ does 1 5 2 (call.Ack 8 (state 1)) ∷ []
    ) ≡ printed (
    codes "1.1 open GRANTED lease=RWH" ∷ codes "2.1 open PENDING" ∷ codes "  -> 1 BREAK file=1 key=7 RWH->RH ack"
    ∷ codes "1.2 ack REQUEST_NOT_ACCEPTED" ∷ codes "1.3 ack OK" ∷ codes "  -> 2 WAKE 1" ∷ codes "1.4 ack UNSUCCESSFUL"
    ∷ codes "1.5 ack OBJECT_NAME_NOT_FOUND" ∷ []
    )
unfolding played
acknowledgements_are_refused = refl

-- While a lease breaks, another open needs more to go. Once the first break is acknowledged, the second begins, and both are woken.
second_break_follows_the_first : played setup (
    does 1 1 0 (opens_leased 1 0x3 7 7 7) ∷ does 2 1 1 (opens 1 0x1 7) ∷ does 3 1 2 (overwrites 1 0x2 7)
    ∷ does 1 2 3 (call.Ack 7 (state 3)) ∷ does 2 2 4 (opens 1 0x1 7) ∷ does 3 2 5 (overwrites 1 0x2 7)
    ∷ does 1 3 6 (call.Ack 7 (state 0)) ∷ []
    ) ≡ printed (
    codes "1.1 open GRANTED lease=RWH" ∷ codes "2.1 open PENDING" ∷ codes "  -> 1 BREAK file=1 key=7 RWH->RH ack"
    ∷ codes "3.1 open PENDING" ∷ codes "1.2 ack OK" ∷ codes "  -> 1 BREAK file=1 key=7 RH->- ack" ∷ codes "  -> 2 WAKE 1"
    ∷ codes "  -> 3 WAKE 1" ∷ codes "2.2 open GRANTED" ∷ codes "3.2 open PENDING" ∷ codes "1.3 ack OK" ∷ codes "  -> 3 WAKE 2"
    ∷ []
    )
unfolding played
second_break_follows_the_first = refl

-- workers 1 and 2 of one client
abbrev one_client : Setup
one_client = record setup { workers = worker_info 101 1 (codes "hostA") ∷ worker_info 102 1 (codes "hostB") ∷ worker_info 103 3 (codes "hostC") ∷ [] }

-- A lease is of one file, until the last open under it is gone.
lease_is_of_one_file : played one_client (
    does 1 1 0 (opens_leased 1 0x1 7 7 3) ∷ does 2 1 1 (opens_leased 2 0x1 7 7 3) ∷ ends 1 2
    ∷ does 2 2 3 (opens_leased 2 0x1 7 7 3) ∷ []
    ) ≡ printed (
    codes "1.1 open GRANTED lease=RH" ∷ codes "2.1 open INVALID_PARAMETER" ∷ codes "1 died" ∷ codes "2.2 open GRANTED lease=RH"
    ∷ []
    )
unfolding played
lease_is_of_one_file = refl

-- The death of the one who has to acknowledge wakes who waits behind it.
death_ends_a_break : played setup (
    does 1 1 0 (opens_leased 1 0x3 7 7 7) ∷ does 2 1 1 (opens 1 0x1 7) ∷ ends 1 2 ∷ does 2 2 3 call.Recv
    ∷ does 2 3 3 (opens 1 0x1 7) ∷ []
    ) ≡ printed (
    codes "1.1 open GRANTED lease=RWH" ∷ codes "2.1 open PENDING" ∷ codes "  -> 1 BREAK file=1 key=7 RWH->RH ack" ∷ codes "1 died"
    ∷ codes "  -> 2 WAKE 1" ∷ codes "2.2 recv WAKE 1" ∷ codes "2.3 open GRANTED" ∷ []
    )
unfolding played
death_ends_a_break = refl
