-- Worked examples: histories in which breaks expire, with what they print.
use Rattle.std.specs.Prelude.{◌≡◌, true, [], ◌∷◌, Some, codes, refl}
use Rattle.sid_core.specs.declared.call.Call.TheVariants as call
use Rattle.sid_core.specs.declared.call.Mode.TheVariants.{Exclusive}
use Rattle.serial_table.proofs.Played.{played, leases_after}
use Rattle.serial_table.proofs.Samples.{setup, worker_info, name, at, state, lease, opens}
use Rattle.serial_table.proofs.SampleCalls.{does, opens_leased, opens_durable, overwrites, span, shows, printed}

-- A second conflict keeps the moment of the break: 35 seconds after the first, the open is granted. Nobody is woken, and there is nothing
-- left to acknowledge.
expired_break : played setup (
    does 1 1 0 (opens_leased 1 0x3 7 7 7) ∷ does 2 1 1 (opens 1 0x1 7) ∷ does 2 2 35 (opens 1 0x1 7) ∷ does 2 3 36 (opens 1 0x1 7)
    ∷ does 2 4 36 call.Recv ∷ does 1 2 37 (call.Ack 7 (state 3)) ∷ []
    ) ≡ printed (
    codes "1.1 open GRANTED lease=RWH" ∷ codes "2.1 open PENDING" ∷ codes "  -> 1 BREAK file=1 key=7 RWH->RH ack"
    ∷ codes "2.2 open PENDING" ∷ codes "2.3 open GRANTED" ∷ codes "2.4 recv EMPTY" ∷ codes "1.2 ack UNSUCCESSFUL" ∷ []
    )
unfolding played
expired_break = refl

-- Until then it can be acknowledged.
last_second_to_acknowledge : played setup (
    does 1 1 0 (opens_leased 1 0x3 7 7 7) ∷ does 2 1 1 (opens 1 0x1 7) ∷ does 1 2 35 (call.Ack 7 (state 3)) ∷ []
    ) ≡ printed (
    codes "1.1 open GRANTED lease=RWH" ∷ codes "2.1 open PENDING" ∷ codes "  -> 1 BREAK file=1 key=7 RWH->RH ack"
    ∷ codes "1.2 ack OK" ∷ codes "  -> 2 WAKE 1" ∷ []
    )
unfolding played
last_second_to_acknowledge = refl

too_late_to_acknowledge : played setup (
    does 1 1 0 (opens_leased 1 0x3 7 7 7) ∷ does 2 1 1 (opens 1 0x1 7) ∷ does 1 2 36 (call.Ack 7 (state 3)) ∷ []
    ) ≡ printed (
    codes "1.1 open GRANTED lease=RWH" ∷ codes "2.1 open PENDING" ∷ codes "  -> 1 BREAK file=1 key=7 RWH->RH ack"
    ∷ codes "1.2 ack UNSUCCESSFUL" ∷ []
    )
unfolding played
too_late_to_acknowledge = refl

-- The lease then holds what is needed, which may be less than what was asked for.
what_is_needed_is_held : played setup (
    does 1 1 0 (opens_leased 1 0x3 7 7 7) ∷ does 2 1 1 (opens 1 0x1 7) ∷ does 3 1 2 (overwrites 1 0x2 7) ∷ does 3 2 36 (overwrites 1 0x2 7) ∷ []
    ) ≡ printed (
    codes "1.1 open GRANTED lease=RWH" ∷ codes "2.1 open PENDING" ∷ codes "  -> 1 BREAK file=1 key=7 RWH->RH ack"
    ∷ codes "3.1 open PENDING" ∷ codes "3.2 open GRANTED" ∷ []
    )
unfolding played
what_is_needed_is_held = refl

-- A break that an acknowledgement makes anew lasts 35 seconds from there on.
acknowledgement_begins_anew : played setup (
    does 1 1 0 (opens_leased 1 0x3 7 7 7) ∷ does 2 1 1 (opens 1 0x1 7) ∷ does 3 1 2 (overwrites 1 0x2 7)
    ∷ does 1 2 10 (call.Ack 7 (state 3)) ∷ does 3 2 44 (overwrites 1 0x2 7) ∷ does 3 3 45 (overwrites 1 0x2 7) ∷ []
    ) ≡ printed (
    codes "1.1 open GRANTED lease=RWH" ∷ codes "2.1 open PENDING" ∷ codes "  -> 1 BREAK file=1 key=7 RWH->RH ack"
    ∷ codes "3.1 open PENDING" ∷ codes "1.2 ack OK" ∷ codes "  -> 1 BREAK file=1 key=7 RH->- ack" ∷ codes "  -> 2 WAKE 1"
    ∷ codes "  -> 3 WAKE 1" ∷ codes "3.2 open PENDING" ∷ codes "3.3 open GRANTED" ∷ []
    )
unfolding played
acknowledgement_begins_anew = refl

-- It expires before an open that is refused: the lease no longer holds HANDLE, so the open doesn't wait. Who waits isn't woken.
expired_before_a_refusal : played setup (
    does 1 1 0 (opens_leased 1 0x3 7 7 7) ∷ does 2 1 1 (opens 1 0x1 0) ∷ does 3 1 36 (opens 1 0x1 0) ∷ does 2 2 36 call.Recv ∷ []
    ) ≡ printed (
    codes "1.1 open GRANTED lease=RWH" ∷ codes "2.1 open PENDING" ∷ codes "  -> 1 BREAK file=1 key=7 RWH->RW ack"
    ∷ codes "3.1 open SHARING_VIOLATION" ∷ codes "2.2 recv EMPTY" ∷ []
    )
unfolding played
expired_before_a_refusal = refl

-- a lease with two opens, of which one is closed at this moment
expired_before_close : leases_after setup (
    does 1 1 0 (opens_leased 1 0x3 7 7 7) ∷ does 1 2 0 (opens_leased 1 0x1 7 7 7) ∷ does 2 1 1 (opens 1 0x1 7)
    ∷ does 1 3 36 (call.Close 2) ∷ []
    ) ≡ lease (name 1 7) 1 3 ∷ []
unfolding leases_after
expired_before_close = refl

-- and by a lock of its own open, which breaks nothing of its own lease
expired_before_lock : leases_after setup (
    does 1 1 0 (opens_leased 1 0x3 7 7 7) ∷ does 2 1 1 (opens 1 0x1 7) ∷ does 1 2 36 (call.Lock 1 (span 0 10) Exclusive true) ∷ []
    ) ≡ lease (name 1 7) 1 3 ∷ []
unfolding leases_after
expired_before_lock = refl

-- Neither `recv` nor `status` looks at leases.
recv_and_status_look_at_none : leases_after setup (
    does 1 1 0 (opens_leased 1 0x3 7 7 7) ∷ does 2 1 1 (opens 1 0x1 7) ∷ does 1 2 40 call.Recv ∷ does 1 3 40 (shows true true true) ∷ []
    ) ≡ (record (lease (name 1 7) 1 7) { breaking = Some (record { asked = state 3; needed = state 3; until = at 36 }) }) ∷ []
unfolding leases_after
recv_and_status_look_at_none = refl

-- One that holds HANDLE no longer loses its disconnected opens, before `scavenge` counts those whose deadline has come. Who waits for the
-- file isn't woken.
expired_before_scavenge : played setup (
    does 1 1 0 (opens_durable 1 0x1 7 7 7 60) ∷ does 1 2 1 call.Disconnect ∷ does 1 3 2 (opens_leased 1 0x1 7 7 7)
    ∷ does 2 1 3 (opens 1 0x1 0) ∷ does 3 1 70 call.Scavenge ∷ does 2 2 70 call.Recv ∷ []
    ) ≡ printed (
    codes "1.1 open GRANTED lease=RWH durable" ∷ codes "1.2 disconnect OK" ∷ codes "1.3 open GRANTED lease=RWH"
    ∷ codes "2.1 open PENDING" ∷ codes "  -> 1 BREAK file=1 key=7 RWH->RW ack" ∷ codes "3.1 scavenge SCAVENGED 0"
    ∷ codes "2.2 recv EMPTY" ∷ []
    )
unfolding played
expired_before_scavenge = refl

-- An open of attributes is granted behind what expires. Who waits for the file isn't woken, though an open went when the lease lost HANDLE.
expiry_wakes_nobody : played setup (
    does 1 1 0 (opens_durable 1 0x1 7 7 7 60) ∷ does 1 2 1 call.Disconnect ∷ does 1 3 2 (opens_leased 1 0x1 7 7 7)
    ∷ does 2 1 3 (opens 1 0x1 0) ∷ does 3 1 38 (opens 1 0x100080 7) ∷ does 2 2 38 call.Recv ∷ []
    ) ≡ printed (
    codes "1.1 open GRANTED lease=RWH durable" ∷ codes "1.2 disconnect OK" ∷ codes "1.3 open GRANTED lease=RWH"
    ∷ codes "2.1 open PENDING" ∷ codes "  -> 1 BREAK file=1 key=7 RWH->RW ack" ∷ codes "3.1 open GRANTED"
    ∷ codes "2.2 recv EMPTY" ∷ []
    )
unfolding played
expiry_wakes_nobody = refl

-- It expires before `reconnect`, which then finds none.
expired_before_reconnect : played setup (
    does 1 1 0 (opens_durable 1 0x1 7 7 7 60) ∷ does 1 2 1 call.Disconnect ∷ does 1 3 2 (opens_leased 1 0x1 7 7 7)
    ∷ does 2 1 3 (opens 1 0x1 0) ∷ does 1 4 38 (call.Reconnect 1 1 7) ∷ []
    ) ≡ printed (
    codes "1.1 open GRANTED lease=RWH durable" ∷ codes "1.2 disconnect OK" ∷ codes "1.3 open GRANTED lease=RWH"
    ∷ codes "2.1 open PENDING" ∷ codes "  -> 1 BREAK file=1 key=7 RWH->RW ack" ∷ codes "1.4 reconnect OBJECT_NAME_NOT_FOUND" ∷ []
    )
unfolding played
expired_before_reconnect = refl

reconnected_before : played setup (
    does 1 1 0 (opens_durable 1 0x1 7 7 7 60) ∷ does 1 2 1 call.Disconnect ∷ does 1 3 2 (opens_leased 1 0x1 7 7 7)
    ∷ does 2 1 3 (opens 1 0x1 0) ∷ does 1 4 37 (call.Reconnect 1 1 7) ∷ []
    ) ≡ printed (
    codes "1.1 open GRANTED lease=RWH durable" ∷ codes "1.2 disconnect OK" ∷ codes "1.3 open GRANTED lease=RWH"
    ∷ codes "2.1 open PENDING" ∷ codes "  -> 1 BREAK file=1 key=7 RWH->RW ack" ∷ codes "1.4 reconnect GRANTED lease=RWH durable" ∷ []
    )
unfolding played
reconnected_before = refl

-- An open also looks at the lease that it asks for where that is of another file, and is refused for it.
expired_lease_of_another_file : leases_after (record setup { workers = worker_info 101 1 (codes "hostA") ∷ worker_info 102 1 (codes "hostB") ∷ worker_info 103 3 (codes "hostC") ∷ [] }) (
    does 1 1 0 (opens_leased 1 0x3 7 7 7) ∷ does 3 1 1 (opens 1 0x1 7) ∷ does 2 1 36 (opens_leased 2 0x1 7 7 1) ∷ []
    ) ≡ lease (name 1 7) 1 3 ∷ []
unfolding leases_after
expired_lease_of_another_file = refl
