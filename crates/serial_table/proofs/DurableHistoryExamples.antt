-- Worked examples: histories of durable opens, with what they print.
use Rattle.std.specs.Prelude.{◌≡◌, true, false, [], ◌∷◌, codes, refl}
use Rattle.sid_core.specs.declared.call.Call.TheVariants as call
use Rattle.sid_core.specs.declared.call.Mode.TheVariants.{Exclusive}
use Rattle.sid_core.specs.declared.setup.Setup.{Setup}
use Rattle.serial_table.proofs.Played.{played}
use Rattle.serial_table.proofs.Samples.{setup, worker_info, opens}
use Rattle.serial_table.proofs.SampleCalls.{does, ends, opens_durable, span, printed}

-- workers 1 and 3 of one client
abbrev one_client : Setup
one_client = record setup { workers = worker_info 101 1 (codes "hostA") ∷ worker_info 102 2 (codes "hostB") ∷ worker_info 103 1 (codes "hostC") ∷ [] }

-- A durable open outlives its worker. An open that doesn't conflict leaves it; one that takes HANDLE removes it.
durable_open_outlives_a_death : played one_client (
    does 1 1 0 (opens_durable 1 0x3 7 7 7 60) ∷ does 2 1 10 (opens 1 0x1 7) ∷ ends 1 20 ∷ does 2 2 30 call.Recv
    ∷ does 2 3 30 (opens 1 0x1 7) ∷ does 2 4 30 (opens 1 0x1 1) ∷ does 3 1 31 (call.Reconnect 1 1 7) ∷ []
    ) ≡ printed (
    codes "1.1 open GRANTED lease=RWH durable" ∷ codes "2.1 open PENDING" ∷ codes "  -> 1 BREAK file=1 key=7 RWH->RH ack"
    ∷ codes "1 died" ∷ codes "  -> 2 WAKE 1" ∷ codes "2.2 recv WAKE 1" ∷ codes "2.3 open GRANTED" ∷ codes "2.4 open GRANTED"
    ∷ codes "3.1 reconnect OBJECT_NAME_NOT_FOUND" ∷ []
    )
unfolding played
durable_open_outlives_a_death = refl

-- An open is taken up again before its deadline, under its lease, once. At the deadline it is too late.
durable_open_is_taken_up : played setup (
    does 1 1 0 (opens_durable 1 0x3 7 7 7 60) ∷ does 1 2 100 call.Disconnect ∷ does 1 3 159 (call.Reconnect 1 1 8)
    ∷ does 1 4 159 (call.Reconnect 1 1 7) ∷ does 1 5 159 (call.Reconnect 1 1 7) ∷ does 1 6 159 (call.Read 4 (span 0 1))
    ∷ does 1 7 200 call.Disconnect ∷ does 1 8 260 (call.Reconnect 1 1 7) ∷ []
    ) ≡ printed (
    codes "1.1 open GRANTED lease=RWH durable" ∷ codes "1.2 disconnect OK" ∷ codes "1.3 reconnect OBJECT_NAME_NOT_FOUND"
    ∷ codes "1.4 reconnect GRANTED lease=RWH durable" ∷ codes "1.5 reconnect OBJECT_NAME_NOT_FOUND" ∷ codes "1.6 read OK"
    ∷ codes "1.7 disconnect OK" ∷ codes "1.8 reconnect OBJECT_NAME_NOT_FOUND" ∷ []
    )
unfolding played
durable_open_is_taken_up = refl

-- The range of a disconnected open stays in the way until the open is scavenged, which wakes who waits for it.
scavenging_frees_ranges : played setup (
    does 1 1 0 (opens_durable 1 0x3 7 7 7 60) ∷ does 1 2 0 (call.Lock 1 (span 0 10) Exclusive false) ∷ does 1 3 0 call.Disconnect
    ∷ does 2 1 10 (opens 1 0x3 7) ∷ does 2 2 10 (call.Lock 1 (span 5 1) Exclusive false)
    ∷ does 2 3 10 (call.Lock 1 (span 5 1) Exclusive true) ∷ does 2 4 60 call.Scavenge ∷ does 2 5 60 call.Recv
    ∷ does 2 6 60 (call.Lock 1 (span 5 1) Exclusive true) ∷ []
    ) ≡ printed (
    codes "1.1 open GRANTED lease=RWH durable" ∷ codes "1.2 lock GRANTED" ∷ codes "1.3 disconnect OK" ∷ codes "2.1 open GRANTED"
    ∷ codes "2.2 lock LOCK_NOT_GRANTED" ∷ codes "2.3 lock PENDING" ∷ codes "2.4 scavenge SCAVENGED 1" ∷ codes "  -> 2 WAKE 3"
    ∷ codes "2.5 recv WAKE 3" ∷ codes "2.6 lock GRANTED" ∷ []
    )
unfolding played
scavenging_frees_ranges = refl
