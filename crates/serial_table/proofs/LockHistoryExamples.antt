-- Worked examples: histories of byte-range locks and of global locks, with what they print.
use Rattle.std.specs.Prelude.{◌≡◌, true, false, [], ◌∷◌, codes, refl}
use Rattle.sid_core.specs.declared.call.Call.TheVariants as call
use Rattle.sid_core.specs.declared.call.Mode.TheVariants.{Shared, Exclusive}
use Rattle.serial_table.proofs.Played.{played}
use Rattle.serial_table.proofs.Samples.{setup, opens}
use Rattle.serial_table.proofs.SampleCalls.{does, opens_leased, span, printed}

-- Ranges up to the last byte, and ranges of length 0 at the edges of one and inside it.
ranges_at_their_ends : played setup (
    does 1 1 0 (opens 1 0x3 7) ∷ does 1 2 0 (opens 1 0x3 7)
    ∷ does 1 3 0 (call.Lock 1 (span 18446744073709551615 1) Exclusive false)
    ∷ does 1 4 0 (call.Lock 1 (span 18446744073709551615 2) Exclusive false)
    ∷ does 1 5 0 (call.Lock 1 (span 10 10) Exclusive false) ∷ does 1 6 0 (call.Lock 2 (span 10 0) Exclusive false)
    ∷ does 1 7 0 (call.Lock 2 (span 15 0) Exclusive false) ∷ does 1 8 0 (call.Lock 2 (span 20 0) Exclusive false) ∷ []
    ) ≡ printed (
    codes "1.1 open GRANTED" ∷ codes "1.2 open GRANTED" ∷ codes "1.3 lock GRANTED" ∷ codes "1.4 lock INVALID_LOCK_RANGE"
    ∷ codes "1.5 lock GRANTED" ∷ codes "1.6 lock GRANTED" ∷ codes "1.7 lock LOCK_NOT_GRANTED" ∷ codes "1.8 lock GRANTED" ∷ []
    )
unfolding played
ranges_at_their_ends = refl

-- Of two that share a global lock, the second that waits to hold it alone is refused. Once it gives the lock up, the first gets it.
one_upgrade_at_a_time : played setup (
    does 1 1 0 (call.GLock 9 Shared false) ∷ does 2 1 1 (call.GLock 9 Shared false) ∷ does 1 2 2 (call.GLock 9 Exclusive true)
    ∷ does 2 2 3 (call.GLock 9 Exclusive true) ∷ does 2 3 3 (call.GUnlock 9) ∷ does 2 4 3 (call.GUnlock 9) ∷ does 1 3 4 call.Recv
    ∷ does 1 4 4 (call.GLock 9 Exclusive true) ∷ []
    ) ≡ printed (
    codes "1.1 glock GRANTED" ∷ codes "2.1 glock GRANTED" ∷ codes "1.2 glock PENDING" ∷ codes "2.2 glock POSSIBLE_DEADLOCK"
    ∷ codes "2.3 gunlock OK" ∷ codes "  -> 1 WAKE 2" ∷ codes "2.4 gunlock OBJECT_NAME_NOT_FOUND" ∷ codes "1.3 recv WAKE 2"
    ∷ codes "1.4 glock GRANTED" ∷ []
    )
unfolding played
one_upgrade_at_a_time = refl

-- A hold that is lowered wakes who waits for the lock.
lowering_wakes : played setup (
    does 1 1 0 (call.GLock 9 Exclusive false) ∷ does 2 1 1 (call.GLock 9 Shared true) ∷ does 1 2 2 (call.GLock 9 Shared false)
    ∷ does 2 2 3 call.Recv ∷ does 2 3 3 (call.GLock 9 Shared true) ∷ []
    ) ≡ printed (
    codes "1.1 glock GRANTED" ∷ codes "2.1 glock PENDING" ∷ codes "1.2 glock GRANTED" ∷ codes "  -> 2 WAKE 1"
    ∷ codes "2.2 recv WAKE 1" ∷ codes "2.3 glock GRANTED" ∷ []
    )
unfolding played
lowering_wakes = refl

-- A write takes R from another lease, once. It conflicts with a shared range.
write_breaks_read_caching : played setup (
    does 1 1 0 (opens_leased 1 0x1 7 7 1) ∷ does 2 1 1 (opens 1 0x2 7) ∷ does 2 2 1 (call.Write 1 (span 0 4))
    ∷ does 2 3 1 (call.Write 1 (span 0 4)) ∷ does 2 4 1 (call.Read 1 (span 0 4))
    ∷ does 1 2 2 (call.Lock 1 (span 0 10) Shared false) ∷ does 2 5 3 (call.Write 1 (span 5 1))
    ∷ does 1 3 4 (call.Unlock 1 (span 0 10)) ∷ does 1 4 4 (call.Unlock 1 (span 0 10)) ∷ does 1 5 4 call.Recv
    ∷ does 1 6 4 call.Recv ∷ []
    ) ≡ printed (
    codes "1.1 open GRANTED lease=R" ∷ codes "2.1 open GRANTED" ∷ codes "2.2 write OK" ∷ codes "  -> 1 BREAK file=1 key=7 R->-"
    ∷ codes "2.3 write OK" ∷ codes "2.4 read ACCESS_DENIED" ∷ codes "1.2 lock GRANTED" ∷ codes "2.5 write FILE_LOCK_CONFLICT"
    ∷ codes "1.3 unlock OK" ∷ codes "1.4 unlock RANGE_NOT_LOCKED" ∷ codes "1.5 recv BREAK file=1 key=7 R->-"
    ∷ codes "1.6 recv EMPTY" ∷ []
    )
unfolding played
write_breaks_read_caching = refl
