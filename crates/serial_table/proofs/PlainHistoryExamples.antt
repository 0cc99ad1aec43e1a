-- Worked examples: histories of opens without leases, with what they print.
use Rattle.std.specs.Prelude.{◌≡◌, [], ◌∷◌, codes, refl}
use Rattle.sid_core.specs.declared.call.Call.TheVariants as call
use Rattle.serial_table.proofs.Played.{played}
use Rattle.serial_table.proofs.Samples.{setup, opens}
use Rattle.serial_table.proofs.SampleCalls.{does, ends, printed}

-- An open that is closed twice.
open_is_closed_twice : played setup (
    does 1 1 0 (opens 1 0x3 7) ∷ does 1 2 0 (call.Close 1) ∷ does 1 3 0 (call.Close 1) ∷ []
    ) ≡ printed (
    codes "1.1 open GRANTED" ∷ codes "1.2 close OK" ∷ codes "1.3 close FILE_CLOSED" ∷ []
    )
unfolding played
open_is_closed_twice = refl

-- One writes and lets others read. Another that reads has to let it write.
reader_is_hindered : played setup (
    does 1 1 0 (opens 1 0x2 1) ∷ does 2 1 1 (opens 1 0x1 1) ∷ does 2 2 1 (opens 2 0x1 7) ∷ does 1 2 2 (opens 2 0x2 7) ∷ []
    ) ≡ printed (
    codes "1.1 open GRANTED" ∷ codes "2.1 open SHARING_VIOLATION" ∷ codes "2.2 open GRANTED" ∷ codes "1.2 open GRANTED" ∷ []
    )
unfolding played
reader_is_hindered = refl

-- A worker dies in a call that it didn't commit: the call isn't in the history.
worker_dies_before_its_call : played setup (
    ends 1 0 ∷ does 2 1 10 (opens 1 0x3 0) ∷ []
    ) ≡ printed (
    codes "1 died" ∷ codes "2.1 open GRANTED" ∷ []
    )
unfolding played
worker_dies_before_its_call = refl

-- A worker dies after it committed: its open goes with it.
worker_dies_with_its_open : played setup (
    does 1 1 0 (opens 1 0x3 0) ∷ ends 1 0 ∷ does 2 1 10 (opens 1 0x3 0) ∷ []
    ) ≡ printed (
    codes "1.1 open GRANTED" ∷ codes "1 died" ∷ codes "2.1 open GRANTED" ∷ []
    )
unfolding played
worker_dies_with_its_open = refl

-- The same within one phase.
worker_dies_and_another_opens : played setup (
    does 1 1 0 (opens 1 0x3 0) ∷ ends 1 0 ∷ does 2 1 0 (opens 1 0x3 0) ∷ []
    ) ≡ printed (
    codes "1.1 open GRANTED" ∷ codes "1 died" ∷ codes "2.1 open GRANTED" ∷ []
    )
unfolding played
worker_dies_and_another_opens = refl
