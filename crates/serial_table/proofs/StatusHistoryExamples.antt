-- Worked examples: histories with status calls, with what they print.
use Rattle.std.specs.Prelude.{◌≡◌, true, false, [], ◌∷◌, codes, refl}
use Rattle.sid_core.specs.declared.call.Call.TheVariants as call
use Rattle.serial_table.proofs.Played.{played}
use Rattle.serial_table.proofs.Samples.{setup, opens}
use Rattle.serial_table.proofs.SampleCalls.{does, ends, shows, printed}

-- A dead worker's open isn't shown, before a tidying and after it.
the_dead_are_not_shown : played setup (
    does 1 1 0 (opens 1 0x3 7) ∷ ends 1 0 ∷ does 2 1 1 (shows false true false) ∷ does 2 2 1 call.Tidy
    ∷ does 2 3 1 (shows false true false) ∷ []
    ) ≡ printed (
    codes "1.1 open GRANTED" ∷ codes "1 died" ∷ codes "2.1 status SHOWN" ∷ codes "No locked files" ∷ [] ∷ codes "2.2 tidy OK"
    ∷ codes "2.3 status SHOWN" ∷ codes "No locked files" ∷ [] ∷ []
    )
unfolding played
the_dead_are_not_shown = refl
