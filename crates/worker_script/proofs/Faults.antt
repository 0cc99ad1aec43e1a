-- Where a line has none of the faults, none is told, and where none is told, it has none.
use Rattle.std.proofs.Common.{◌≡◌, Bool, true, false, cond, List, [], ◌∷◌, Option, Some, None, refl}
use Rattle.std.specs.List.{AllByRecursion}
use Rattle.worker_script.specs.declared.reason.Reason.{Reason}
use Rattle.worker_script.specs.Lines.{first_fault}

abbrev pub HasNone : List (Reason × Bool) → Type 0
HasNone faults = AllByRecursion (λ fault. fault.1 ≡ false) faults

told-step : (reason : Reason) (others : Option Reason) (has : Bool) → has ≡ false → others ≡ None → cond has (Some reason) others ≡ None
told-step reason others true e none = cc
told-step reason others false e none = none

pub none-told : (faults : List (Reason × Bool)) → HasNone faults → first_fault faults ≡ None
none-told [] all = refl
none-told (fault ∷ faults) all = told-step fault.0 (first_fault faults) fault.1 all.0 (none-told faults all.1)

there-step : (reason : Reason) (others : Option Reason) (has : Bool) → cond has (Some reason) others ≡ None → (has ≡ false) × (others ≡ None)
there-step reason others true e = cc
there-step reason others false e = (refl, e)

pub none-there : (faults : List (Reason × Bool)) → first_fault faults ≡ None → HasNone faults
none-there [] e = tt
none-there (fault ∷ faults) e =
    let both = there-step fault.0 (first_fault faults) fault.1 e in (both.0, none-there faults both.1)
