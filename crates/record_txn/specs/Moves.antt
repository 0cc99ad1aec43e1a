-- What a pass shows once it has stored all that was due, or has given all back.
use Rattle.std.specs.Prelude.{◌≡◌, [], ◌∷◌}
use Rattle.turn_types.specs.Shown.{Shown, Numbered, Nothing, Committed, due, hold}

-- chains with each of some changes in its place
abbrev pub changed : Numbered → Numbered → Numbered
changed [] held = held
changed (x ∷ changes) held = hold x.0 x.1 (changed changes held)

abbrev pub HasGivenAll : {R : Type 0} → Shown R → Shown R → Type 0
HasGivenAll v w = w ≡ record v { held = []; plan = Nothing; looked = w.looked; done = w.done }

abbrev pub HasStoredAll : {R : Type 0} → Shown R → Shown R → Type 0
HasStoredAll v w = w ≡ record v { held = changed (due v.plan) v.held; plan = Committed []; looked = w.looked; done = w.done }
