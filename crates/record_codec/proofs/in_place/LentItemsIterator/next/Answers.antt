use Rattle.std.proofs.Common.{◌<◌, List, length, refl, sym, ap, arith, ◌∙◌}
use Rattle.record_codec.proofs.InPlace.{item_first, none_left, fault_next}
use Rattle.record_codec.proofs.in_place.LentItemsIterator.next.Goals as goal

pub returns-then-self-eq0-clause-steps : goal.returns-then-self-eq0-clause-steps
returns-then-self-eq0-clause-steps g c =
    let none = none_left g.R.Row.codec.read c.self.inside.left c.self.inside.bytes.now c.if-self-eq0.true in
    (sym c.self.view_is ∙ none, sym c.self.view_is ∙ none)

pub returns-in-Ok-clause-steps : goal.returns-in-Ok-clause-steps
returns-in-Ok-clause-steps g c =
    let some : 0 < c.self.inside.left = omega arith in
    sym c.self.view_is ∙ item_first g.R.Row.codec.read c.self.inside.left c.self.inside.bytes.now _ _ some c.in-Ok.ensures

pub returns-in-Ok-clause-goes : goal.returns-in-Ok-clause-goes
returns-in-Ok-clause-goes g c =
    let fewer = ap (λ (xs : List g.row.T.Denot). length xs) (returns-in-Ok-clause-steps g c) in
    record { on = λ _. (tt, tt, omega (arith, fewer)); keeps = tt; rests = λ _. tt }

pub returns-in-Err-clause-steps : goal.returns-in-Err-clause-steps
returns-in-Err-clause-steps g c =
    let none = none_left g.R.Row.codec.read 0 c.self.inside.bytes.now refl in
    (sym c.self.view_is ∙ fault_next g.R.Row.codec.read c.self.inside.left c.self.inside.bytes.now _ c.in-Err.ensures, none)
