use Rattle.std.proofs.Common.{ap, sym, ◌∙◌}
use Rattle.std.specs.Prelude.{is_some}
use Rattle.share_modes.specs.Entries.{known}
use Rattle.share_modes.specs.Sharing.{first_refusal}
use Rattle.share_modes.proofs.InTheWay.{first_is, refused_is, breaks_meet, breaks_refuse_not}
use Rattle.share_modes.proofs.sharing.violates.Goals as goal

pub returns-in-Some-clause-refused : goal.returns-in-Some-clause-refused
returns-in-Some-clause-refused c = λ call same.
    let records = known c.args.leases.now c.args.register.now in
    sym (refused_is records call c.args.asked c.args.valid.now same
    ∙ ap (λ held. is_some (first_refusal records c.args.asked held c.args.valid.now)) (sym c.is_own_held-own_held.ensures) ∙ ap is_some (sym c.in-Some.ensures))

pub returns-in-Some-clause-answer : goal.returns-in-Some-clause-answer
returns-in-Some-clause-answer c = λ call same.
    let records = known c.args.leases.now c.args.register.now in
    first_is records call c.args.asked c.args.valid.now same
    ∙ ap (λ held. first_refusal records c.args.asked held c.args.valid.now) (sym c.is_own_held-own_held.ensures) ∙ sym c.in-Some.ensures

pub returns-in-None-clause-refused : goal.returns-in-None-clause-refused
returns-in-None-clause-refused c = λ call same.
    let records = known c.args.leases.now c.args.register.now in
    breaks_refuse_not records call c.args.asked c.args.valid.now same c.breaks.result
    (ap (λ held. first_refusal records c.args.asked held c.args.valid.now) (sym c.is_own_held-own_held.ensures) ∙ sym c.in-None.ensures) c.breaks.ensures

pub returns-in-None-clause-answer : goal.returns-in-None-clause-answer
returns-in-None-clause-answer c = λ call same.
    let records = known c.args.leases.now c.args.register.now in
    breaks_meet records call c.args.asked c.args.valid.now same c.breaks.result
    (ap (λ held. first_refusal records c.args.asked held c.args.valid.now) (sym c.is_own_held-own_held.ensures) ∙ sym c.in-None.ensures) c.breaks.ensures
