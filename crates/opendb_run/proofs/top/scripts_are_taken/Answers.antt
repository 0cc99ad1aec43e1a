use Rattle.opendb_run.proofs.Living.{script_taken}
use Rattle.opendb_run.proofs.top.scripts_are_taken.Goals as goal

pub returns : goal.returns
returns c = λ script is.
    let stay = c.the_living_stay.ensures in
    let rises = c.sessions_rise_by_one.ensures in
    script_taken script is c.the_living_call.ensures stay.start stay.call stay.death rises.start rises.event rises.caller
