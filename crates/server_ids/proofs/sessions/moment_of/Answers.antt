use Rattle.std.proofs.Common.{ap, ◌∙◌}
use Rattle.std.specs.Option.{option_map}
use Rattle.server_ids.proofs.Ends.{end_is}
use Rattle.server_ids.proofs.sessions.moment_of.Goals as goal

pub returns-in-Some : goal.returns-in-Some
returns-in-Some c = ap (option_map (λ m. record { 0 = m })) c.in-Some.ensures ∙ end_is c.args.sid c.args.ended.now

pub returns-in-None : goal.returns-in-None
returns-in-None c = ap (option_map (λ m. record { 0 = m })) c.in-None.ensures ∙ end_is c.args.sid c.args.ended.now
