use Rattle.share_modes.proofs.Once.{met_more}
use Rattle.share_modes.proofs.sharing.add_name.Goals as goal

pub returns-in_ok-push-clause-met : goal.returns-in_ok-push-clause-met
returns-in_ok-push-clause-met c = met_more c.args.name c.args.names.now.items c.push.new.self.items c.args.met.now c.put.new.self c.requires c.in_ok-put.ensures.ok c.in_ok-push.ensures.items
