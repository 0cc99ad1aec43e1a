use Rattle.std.proofs.Common.{sym, subst}
use Rattle.record_codec.specs.ShareRec.{IsShareRec}
use Rattle.share_modes.proofs.Kept.{with_entry_keeps}
use Rattle.share_modes.proofs.entries.add.Goals as goal

pub returns-clause-sets : goal.returns-clause-sets
returns-clause-sets c = λ sets is few.
    subst (λ entries. IsShareRec (record c.args.rec.now { entries = entries })) (sym c.in_ok-push.ensures.ok) (with_entry_keeps c.args.entry c.args.rec.now sets is few)
