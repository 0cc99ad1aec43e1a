-- What the rule of the seven databases owes.
use Rattle.sid_core.specs.declared.setup.Setup.{Setup}
use Rattle.turn_types.specs.Journal.{Lawful, Single}
use Rattle.records_replay.specs.Rule.{IsFirst, step, IsLegalStep, names, Follows}
use Rattle.records_replay.proofs.Lawful as rule

pub lawful : (setup : Setup) → Lawful (IsFirst setup) (step setup) (IsLegalStep setup) (names setup) Follows
lawful = rule.lawful

pub single : (setup : Setup) → Single (IsFirst setup) (IsLegalStep setup) Follows
single = rule.single
