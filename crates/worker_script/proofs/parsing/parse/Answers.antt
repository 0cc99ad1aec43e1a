use Rattle.worker_script.specs.Reader.{draft_of}
use Rattle.std.proofs.Common.{arith}
use Rattle.std.proofs.lemmas.Bool.Decides.{nat_tests}
use Rattle.worker_script.proofs.SoundText.{end-sound}
use Rattle.worker_script.proofs.Front.{bad-told}
use Rattle.worker_script.proofs.parsing.parse.Goals as goal

pub returns-in_default : goal.returns-in_default
returns-in_default c = record {
  found = tt;
  bad = bad-told c.args.bytes.now c.loop-rest.rest.now c.loop-rest.number (draft_of c.loop-rest.reader) c.in_default.ensures c.loop-rest.invariant.answer;
  sound = tt;
}

pub returns-clause-sound : goal.returns-clause-sound
returns-clause-sound c =
    end-sound c.args.bytes.now c.loop-rest.rest.now c.loop-rest.number (draft_of c.loop-rest.reader) c.in_ok-into_script.field-0
    (grind (arith, nat_tests)) c.loop-rest.invariant.answer c.in_ok-into_script.ensures
