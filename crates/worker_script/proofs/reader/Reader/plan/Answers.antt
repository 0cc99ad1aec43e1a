use Rattle.std.proofs.Common.{◌∙◌, refl}
use Rattle.worker_script.specs.declared.script.Planned.{Planned}
use Rattle.worker_script.proofs.Planning.{plan-reader}
use Rattle.worker_script.proofs.reader.Reader.plan.Goals as goal

pub returns : goal.returns
returns c =
    let planned : Planned = record { worker = c.args.worker; number = c.next_number-number.result; call = c.args.call; stop = c.args.stop } in (
      rw (c.in_ok-push_planned.ensures, c.next_number-number.ensures) refl,
      plan-reader c.args.self.now _ planned c.requires.reader c.requires.phase c.requires.room c.requires.some c.requires.declared
          refl refl refl refl c.in_ok-push_planned.ensures refl
          (rw (c.count_of.ensures, c.is_status_call.ensures) refl)
          (c.set_tally.ensures ∙ rw (c.next_number-number.ensures, c.stops-stopped.ensures, c.has_stopped.ensures) refl),
    )
