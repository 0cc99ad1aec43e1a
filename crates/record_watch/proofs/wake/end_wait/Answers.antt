use Rattle.std.proofs.Common.{[], ◌∷◌, sym}
use Rattle.record_rows.specs.Rows.{watch_row}
use Rattle.record_watch.specs.Mails.{without_waits}
use Rattle.record_watch.proofs.Boxes.{on_some_at, changed_at, changed_nowhere, not_its_pid}
use Rattle.record_watch.proofs.wake.end_wait.Goals as goal

pub returns-in-Some : goal.returns-in-Some
returns-in-Some c =
    let f = c.get_mut.follows in
    let w = watch_row c.args.watch.now in
    changed_at (without_waits (w ∷ [])) c.args.mails.now (f.lender c.drop_wait.new.mail) c.args.watch.now.sid.pid c.drop_wait.new.mail c.in-Some.mail.now
    (sym c.in-Some.ensures.value) c.drop_wait.ensures (on_some_at c.get_mut.result _ _ c.in-Some.is (f.holds c.drop_wait.new.mail)) (not_its_pid w)

pub returns-in-None : goal.returns-in-None
returns-in-None c =
    let w = watch_row c.args.watch.now in
    changed_nowhere (without_waits (w ∷ [])) c.args.mails.now c.get_mut.follows.lender-at-none c.args.watch.now.sid.pid
    (sym c.in-None.ensures.value) c.get_mut.follows.holds-at-none (not_its_pid w)
