use Rattle.std.proofs.Common.{sym}
use Rattle.std.proofs.lemmas.Bool.{false_from_ne_true, eqb-true}
use Rattle.record_rows.specs.Rows.{watch_row}
use Rattle.record_watch.proofs.Boxes.{not_its_session}
use Rattle.record_watch.proofs.wake.drop_wait.Goals as goal

pub returns-else-mail-watch : goal.returns-else-mail-watch
returns-else-mail-watch c =
    sym (not_its_session (watch_row c.args.watch.now) c.args.watch.now.sid.pid c.args.mail.now
    (false_from_ne_true _ (λ e. c.if-mail-watch.false (eqb-true _ _ e))))
