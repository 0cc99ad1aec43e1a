use Rattle.std.proofs.Common.{sym}
use Rattle.record_watch.specs.Mails.{with_letter}
use Rattle.record_watch.proofs.Boxes.{on_ok_then, on_some_at, changed_at, not_to}
use Rattle.record_watch.proofs.mails.post.Goals as goal

pub returns-in-Some : goal.returns-in-Some
returns-in-Some c =
    let f = c.get_mut.follows in
    on_ok_then c.add_letter.result _ _
    (λ is. changed_at (with_letter c.args.post) c.args.mails.now (f.lender c.add_letter.new.mail) c.args.post.to.pid c.add_letter.new.mail c.in-Some.mail.now
    (sym c.in-Some.ensures.value) is (on_some_at c.get_mut.result _ _ c.in-Some.is (f.holds c.add_letter.new.mail)) (not_to c.args.post))
    c.add_letter.ensures
