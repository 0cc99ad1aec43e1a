use Rattle.std.proofs.Common.{◌≡◌, filter, map, OnOk, ap, subst, ◌∙◌}
use Rattle.record_codec.specs.Counts.{register_watch_counts}
use Rattle.record_rows.specs.Rows.{watch_row}
use Rattle.record_watch.specs.Watches.{mailed}
use Rattle.record_watch.specs.Mails.{without_waits, ChangesEach}
use Rattle.record_watch.proofs.wake.wake_for_death.Goals as goal

pub returns-clause-tokens : goal.returns-clause-tokens
returns-clause-tokens c =
    let is : c.as_slice.result.now ≡ filter (register_watch_counts (mailed c.args.mails.now)) c.args.rec.now.watchers =
    c.as_slice.ensures.value ∙ c.keep_counted_behind.ensures ∙ ap (filter (register_watch_counts (mailed c.args.mails.now))) c.take-counted.ensures.taken in
    subst (λ ws. OnOk c.wake_counted.result (ChangesEach (without_waits (map watch_row ws)) c.args.mails.now c.wake_counted.new.mails)) is c.wake_counted.ensures.tokens
