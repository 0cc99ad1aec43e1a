-- How a session ends.
use Rattle.std.specs.Prelude.{List, ◌∷◌, ◌++◌, map, filter, not}
use Rattle.sid_core.specs.declared.ids.Sid.{Sid}
use Rattle.sid_core.specs.declared.ids.Moment.{Moment}
use Rattle.sid_core.specs.declared.entry.Post.{Post}
use Rattle.sid_core.specs.declared.reply.Reply.TheVariants.{Done}
use Rattle.sid_core.specs.Ids.{same_sid}
use Rattle.serial_table.specs.declared.change.Change.{Change}
use Rattle.serial_table.specs.declared.change.Change.TheVariants.{EndSession}
use Rattle.serial_table.specs.declared.decision.Decision.{Decision}
use Rattle.serial_table.specs.View.{View}
use Rattle.serial_table.specs.Wake.{wake}
use Rattle.serial_table.specs.Decision.{only_reply, waits_no_more}

-- Those of other sessions that wait behind it get one wake each. No other waiter is woken.
abbrev pub wakes_behind : View → Sid → List Post
wakes_behind v sid = map wake (filter (λ watch. not (same_sid watch.sid sid)) (v.watches_behind sid))

-- Nobody waits behind the session any more, and it ends; then what else follows.
unfoldable pub end_of_session : View → Sid → Moment → List Change → Decision
end_of_session v sid moment others = record (only_reply Done) {
  changes = map waits_no_more (v.watches_behind sid) ++ EndSession sid moment ∷ others;
  posts = wakes_behind v sid;
}
