-- What a call decides, and what the rules then say of every call and of every death alike.
use Rattle.std.specs.Prelude.{ℕ, List, [], ◌∷◌, ◌++◌, Option, Some, None, map, filter}
use Rattle.sid_core.specs.declared.ids.Spot.{Spot}
use Rattle.sid_core.specs.declared.ids.Spot.TheVariants.{OpenOf, RangesOf}
use Rattle.sid_core.specs.declared.entry.Post.{Post}
use Rattle.sid_core.specs.declared.reply.Reply.{Reply}
use Rattle.sid_core.specs.Ids.{same_sid}
use Rattle.serial_table.specs.declared.rows.WaiterRow.{WaiterRow}
use Rattle.serial_table.specs.declared.rows.Watch.{Watch}
use Rattle.serial_table.specs.declared.decision.Caller.{Caller}
use Rattle.serial_table.specs.declared.decision.Decision.{Decision}
use Rattle.serial_table.specs.declared.change.Change.{Change}
use Rattle.serial_table.specs.declared.change.Change.TheVariants.{AddWaiter, DropWaiter, Send, Settle}
use Rattle.serial_table.specs.View.{View}
use Rattle.serial_table.specs.Change.{perform_all_by_key}
use Rattle.serial_table.specs.Wake.{some_frees, waiting_on, wake}

-- nothing but a reply
abbrev pub only_reply : Reply → Decision
only_reply reply = record { changes = []; reply = reply; posts = []; spots = []; waits = None }

abbrev pub spots_of : ℕ → List Spot
spots_of file = OpenOf file ∷ RangesOf file ∷ []

-- ---- waits that are over

abbrev pub waits_no_more : Watch → Change
waits_no_more watch = DropWaiter watch.sid watch.call

-- the caller's own of these
abbrev pub own_waits_end : Caller → List Watch → List Change
own_waits_end caller watches = map waits_no_more (filter (λ watch. same_sid watch.sid caller.sid) watches)

-- The caller waits no longer among these, whatever the call then decides.
abbrev pub no_longer_waits : Caller → List Watch → Decision → Decision
no_longer_waits caller watches decision = record decision { changes = own_waits_end caller watches ++ decision.changes }

-- ---- how a decision is concluded

-- what happens to the table, what is answered and what is posted
pub record Outcome : Type 0 where
  pub changes : List Change
  pub reply : Reply
  pub posts : List Post

abbrev pub waits_now : Option WaiterRow → List Change
waits_now None = []
waits_now (Some waiter) = AddWaiter waiter ∷ []

-- the decision's changes, and then the table settles
abbrev pub settling : Decision → List Change
settling decision = decision.changes ++ Settle ∷ []

-- Then the woken waiters go, the caller's waiter comes, and the letters are sent.
abbrev pub finishing : List Watch → Option WaiterRow → List Post → List Change
finishing woken waits posts = map waits_no_more woken ++ (waits_now waits ++ map (λ post. Send post) posts)

-- the decision's own posts stand before the wakes
abbrev pub outcome_with : Decision → List Watch → Outcome
outcome_with decision woken = record {
  changes = settling decision ++ finishing woken decision.waits (decision.posts ++ map wake woken);
  reply = decision.reply;
  posts = decision.posts ++ map wake woken;
}

-- these changes come first
abbrev pub preceded : List Change → Outcome → Outcome
preceded first done = record done { changes = first ++ done.changes }

-- the spots that are freed, in the decision's order
abbrev pub freed_spots : View → Decision → List Spot
freed_spots v decision = filter (some_frees (settling decision) v) decision.spots

-- who still waits on them once the table has settled
abbrev pub woken_by : View → Decision → List Watch
woken_by v decision = waiting_on (perform_all_by_key (settling decision) v) (freed_spots v decision)

unfoldable pub conclude : View → Decision → Outcome
conclude v decision = outcome_with decision (woken_by v decision)
