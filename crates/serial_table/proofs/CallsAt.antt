-- What one call decides and comes to at a table at which nothing is due to expire, by the rules of every call.
use Rattle.sid_core.specs.declared.call.Call.{Call}
use Rattle.serial_table.specs.declared.decision.Caller.{Caller}
use Rattle.serial_table.specs.declared.decision.Decision.{Decision}
use Rattle.serial_table.specs.declared.table.Table.{Table}
use Rattle.serial_table.specs.View.{view}
use Rattle.serial_table.specs.Settle.{settle_where, settle_by_key, settle_file}
use Rattle.serial_table.specs.Change.{set_lease, new_owner, set_hold, with_pending, end_session, begin_session, perform_all}
use Rattle.serial_table.specs.Decision.{Outcome, conclude}
use Rattle.serial_table.specs.Break.{break_lease, break_each}
use Rattle.serial_table.specs.Grant.{grant}
use Rattle.serial_table.specs.Open.{handle_breaks, other_breaks, open_by, open_file}
use Rattle.serial_table.specs.Close.{close}
use Rattle.serial_table.specs.Delete.{delete}
use Rattle.serial_table.specs.Ack.{ack}
use Rattle.serial_table.specs.Lock.{lock}
use Rattle.serial_table.specs.Unlock.{unlock}
use Rattle.serial_table.specs.ReadWrite.{read, write}
use Rattle.serial_table.specs.GlobalLock.{glock, gunlock}
use Rattle.serial_table.specs.Recv.{recv}
use Rattle.serial_table.specs.Session.{end_of_session}
use Rattle.serial_table.specs.Disconnect.{disconnect}
use Rattle.serial_table.specs.Reconnect.{reconnect}
use Rattle.serial_table.specs.Scavenge.{scavenge}
use Rattle.serial_table.specs.Decide.{decide}
use Rattle.serial_table.proofs.Samples.{setup}

unfoldable pub decision_at : Table → Caller → Call → Decision
unfolding settle_file set_lease break_lease break_each handle_breaks other_breaks open_by open_file grant close delete ack lock unlock read write glock gunlock recv end_of_session disconnect reconnect scavenge
decision_at t caller call = decide setup (view t) caller call

unfoldable pub outcome_at : Table → Caller → Call → Outcome
unfolding decision_at conclude settle_by_key new_owner set_hold end_session begin_session
outcome_at t caller call = conclude (view t) (decision_at t caller call)

unfoldable pub table_after : Table → Caller → Call → Table
unfolding outcome_at settle_where with_pending
table_after t caller call = perform_all (outcome_at t caller call).changes t
