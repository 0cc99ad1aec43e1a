-- What histories print, with each reply as the rules give it.
use Rattle.std.specs.Prelude.{ℕ, List, [], ◌++◌, ◌∷◌, Option, Some, None}
use Rattle.std.specs.Fmt.{digits}
use Rattle.std.specs.List.{flat_map}
use Rattle.std.specs.Option.{option_map, option_map_or}
use Rattle.sid_core.specs.declared.call.Call.{Call}
use Rattle.sid_core.specs.declared.call.Tables.{Tables}
use Rattle.sid_core.specs.declared.entry.Entry.{Entry}
use Rattle.sid_core.specs.declared.entry.Event.{Event}
use Rattle.sid_core.specs.declared.entry.Event.TheVariants.{Called, Died, Tidied}
use Rattle.sid_core.specs.declared.ids.Moment.{Moment}
use Rattle.sid_core.specs.declared.setup.Setup.{Setup}
use Rattle.serial_table.specs.declared.rows.LeaseRow.{LeaseRow}
use Rattle.serial_table.specs.declared.table.Table.{Table}
use Rattle.serial_table.specs.View.{View, view}
use Rattle.serial_table.specs.Settle.{settle_where, settle_by_key, settle_file}
use Rattle.serial_table.specs.Change.{set_lease, new_owner, set_hold, with_pending, end_session, begin_session, perform_all}
use Rattle.serial_table.specs.Decision.{Outcome, conclude}
use Rattle.serial_table.specs.Break.{break_lease, break_each}
use Rattle.serial_table.specs.Grant.{grant}
use Rattle.serial_table.specs.Open.{handle_breaks, other_breaks, open_by, open_file}
use Rattle.serial_table.specs.Close.{close}
use Rattle.serial_table.specs.Delete.{delete}
use Rattle.serial_table.specs.Ack.{ack}
use Rattle.serial_table.specs.Lock.{lock}
use Rattle.serial_table.specs.Unlock.{unlock}
use Rattle.serial_table.specs.ReadWrite.{read, write}
use Rattle.serial_table.specs.GlobalLock.{glock, gunlock}
use Rattle.serial_table.specs.Recv.{recv}
use Rattle.serial_table.specs.Session.{end_of_session}
use Rattle.serial_table.specs.Disconnect.{disconnect}
use Rattle.serial_table.specs.Reconnect.{reconnect}
use Rattle.serial_table.specs.Scavenge.{scavenge}
use Rattle.serial_table.specs.Decide.{outcome}
use Rattle.serial_table.specs.Expire.{expired_by}
use Rattle.serial_table.specs.Step.{caller_of, death_of}
use Rattle.serial_table.specs.History.{start}
use Rattle.serial_table.specs.Tables.{tables}
use Rattle.serial_table.specs.Text.{event_line, post_line, tables_under}

-- what a call of this worker comes to
abbrev pub any_call : Setup → View → ℕ → ℕ → Moment → Call → Option Outcome
any_call setup v worker number moment call = option_map (λ caller. outcome setup v caller call) (caller_of setup v worker number moment)

-- what an event comes to, with the reply that the rules give in place of its own
abbrev pub any_outcome : Setup → View → ℕ → Event → Option Outcome
any_outcome setup v by (Called number moment call reply) = any_call setup v by number moment call
any_outcome setup v by (Died worker moment) = death_of setup v worker moment
any_outcome setup v by (Tidied chain) = None

abbrev pub answered : Event → Outcome → Event
answered (Called number moment call reply) done = Called number moment call done.reply
answered (Died worker moment) done = Died worker moment
answered (Tidied chain) done = Tidied chain

-- Nothing is printed of one who can't call or die.
abbrev pub lines_of : Setup → View → ℕ → Event → Option Outcome → List ℕ
lines_of setup v by event None = []
lines_of setup v by event (Some done) = event_line by (answered event done) ++ (flat_map (post_line setup) done.posts ++ tables_under setup v event)

abbrev pub after_any : Setup → Table → Entry → Table
after_any setup t entry = perform_all (option_map_or (λ done. done.changes) (any_outcome setup (view t) entry.by entry.what) []) t

abbrev pub played_from : Setup → Table → List Entry → List ℕ
played_from setup t [] = []
played_from setup t (entry ∷ entries) =
    lines_of setup (view t) entry.by entry.what (any_outcome setup (view t) entry.by entry.what) ++ played_from setup (after_any setup t entry) entries

-- what a history prints
unfoldable pub played : Setup → List Entry → List ℕ
unfolding conclude expired_by settle_where settle_by_key settle_file set_lease new_owner set_hold with_pending end_session begin_session break_lease break_each handle_breaks other_breaks open_by open_file grant close delete ack lock unlock read write glock gunlock recv end_of_session disconnect reconnect scavenge caller_of tables digits
played setup entries = played_from setup (start setup) entries

abbrev pub table_from : Setup → Table → List Entry → Table
table_from setup t [] = t
table_from setup t (entry ∷ entries) = table_from setup (after_any setup t entry) entries

-- the tables that smbstatus shows at the end of a history
unfoldable pub shown_at_the_end : Setup → List Entry → Tables → List ℕ
unfolding conclude expired_by settle_where settle_by_key settle_file set_lease new_owner set_hold with_pending end_session begin_session break_lease break_each handle_breaks other_breaks open_by open_file grant close delete ack lock unlock read write glock gunlock recv end_of_session disconnect reconnect scavenge caller_of tables digits
shown_at_the_end setup entries chosen = tables setup (view (table_from setup (start setup) entries)) chosen

-- the leases at the end of a history
unfoldable pub leases_after : Setup → List Entry → List LeaseRow
unfolding conclude expired_by settle_where settle_by_key settle_file set_lease new_owner set_hold with_pending end_session begin_session break_lease break_each handle_breaks other_breaks open_by open_file grant close delete ack lock unlock read write glock gunlock recv end_of_session disconnect reconnect scavenge caller_of tables digits
leases_after setup entries = (table_from setup (start setup) entries).leases
