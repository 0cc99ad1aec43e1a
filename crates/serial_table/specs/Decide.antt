-- Which rules each call goes by.
use Rattle.std.specs.Prelude.{List}
use Rattle.sid_core.specs.declared.call.Call.{Call}
use Rattle.sid_core.specs.declared.call.Call.TheVariants as call
use Rattle.sid_core.specs.declared.reply.Reply.TheVariants.{Done, Shown}
use Rattle.sid_core.specs.declared.setup.Setup.{Setup}
use Rattle.serial_table.specs.View.{View}
use Rattle.serial_table.specs.declared.decision.Caller.{Caller}
use Rattle.serial_table.specs.declared.decision.Decision.{Decision}
use Rattle.serial_table.specs.declared.change.Change.{Change}
use Rattle.serial_table.specs.Change.{perform_all_by_key}
use Rattle.serial_table.specs.Decision.{Outcome, only_reply, conclude, preceded}
use Rattle.serial_table.specs.Expire.{expired_by}
use Rattle.serial_table.specs.Close.{close}
use Rattle.serial_table.specs.Delete.{delete}
use Rattle.serial_table.specs.Ack.{ack}
use Rattle.serial_table.specs.Lock.{lock}
use Rattle.serial_table.specs.Unlock.{unlock}
use Rattle.serial_table.specs.ReadWrite.{read, write}
use Rattle.serial_table.specs.GlobalLock.{glock, gunlock}
use Rattle.serial_table.specs.Recv.{recv}
use Rattle.serial_table.specs.Disconnect.{disconnect}
use Rattle.serial_table.specs.Reconnect.{reconnect}
use Rattle.serial_table.specs.Scavenge.{scavenge}
use Rattle.serial_table.specs.Asked.{asked_of}
use Rattle.serial_table.specs.Open.{open_file}

-- A call reads the view, and what the script declares. `tidy` and `status` change nothing.
abbrev pub decide : Setup → View → Caller → Call → Decision
decide setup v caller (call.OpenFile file access share lease durable overwrite delete) =
    open_file v caller (asked_of caller file access share lease durable overwrite delete)
decide setup v caller (call.Close handle) = close v caller handle
decide setup v caller (call.Delete handle on) = delete v caller handle on
decide setup v caller (call.Ack key state) = ack v caller key state
decide setup v caller (call.Lock handle span mode wait) = lock v caller handle span mode wait
decide setup v caller (call.Unlock handle span) = unlock v caller handle span
decide setup v caller (call.Read handle span) = read v caller handle span
decide setup v caller (call.Write handle span) = write v caller handle span
decide setup v caller (call.GLock key mode wait) = glock v caller key mode wait
decide setup v caller (call.GUnlock key) = gunlock v caller key
decide setup v caller call.Recv = recv v caller
decide setup v caller call.Disconnect = disconnect v caller
decide setup v caller (call.Reconnect worker made key) = reconnect setup v caller worker made key
decide setup v caller call.Scavenge = scavenge setup v caller
decide setup v caller call.Tidy = only_reply Done
decide setup v caller (call.Status tables) = only_reply Shown

-- what a call comes to behind these changes: it decides from the view that they leave, and wakes nobody for what they free
abbrev pub outcome_behind : List Change → Setup → View → Caller → Call → Outcome
outcome_behind first setup v caller call =
    preceded first (conclude (perform_all_by_key first v) (decide setup (perform_all_by_key first v) caller call))

-- Breaks that are due expire before a call decides.
abbrev pub outcome : Setup → View → Caller → Call → Outcome
outcome setup v caller call = outcome_behind (expired_by setup v caller call) setup v caller call
