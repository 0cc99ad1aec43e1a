-- What each call decides owes what a decision owes.
use Rattle.std.proofs.Common.{ℕ}
use Rattle.sid_core.specs.declared.call.Call.{Call}
use Rattle.sid_core.specs.declared.call.Call.TheVariants as call
use Rattle.sid_core.specs.declared.setup.Setup.{Setup}
use Rattle.sid_core.specs.Call.{IsCall}
use Rattle.serial_table.specs.declared.table.Table.{Table}
use Rattle.serial_table.specs.declared.decision.Caller.{Caller}
use Rattle.serial_table.specs.declared.rows.OpenRow.{OpenRow}
use Rattle.serial_table.specs.View.{view, is_of_handle}
use Rattle.serial_table.specs.Asked.{asked_of}
use Rattle.serial_table.specs.Close.{close}
use Rattle.serial_table.specs.Delete.{delete}
use Rattle.serial_table.specs.Recv.{recv}
use Rattle.serial_table.specs.Unlock.{unlock}
use Rattle.serial_table.specs.Decide.{decide}
use Rattle.serial_table.specs.InSets.{IsOpenRow}
use Rattle.serial_table.proofs.Members.{IsIn, all_of, in_filter}
use Rattle.serial_table.proofs.Owing.{IsCalling, IsCallingInSets, DecisionHolds, DecisionBrings, reply_holds, reply_brings}
use Rattle.serial_table.proofs.OpenOwed.{state_asked, asked_in_sets, open_holds, open_brings}
use Rattle.serial_table.proofs.CloseOwed.{closed_holds, closed_brings}
use Rattle.serial_table.proofs.DeleteOwed.{deleted_holds, deleted_brings}
use Rattle.serial_table.proofs.AckOwed.{ack_holds, ack_brings}
use Rattle.serial_table.proofs.LockOwed.{lock_holds, lock_brings}
use Rattle.serial_table.proofs.UnlockOwed.{unlocked_holds, unlocked_brings}
use Rattle.serial_table.proofs.ReadWriteOwed.{read_holds, read_brings, write_holds, write_brings}
use Rattle.serial_table.proofs.GlobalLockOwed.{glock_holds, glock_brings, gunlock_holds, gunlock_brings}
use Rattle.serial_table.proofs.RecvOwed.{received_holds, received_brings}
use Rattle.serial_table.proofs.SessionOwed.{disconnect_holds, disconnect_brings}
use Rattle.serial_table.proofs.ReconnectOwed.{reconnect_holds, reconnect_brings}
use Rattle.serial_table.proofs.ScavengeOwed.{scavenge_holds, scavenge_brings}

pub decided_holds : (low : ℕ → ℕ) (setup : Setup) (t : Table) (caller : Caller) (call : Call) → IsCalling low t caller → IsCall setup call → DecisionHolds low t (decide setup (view t) caller call)
unfolding close delete unlock recv
decided_holds low setup t caller (call.OpenFile file access share lease durable overwrite delete) k is =
    open_holds low t caller (asked_of caller file access share lease durable overwrite delete) k (state_asked lease is.3)
decided_holds low setup t caller (call.Close handle) k is = closed_holds low t ((view t).opens_of_handle caller.sid handle) k.consistent
decided_holds low setup t caller (call.Delete handle on) k is = deleted_holds low t on ((view t).opens_of_handle caller.sid handle) k.consistent
decided_holds low setup t caller (call.Ack key state) k is = ack_holds low t caller key state k is.1
decided_holds low setup t caller (call.Lock handle span mode wait) k is = lock_holds low t caller handle span mode wait k
decided_holds low setup t caller (call.Unlock handle span) k is = unlocked_holds low t (view t) span ((view t).opens_of_handle caller.sid handle) k.consistent
decided_holds low setup t caller (call.Read handle span) k is = read_holds low t caller handle span k
decided_holds low setup t caller (call.Write handle span) k is = write_holds low t caller handle span k
decided_holds low setup t caller (call.GLock key mode wait) k is = glock_holds low t caller key mode wait k
decided_holds low setup t caller (call.GUnlock key) k is = gunlock_holds low t caller key k
decided_holds low setup t caller call.Recv k is = received_holds low t caller ((view t).letters_of caller.sid) k.consistent
decided_holds low setup t caller call.Disconnect k is = disconnect_holds low t caller k
decided_holds low setup t caller (call.Reconnect worker made key) k is = reconnect_holds low t setup caller worker made key k
decided_holds low setup t caller call.Scavenge k is = scavenge_holds low t setup caller k
decided_holds low setup t caller call.Tidy k is = reply_holds low t _ k.consistent
decided_holds low setup t caller (call.Status tables) k is = reply_holds low t _ k.consistent

-- the opens that a handle names lie in their sets
handled_in_sets : (setup : Setup) (t : Table) (caller : Caller) (handle : ℕ) → IsCallingInSets setup t caller → (row : OpenRow) → IsIn row ((view t).opens_of_handle caller.sid handle) → IsOpenRow setup row
handled_in_sets setup t caller handle k row i = all_of (IsOpenRow setup) t.opens k.in_sets.opens row (in_filter (is_of_handle caller.sid handle) t.opens row i).0

pub decided_brings : (setup : Setup) (t : Table) (caller : Caller) (call : Call) → IsCallingInSets setup t caller → IsCall setup call → DecisionBrings setup t (decide setup (view t) caller call)
unfolding close delete unlock recv
decided_brings setup t caller (call.OpenFile file access share lease durable overwrite delete) k is =
    open_brings setup t caller (asked_of caller file access share lease durable overwrite delete) k (asked_in_sets setup caller file access share lease durable overwrite delete k.declared k.guid k.moment is)
decided_brings setup t caller (call.Close handle) k is = closed_brings setup t ((view t).opens_of_handle caller.sid handle) (handled_in_sets setup t caller handle k)
decided_brings setup t caller (call.Delete handle on) k is = deleted_brings setup t on ((view t).opens_of_handle caller.sid handle) (handled_in_sets setup t caller handle k)
decided_brings setup t caller (call.Ack key state) k is = ack_brings setup t caller key state k is.1
decided_brings setup t caller (call.Lock handle span mode wait) k is = lock_brings setup t caller handle span mode wait k is.1
decided_brings setup t caller (call.Unlock handle span) k is = unlocked_brings setup t (view t) span ((view t).opens_of_handle caller.sid handle)
decided_brings setup t caller (call.Read handle span) k is = read_brings setup t caller handle span
decided_brings setup t caller (call.Write handle span) k is = write_brings setup t caller handle span k
decided_brings setup t caller (call.GLock key mode wait) k is = glock_brings setup t caller key mode wait k is
decided_brings setup t caller (call.GUnlock key) k is = gunlock_brings setup t caller key
decided_brings setup t caller call.Recv k is = received_brings setup t caller ((view t).letters_of caller.sid)
decided_brings setup t caller call.Disconnect k is = disconnect_brings setup t caller k
decided_brings setup t caller (call.Reconnect worker made key) k is = reconnect_brings setup t caller worker made key k
decided_brings setup t caller call.Scavenge k is = scavenge_brings setup t caller
decided_brings setup t caller call.Tidy k is = reply_brings setup t _
decided_brings setup t caller (call.Status tables) k is = reply_brings setup t _
