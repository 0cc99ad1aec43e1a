-- What any entry writes goes by the chains of its footprint alone.
use Rattle.std.proofs.Common.{ℕ}
use Rattle.sid_core.specs.declared.call.Call.{Call}
use Rattle.sid_core.specs.declared.call.Call.TheVariants as call
use Rattle.sid_core.specs.declared.entry.Entry.{Entry}
use Rattle.sid_core.specs.declared.entry.Event.{Event}
use Rattle.sid_core.specs.declared.entry.Event.TheVariants.{Called, Died, Tidied}
use Rattle.sid_core.specs.declared.ids.Moment.{Moment}
use Rattle.sid_core.specs.declared.reply.Reply.{Reply}
use Rattle.sid_core.specs.declared.setup.Setup.{Setup}
use Rattle.table_laws.specs.ByFootprint.{IsWrittenByFootprint}
use Rattle.table_laws.specs.Standing.{call_entry}
use Rattle.table_laws.proofs.AckWrites.{ack_written}
use Rattle.table_laws.proofs.HandleWrites.{close_written, delete_written, lock_written, unlock_written, read_written, write_written}
use Rattle.table_laws.proofs.OpenWrites.{open_written}
use Rattle.table_laws.proofs.PlainWrites.{recv_written, glock_written, gunlock_written, disconnect_written, tidy_written, status_written, died_written}
use Rattle.table_laws.proofs.ReconnectWrites.{reconnect_written}
use Rattle.table_laws.proofs.ScavengeWrites.{scavenge_written}
use Rattle.table_laws.proofs.TidiedWrites.{tidied_written}

module _ (setup : Setup) (n by seq : ℕ) where
  of_call : (number : ℕ) (moment : Moment) (reply : Reply) (which : Call) → IsWrittenByFootprint setup n (call_entry by seq number moment which reply)
  of_call number moment reply (call.OpenFile file access share lease durable overwrite delete) = open_written setup n by seq number moment file access share lease durable overwrite delete reply
  of_call number moment reply (call.Close handle) = close_written setup n by seq number moment handle reply
  of_call number moment reply (call.Delete handle on) = delete_written setup n by seq number moment handle reply on
  of_call number moment reply (call.Ack key state) = ack_written setup n by seq number moment key state reply
  of_call number moment reply (call.Lock handle span mode wait) = lock_written setup n by seq number moment handle reply span mode wait
  of_call number moment reply (call.Unlock handle span) = unlock_written setup n by seq number moment handle reply span
  of_call number moment reply (call.Read handle span) = read_written setup n by seq number moment handle reply span
  of_call number moment reply (call.Write handle span) = write_written setup n by seq number moment handle reply span
  of_call number moment reply (call.GLock key mode wait) = glock_written setup n by seq number moment key reply mode wait
  of_call number moment reply (call.GUnlock key) = gunlock_written setup n by seq number moment key reply
  of_call number moment reply call.Recv = recv_written setup n by seq number moment reply
  of_call number moment reply call.Disconnect = disconnect_written setup n by seq number moment reply
  of_call number moment reply (call.Reconnect worker made key) = reconnect_written setup n by seq number moment worker made key reply
  of_call number moment reply call.Scavenge = scavenge_written setup n by seq number moment reply
  of_call number moment reply call.Tidy = tidy_written setup n by seq number moment reply
  of_call number moment reply (call.Status tables) = status_written setup n by seq number moment reply tables

  of_event : (what : Event) → IsWrittenByFootprint setup n (record { by = by; seq = seq; what = what })
  of_event (Called number moment which reply) = of_call number moment reply which
  of_event (Died worker moment) = died_written setup n by seq worker moment
  of_event (Tidied chain) = tidied_written setup n by seq chain

pub entry_written : (setup : Setup) (n : ℕ) (e : Entry) → IsWrittenByFootprint setup n e
entry_written setup n e = of_event setup n e.by e.seq e.what
