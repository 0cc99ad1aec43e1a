-- That a history is legal has one proof.
use Rattle.std.proofs.Common.{◌≡◌, ◌+◌, ℕ, List, [], ◌∷◌}
use mathlib.Core.Option.{is_set as option_set}
use Rattle.std.proofs.Props.{props}
use Rattle.sid_core.specs.declared.ids.Moment.{Moment}
use Rattle.sid_core.specs.declared.call.Call.{Call}
use Rattle.sid_core.specs.declared.call.Call.TheVariants as c
use Rattle.sid_core.specs.declared.entry.Entry.{Entry}
use Rattle.sid_core.specs.declared.entry.Event.{Event}
use Rattle.sid_core.specs.declared.entry.Event.TheVariants.{Called, Died, Tidied}
use Rattle.sid_core.specs.declared.reply.Reply.{Reply}
use Rattle.sid_core.specs.declared.setup.Setup.{Setup}
use Rattle.sid_core.specs.declared.call.LeaseAsk.{LeaseAsk}
use Rattle.std.specs.Prelude.{Option, Some, None, IfSome}
use Rattle.sid_core.specs.Values.{IsU64, IsState}
use Rattle.sid_core.specs.Call.{IsCall}
use Rattle.sid_core.specs.Counting.{CountsFrom, RisesAbove}
use Rattle.serial_table.specs.declared.table.Table.{Table}
use Rattle.serial_table.specs.History.{IsLegalCall, IsLegalDeath, IsLegalEvent, AreLegal, IsLegal, after_entry, start}

counts_single : (n : ℕ) (ms : List ℕ) → IsProp (CountsFrom n ms)
counts_single n [] = hlevel props
counts_single n (m ∷ ms) = hlevel (counts_single (n + 1) ms, props)

rises_single : (low : ℕ) (ns : List ℕ) → IsProp (RisesAbove low ns)
rises_single low [] = hlevel props
rises_single low (n ∷ ns) = hlevel (rises_single n ns, props)

ask_single : (lease : Option LeaseAsk) → IsProp (IfSome lease (λ ask. IsU64 ask.key × IsState ask.state.0))
ask_single None = hlevel props
ask_single (Some ask) = hlevel props

call_single : (setup : Setup) (call : Call) → IsProp (IsCall setup call)
call_single setup (c.OpenFile file access share lease durable overwrite delete) = hlevel (ask_single, props)
call_single setup (c.Close handle) = hlevel props
call_single setup (c.Delete handle on) = hlevel props
call_single setup (c.Ack key state) = hlevel props
call_single setup (c.Lock handle span mode wait) = hlevel props
call_single setup (c.Unlock handle span) = hlevel props
call_single setup (c.Read handle span) = hlevel props
call_single setup (c.Write handle span) = hlevel props
call_single setup (c.GLock key mode wait) = hlevel props
call_single setup (c.GUnlock key) = hlevel props
call_single setup c.Recv = hlevel props
call_single setup c.Disconnect = hlevel props
call_single setup (c.Reconnect worker call key) = hlevel props
call_single setup c.Scavenge = hlevel props
call_single setup c.Tidy = hlevel props
call_single setup (c.Status tables) = hlevel props

legal_call_single : (setup : Setup) (t : Table) (worker number : ℕ) (moment : Moment) (call : Call) (reply : Reply) → IsProp (IsLegalCall setup t worker number moment call reply)
legal_call_single setup t worker number moment call reply = hlevel (call_single, props, option_set)

legal_death_single : (setup : Setup) (t : Table) (worker : ℕ) (moment : Moment) → IsProp (IsLegalDeath setup t worker moment)
legal_death_single setup t worker moment = hlevel props

pub legal_event_single : (setup : Setup) (t : Table) (by : ℕ) (event : Event) → IsProp (IsLegalEvent setup t by event)
legal_event_single setup t by (Called number moment call reply) = legal_call_single setup t by number moment call reply
legal_event_single setup t by (Died worker moment) = legal_death_single setup t worker moment
legal_event_single setup t by (Tidied chain) = hlevel props

all_legal_single : (setup : Setup) (t : Table) (entries : List Entry) → IsProp (AreLegal setup t entries)
all_legal_single setup t [] = hlevel props
all_legal_single setup t (entry ∷ entries) = hlevel (legal_event_single setup t entry.by entry.what, all_legal_single setup (after_entry setup t entry) entries)

pub legal_single : (setup : Setup) (history : List Entry) → IsProp (IsLegal setup history)
legal_single setup history = hlevel (all_legal_single, counts_single, rises_single)
