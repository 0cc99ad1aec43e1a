-- Which calls a script can make.
use Rattle.std.specs.Prelude.{ℕ, ◌≤◌, IfSome}
use Rattle.sid_core.specs.declared.setup.Setup.{Setup}
use Rattle.sid_core.specs.declared.call.Call.{Call}
use Rattle.sid_core.specs.declared.call.Call.TheVariants.{OpenFile, Close, Delete, Ack, Lock, Unlock, Read, Write, GLock, GUnlock, Recv, Disconnect, Reconnect, Scavenge, Tidy, Status}
use Rattle.sid_core.specs.declared.limits.TheConstants.{MAX_CALLS}
use Rattle.sid_core.specs.Values.{IsU32, IsU64, IsAccess, IsShare, IsState, IsSpan}
use Rattle.sid_core.specs.Setup.{IsDeclared}

-- The calls of a worker count from 1.
abbrev pub IsCallNumber : ℕ → Type 0
IsCallNumber number = (1 ≤ number) × (number ≤ MAX_CALLS)

-- Its numbers lie in their sets, and it names declared files and workers.
abbrev pub IsCall : Setup → Call → Type 0
IsCall setup (OpenFile file access share lease durable overwrite delete) =
    IsDeclared setup.files file × IsAccess access.0 × IsShare share.0
    × IfSome lease (λ ask. IsU64 ask.key × IsState ask.state.0) × IsU32 durable
IsCall setup (Close handle) = IsU32 handle
IsCall setup (Delete handle on) = IsU32 handle
IsCall setup (Ack key state) = IsU64 key × IsState state.0
IsCall setup (Lock handle span mode wait) = IsU32 handle × IsSpan span
IsCall setup (Unlock handle span) = IsU32 handle × IsSpan span
IsCall setup (Read handle span) = IsU32 handle × IsSpan span
IsCall setup (Write handle span) = IsU32 handle × IsSpan span
IsCall setup (GLock key mode wait) = IsU64 key
IsCall setup (GUnlock key) = IsU64 key
IsCall setup Recv = Unit {0}
IsCall setup Disconnect = Unit {0}
IsCall setup (Reconnect worker call key) = IsDeclared setup.workers worker × IsU32 call × IsU64 key
IsCall setup Scavenge = Unit {0}
IsCall setup Tidy = Unit {0}
IsCall setup (Status tables) = Unit {0}
