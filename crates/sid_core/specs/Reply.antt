-- The NTSTATUS value of each reply.
use Rattle.std.specs.Prelude.{ℕ}
use Rattle.sid_core.specs.declared.reply.Reply.{Reply}
use Rattle.sid_core.specs.declared.reply.Reply.TheVariants.{Pending, Unsuccessful, InvalidParameter, AccessDenied, ObjectNameNotFound, SharingViolation, FileLockConflict, DeletePending, LockNotGranted, RangeNotLocked, RequestNotAccepted, FileClosed, PossibleDeadlock, InvalidLockRange, Granted, Done, Scavenged, Message, NoMessage, Shown}

abbrev pub status : Reply → ℕ
status Pending = 0x00000103
status Unsuccessful = 0xC0000001
status InvalidParameter = 0xC000000D
status AccessDenied = 0xC0000022
status ObjectNameNotFound = 0xC0000034
status SharingViolation = 0xC0000043
status FileLockConflict = 0xC0000054
status DeletePending = 0xC0000056
status LockNotGranted = 0xC0000055
status RangeNotLocked = 0xC000007E
status RequestNotAccepted = 0xC00000D0
status FileClosed = 0xC0000128
status PossibleDeadlock = 0xC0000194
status InvalidLockRange = 0xC00001A1
status (Granted lease durable) = 0
status Done = 0
status (Scavenged count) = 0
status (Message letter) = 0
status NoMessage = 0
status Shown = 0
