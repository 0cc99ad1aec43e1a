-- The lines that a history prints.
use Rattle.std.specs.Prelude.{ℕ, ◌+◌, ◌==◌, Bool, true, false, List, [], ◌∷◌, ◌++◌, Option, Some, None, codes, if◌then◌else◌}
use Rattle.std.specs.List.{flat_map}
use Rattle.std.specs.Fmt.{decimal}
use Rattle.sid_core.specs.declared.entry.Letter.{Letter}
use Rattle.sid_core.specs.declared.entry.Letter.TheVariants.{Wake, Break}
use Rattle.sid_core.specs.declared.entry.Post.{Post}
use Rattle.sid_core.specs.declared.entry.Entry.{Entry}
use Rattle.sid_core.specs.declared.entry.Event.{Event}
use Rattle.sid_core.specs.declared.entry.Event.TheVariants.{Called, Died, Tidied}
use Rattle.sid_core.specs.declared.call.Call.{Call}
use Rattle.sid_core.specs.declared.call.Call.TheVariants.{Status}
use Rattle.sid_core.specs.Words.{word_of, word_text, state_text}
use Rattle.sid_core.specs.declared.reply.Reply.{Reply}
use Rattle.sid_core.specs.declared.reply.Reply.TheVariants.{Pending, Unsuccessful, InvalidParameter, AccessDenied, ObjectNameNotFound, SharingViolation, FileLockConflict, DeletePending, LockNotGranted, RangeNotLocked, RequestNotAccepted, FileClosed, PossibleDeadlock, InvalidLockRange, Granted, Done, Scavenged, Message, NoMessage, Shown}
use Rattle.sid_core.specs.declared.setup.Setup.{Setup}
use Rattle.sid_core.specs.declared.setup.WorkerInfo.{WorkerInfo}
use Rattle.serial_table.specs.declared.table.Table.{Table}
use Rattle.serial_table.specs.View.{View, view}
use Rattle.serial_table.specs.Tables.{tables}
use Rattle.serial_table.specs.Step.{posts_of}
use Rattle.serial_table.specs.History.{start, after_entry}

abbrev pub text_if : Bool → List ℕ → List ℕ
text_if true text = text
text_if false text = []

abbrev pub letter_text : Letter → List ℕ
letter_text (Wake call) = codes "WAKE " ++ decimal call
letter_text (Break file key from to ack) =
    codes "BREAK file=" ++ (decimal file ++ (codes " key=" ++ (decimal key ++ (32 ∷ (state_text from.0 ++ (codes "->" ++ (state_text to.0 ++ text_if ack (codes " ack"))))))))

abbrev pub lease_text : Option ℕ → List ℕ
lease_text None = []
lease_text (Some state) = codes " lease=" ++ state_text state

abbrev pub granted_text : Option ℕ → Bool → List ℕ
granted_text lease durable = codes "GRANTED" ++ (lease_text lease ++ text_if durable (codes " durable"))

abbrev pub reply_text : Reply → List ℕ
reply_text (Granted None durable) = granted_text None durable
reply_text (Granted (Some state) durable) = granted_text (Some state.0) durable
reply_text Done = codes "OK"
reply_text (Scavenged count) = codes "SCAVENGED " ++ decimal count
reply_text (Message letter) = letter_text letter
reply_text NoMessage = codes "EMPTY"
reply_text Shown = codes "SHOWN"
reply_text Pending = codes "PENDING"
reply_text Unsuccessful = codes "UNSUCCESSFUL"
reply_text InvalidParameter = codes "INVALID_PARAMETER"
reply_text AccessDenied = codes "ACCESS_DENIED"
reply_text ObjectNameNotFound = codes "OBJECT_NAME_NOT_FOUND"
reply_text SharingViolation = codes "SHARING_VIOLATION"
reply_text FileLockConflict = codes "FILE_LOCK_CONFLICT"
reply_text DeletePending = codes "DELETE_PENDING"
reply_text LockNotGranted = codes "LOCK_NOT_GRANTED"
reply_text RangeNotLocked = codes "RANGE_NOT_LOCKED"
reply_text RequestNotAccepted = codes "REQUEST_NOT_ACCEPTED"
reply_text FileClosed = codes "FILE_CLOSED"
reply_text PossibleDeadlock = codes "POSSIBLE_DEADLOCK"
reply_text InvalidLockRange = codes "INVALID_LOCK_RANGE"

-- `W.K word reply`
abbrev pub call_line : ℕ → ℕ → Call → Reply → List ℕ
call_line worker number call reply =
    decimal worker ++ (46 ∷ (decimal number ++ (32 ∷ (word_text (word_of call) ++ (32 ∷ (reply_text reply ++ 10 ∷ []))))))

abbrev pub death_line : ℕ → List ℕ
death_line worker = decimal worker ++ (codes " died" ++ 10 ∷ [])

-- the number of the worker with a pid, where the first of these workers has this number
abbrev pub number_from : ℕ → List WorkerInfo → ℕ → ℕ
number_from number [] pid = 0
number_from number (info ∷ infos) pid = if info.pid == pid then number else number_from (number + 1) infos pid

-- `  -> W letter`
abbrev pub post_line : Setup → Post → List ℕ
post_line setup post = codes "  -> " ++ (decimal (number_from 1 setup.workers post.to.pid) ++ (32 ∷ (letter_text post.letter ++ 10 ∷ [])))

abbrev pub event_line : ℕ → Event → List ℕ
event_line by (Called number moment call reply) = call_line by number call reply
event_line by (Died worker moment) = death_line worker
event_line by (Tidied chain) = []

-- the tables under the line of a status call
abbrev pub tables_under : Setup → View → Event → List ℕ
tables_under setup v (Called number moment (Status chosen) reply) = tables setup v chosen
tables_under setup v _ = []

-- an entry's line, and under it a line for each letter that it posts, and the tables that it shows
abbrev pub block : Setup → Table → Entry → List ℕ
block setup t entry =
    event_line entry.by entry.what
    ++ (flat_map (post_line setup) (posts_of setup (view t) entry.by entry.what) ++ tables_under setup (view t) entry.what)

abbrev pub text_from : Setup → Table → List Entry → List ℕ
text_from setup t [] = []
text_from setup t (entry ∷ entries) = block setup t entry ++ text_from setup (after_entry setup t entry) entries

-- what a history prints
abbrev pub text : Setup → List Entry → List ℕ
text setup history = text_from setup (start setup) history
