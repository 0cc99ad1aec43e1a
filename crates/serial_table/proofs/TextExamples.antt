-- Worked examples: what is printed.
use Rattle.std.specs.Prelude.{◌≡◌, true, false, [], ◌∷◌, ◌++◌, None, Some, codes, refl}
use Rattle.std.specs.Fmt.{digits}
use Rattle.sid_core.specs.declared.call.Call.TheVariants as call
use Rattle.sid_core.specs.declared.call.Mode.TheVariants.{Exclusive}
use Rattle.sid_core.specs.declared.entry.Event.TheVariants.{Called, Died, Tidied}
use Rattle.sid_core.specs.declared.entry.Letter.TheVariants.{Wake, Break}
use Rattle.sid_core.specs.declared.reply.Reply.TheVariants.{Pending, Unsuccessful, InvalidParameter, AccessDenied, ObjectNameNotFound, SharingViolation, FileLockConflict, DeletePending, LockNotGranted, RangeNotLocked, RequestNotAccepted, FileClosed, PossibleDeadlock, InvalidLockRange, Granted, Done, Scavenged, Message, NoMessage, Shown}
use Rattle.serial_table.specs.Expire.{expired_by}
use Rattle.serial_table.specs.declared.table.Table.{Table}
use Rattle.serial_table.specs.Settle.{settle_by_key}
use Rattle.serial_table.specs.Decision.{conclude}
use Rattle.serial_table.specs.Session.{end_of_session}
use Rattle.serial_table.specs.Step.{caller_of}
use Rattle.serial_table.specs.Text.{call_line, post_line, reply_text, event_line, block}
use Rattle.serial_table.proofs.Samples.{setup, sid, state, at, nothing_open, waits, dies}
use Rattle.sid_core.specs.declared.ids.Spot.TheVariants.{OpenOf}

-- ---- lines

-- The worker, the number of the call, its word and the reply.
line_of_a_call : call_line 12 20000 (call.Close 7) Done ≡ codes "12.20000 close OK" ++ 10 ∷ []
unfolding digits
line_of_a_call = refl

line_of_a_lock : call_line 1 2 (call.GLock 9 Exclusive true) Pending ≡ codes "1.2 glock PENDING" ++ 10 ∷ []
unfolding digits
line_of_a_lock = refl

-- The worker that dies, whoever entered it.
line_of_a_death : event_line 2 (Died 10 (at 5)) ≡ codes "10 died" ++ 10 ∷ []
unfolding digits
line_of_a_death = refl

line_of_the_caller : event_line 2 (Called 3 (at 5) (call.Close 1) FileClosed) ≡ codes "2.3 close FILE_CLOSED" ++ 10 ∷ []
unfolding digits
line_of_the_caller = refl

-- A tidied chain has no line.
no_line_of_a_chain : event_line 2 (Tidied 20) ≡ []
no_line_of_a_chain = refl

-- A letter goes by the number of its receiver, whichever its session.
line_of_a_wake : post_line setup (record { to = sid 103 2; letter = Wake 14 }) ≡ codes "  -> 3 WAKE 14" ++ 10 ∷ []
unfolding digits
line_of_a_wake = refl

-- A break that has to be acknowledged, from the first state to the second.
line_of_a_break : post_line setup (record { to = sid 101 1; letter = Break 10 7 (state 7) (state 3) true })
    ≡ codes "  -> 1 BREAK file=10 key=7 RWH->RH ack" ++ 10 ∷ []
unfolding digits
line_of_a_break = refl

-- One that hasn't.
line_of_a_told_break : post_line setup (record { to = sid 102 3; letter = Break 1 18446744073709551615 (state 1) (state 0) false })
    ≡ codes "  -> 2 BREAK file=1 key=18446744073709551615 R->-" ++ 10 ∷ []
unfolding digits
line_of_a_told_break = refl

-- ---- replies

granted_alone : reply_text (Granted None false) ≡ codes "GRANTED"
granted_alone = refl

granted_with_a_lease : reply_text (Granted (Some (state 5)) false) ≡ codes "GRANTED lease=RW"
granted_with_a_lease = refl

granted_for_later : reply_text (Granted (Some (state 7)) true) ≡ codes "GRANTED lease=RWH durable"
granted_for_later = refl

-- A lease that holds nothing is printed too.
granted_with_an_empty_lease : reply_text (Granted (Some (state 0)) false) ≡ codes "GRANTED lease=-"
granted_with_an_empty_lease = refl

scavenged_some : reply_text (Scavenged 120) ≡ codes "SCAVENGED 120"
unfolding digits
scavenged_some = refl

scavenged_none : reply_text (Scavenged 0) ≡ codes "SCAVENGED 0"
unfolding digits
scavenged_none = refl

-- A letter that is received is printed as it is under the line of the call that posts it.
received_break : reply_text (Message (Break 1 7 (state 3) (state 1) true)) ≡ codes "BREAK file=1 key=7 RH->R ack"
unfolding digits
received_break = refl

received_wake : reply_text (Message (Wake 1)) ≡ codes "WAKE 1"
unfolding digits
received_wake = refl

-- the replies that are one word each
word_by_word : reply_text NoMessage ++ (32 ∷ (reply_text Shown ++ (32 ∷ (reply_text Pending ++ (32 ∷ (reply_text Unsuccessful ++ (32 ∷ reply_text InvalidParameter)))))))
    ≡ codes "EMPTY SHOWN PENDING UNSUCCESSFUL INVALID_PARAMETER"
word_by_word = refl

words_of_opens : reply_text AccessDenied ++ (32 ∷ (reply_text ObjectNameNotFound ++ (32 ∷ (reply_text SharingViolation ++ (32 ∷ (reply_text DeletePending ++ (32 ∷ reply_text FileClosed)))))))
    ≡ codes "ACCESS_DENIED OBJECT_NAME_NOT_FOUND SHARING_VIOLATION DELETE_PENDING FILE_CLOSED"
words_of_opens = refl

words_of_locks : reply_text FileLockConflict ++ (32 ∷ (reply_text LockNotGranted ++ (32 ∷ (reply_text RangeNotLocked ++ (32 ∷ (reply_text InvalidLockRange ++ (32 ∷ (reply_text PossibleDeadlock ++ (32 ∷ reply_text RequestNotAccepted)))))))))
    ≡ codes "FILE_LOCK_CONFLICT LOCK_NOT_GRANTED RANGE_NOT_LOCKED INVALID_LOCK_RANGE POSSIBLE_DEADLOCK REQUEST_NOT_ACCEPTED"
words_of_locks = refl

-- ---- an entry with what it posts

-- Two wait behind worker 1, which dies: their letters stand under its line, in the order in which they wait.
abbrev two_wait : Table
two_wait = record nothing_open { waiters = waits (sid 102 3) 4 (OpenOf 2) (sid 101 1) ∷ waits (sid 102 3) 1 (OpenOf 1) (sid 101 1) ∷ [] }

letters_stand_under_the_line : block setup two_wait (dies 1 1 60) ≡ codes "1 died" ++ 10 ∷ (codes "  -> 2 WAKE 4" ++ 10 ∷ (codes "  -> 2 WAKE 1" ++ 10 ∷ []))
unfolding conclude expired_by end_of_session caller_of settle_by_key digits
letters_stand_under_the_line = refl
