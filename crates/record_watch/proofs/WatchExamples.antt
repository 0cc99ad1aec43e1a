-- Worked examples: which watches count, and which tokens stay once calls are woken.
use Rattle.std.specs.Prelude.{◌≡◌, ℕ, true, false, List, [], ◌∷◌, Some, None, map, filter, if◌then◌else◌, ◌==◌, refl}
use Rattle.sid_core.specs.declared.ids.Sid.{Sid}
use Rattle.sid_core.specs.declared.ids.Spot.TheVariants.{OpenOf, RangesOf}
use Rattle.sid_core.specs.declared.entry.Letter.TheVariants.{Wake}
use Rattle.serial_table.specs.Wake.{wake}
use Rattle.record_codec.specs.declared.watch.WatchRec.{WatchRec}
use Rattle.record_codec.specs.declared.mail_rec.MailRec.{MailRec}
use Rattle.record_codec.specs.Counts.{Records, watch_counts, register_watch_counts}
use Rattle.record_rows.specs.Rows.{watch_row}
use Rattle.record_watch.specs.Watches.{waiter, with_watch}
use Rattle.record_watch.specs.Mails.{without_waits, with_letter, without_spot, without_first}

abbrev sid : ℕ → ℕ → Sid
sid pid session = record { pid = pid; session = session }

-- call 4 of pid 101 waits at the opens of file 1, and its call 6 at the ranges of file 2
abbrev box : MailRec
box = record { session = 2; tokens = record { spot = OpenOf 1; call = 4 } ∷ record { spot = RangesOf 2; call = 6 } ∷ []; letters = Wake 3 ∷ [] }

-- it is the only mailbox
abbrev boxes : Records
boxes = record { register = λ _. None; mail = λ pid. if pid == 101 then Some box else None; lease = λ _. None; share = λ _. None }

abbrev of_call : ℕ → ℕ → ℕ → WatchRec
of_call pid session call = record { sid = sid pid session; call = call; upgrade = false }

-- of an earlier session, of a call that waits elsewhere, of one that counts, and of a pid without a mailbox
abbrev list : List WatchRec
list = of_call 101 1 4 ∷ of_call 101 2 6 ∷ of_call 101 2 4 ∷ of_call 102 1 4 ∷ []

-- at the opens of file 1 only call 4 of the present session counts
pub one_counts : map (λ w. wake (watch_row w)) (filter (watch_counts boxes (OpenOf 1)) list) ≡ record { to = sid 101 2; letter = Wake 4 } ∷ []
one_counts = refl

-- behind a session both of its calls count, whatever their spots
pub both_count : map (λ w. wake (watch_row w)) (filter (register_watch_counts boxes) list) ≡ record { to = sid 101 2; letter = Wake 6 } ∷ record { to = sid 101 2; letter = Wake 4 } ∷ []
both_count = refl

-- once call 4 is woken, its token is gone, and call 6 waits on
pub other_call_waits_on : without_waits (watch_row (of_call 101 2 4) ∷ []) 101 box ≡ record box { tokens = record { spot = RangesOf 2; call = 6 } ∷ [] }
other_call_waits_on = refl

-- a call of an earlier session ends no wait of this one
pub earlier_session_ends_nothing : without_waits (watch_row (of_call 101 1 4) ∷ []) 101 box ≡ box
earlier_session_ends_nothing = refl

-- another upgrade than that of a lock isn't told
pub no_upgrade_of_a_file : with_watch (waiter (sid 101 2) (OpenOf 1) 7 true) [] ≡ of_call 101 2 7 ∷ []
no_upgrade_of_a_file = refl

-- a letter to an earlier session doesn't come
pub letter_to_the_present : with_letter (record { to = sid 101 2; letter = Wake 6 }) 101 box ≡ record box { letters = Wake 3 ∷ Wake 6 ∷ [] }
letter_to_the_present = refl

pub letter_to_an_earlier_one : with_letter (record { to = sid 101 1; letter = Wake 6 }) 101 box ≡ box
letter_to_an_earlier_one = refl

pub first_is_taken : without_first box ≡ record box { letters = [] }
first_is_taken = refl

pub spot_is_left : without_spot (OpenOf 1) box ≡ record box { tokens = record { spot = RangesOf 2; call = 6 } ∷ [] }
spot_is_left = refl
