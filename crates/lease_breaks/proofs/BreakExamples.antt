-- Worked examples: what a break and an acknowledgement make of a lease record.
use Rattle.std.specs.Prelude.{◌≡◌, ℕ, Bool, true, false, ◌==◌, List, [], ◌∷◌, Option, Some, None, if◌then◌else◌, refl}
use Rattle.sid_core.specs.declared.ids.Sid.{Sid}
use Rattle.sid_core.specs.declared.ids.LeaseName.{LeaseName}
use Rattle.sid_core.specs.declared.bits.LeaseState.{LeaseState}
use Rattle.sid_core.specs.declared.entry.Post.{Post}
use Rattle.sid_core.specs.declared.entry.Letter.TheVariants.{Break}
use Rattle.sid_core.specs.declared.reply.Reply.TheVariants as reply
use Rattle.serial_table.specs.declared.decision.Decision.{Decision}
use Rattle.serial_table.specs.Decision.{only_reply}
use Rattle.serial_table.specs.Break.{Breaks}
use Rattle.serial_table.specs.LeaseBreak.{break_by_owner}
use Rattle.record_codec.specs.declared.lease_rec.LeaseRec.{LeaseRec}
use Rattle.record_codec.specs.declared.lease_rec.LeaseRef.{LeaseRef}
use Rattle.record_codec.specs.declared.register_rec.RegisterRec.{RegisterRec}
use Rattle.record_codec.specs.Counts.{Records}
use Rattle.record_rows.specs.Rows.{lease_row, breaking_of}
use Rattle.lease_breaks.specs.Breaks.{first_connected, all_changed, settled, kept}
use Rattle.lease_breaks.specs.Acks.{ack_by_owner}

-- pid 101 lives in its session 2, and pid 102 has died
abbrev register : ℕ → Option RegisterRec
register pid =
    if pid == 101
    then Some (record { worker = 1; alive = true; session = 2; connected = 9; ended = 9 ∷ []; watchers = [] })
    else (if pid == 102
    then Some (record { worker = 2; alive = false; session = 1; connected = 0; ended = 20 ∷ []; watchers = [] })
    else None)

abbrev records : Records
records = record { register = register; mail = λ _. None; lease = λ _. None; share = λ _. None }

abbrev seven : LeaseName
seven = record { guid = 1; key = 7 }

abbrev state : ℕ → LeaseState
state bits = record { 0 = bits }

abbrev living : Sid
living = record { pid = 101; session = 2 }

abbrev connected : LeaseRef
connected = record { id = record { pid = 101; call = 5 }; owner = living; durable = 0 }

-- durable, of the worker that has died
abbrev disconnected : LeaseRef
disconnected = record { id = record { pid = 102; call = 1 }; owner = record { pid = 102; session = 1 }; durable = 60 }

abbrev unbroken : ℕ → List LeaseRef → LeaseRec
unbroken held refs = record { file = 1; held = state held; breaking = false; asked = state 0; needed = state 0; until = 0; refs = refs }

abbrev breaks : ℕ → ℕ → ℕ → ℕ → List LeaseRef → LeaseRec
breaks held asked needed until refs = record { file = 1; held = state held; breaking = true; asked = state asked; needed = state needed; until = until; refs = refs }

-- ---- breaks, at moment 100

abbrev broken : ℕ → LeaseRec → Breaks
broken bits r = break_by_owner (record { 0 = 100 }) 1 (first_connected records r) (kept (state bits)) (lease_row seven r) (breaking_of r)

abbrev left : ℕ → LeaseRec → LeaseRec
left bits r = all_changed records (broken bits r).changes r

abbrev letter : ℕ → ℕ → Bool → Post
letter from to ack = record { to = living; letter = Break 1 7 (state from) (state to) ack }

-- HANDLE of RWH: it breaks to RW until moment 135, its first connected open's owner is told, and waited for.
handle_breaks : left 2 (unbroken 7 (disconnected ∷ connected ∷ [])) ≡ breaks 7 5 5 135 (disconnected ∷ connected ∷ [])
handle_breaks = refl

handle_is_told : (broken 2 (unbroken 7 (disconnected ∷ connected ∷ []))).posts ≡ letter 7 5 true ∷ []
handle_is_told = refl

handle_blocks : (broken 2 (unbroken 7 (disconnected ∷ connected ∷ []))).blocker ≡ Some living
handle_blocks = refl

-- WRITE of RWH
write_breaks : left 4 (unbroken 7 (connected ∷ [])) ≡ breaks 7 3 3 135 (connected ∷ [])
write_breaks = refl

-- all of RH
all_breaks : left 7 (unbroken 3 (connected ∷ [])) ≡ breaks 3 0 0 135 (connected ∷ [])
all_breaks = refl

-- It doesn't hold what is broken.
nothing_breaks : left 4 (unbroken 3 (connected ∷ [])) ≡ unbroken 3 (connected ∷ [])
nothing_breaks = refl

nobody_is_told : (broken 4 (unbroken 3 (connected ∷ []))).posts ≡ []
nobody_is_told = refl

-- R is gone at once, and is told without an acknowledgement.
read_goes : left 7 (unbroken 1 (connected ∷ [])) ≡ unbroken 0 (connected ∷ [])
read_goes = refl

read_is_told : (broken 7 (unbroken 1 (connected ∷ []))).posts ≡ letter 1 0 false ∷ []
read_is_told = refl

read_blocks_not : (broken 7 (unbroken 1 (connected ∷ []))).blocker ≡ None
read_blocks_not = refl

-- None of its opens is connected: it lowers at once. Without HANDLE they go, and with it they stay.
goes_at_once : left 2 (unbroken 7 (disconnected ∷ [])) ≡ unbroken 5 []
goes_at_once = refl

stays_disconnected : left 4 (unbroken 7 (disconnected ∷ [])) ≡ unbroken 3 (disconnected ∷ [])
stays_disconnected = refl

tells_nobody : (broken 2 (unbroken 7 (disconnected ∷ []))).posts ≡ []
tells_nobody = refl

-- It is breaking to RW already: then less is needed, by the same moment, and nobody is told.
needs_less : left 4 (breaks 7 5 5 110 (connected ∷ [])) ≡ breaks 7 5 1 110 (connected ∷ [])
needs_less = refl

is_not_told : (broken 4 (breaks 7 5 5 110 (connected ∷ []))).posts ≡ []
is_not_told = refl

still_blocks : (broken 4 (breaks 7 5 5 110 (connected ∷ []))).blocker ≡ Some living
still_blocks = refl

-- It is breaking, and holds nothing of what is broken.
blocks_not : (broken 4 (breaks 3 1 1 110 (connected ∷ []))).blocker ≡ None
blocks_not = refl

-- ---- acknowledgements, at moment 120

abbrev acked : ℕ → LeaseRec → Decision
acked bits r = ack_by_owner (record { 0 = 120 }) (first_connected records r) (lease_row seven r) (state bits) (breaking_of r)

abbrev after : ℕ → LeaseRec → LeaseRec
after bits r = settled records (all_changed records (acked bits r).changes r)

not_breaking : acked 5 (unbroken 7 (connected ∷ [])) ≡ only_reply reply.Unsuccessful
not_breaking = refl

more_than_asked : acked 7 (breaks 7 5 5 135 (connected ∷ [])) ≡ only_reply reply.RequestNotAccepted
more_than_asked = refl

-- What is asked is accepted. Without HANDLE an open that is disconnected goes.
accepted : after 5 (breaks 7 5 5 135 (disconnected ∷ connected ∷ [])) ≡ unbroken 5 (connected ∷ [])
accepted = refl

accepted_with_handle : after 3 (breaks 7 3 3 135 (disconnected ∷ connected ∷ [])) ≡ unbroken 3 (disconnected ∷ connected ∷ [])
accepted_with_handle = refl

-- less too
less : after 0 (breaks 7 5 5 135 (connected ∷ [])) ≡ unbroken 0 (connected ∷ [])
less = refl

less_tells_nobody : (acked 0 (breaks 7 5 5 135 (connected ∷ []))).posts ≡ []
less_tells_nobody = refl

-- Less is needed by now than was asked: it is broken again at once, from now on.
breaks_again : after 3 (breaks 7 3 1 135 (connected ∷ [])) ≡ breaks 3 1 1 155 (connected ∷ [])
breaks_again = refl

told_again : (acked 3 (breaks 7 3 1 135 (connected ∷ []))).posts ≡ letter 3 1 true ∷ []
told_again = refl
