-- The words of scripts and of printed lines. Each kind of word has one spelling, and is read by it.
use Rattle.std.specs.Prelude.{ℕ, ◌==◌, if◌then◌else◌, List, [], ◌∷◌, Option, codes}
use Rattle.std.specs.List.{find}
use Rattle.std.specs.Str.{bytes_eq}
use Rattle.sid_core.specs.declared.bits.LeaseState.{LeaseState}
use Rattle.sid_core.specs.declared.bits.Share.{Share}
use Rattle.sid_core.specs.declared.call.Call.{Call}
use Rattle.sid_core.specs.declared.call.Call.TheVariants as call
use Rattle.sid_core.specs.declared.call.Mode.{Mode}
use Rattle.sid_core.specs.declared.call.Mode.TheVariants.{Shared, Exclusive}
use Rattle.sid_core.specs.declared.words.CallWord.{CallWord}
use Rattle.sid_core.specs.declared.words.CallWord.TheVariants.{Open, Close, Delete, Ack, Lock, Unlock, Read, Write, GLock, GUnlock, Recv, Disconnect, Reconnect, Scavenge, Tidy, Status}

-- the first of these things whose word is this token
abbrev pub spelled_by : {X : Type 0} → (X → List ℕ) → List X → List ℕ → Option X
spelled_by text all token = find (λ x. bytes_eq token (text x)) all

-- ---- calls

abbrev pub word_of : Call → CallWord
word_of (call.OpenFile file access share lease durable overwrite delete) = Open
word_of (call.Close handle) = Close
word_of (call.Delete handle on) = Delete
word_of (call.Ack key state) = Ack
word_of (call.Lock handle span mode wait) = Lock
word_of (call.Unlock handle span) = Unlock
word_of (call.Read handle span) = Read
word_of (call.Write handle span) = Write
word_of (call.GLock key mode wait) = GLock
word_of (call.GUnlock key) = GUnlock
word_of call.Recv = Recv
word_of call.Disconnect = Disconnect
word_of (call.Reconnect worker call key) = Reconnect
word_of call.Scavenge = Scavenge
word_of call.Tidy = Tidy
word_of (call.Status tables) = Status

abbrev pub word_text : CallWord → List ℕ
word_text Open = codes "open"
word_text Close = codes "close"
word_text Delete = codes "delete"
word_text Ack = codes "ack"
word_text Lock = codes "lock"
word_text Unlock = codes "unlock"
word_text Read = codes "read"
word_text Write = codes "write"
word_text GLock = codes "glock"
word_text GUnlock = codes "gunlock"
word_text Recv = codes "recv"
word_text Disconnect = codes "disconnect"
word_text Reconnect = codes "reconnect"
word_text Scavenge = codes "scavenge"
word_text Tidy = codes "tidy"
word_text Status = codes "status"

abbrev pub call_words : List CallWord
call_words =
    Open ∷ Close ∷ Ack ∷ Lock ∷ Read ∷ Write ∷ GLock ∷ Recv ∷ Tidy ∷ Delete ∷ Unlock ∷ GUnlock ∷ Disconnect ∷ Reconnect ∷ Scavenge ∷ Status ∷ []

unfoldable pub read_word : List ℕ → Option CallWord
read_word token = spelled_by word_text call_words token

-- ---- states of a lease

abbrev pub state_text : ℕ → List ℕ
state_text state =
    if state == 0 then codes "-" else (if state == 1 then codes "R" else (if state == 3 then codes "RH" else (if state == 5 then codes "RW" else codes "RWH")))

abbrev pub lease_state : ℕ → LeaseState
lease_state bits = record { 0 = bits }

-- none, R, RH, RW or RWH: READ is 1, HANDLE 2 and WRITE 4
abbrev pub lease_states : List LeaseState
lease_states = lease_state 0 ∷ lease_state 1 ∷ lease_state 3 ∷ lease_state 5 ∷ lease_state 7 ∷ []

unfoldable pub read_state : List ℕ → Option LeaseState
read_state token = spelled_by (λ state. state_text state.0) lease_states token

-- ---- what an open shares

abbrev pub share_text : ℕ → List ℕ
share_text share =
    if share == 0 then codes "-" else (if share == 1 then codes "r" else (if share == 2 then codes "w" else (if share == 3 then codes "rw"
    else (if share == 4 then codes "d" else (if share == 5 then codes "rd" else (if share == 6 then codes "wd" else codes "rwd"))))))

abbrev pub share_bits : ℕ → Share
share_bits bits = record { 0 = bits }

-- any of the three bits: 1 for reading, 2 for writing and 4 for deleting
abbrev pub shares : List Share
shares = share_bits 0 ∷ share_bits 1 ∷ share_bits 2 ∷ share_bits 3 ∷ share_bits 4 ∷ share_bits 5 ∷ share_bits 6 ∷ share_bits 7 ∷ []

unfoldable pub read_share : List ℕ → Option Share
read_share token = spelled_by (λ share. share_text share.0) shares token

-- ---- modes of locks

abbrev pub modes : List Mode
modes = Shared ∷ Exclusive ∷ []

-- of a byte-range lock
abbrev pub lock_text : Mode → List ℕ
lock_text Shared = codes "s"
lock_text Exclusive = codes "x"

unfoldable pub read_lock_mode : List ℕ → Option Mode
read_lock_mode token = spelled_by lock_text modes token

-- of a global lock
abbrev pub glock_text : Mode → List ℕ
glock_text Shared = codes "r"
glock_text Exclusive = codes "w"

unfoldable pub read_glock_mode : List ℕ → Option Mode
read_glock_mode token = spelled_by glock_text modes token
