-- What is written as a word is read back, and nothing else is read as it.
use Rattle.std.proofs.Common.{◌≡◌, ℕ, zero, suc, Bool, true, false, cond, eqb, ◌||◌, IsTrue, List, [], ◌∷◌, Option, Some, refl, subst, arith}
use Rattle.std.specs.List.{AllByRecursion, list_any}
use Rattle.std.specs.Option.{IfSome}
use Rattle.std.specs.Str.{bytes_eq}
use Rattle.std.proofs.lemmas.Bool.Decides.{nat_tests}
use Rattle.std.proofs.lemmas.Slice.Eq.{bytes_eq-Decides}
use Rattle.sid_core.specs.declared.call.Mode.{Mode}
use Rattle.sid_core.specs.declared.call.Mode.TheVariants.{Shared, Exclusive}
use Rattle.sid_core.specs.declared.words.CallWord.{CallWord}
use Rattle.sid_core.specs.declared.words.CallWord.TheVariants.{Open, Close, Delete, Ack, Lock, Unlock, Read, Write, GLock, GUnlock, Recv, Disconnect, Reconnect, Scavenge, Tidy, Status}
use Rattle.sid_core.specs.Values.{IsState, IsShare}
use Rattle.sid_core.specs.Words.{spelled_by, word_text, call_words, read_word, state_text, lease_state, lease_states, read_state, share_text, share_bits, shares, read_share, lock_text, read_lock_mode, glock_text, read_glock_mode, modes}

-- ---- read back

pub word-back : (word : CallWord) → read_word (word_text word) ≡ Some word
unfolding read_word
word-back Open = refl
word-back Close = refl
word-back Delete = refl
word-back Ack = refl
word-back Lock = refl
word-back Unlock = refl
word-back Read = refl
word-back Write = refl
word-back GLock = refl
word-back GUnlock = refl
word-back Recv = refl
word-back Disconnect = refl
word-back Reconnect = refl
word-back Scavenge = refl
word-back Tidy = refl
word-back Status = refl

-- what holds of each of these numbers holds of one among them
any-step : (P : ℕ → Type 0) (n m : ℕ) (rest here : Bool) → eqb m n ≡ here → P m → (IsTrue rest → P n) → IsTrue (here || rest) → P n
any-step P n m rest true e p others h = subst P (let same : m ≡ n = grind (arith, nat_tests) in same) p
any-step P n m rest false e p others h = others h

any-holds : (P : ℕ → Type 0) (n : ℕ) (ms : List ℕ) → AllByRecursion P ms → IsTrue (list_any (λ m. eqb m n) ms) → P n
any-holds P n [] all h = cc
any-holds P n (m ∷ ms) all h = any-step P n m (list_any (λ k. eqb k n) ms) (eqb m n) refl all.0 (any-holds P n ms all.1) h

pub state-back : (bits : ℕ) → IsState bits → read_state (state_text bits) ≡ Some (lease_state bits)
unfolding read_state
state-back bits is = any-holds (λ b. read_state (state_text b) ≡ Some (lease_state b)) bits (0 ∷ 1 ∷ 3 ∷ 5 ∷ 7 ∷ []) (refl, (refl, (refl, (refl, (refl, tt))))) is

pub share-back : (bits : ℕ) → IsShare bits → read_share (share_text bits) ≡ Some (share_bits bits)
unfolding read_share
share-back zero is = refl
share-back (suc zero) is = refl
share-back (suc (suc zero)) is = refl
share-back (suc (suc (suc zero))) is = refl
share-back (suc (suc (suc (suc zero)))) is = refl
share-back (suc (suc (suc (suc (suc zero))))) is = refl
share-back (suc (suc (suc (suc (suc (suc zero)))))) is = refl
share-back (suc (suc (suc (suc (suc (suc (suc zero))))))) is = refl
share-back (suc (suc (suc (suc (suc (suc (suc (suc n)))))))) is = absurd (omega arith)

pub lock-back : (mode : Mode) → read_lock_mode (lock_text mode) ≡ Some mode
unfolding read_lock_mode
lock-back Shared = refl
lock-back Exclusive = refl

pub glock-back : (mode : Mode) → read_glock_mode (glock_text mode) ≡ Some mode
unfolding read_glock_mode
glock-back Shared = refl
glock-back Exclusive = refl

-- ---- one spelling

found-step : {X : Type 0} (text : X → List ℕ) (P : X → Type 0) (x : X) (token : List ℕ) (others : Option X) (here : Bool) → bytes_eq token (text x) ≡ here → P x
    → IfSome others (λ y. (token ≡ text y) × P y) → IfSome (cond here (Some x) others) (λ y. (token ≡ text y) × P y)
found-step text P x token others true e p rest = ((bytes_eq-Decides token (text x)).0 e, p)
found-step text P x token others false e p rest = rest

found : {X : Type 0} (text : X → List ℕ) (P : X → Type 0) (all : List X) (token : List ℕ) → AllByRecursion P all → IfSome (spelled_by text all token) (λ x. (token ≡ text x) × P x)
found text P [] token holds = tt
found text P (x ∷ all) token holds = found-step text P x token (spelled_by text all token) (bytes_eq token (text x)) refl holds.0 (found text P all token holds.1)

spelled-step : {X : Type 0} (text : X → List ℕ) (x : X) (token : List ℕ) (others : Option X) (here : Bool) → bytes_eq token (text x) ≡ here
    → IfSome others (λ y. token ≡ text y) → IfSome (cond here (Some x) others) (λ y. token ≡ text y)
spelled-step text x token others true e rest = (bytes_eq-Decides token (text x)).0 e
spelled-step text x token others false e rest = rest

spelled : {X : Type 0} (text : X → List ℕ) (all : List X) (token : List ℕ) → IfSome (spelled_by text all token) (λ x. token ≡ text x)
spelled text [] token = tt
spelled text (x ∷ all) token = spelled-step text x token (spelled_by text all token) (bytes_eq token (text x)) refl (spelled text all token)

pub word-spelled : (token : List ℕ) → IfSome (read_word token) (λ word. token ≡ word_text word)
unfolding read_word
word-spelled token = spelled word_text call_words token

pub state-spelled : (token : List ℕ) → IfSome (read_state token) (λ state. (token ≡ state_text state.0) × IsState state.0)
unfolding read_state
state-spelled token = found (λ state. state_text state.0) (λ state. IsState state.0) lease_states token (refl, (refl, (refl, (refl, (refl, tt)))))

pub share-spelled : (token : List ℕ) → IfSome (read_share token) (λ share. (token ≡ share_text share.0) × IsShare share.0)
unfolding read_share
share-spelled token = found (λ share. share_text share.0) (λ share. IsShare share.0) shares token
    (omega arith, (omega arith, (omega arith, (omega arith, (omega arith, (omega arith, (omega arith, (omega arith, tt))))))))

pub lock-spelled : (token : List ℕ) → IfSome (read_lock_mode token) (λ mode. token ≡ lock_text mode)
unfolding read_lock_mode
lock-spelled token = spelled lock_text modes token

pub glock-spelled : (token : List ℕ) → IfSome (read_glock_mode token) (λ mode. token ≡ glock_text mode)
unfolding read_glock_mode
glock-spelled token = spelled glock_text modes token
