-- Sessions that have ended, and how one ends.
use Rattle.std.proofs.Common.{◌≡◌, ℕ, zero, suc, ◌+◌, ◌<◌, Bool, true, false, List, [], ◌∷◌, ◌++◌, length, refl, ap, sym, ◌∙◌, arith}
use Rattle.std.specs.Prelude.{Option, Some, None, cond, find, ◌==◌, ◌&&◌, slice_get}
use Rattle.std.specs.Option.{option_map}
use Rattle.std.proofs.lemmas.Bool.{eq-eqb, eqb-true, and_from, and_parts, false_from_ne_true}
use Rattle.sid_core.specs.declared.ids.Sid.{Sid}
use Rattle.sid_core.specs.declared.ids.Moment.{Moment}
use Rattle.sid_core.specs.Ids.{same_sid}
use Rattle.serial_table.specs.declared.rows.WorkerRow.{WorkerRow}
use Rattle.serial_table.specs.declared.rows.EndedRow.{EndedRow}
use Rattle.serial_table.specs.ByNumber.{declared_at}
use Rattle.serial_table.specs.Change.{begin_session, end_at}
use Rattle.serial_table.specs.Change as change
use Rattle.server_ids.specs.Sessions.{session_of, ended_from, once_ended}

-- ---- which session ended when

abbrev moment_in : Option EndedRow → Option Moment
moment_in o = option_map (λ row. row.moment) o

abbrev is_end_at : Sid → EndedRow → Bool
is_end_at sid row = same_sid row.sid sid

none_before : (sid : Sid) (n : ℕ) (ms : List ℕ) → sid.session < n → find (is_end_at sid) (ended_from sid.pid n ms) ≡ None
none_before sid n [] h = refl
none_before sid n (m ∷ ms) h =
    let other : same_sid (session_of sid.pid n) sid ≡ false = false_from_ne_true _ (λ e. absurd (let same : n ≡ sid.session = eqb-true n sid.session ((and_parts (sid.pid == sid.pid) (n == sid.session) e).1) in omega arith)) in
    ap (λ b. cond b (Some (end_at (session_of sid.pid n) (record { 0 = m }))) (find (is_end_at sid) (ended_from sid.pid (n + 1) ms))) other
    ∙ none_before sid (n + 1) ms (omega arith)

at_place : (sid : Sid) (n k : ℕ) (ms : List ℕ) → sid.session ≡ n + k
    → option_map (λ m. record { 0 = m }) (slice_get ms k) ≡ moment_in (find (is_end_at sid) (ended_from sid.pid n ms))
at_place sid n zero [] e = refl
at_place sid n (suc k) [] e = refl
at_place sid n zero (m ∷ ms) e =
    let own : same_sid (session_of sid.pid n) sid ≡ true = and_from (sid.pid == sid.pid) (n == sid.session) (eq-eqb sid.pid sid.pid refl) (eq-eqb n sid.session (omega arith)) in
    sym (ap (λ b. moment_in (cond b (Some (end_at (session_of sid.pid n) (record { 0 = m }))) (find (is_end_at sid) (ended_from sid.pid (n + 1) ms)))) own)
at_place sid n (suc k) (m ∷ ms) e =
    let other : same_sid (session_of sid.pid n) sid ≡ false = false_from_ne_true _ (λ e′. absurd (let same : n ≡ sid.session = eqb-true n sid.session ((and_parts (sid.pid == sid.pid) (n == sid.session) e′).1) in omega arith)) in
    at_place sid (n + 1) k ms (omega arith)
    ∙ sym (ap (λ b. moment_in (cond b (Some (end_at (session_of sid.pid n) (record { 0 = m }))) (find (is_end_at sid) (ended_from sid.pid (n + 1) ms)))) other)

by_session : (sid : Sid) (session : ℕ) (ms : List ℕ) → sid.session ≡ session
    → option_map (λ m. record { 0 = m }) (declared_at ms session) ≡ moment_in (find (is_end_at sid) (ended_from sid.pid 1 ms))
by_session sid zero ms e = sym (ap moment_in (none_before sid 1 ms (omega arith)))
by_session sid (suc k) ms e = at_place sid 1 k ms (omega arith)

-- the moment at the session's number is that of its end
pub end_is : (sid : Sid) (ms : List ℕ) → option_map (λ m. record { 0 = m }) (declared_at ms sid.session) ≡ moment_in (find (is_end_at sid) (ended_from sid.pid 1 ms))
end_is sid ms = by_session sid sid.session ms refl

-- ---- a session that ends

pushed : (pid n : ℕ) (ms : List ℕ) (m k : ℕ) → k ≡ n + length ms → ended_from pid n (ms ++ m ∷ []) ≡ ended_from pid n ms ++ end_at (session_of pid k) (record { 0 = m }) ∷ []
pushed pid n [] m k e = ap (λ s. end_at (session_of pid s) (record { 0 = m }) ∷ []) (let same : n ≡ k = omega arith in same)
pushed pid n (x ∷ ms) m k e = ap (λ rows. end_at (session_of pid n) (record { 0 = x }) ∷ rows) (pushed pid (n + 1) ms m k (omega arith))

-- the last session's end comes behind those before it
pub one_more_end : (pid : ℕ) (ms now : List ℕ) (m session : ℕ) → now ≡ ms ++ m ∷ [] → session ≡ length ms + 1
    → ended_from pid 1 now ≡ ended_from pid 1 ms ++ end_at (session_of pid session) (record { 0 = m }) ∷ []
one_more_end pid ms now m session is e = ap (ended_from pid 1) is ∙ pushed pid 1 ms m session (omega arith)

own : (w : WorkerRow) → ((w.pid == w.pid) && (w.session == w.session)) ≡ true
own w = and_from (w.pid == w.pid) (w.session == w.session) (eq-eqb w.pid w.pid refl) (eq-eqb w.session w.session refl)

pub dies : (w : WorkerRow) (moment : Moment) → record w { alive = false } ≡ once_ended false (session_of w.pid w.session) moment w
unfolding change.end_session
dies w moment = sym (ap (λ b. cond b (record w { alive = false }) w) (own w))

begun : (w : WorkerRow) (moment : Moment)
    → begin_session (session_of w.pid w.session) moment w ≡ record w { alive = true; session = w.session + 1; connected = moment }
unfolding change.begin_session
begun w moment = ap (λ b. cond b (record w { alive = true; session = w.session + 1; connected = moment }) w) (own w)

pub begins_next : (w : WorkerRow) (moment : Moment)
    → record w { alive = true; session = w.session + 1; connected = moment } ≡ once_ended true (session_of w.pid w.session) moment w
begins_next w moment = sym (begun (record w { alive = false }) moment) ∙ ap (begin_session (session_of w.pid w.session) moment) (dies w moment)
