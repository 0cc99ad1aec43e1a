-- The tokens in exact mailboxes: a watch counts by them exactly where its session waits with its call.
use Rattle.std.proofs.Common.{◌≡◌, ℕ, Bool, true, false, cond, ◌==◌, ◌&&◌, List, [], ◌∷◌, map, filter, Option, Some, None, refl, sym, ap, ◌∙◌}
use Rattle.std.specs.List.{list_any}
use Rattle.std.specs.Option.{option_map_or, option_and_then}
use Rattle.std.proofs.lemmas.Bool.{and_parts, both_ways, eqb-true}
use Rattle.std.proofs.Math.Bool.{and-false}
use Rattle.sid_core.specs.declared.ids.Sid.{Sid}
use Rattle.sid_core.specs.declared.ids.Spot.{Spot}
use Rattle.sid_core.specs.Ids.{same_spot}
use Rattle.sid_core.specs.declared.entry.Letter.{Letter}
use Rattle.serial_table.specs.declared.rows.WaiterRow.{WaiterRow}
use Rattle.serial_table.specs.declared.rows.WorkerRow.{WorkerRow}
use Rattle.serial_table.specs.declared.table.Table.{Table}
use Rattle.serial_table.specs.View as table
use Rattle.serial_table.specs.View.{View, view, lives, has_pid, waits_for, waits_on}
use Rattle.serial_table.specs.Sound.{IsSound, waits_among_living}
use Rattle.serial_table.proofs.Names.{same_sid-eq}
use Rattle.serial_table.proofs.Members.{IsIn, each, any_none, found_in}
use Rattle.record_codec.specs.declared.mail_rec.MailRec.{MailRec}
use Rattle.record_codec.specs.declared.mail_rec.Token.{Token}
use Rattle.record_codec.specs.Counts.{has_token, has_token_at}
use Rattle.record_rows.specs.Rows.{token_of}
use Rattle.stored_table.specs.Exact.{mail_record, mail_of_session, mail_if_alive, exact_mail}
use Rattle.table_laws.proofs.Lists.{any_mapped, any_in_filter}

-- some token of the session's mailbox passes
abbrev pub some_token : (Token → Bool) → Option MailRec → ℕ → Bool
some_token q None session = false
some_token q (Some mail) session = (mail.session == session) && list_any q mail.tokens

pub at_spot : (o : Option MailRec) (session : ℕ) (spot : Spot) (call : ℕ) → has_token_at o session spot call ≡ some_token (λ token. same_spot token.spot spot && (token.call == call)) o session
at_spot None session spot call = refl
at_spot (Some mail) session spot call = refl

pub at_any : (o : Option MailRec) (session : ℕ) (call : ℕ) → has_token o session call ≡ some_token (λ token. token.call == call) o session
at_any None session call = refl
at_any (Some mail) session call = refl

-- a session of this table waits, with a token that passes
abbrev pub waits_with : (Token → Bool) → Sid → Table → Bool
waits_with q sid u = list_any (λ x. waits_for sid x && q (token_of (table.token_of x))) u.waiters

module _ (q : Token → Bool) where
  in_record : (own : ℕ) (tokens : List Token) (letters : List Letter) (session : ℕ) → some_token q (mail_record own tokens letters) session ≡ ((own == session) && list_any q tokens)
  in_record own [] [] session = sym (and-false (own == session))
  in_record own [] (l ∷ ls) session = refl
  in_record own (t ∷ ts) letters session = refl

  module _ (u : Table) (sound : IsSound u) (sid : Sid) where
    abbrev w : View
    w = view u

    tokens_are : list_any q (map token_of (w.tokens_of sid)) ≡ waits_with q sid u
    tokens_are =
        any_mapped q token_of (w.tokens_of sid)
        ∙ any_mapped (λ t. q (token_of t)) table.token_of (filter (waits_for sid) u.waiters)
        ∙ any_in_filter (λ x. q (token_of (table.token_of x))) (waits_for sid) u.waiters

    -- nobody waits whose session has ended
    no_wait : lives w sid ≡ false → waits_with q sid u ≡ false
    no_wait dead = any_none (λ x. waits_for sid x && q (token_of (table.token_of x))) u.waiters (λ x i. other x i (waits_for sid x) refl)
      where
        other : (x : WaiterRow) → IsIn x u.waiters → (b : Bool) → waits_for sid x ≡ b → (b && q (token_of (table.token_of x))) ≡ false
        other x i false e = refl
        other x i true e =
            absurd (both_ways (lives w sid) dead
            (ap (lives w) (sym (same_sid-eq x.sid sid e)) ∙ (and_parts (lives w x.sid) _ (each (waits_among_living w) u.waiters sound.rows.waiters_live x i)).0))

    at_row : (row : WorkerRow) → row.pid ≡ sid.pid → (a : Bool) → row.alive ≡ a → (c : Bool) → (row.session == sid.session) ≡ c → lives w sid ≡ (a && c)
        → some_token q (cond a (mail_of_session w (record { pid = row.pid; session = row.session })) None) sid.session ≡ waits_with q sid u
    at_row row pid true alive true same live =
        in_record row.session (map token_of (w.tokens_of (record { pid = row.pid; session = row.session }))) (map (λ post. post.letter) (w.letters_of (record { pid = row.pid; session = row.session }))) sid.session
        ∙ ap (λ b. b && list_any q (map token_of (w.tokens_of (record { pid = row.pid; session = row.session })))) same
        ∙ (λ i. list_any q (map token_of (w.tokens_of (record { pid = pid i; session = eqb-true row.session sid.session same i }))))
        ∙ tokens_are
    at_row row pid true alive false same live =
        in_record row.session (map token_of (w.tokens_of (record { pid = row.pid; session = row.session }))) (map (λ post. post.letter) (w.letters_of (record { pid = row.pid; session = row.session }))) sid.session
        ∙ ap (λ b. b && list_any q (map token_of (w.tokens_of (record { pid = row.pid; session = row.session })))) same
        ∙ sym (no_wait live)
    at_row row pid false alive c same live = sym (no_wait live)

    by_worker : (o : Option WorkerRow) → w.worker_of sid.pid ≡ o → some_token q (option_and_then (mail_if_alive w) o) sid.session ≡ waits_with q sid u
    by_worker None e = sym (no_wait (ap (λ (x : Option WorkerRow). option_map_or (λ worker. worker.alive && (worker.session == sid.session)) x false) e))
    by_worker (Some row) e =
        at_row row (eqb-true row.pid sid.pid (found_in (has_pid sid.pid) u.workers row e).1) row.alive refl (row.session == sid.session) refl
        (ap (λ (x : Option WorkerRow). option_map_or (λ worker. worker.alive && (worker.session == sid.session)) x false) e)

    pub token_is : some_token q (exact_mail w sid.pid) sid.session ≡ waits_with q sid u
    token_is = by_worker (w.worker_of sid.pid) refl

-- a watch counts by exact mailboxes
pub counts_at : (u : Table) → IsSound u → (spot : Spot) (sid : Sid) (call : ℕ)
    → has_token_at (exact_mail (view u) sid.pid) sid.session spot call ≡ list_any (λ x. waits_for sid x && (waits_on spot x && (x.call == call))) u.waiters
counts_at u sound spot sid call = at_spot (exact_mail (view u) sid.pid) sid.session spot call ∙ token_is (λ token. same_spot token.spot spot && (token.call == call)) u sound sid

pub counts_anywhere : (u : Table) → IsSound u → (sid : Sid) (call : ℕ)
    → has_token (exact_mail (view u) sid.pid) sid.session call ≡ list_any (λ x. waits_for sid x && (x.call == call)) u.waiters
counts_anywhere u sound sid call = at_any (exact_mail (view u) sid.pid) sid.session call ∙ token_is (λ token. token.call == call) u sound sid
