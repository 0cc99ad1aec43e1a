-- What the exact records of workers, mailboxes and locks tell, and so: where they are the same at two tables, they are the same behind the
-- same changes.
use Rattle.std.proofs.Common.{◌≡◌, ℕ, Bool, true, false, cond, ◌==◌, ◌&&◌, List, [], ◌∷◌, map, filter, Option, Some, None, refl, sym, ap, ◌∙◌, inl, inr, ◌⊎◌}
use Rattle.std.specs.Option.{option_map, option_map_or, option_and_then}
use Rattle.std.proofs.lemmas.Bool.{and_parts, and_from, eqb-true, eq-eqb, both_ways}
use Rattle.sid_core.specs.declared.entry.Letter.{Letter}
use Rattle.sid_core.specs.declared.entry.Post.{Post}
use Rattle.sid_core.specs.declared.ids.Sid.{Sid}
use Rattle.sid_core.specs.declared.ids.Spot.TheVariants.{LockOf}
use Rattle.sid_core.specs.declared.setup.Setup.{Setup}
use Rattle.sid_core.specs.Ids.{same_sid}
use Rattle.serial_table.specs.declared.rows.EndedRow.{EndedRow}
use Rattle.serial_table.specs.declared.rows.Watch.{Watch}
use Rattle.serial_table.specs.declared.rows.WorkerRow.{WorkerRow}
use Rattle.serial_table.specs.declared.table.Table.{Table}
use Rattle.serial_table.specs.declared.change.Change.{Change}
use Rattle.serial_table.specs.View.{View, Token, view, lives, has_pid, is_to, waits_for, waits_behind, watch_behind, token_of}
use Rattle.serial_table.specs.Change.{perform_all, perform_all_by_key}
use Rattle.serial_table.specs.Sound.{IsSound, waits_among_living}
use Rattle.serial_table.proofs.Members.{IsIn, each, found_in, in_filter}
use Rattle.serial_table.proofs.Names.{same_sid-eq}
use Rattle.serial_table.proofs.Views.{view-perform_all}
use Rattle.record_codec.specs.declared.glock_rec.GLockRec.{GLockRec}
use Rattle.record_codec.specs.declared.mail_rec.MailRec.{MailRec}
use Rattle.record_codec.specs.declared.mail_rec.Token as stored
use Rattle.record_codec.specs.declared.register_rec.RegisterRec.{RegisterRec}
use Rattle.record_rows.specs.Rows.{hold_of, watch_of, watch_row}
use Rattle.record_rows.specs.Rows as rows
use Rattle.stored_table.specs.Exact.{lock_record, exact_lock, register_record, exact_register, mail_record, mail_of_session, mail_if_alive, exact_mail}
use Rattle.table_laws.proofs.Chains.{IsFine}
use Rattle.table_laws.proofs.Keywise.{holds_alike, watches_alike, behind_alike, tokens_alike, letters_alike, workers_alike, no_worker, ended_alike}
use Rattle.table_laws.proofs.PlainAnswers.{hold_row, holds_told, watches_told, watches_back}
use Rattle.table_laws.proofs.EndedSessions.{rebuilt, ended_of_pid}
use Rattle.stored_table.specs.Shown.{part_of}

-- ---- who lives has rows

-- the living session of a pid is its worker's
abbrev pub lives_in : Option WorkerRow → Sid → Bool
lives_in o sid = option_map_or (λ (w : WorkerRow). w.alive && (w.session == sid.session)) o false

none_if : {X : Type 0} (xs : List X) → ((x : X) → IsIn x xs → ⊥) → xs ≡ []
none_if [] h = refl
none_if (x ∷ xs) h = absurd (h x (inl refl))

module _ (t : Table) (sound : IsSound t) (sid : Sid) (dead : lives (view t) sid ≡ false) where
  pub none_behind : (view t).watches_behind sid ≡ []
  none_behind = ap (map watch_behind) (none_if (filter (waits_behind sid) t.waiters) (λ x i.
      let at = in_filter (waits_behind sid) t.waiters x i in
      let living = and_parts (lives (view t) x.sid) _ (each (waits_among_living (view t)) t.waiters sound.rows.waiters_live x at.0) in
      by x.blocker at.1 living.1))
    where
      by : (o : Option Sid) → option_map_or (λ blocker. same_sid blocker sid) o false ≡ true → option_map_or (lives (view t)) o true ≡ true → ⊥
      by None e h = cc
      by (Some b) e h = both_ways (lives (view t) sid) dead (ap (lives (view t)) (sym (same_sid-eq b sid e)) ∙ h)

  pub no_tokens : (view t).tokens_of sid ≡ []
  no_tokens = ap (map token_of) (none_if (filter (waits_for sid) t.waiters) (λ x i.
      let at = in_filter (waits_for sid) t.waiters x i in
      let living = and_parts (lives (view t) x.sid) _ (each (waits_among_living (view t)) t.waiters sound.rows.waiters_live x at.0) in
      both_ways (lives (view t) sid) dead (ap (lives (view t)) (sym (same_sid-eq x.sid sid at.1)) ∙ living.0)))

  pub no_letters : (view t).letters_of sid ≡ []
  no_letters = none_if (filter (is_to sid) t.letters) (λ x i.
      let at = in_filter (is_to sid) t.letters x i in
      both_ways (lives (view t) sid) dead (ap (lives (view t)) (sym (same_sid-eq x.to sid at.1)) ∙ each (λ (post : Post). lives (view t) post.to) t.letters sound.rows.receivers_live x at.0))

-- ---- what a register record tells

abbrev pub row_by : ℕ → RegisterRec → WorkerRow
row_by pid r = record { worker = r.worker; pid = pid; alive = r.alive; session = r.session; connected = record { 0 = r.connected } }

abbrev pub behind_by : Sid → Option RegisterRec → List Watch
behind_by sid o = option_map_or (λ (r : RegisterRec). cond (r.alive && (r.session == sid.session)) (map watch_row r.watchers) []) o []

abbrev pub ended_by : ℕ → Option RegisterRec → List EndedRow
ended_by pid o = option_map_or (λ (r : RegisterRec). rebuilt pid 1 r.ended) o []

module _ (setup : Setup) (t : Table) (fine : IsFine setup t) where
  abbrev v : View
  v = view t

  row_pid : (pid : ℕ) (row : WorkerRow) → (view t).worker_of pid ≡ Some row → row.pid ≡ pid
  row_pid pid row e = eqb-true row.pid pid (found_in (has_pid pid) t.workers row e).1

  pub worker_told : (pid : ℕ) → (view t).worker_of pid ≡ option_map (row_by pid) (exact_register (view t) pid)
  worker_told pid = by (v.worker_of pid) refl
    where
      by : (o : Option WorkerRow) → v.worker_of pid ≡ o → o ≡ option_map (row_by pid) (option_map (register_record v) o)
      by None e = refl
      by (Some row) e = λ i. Some (record row { pid = row_pid pid row e i })

  ended_told : (pid : ℕ) → (v.worker_of pid ≡ None) ⊎ (v.ended_of pid ≡ ended_by pid (exact_register (view t) pid))
  ended_told pid = by (v.worker_of pid) refl
    where
      by : (o : Option WorkerRow) → v.worker_of pid ≡ o → (o ≡ None) ⊎ (v.ended_of pid ≡ ended_by pid (option_map (register_record v) o))
      by None e = inl refl
      by (Some row) e = inr (ended_of_pid setup t fine.sets pid ∙ ap (λ p. rebuilt pid 1 (map (λ (e : EndedRow). e.moment.0) (v.ended_of p))) (sym (row_pid pid row e)))

  pub behind_told : (sid : Sid) → (view t).watches_behind sid ≡ behind_by sid (exact_register (view t) sid.pid)
  behind_told sid = by (v.worker_of sid.pid) refl
    where
      alive_or : (row : WorkerRow) → v.worker_of sid.pid ≡ Some row → (b : Bool) → (row.alive && (row.session == sid.session)) ≡ b
          → v.watches_behind sid ≡ cond b (map watch_row (map watch_of (v.watches_behind (record { pid = row.pid; session = row.session })))) []
      alive_or row e true alive =
          let p = and_parts row.alive (row.session == sid.session) alive in
          sym (watches_back (v.watches_behind sid))
          ∙ ap (λ (x : Sid). map watch_row (map watch_of (v.watches_behind x))) (λ i. let x : Sid = record { pid = sym (row_pid sid.pid row e) i; session = sym (eqb-true row.session sid.session p.1) i } in x)
      alive_or row e false alive = none_behind t fine.sound sid (ap (λ o. lives_in o sid) e ∙ alive)

      by : (o : Option WorkerRow) → v.worker_of sid.pid ≡ o → v.watches_behind sid ≡ behind_by sid (option_map (register_record v) o)
      by None e = none_behind t fine.sound sid (ap (λ o. lives_in o sid) e)
      by (Some row) e = alive_or row e (row.alive && (row.session == sid.session)) refl

-- ---- what a mailbox tells

abbrev pub token_back : stored.Token → Token
token_back x = record { spot = x.spot; call = x.call }

abbrev pub post_back : Sid → Letter → Post
post_back sid letter = record { to = sid; letter = letter }

tokens_back : (ts : List Token) → map token_back (map rows.token_of ts) ≡ ts
tokens_back [] = refl
tokens_back (x ∷ ts) = ap (λ xs. x ∷ xs) (tokens_back ts)

posts_back : (sid : Sid) (ps : List Post) → ((p : Post) → IsIn p ps → p.to ≡ sid) → map (post_back sid) (map (λ (p : Post). p.letter) ps) ≡ ps
posts_back sid [] h = refl
posts_back sid (p ∷ ps) h = λ i. record { to = sym (h p (inl refl)) i; letter = p.letter } ∷ posts_back sid ps (λ q j. h q (inr j)) i

abbrev pub tokens_by : Sid → Option MailRec → List Token
tokens_by sid o = option_map_or (λ (r : MailRec). cond (r.session == sid.session) (map token_back r.tokens) []) o []

abbrev pub letters_by : Sid → Option MailRec → List Post
letters_by sid o = option_map_or (λ (r : MailRec). cond (r.session == sid.session) (map (post_back sid) r.letters) []) o []

-- of a mailbox of the session, and of one of another
module _ {X : Type 0} (f : MailRec → List X) (sid : Sid) where
  abbrev told : Option MailRec → List X
  told o = option_map_or (λ (r : MailRec). cond (r.session == sid.session) (f r) []) o []

  other_told : (session : ℕ) (ts : List stored.Token) (ls : List Letter) → (session == sid.session) ≡ false → told (mail_record session ts ls) ≡ []
  other_told session [] [] e = refl
  other_told session (x ∷ ts) ls e = ap (λ b. cond b (f (record { session = session; tokens = x ∷ ts; letters = ls })) []) e
  other_told session [] (l ∷ ls) e = ap (λ b. cond b (f (record { session = session; tokens = []; letters = l ∷ ls })) []) e

  own_told : (session : ℕ) (ts : List stored.Token) (ls : List Letter) → (session == sid.session) ≡ true → f (record { session = session; tokens = []; letters = [] }) ≡ []
      → told (mail_record session ts ls) ≡ f (record { session = session; tokens = ts; letters = ls })
  own_told session [] [] e none = sym none
  own_told session (x ∷ ts) ls e none = ap (λ b. cond b (f (record { session = session; tokens = x ∷ ts; letters = ls })) []) e
  own_told session [] (l ∷ ls) e none = ap (λ b. cond b (f (record { session = session; tokens = []; letters = l ∷ ls })) []) e

module _ (t : Table) (sound : IsSound t) (sid : Sid) where
  abbrev z : View
  z = view t

  pid_is : (row : WorkerRow) → (view t).worker_of sid.pid ≡ Some row → row.pid ≡ sid.pid
  pid_is row e = eqb-true row.pid sid.pid (found_in (has_pid sid.pid) t.workers row e).1

  -- by the mailbox, where what is shown goes by the session
  module _ {X : Type 0} (shown : Sid → List X) (f : MailRec → List X) (none : (session : ℕ) → f (record { session = session; tokens = []; letters = [] }) ≡ [])
      (back : f (record { session = sid.session; tokens = map rows.token_of ((view t).tokens_of sid); letters = map (λ (p : Post). p.letter) ((view t).letters_of sid) }) ≡ shown sid)
      (empty : lives (view t) sid ≡ false → shown sid ≡ []) where
    by_alive : (row : WorkerRow) → (view t).worker_of sid.pid ≡ Some row → (alive : Bool) → row.alive ≡ alive
        → shown sid ≡ told f sid (cond alive (mail_of_session (view t) (record { pid = row.pid; session = row.session })) None)
    by_alive row e false dead = empty (ap (λ o. lives_in o sid) e ∙ ap (λ b. b && (row.session == sid.session)) dead)
    by_alive row e true alive = own (row.session == sid.session) refl
      where
        own : (b : Bool) → (row.session == sid.session) ≡ b → shown sid ≡ told f sid (mail_of_session (view t) (record { pid = row.pid; session = row.session }))
        own false other =
            empty (ap (λ o. lives_in o sid) e ∙ ap (λ b. b && (row.session == sid.session)) alive ∙ other)
            ∙ sym (other_told f sid row.session _ _ other)
        own true same =
            let is : sid ≡ record { pid = row.pid; session = row.session } = λ i. record { pid = sym (pid_is row e) i; session = sym (eqb-true row.session sid.session same) i } in
            sym back
            ∙ sym (own_told f sid sid.session (map rows.token_of (z.tokens_of sid)) (map (λ (p : Post). p.letter) (z.letters_of sid)) (eq-eqb sid.session sid.session refl) (none sid.session))
            ∙ ap (λ (x : Sid). told f sid (mail_of_session z x)) is

    shown_told : shown sid ≡ told f sid (exact_mail (view t) sid.pid)
    shown_told = by (z.worker_of sid.pid) refl
      where
        by : (o : Option WorkerRow) → z.worker_of sid.pid ≡ o → shown sid ≡ told f sid (option_and_then (mail_if_alive z) o)
        by None e = empty (ap (λ o. lives_in o sid) e)
        by (Some row) e = by_alive row e row.alive refl

  pub tokens_told : (view t).tokens_of sid ≡ tokens_by sid (exact_mail (view t) sid.pid)
  tokens_told = shown_told z.tokens_of (λ (r : MailRec). map token_back r.tokens) (λ session. refl) (tokens_back (z.tokens_of sid)) (no_tokens t sound sid)

  pub letters_told : (view t).letters_of sid ≡ letters_by sid (exact_mail (view t) sid.pid)
  letters_told =
      shown_told z.letters_of (λ (r : MailRec). map (post_back sid) r.letters) (λ session. refl)
      (posts_back sid (z.letters_of sid) (λ p i. same_sid-eq p.to sid (in_filter (is_to sid) t.letters p i).1)) (no_letters t sound sid)

-- ---- mailboxes by what they tell

pub option_ext : {R : Type 0} (x y : Option R) → ((r : R) → x ≡ Some r → y ≡ Some r) → ((r : R) → y ≡ Some r → x ≡ Some r) → x ≡ y
option_ext (Some r) y f g = sym (f r refl)
option_ext None None f g = refl
option_ext None (Some r) f g = g r refl

-- the mailbox of a session that lives
mail_at : (a : Table) (sid : Sid) → lives (view a) sid ≡ true → exact_mail (view a) sid.pid ≡ mail_of_session (view a) sid
mail_at a sid living = by ((view a).worker_of sid.pid) refl living
  where
    by : (o : Option WorkerRow) → (view a).worker_of sid.pid ≡ o → lives_in o sid ≡ true → option_and_then (mail_if_alive (view a)) o ≡ mail_of_session (view a) sid
    by None e h = absurd cc
    by (Some row) e h =
        let p = and_parts row.alive (row.session == sid.session) h in
        ap (λ b. cond b (mail_of_session (view a) (record { pid = row.pid; session = row.session })) None) p.0
        ∙ ap (mail_of_session (view a)) (λ i. let x : Sid = record { pid = eqb-true row.pid sid.pid (found_in (has_pid sid.pid) a.workers row e).1 i; session = eqb-true row.session sid.session p.1 i } in x)

-- whose it is
holder : (a : Table) (pid : ℕ) (r : MailRec) → exact_mail (view a) pid ≡ Some r → (session : ℕ) × (lives (view a) (record { pid = pid; session = session }) ≡ true)
holder a pid r is = by ((view a).worker_of pid) refl is
  where
    alive_or : (row : WorkerRow) → (view a).worker_of pid ≡ Some row → (b : Bool) → row.alive ≡ b → cond b (mail_of_session (view a) (record { pid = row.pid; session = row.session })) None ≡ Some r
        → (session : ℕ) × (lives (view a) (record { pid = pid; session = session }) ≡ true)
    alive_or row e false dead h = absurd cc
    alive_or row e true alive h = (row.session, ap (λ o. lives_in o (record { pid = pid; session = row.session })) e ∙ and_from row.alive (row.session == row.session) alive (eq-eqb row.session row.session refl))

    by : (o : Option WorkerRow) → (view a).worker_of pid ≡ o → option_and_then (mail_if_alive (view a)) o ≡ Some r → (session : ℕ) × (lives (view a) (record { pid = pid; session = session }) ≡ true)
    by None e h = absurd cc
    by (Some row) e h = alive_or row e row.alive refl h

half : (a b : Table) → IsSound b → (pid : ℕ) → ((session : ℕ) → (view a).tokens_of (record { pid = pid; session = session }) ≡ (view b).tokens_of (record { pid = pid; session = session }))
    → ((session : ℕ) → (view a).letters_of (record { pid = pid; session = session }) ≡ (view b).letters_of (record { pid = pid; session = session }))
    → (r : MailRec) → exact_mail (view a) pid ≡ Some r → exact_mail (view b) pid ≡ Some r
half a b sound pid tokens letters r is =
    let h = holder a pid r is in
    let sid : Sid = record { pid = pid; session = h.0 } in
    let own : mail_of_session (view a) sid ≡ Some r = sym (mail_at a sid h.1) ∙ is in
    which (lives (view b) sid) h.0 own refl
  where
    no_mail : ◌≡◌ {A = Option MailRec} None (Some r) → ⊥
    no_mail e = cc

    which : (alive : Bool) (session : ℕ) → mail_of_session (view a) (record { pid = pid; session = session }) ≡ Some r → lives (view b) (record { pid = pid; session = session }) ≡ alive → exact_mail (view b) pid ≡ Some r
    which true session own living =
        mail_at b (record { pid = pid; session = session }) living
        ∙ (λ i. mail_record session (map rows.token_of (sym (tokens session) i)) (map (λ (p : Post). p.letter) (sym (letters session) i)))
        ∙ own
    which false session own dead =
        let sid : Sid = record { pid = pid; session = session } in
        absurd (no_mail (sym (λ i. mail_record session (map rows.token_of ((tokens session ∙ no_tokens b sound sid dead) i)) (map (λ (p : Post). p.letter) ((letters session ∙ no_letters b sound sid dead) i))) ∙ own))

-- ---- behind the same changes

module _ (setup : Setup) (cs : List Change) (t u : Table) (fine : IsFine setup t) (fine_other : IsFine setup u) (sound : IsSound (perform_all cs t)) (sound_other : IsSound (perform_all cs u)) where
  behind : {X : Type 0} (f : View → X) → f (perform_all_by_key cs (view t)) ≡ f (perform_all_by_key cs (view u)) → f (view (perform_all cs t)) ≡ f (view (perform_all cs u))
  behind f e = ap f (view-perform_all cs t) ∙ e ∙ sym (ap f (view-perform_all cs u))

  pub lock_behind : (key : ℕ) → exact_lock (view t) key ≡ exact_lock (view u) key → exact_lock (view (perform_all cs t)) key ≡ exact_lock (view (perform_all cs u)) key
  lock_behind key e =
      let holds = behind (λ (x : View). x.holds_of key) (holds_alike key cs (view t) (view u) (sym (holds_told t key) ∙ ap (λ o. map (hold_row key) (part_of (λ (r : GLockRec). r.holds) o)) e ∙ holds_told u key)) in
      let watches = behind (λ (x : View). x.watches_on (LockOf key)) (watches_alike (LockOf key) cs (view t) (view u) (sym (watches_told t key) ∙ ap (λ o. map watch_row (part_of (λ (r : GLockRec). r.watchers) o)) e ∙ watches_told u key)) in
      λ i. lock_record (map hold_of (holds i)) (map watch_of (watches i))

  pub mail_behind : (pid : ℕ) → exact_mail (view t) pid ≡ exact_mail (view u) pid → exact_mail (view (perform_all cs t)) pid ≡ exact_mail (view (perform_all cs u)) pid
  mail_behind pid e =
      let tokens : (session : ℕ) → (view (perform_all cs t)).tokens_of (record { pid = pid; session = session }) ≡ (view (perform_all cs u)).tokens_of (record { pid = pid; session = session }) =
      λ session. let sid : Sid = record { pid = pid; session = session } in behind (λ (x : View). x.tokens_of sid) (tokens_alike sid cs (view t) (view u) (tokens_told t fine.sound sid ∙ ap (tokens_by sid) e ∙ sym (tokens_told u fine_other.sound sid))) in
      let letters : (session : ℕ) → (view (perform_all cs t)).letters_of (record { pid = pid; session = session }) ≡ (view (perform_all cs u)).letters_of (record { pid = pid; session = session }) =
      λ session. let sid : Sid = record { pid = pid; session = session } in behind (λ (x : View). x.letters_of sid) (letters_alike sid cs (view t) (view u) (letters_told t fine.sound sid ∙ ap (letters_by sid) e ∙ sym (letters_told u fine_other.sound sid))) in
      option_ext (exact_mail (view (perform_all cs t)) pid) (exact_mail (view (perform_all cs u)) pid)
      (half (perform_all cs t) (perform_all cs u) sound_other pid tokens letters)
      (half (perform_all cs u) (perform_all cs t) sound pid (λ session. sym (tokens session)) (λ session. sym (letters session)))

  module _ (pid : ℕ) (e : exact_register (view t) pid ≡ exact_register (view u) pid) where
    pub worker_same : (view t).worker_of pid ≡ (view u).worker_of pid
    worker_same = worker_told setup t fine pid ∙ ap (option_map (row_by pid)) e ∙ sym (worker_told setup u fine_other pid)

    worker_then : (view (perform_all cs t)).worker_of pid ≡ (view (perform_all cs u)).worker_of pid
    worker_then = behind (λ (x : View). x.worker_of pid) (workers_alike pid cs (view t) (view u) worker_same)

    ended_before : ((view t).worker_of pid ≡ None) ⊎ ((view t).ended_of pid ≡ (view u).ended_of pid)
    ended_before = by (ended_told setup t fine pid) (ended_told setup u fine_other pid)
      where
        by : ((view t).worker_of pid ≡ None) ⊎ ((view t).ended_of pid ≡ ended_by pid (exact_register (view t) pid)) → ((view u).worker_of pid ≡ None) ⊎ ((view u).ended_of pid ≡ ended_by pid (exact_register (view u) pid))
            → ((view t).worker_of pid ≡ None) ⊎ ((view t).ended_of pid ≡ (view u).ended_of pid)
        by (inl none) q = inl none
        by (inr a) (inl none) = inl (worker_same ∙ none)
        by (inr a) (inr b) = inr (a ∙ ap (ended_by pid) e ∙ sym b)

    ended_then : ((view (perform_all cs t)).worker_of pid ≡ None) ⊎ ((view (perform_all cs t)).ended_of pid ≡ (view (perform_all cs u)).ended_of pid)
    ended_then = by ended_before
      where
        by : ((view t).worker_of pid ≡ None) ⊎ ((view t).ended_of pid ≡ (view u).ended_of pid) → ((view (perform_all cs t)).worker_of pid ≡ None) ⊎ ((view (perform_all cs t)).ended_of pid ≡ (view (perform_all cs u)).ended_of pid)
        by (inl none) = inl (ap (λ (x : View). x.worker_of pid) (view-perform_all cs t) ∙ no_worker pid cs (view t) none)
        by (inr same) = inr (behind (λ (x : View). x.ended_of pid) (ended_alike pid cs (view t) (view u) same))

    behind_then : (session : ℕ) → (view (perform_all cs t)).watches_behind (record { pid = pid; session = session }) ≡ (view (perform_all cs u)).watches_behind (record { pid = pid; session = session })
    behind_then session =
        let sid : Sid = record { pid = pid; session = session } in
        behind (λ (x : View). x.watches_behind sid) (behind_alike sid cs (view t) (view u) (behind_told setup t fine sid ∙ ap (behind_by sid) e ∙ sym (behind_told setup u fine_other sid)))

    pub register_behind : exact_register (view (perform_all cs t)) pid ≡ exact_register (view (perform_all cs u)) pid
    register_behind = by ((view (perform_all cs t)).worker_of pid) refl ended_then
      where
        no_row : (row : WorkerRow) → ◌≡◌ {A = Option WorkerRow} (Some row) None → ⊥
        no_row row e = cc

        by : (o : Option WorkerRow) → (view (perform_all cs t)).worker_of pid ≡ o → ((view (perform_all cs t)).worker_of pid ≡ None) ⊎ ((view (perform_all cs t)).ended_of pid ≡ (view (perform_all cs u)).ended_of pid)
            → exact_register (view (perform_all cs t)) pid ≡ exact_register (view (perform_all cs u)) pid
        by None is h = ap (option_map (register_record (view (perform_all cs t)))) is ∙ sym (ap (option_map (register_record (view (perform_all cs u)))) (sym worker_then ∙ is))
        by (Some row) is (inl none) = absurd (no_row row (sym is ∙ none))
        by (Some row) is (inr same) =
            let own : row.pid ≡ pid = eqb-true row.pid pid (found_in (has_pid pid) (perform_all cs t).workers row is).1 in
            let ends = ap (view (perform_all cs t)).ended_of own ∙ same ∙ sym (ap (view (perform_all cs u)).ended_of own) in
            let watches =
            ap (λ p. (view (perform_all cs t)).watches_behind (record { pid = p; session = row.session })) own ∙ behind_then row.session
            ∙ sym (ap (λ p. (view (perform_all cs u)).watches_behind (record { pid = p; session = row.session })) own) in
            ap (option_map (register_record (view (perform_all cs t)))) is
            ∙ (λ i. Some (let r : RegisterRec = record {
              worker = row.worker;
              alive = row.alive;
              session = row.session;
              connected = row.connected.0;
              ended = map (λ (e : EndedRow). e.moment.0) (ends i);
              watchers = map watch_of (watches i);
            } in r))
            ∙ sym (ap (option_map (register_record (view (perform_all cs u)))) (sym worker_then ∙ is))
