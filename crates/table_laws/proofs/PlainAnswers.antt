-- Calls of no file, deaths and tidied chains are legal by the chains of their footprint alone.
use Rattle.std.proofs.Common.{◌≡◌, ℕ, Bool, true, false, cond, not, ◌==◌, ◌&&◌, List, [], ◌∷◌, map, filter, Option, Some, None, refl, sym, ap, ◌∙◌, subst, inl, inr}
use Rattle.std.specs.Prelude.{IsSome}
use Rattle.std.specs.List.{list_any}
use Rattle.std.specs.Option.{option_map, option_map_or, option_and_then}
use Rattle.std.proofs.lemmas.Bool.{eqb-true}
use Rattle.sid_core.specs.declared.call.Call.{Call}
use Rattle.sid_core.specs.declared.call.Call.TheVariants as call
use Rattle.sid_core.specs.declared.call.Mode.{Mode}
use Rattle.sid_core.specs.declared.call.Tables.{Tables}
use Rattle.sid_core.specs.declared.call.Mode.TheVariants.{Shared, Exclusive}
use Rattle.sid_core.specs.declared.entry.Entry.{Entry}
use Rattle.sid_core.specs.declared.entry.Event.TheVariants.{Died, Tidied}
use Rattle.sid_core.specs.declared.entry.Letter.{Letter}
use Rattle.sid_core.specs.declared.entry.Post.{Post}
use Rattle.sid_core.specs.declared.ids.Moment.{Moment}
use Rattle.sid_core.specs.declared.ids.Sid.{Sid}
use Rattle.sid_core.specs.declared.ids.Spot.TheVariants.{LockOf}
use Rattle.sid_core.specs.declared.reply.Reply.{Reply}
use Rattle.sid_core.specs.declared.reply.Reply.TheVariants.{Message, NoMessage, PossibleDeadlock}
use Rattle.sid_core.specs.declared.setup.Setup.{Setup}
use Rattle.sid_core.specs.declared.setup.WorkerInfo.{WorkerInfo}
use Rattle.sid_core.specs.Ids.{same_sid}
use Rattle.serial_table.specs.declared.rows.HoldRow.{HoldRow}
use Rattle.serial_table.specs.declared.rows.Watch.{Watch}
use Rattle.serial_table.specs.declared.rows.WorkerRow.{WorkerRow}
use Rattle.serial_table.specs.declared.table.Table.{Table}
use Rattle.serial_table.specs.declared.decision.Caller.{Caller}
use Rattle.serial_table.specs.declared.decision.Decision.{Decision}
use Rattle.serial_table.specs.View.{View, view, lives, has_pid, is_hold_of}
use Rattle.serial_table.specs.Decision.{only_reply, conclude}
use Rattle.serial_table.specs.Disconnect.{disconnect}
use Rattle.serial_table.specs.Expire.{expired_by}
use Rattle.serial_table.specs.GlobalLock.{own_holds, other_holds, keeps_out, wait_for_lock, raise, change_hold, gain_hold, glock_by, glock, gunlock_by, gunlock}
use Rattle.serial_table.specs.History.{after, IsLegalDeath}
use Rattle.serial_table.specs.Recv.{recv_first, recv}
use Rattle.serial_table.specs.Session.{end_of_session}
use Rattle.serial_table.specs.Step.{declared_at, caller_of}
use Rattle.serial_table.proofs.Callers.{is_caller_of}
use Rattle.serial_table.proofs.Members.{IsIn, found_in, in_filter}
use Rattle.record_codec.specs.declared.glock_rec.GLockRec.{GLockRec}
use Rattle.record_codec.specs.declared.glock_rec.Hold.{Hold}
use Rattle.record_codec.specs.declared.mail_rec.MailRec.{MailRec}
use Rattle.chain_map.specs.declared.db.Db.TheVariants as db
use Rattle.record_codec.specs.declared.register_rec.RegisterRec.{RegisterRec}
use Rattle.record_codec.specs.RegisterRec.{register_rec}
use Rattle.stored_table.specs.Keys.{lock_key, pid_key}
use Rattle.stored_table.specs.Places.{Chains, Place, among, value_at}
use Rattle.stored_table.specs.Decoded.{AllRecords, decoded, records_of}
use Rattle.record_rows.specs.Rows.{hold_of, watch_of, token_of, watch_row}
use Rattle.stored_table.specs.Exact.{exact_lock, mail_of_session, mail_if_alive}
use Rattle.stored_table.specs.Met.{Met, met, met_by_call, met_by_lock, met_by_worker, met_everywhere, all_keys, all_met, nothing_met}
use Rattle.stored_table.specs.Shown.{part_of}
use Rattle.stored_table.specs.Stands.{AgreeWith, StandsFor}
use Rattle.table_laws.specs.Standing.{call_entry}
use Rattle.table_laws.specs.ByFootprint.{IsLegalByFootprint}
use Rattle.table_laws.proofs.Contained.{register_place}
use Rattle.table_laws.proofs.Meets.{part_first, part_second, register_met}
use Rattle.table_laws.proofs.Showing.{SameLockRecord, clean_lock_same}
use Rattle.table_laws.proofs.Footprints.{met_value, own_register_same, own_mail_same, lock_same}
use Rattle.table_laws.proofs.KeysThere.{recorded_key}
use Rattle.table_laws.proofs.Answering.{told, told_row, told_worker, caller_same, legal_if}

-- what is met is told by the caller
pub at_met : (setup : Setup) (n : ℕ) (k j : Chains) (e : Entry) (m : Met) → met setup n k e ≡ m → ((p : Place) → among p (all_met (met setup n k e)) ≡ true → value_at n k p ≡ value_at n j p)
    → (p : Place) → among p (all_met m) ≡ true → value_at n k p ≡ value_at n j p
at_met setup n k j e m is same p h = same p (ap (λ x. among p (all_met x)) is ∙ h)

pub by_declared : (setup : Setup) (n : ℕ) (k : Chains) (by number : ℕ) (which : Call) (info : WorkerInfo) → declared_at setup.workers by ≡ Some info
    → option_map_or (λ caller. met_by_call setup n k caller number which) (declared_at setup.workers by) nothing_met ≡ met_by_call setup n k info number which
by_declared setup n k by number which info declared = ap (λ o. option_map_or (λ caller. met_by_call setup n k caller number which) o nothing_met) declared

-- ---- `disconnect` and `tidy`: their reply is always the same

disconnect_reply : (v : View) (caller : Caller) → (disconnect v caller).reply ≡ Rattle.sid_core.specs.declared.reply.Reply.TheVariants.Done
unfolding disconnect end_of_session
disconnect_reply v caller = refl

module _ (setup : Setup) (n by seq number : ℕ) (moment : Moment) (reply : Reply) where
  pub disconnect_legal : IsLegalByFootprint setup n (call_entry by seq number moment call.Disconnect reply)
  disconnect_legal =
      legal_if setup n by seq number moment call.Disconnect reply (λ k j a caller info declared pid guid in_sets same. record {
        worker = λ t stands alive. own_register_same setup n k j [] [] [] [] (pid_key info.pid ∷ [])
            (at_met setup n k j (call_entry by seq number moment call.Disconnect reply) (met_by_worker n k info) (by_declared setup n k by number call.Disconnect info declared) same) info.pid (inl refl);
        answers = λ t u stands stands_other fine fine_other alive alive_other settled settled_other. disconnect_reply _ caller ∙ sym (disconnect_reply _ caller);
      })

  abbrev tidy_met : WorkerInfo → Met
  tidy_met info = record nothing_met { register = pid_key info.pid ∷ []; mail = pid_key info.pid ∷ [] }

  pub tidy_legal : IsLegalByFootprint setup n (call_entry by seq number moment call.Tidy reply)
  tidy_legal =
      legal_if setup n by seq number moment call.Tidy reply (λ k j a caller info declared pid guid in_sets same. record {
        worker = λ t stands alive. ap (decoded register_rec) (at_met setup n k j (call_entry by seq number moment call.Tidy reply) (tidy_met info) (by_declared setup n k by number call.Tidy info declared) same
            (register_place info.pid) (register_met (tidy_met info) (pid_key info.pid) (inl refl)));
        answers = λ t u stands stands_other fine fine_other alive alive_other settled settled_other. refl;
      })

  -- ---- `status`, which meets all register records

  -- that of a living worker is there
  pub register_there : (k : Chains) (t : Table) (pid session : ℕ) → StandsFor setup n k (view t) → lives (view t) (record { pid = pid; session = session }) ≡ true → IsIn (pid_key pid) (all_keys n k db.Register)
  register_there k t pid session stands alive = there ((records_of setup n k).register pid) refl
    where
      dead : (o : Option WorkerRow) → option_map told_row o ≡ None → option_map_or (λ (row : WorkerRow). row.alive && (row.session == session)) o false ≡ true → ⊥
      dead None e h = absurd cc
      dead (Some row) e h = absurd cc

      there : (o : Option RegisterRec) → (records_of setup n k).register pid ≡ o → IsIn (pid_key pid) (all_keys n k db.Register)
      there None e = absurd (dead ((view t).worker_of pid) (told_worker setup (records_of setup n k) (view t) stands.agree pid ∙ ap (option_map told) e) alive)
      there (Some r) e = recorded_key n k db.Register (pid_key pid) register_rec r stands.well_formed.chains.some e

  pub status_legal : (tables : Tables) → IsLegalByFootprint setup n (call_entry by seq number moment (call.Status tables) reply)
  status_legal tables =
      legal_if setup n by seq number moment (call.Status tables) reply (λ k j a caller info declared pid guid in_sets same. record {
        worker = λ t stands alive.
            ap (decoded register_rec) (at_met setup n k j (call_entry by seq number moment (call.Status tables) reply) (met_everywhere n k []) (by_declared setup n k by number (call.Status tables) info declared) same
            (register_place info.pid) (register_met (met_everywhere n k []) (pid_key info.pid) (subst (λ p. IsIn (pid_key p) (all_keys n k db.Register)) pid (register_there k t caller.sid.pid caller.sid.session stands alive))));
        answers = λ t u stands stands_other fine fine_other alive alive_other settled settled_other. refl;
      })

-- ---- `recv`: by the letters of the caller's mailbox

letters_by : (v : View) (sid : Sid) (row : WorkerRow) (alive : Bool) → row.pid ≡ sid.pid → (alive && (row.session == sid.session)) ≡ true
    → part_of (λ (r : MailRec). r.letters) (cond alive (mail_of_session v (record { pid = row.pid; session = row.session })) None) ≡ map (λ (post : Post). post.letter) (v.letters_of sid)
letters_by v sid row false pid e = absurd cc
letters_by v sid row true pid e =
    let own : Sid = record { pid = row.pid; session = row.session } in
    let same : own ≡ sid = λ i. record { pid = pid i; session = eqb-true row.session sid.session e i } in
    part_second (λ (r : MailRec). r.letters) (map token_of (v.tokens_of own)) (map (λ (post : Post). post.letter) (v.letters_of own))
    (record { session = row.session; tokens = map token_of (v.tokens_of own); letters = map (λ (post : Post). post.letter) (v.letters_of own) }) refl
    ∙ ap (λ x. map (λ (post : Post). post.letter) (v.letters_of x)) same

letters_told : (t : Table) (sid : Sid) (o : Option WorkerRow) → (view t).worker_of sid.pid ≡ o → option_map_or (λ (row : WorkerRow). row.alive && (row.session == sid.session)) o false ≡ true
    → part_of (λ (r : MailRec). r.letters) (option_and_then (mail_if_alive (view t)) o) ≡ map (λ (post : Post). post.letter) ((view t).letters_of sid)
letters_told t sid None is e = absurd cc
letters_told t sid (Some row) is e = letters_by (view t) sid row row.alive (eqb-true row.pid sid.pid (found_in (has_pid sid.pid) t.workers row is).1) e

-- the caller's letters are those of its record
letters_in : (setup : Setup) (s : AllRecords) (t : Table) → AgreeWith setup s (view t) → (sid : Sid) → lives (view t) sid ≡ true → part_of (λ (r : MailRec). r.letters) (s.mail sid.pid) ≡ map (λ (post : Post). post.letter) ((view t).letters_of sid)
letters_in setup s t agree sid alive = ap (part_of (λ (r : MailRec). r.letters)) (agree.mail sid.pid) ∙ letters_told t sid ((view t).worker_of sid.pid) refl alive

abbrev first_reply : List Letter → Reply
first_reply [] = NoMessage
first_reply (letter ∷ others) = Message letter

recv_reply : (caller : Caller) (posts : List Post) → (recv_first caller posts).reply ≡ first_reply (map (λ (post : Post). post.letter) posts)
recv_reply caller [] = refl
recv_reply caller (first ∷ others) = refl

module _ (setup : Setup) (n by seq number : ℕ) (moment : Moment) (reply : Reply) where
  recv_answers : (k j : Chains) (caller : Caller) → (records_of setup n k).mail caller.sid.pid ≡ (records_of setup n j).mail caller.sid.pid → (t u : Table) → StandsFor setup n k (view t) → StandsFor setup n j (view u)
      → lives (view t) caller.sid ≡ true → lives (view u) caller.sid ≡ true → (recv (view t) caller).reply ≡ (recv (view u) caller).reply
  unfolding recv
  recv_answers k j caller same t u stands stands_other alive alive_other =
      recv_reply caller ((view t).letters_of caller.sid)
      ∙ ap first_reply (sym (letters_in setup (records_of setup n k) t stands.agree caller.sid alive) ∙ ap (part_of (λ (r : MailRec). r.letters)) same ∙ letters_in setup (records_of setup n j) u stands_other.agree caller.sid alive_other)
      ∙ sym (recv_reply caller ((view u).letters_of caller.sid))

  pub recv_legal : IsLegalByFootprint setup n (call_entry by seq number moment call.Recv reply)
  unfolding expired_by
  recv_legal =
      legal_if setup n by seq number moment call.Recv reply (λ k j a caller info declared pid guid in_sets same.
      let at = at_met setup n k j (call_entry by seq number moment call.Recv reply) (met_by_worker n k info) (by_declared setup n k by number call.Recv info declared) same in
      record {
        worker = λ t stands alive. own_register_same setup n k j [] [] [] [] (pid_key info.pid ∷ []) at info.pid (inl refl);
        answers = λ t u stands stands_other fine fine_other alive alive_other settled settled_other.
            recv_answers k j caller (subst (λ p. (records_of setup n k).mail p ≡ (records_of setup n j).mail p) (sym pid) (own_mail_same setup n k j [] [] [] [] (pid_key info.pid ∷ []) at info.pid (inl refl))) t u stands stands_other alive alive_other;
      })

-- ---- global locks: by the lock's record

-- a row that a hold tells of this lock
abbrev pub hold_row : ℕ → Hold → HoldRow
hold_row key hold = record { owner = hold.sid; key = key; mode = hold.mode }

holds_back : (key : ℕ) (rows : List HoldRow) → ((h : HoldRow) → IsIn h rows → h.key ≡ key) → map (hold_row key) (map hold_of rows) ≡ rows
holds_back key [] h = refl
holds_back key (row ∷ rows) h = λ i. (record { owner = row.owner; key = sym (h row (inl refl)) i; mode = row.mode }) ∷ holds_back key rows (λ x j. h x (inr j)) i

pub watches_back : (ws : List Watch) → map watch_row (map watch_of ws) ≡ ws
watches_back [] = refl
watches_back (w ∷ ws) = ap (λ xs. w ∷ xs) (watches_back ws)

pub holds_told : (t : Table) (key : ℕ) → map (hold_row key) (part_of (λ (r : GLockRec). r.holds) (exact_lock (view t) key)) ≡ (view t).holds_of key
holds_told t key =
    ap (map (hold_row key)) (part_first (λ (r : GLockRec). r.holds) (map hold_of ((view t).holds_of key)) (map watch_of ((view t).watches_on (LockOf key)))
    (record { holds = map hold_of ((view t).holds_of key); watchers = map watch_of ((view t).watches_on (LockOf key)) }) refl)
    ∙ holds_back key ((view t).holds_of key) (λ h i. eqb-true h.key key (in_filter (is_hold_of key) t.holds h i).1)

pub watches_told : (t : Table) (key : ℕ) → map watch_row (part_of (λ (r : GLockRec). r.watchers) (exact_lock (view t) key)) ≡ (view t).watches_on (LockOf key)
watches_told t key =
    ap (map watch_row) (part_second (λ (r : GLockRec). r.watchers) (map hold_of ((view t).holds_of key)) (map watch_of ((view t).watches_on (LockOf key)))
    (record { holds = map hold_of ((view t).holds_of key); watchers = map watch_of ((view t).watches_on (LockOf key)) }) refl)
    ∙ watches_back ((view t).watches_on (LockOf key))

module _ (v w : View) (caller : Caller) (key : ℕ) (holds : v.holds_of key ≡ w.holds_of key) (watches : v.watches_on (LockOf key) ≡ w.watches_on (LockOf key)) where
  raised_same : (wait : Bool) (rows : List HoldRow) → raise v caller key wait rows ≡ raise w caller key wait rows
  raised_same wait [] = refl
  raised_same false (first ∷ others) = refl
  raised_same true (first ∷ others) =
      ap (λ ws. cond (list_any (λ (watch : Watch). watch.upgrade && not (same_sid watch.sid caller.sid)) ws) (only_reply PossibleDeadlock) (wait_for_lock caller key first.owner true)) watches

  others_same : other_holds v caller key ≡ other_holds w caller key
  others_same = ap (filter (λ (hold : HoldRow). not (same_sid hold.owner caller.sid))) holds

  changed_same : (wait : Bool) (held asked : Mode) → change_hold v caller key wait held asked ≡ change_hold w caller key wait held asked
  changed_same wait Shared Shared = refl
  changed_same wait Exclusive Exclusive = refl
  changed_same wait Exclusive Shared = refl
  changed_same wait Shared Exclusive = raised_same wait (other_holds v caller key) ∙ ap (raise w caller key wait) others_same

  pub locked_by : (mode : Mode) (wait : Bool) (rows : List HoldRow) → glock_by v caller key mode wait rows ≡ glock_by w caller key mode wait rows
  locked_by mode wait [] = ap (λ rows. gain_hold caller key mode wait (filter (keeps_out mode) rows)) others_same
  locked_by mode wait (own ∷ others) = changed_same wait own.mode mode

  glock_same : (mode : Mode) (wait : Bool) → (glock v caller key mode wait).reply ≡ (glock w caller key mode wait).reply
  unfolding glock
  glock_same mode wait =
      ap (λ (d : Decision). d.reply) (locked_by mode wait (own_holds v caller key) ∙ ap (λ rows. glock_by w caller key mode wait (filter (λ (hold : HoldRow). same_sid hold.owner caller.sid) rows)) holds)

  gunlock_same : (gunlock v caller key).reply ≡ (gunlock w caller key).reply
  unfolding gunlock
  gunlock_same = ap (λ rows. (gunlock_by caller key (filter (λ (hold : HoldRow). same_sid hold.owner caller.sid) rows)).reply) holds

module _ (setup : Setup) (n : ℕ) (k j : Chains) (key : ℕ) (same : SameLockRecord (records_of setup n k) (records_of setup n j) key) (t u : Table) (stands : StandsFor setup n k (view t)) (stands_other : StandsFor setup n j (view u)) where
  pub exact_same : exact_lock (view t) key ≡ exact_lock (view u) key
  exact_same = sym (stands.agree.locks key) ∙ clean_lock_same (records_of setup n k) (records_of setup n j) key same ∙ stands_other.agree.locks key

  pub lock_holds_same : (view t).holds_of key ≡ (view u).holds_of key
  lock_holds_same = sym (holds_told t key) ∙ ap (λ o. map (hold_row key) (part_of (λ (r : GLockRec). r.holds) o)) exact_same ∙ holds_told u key

  pub lock_watches_same : (view t).watches_on (LockOf key) ≡ (view u).watches_on (LockOf key)
  lock_watches_same = sym (watches_told t key) ∙ ap (λ o. map watch_row (part_of (λ (r : GLockRec). r.watchers) o)) exact_same ∙ watches_told u key

module _ (setup : Setup) (n by seq number : ℕ) (moment : Moment) (key : ℕ) (reply : Reply) where
  pub glock_legal : (mode : Mode) (wait : Bool) → IsLegalByFootprint setup n (call_entry by seq number moment (call.GLock key mode wait) reply)
  unfolding expired_by
  glock_legal mode wait =
      legal_if setup n by seq number moment (call.GLock key mode wait) reply (λ k j a caller info declared pid guid in_sets same.
      let at = at_met setup n k j (call_entry by seq number moment (call.GLock key mode wait) reply) (met_by_lock n k info key) (by_declared setup n k by number (call.GLock key mode wait) info declared) same in
      record {
        worker = λ t stands alive. own_register_same setup n k j [] (lock_key key ∷ []) [] [] (pid_key info.pid ∷ []) at info.pid (inl refl);
        answers = λ t u stands stands_other fine fine_other alive alive_other settled settled_other.
            let lock = lock_same setup n k j [] (lock_key key ∷ []) [] [] (pid_key info.pid ∷ []) at key (inl refl) in
            glock_same (view t) (view u) caller key (lock_holds_same setup n k j key lock t u stands stands_other) (lock_watches_same setup n k j key lock t u stands stands_other) mode wait;
      })

  pub gunlock_legal : IsLegalByFootprint setup n (call_entry by seq number moment (call.GUnlock key) reply)
  unfolding expired_by
  gunlock_legal =
      legal_if setup n by seq number moment (call.GUnlock key) reply (λ k j a caller info declared pid guid in_sets same.
      let at = at_met setup n k j (call_entry by seq number moment (call.GUnlock key) reply) (met_by_lock n k info key) (by_declared setup n k by number (call.GUnlock key) info declared) same in
      record {
        worker = λ t stands alive. own_register_same setup n k j [] (lock_key key ∷ []) [] [] (pid_key info.pid ∷ []) at info.pid (inl refl);
        answers = λ t u stands stands_other fine fine_other alive alive_other settled settled_other.
            let lock = lock_same setup n k j [] (lock_key key ∷ []) [] [] (pid_key info.pid ∷ []) at key (inl refl) in
            gunlock_same (view t) (view u) caller key (lock_holds_same setup n k j key lock t u stands stands_other) (lock_watches_same setup n k j key lock t u stands stands_other);
      })

-- ---- deaths and tidied chains

module _ (setup : Setup) (n by seq : ℕ) where
  pub died_legal : (worker : ℕ) (moment : Moment) → IsLegalByFootprint setup n (record { by = by; seq = seq; what = Died worker moment })
  died_legal worker moment k j before other is legal legal_other stands stands_other agree at = from_caller (caller_of setup (view (after setup before)) worker 0 moment) refl
    where
      from_caller : (o : Option Caller) → caller_of setup (view (after setup before)) worker 0 moment ≡ o → IsLegalDeath setup (after setup other) worker moment
      from_caller None from = absurd (none_dies (subst (λ o. IsSome (option_map (λ (caller : Caller). conclude (view (after setup before)) (end_of_session (view (after setup before)) caller.sid moment [])) o)) from at.dies))
        where
          none_dies : ◌≡◌ {A = Bool} false true → ⊥
          none_dies h = cc
      from_caller (Some caller) from =
          let e : Entry = record { by = by; seq = seq; what = Died worker moment } in
          let of = is_caller_of setup (after setup before) worker 0 moment caller from in
          let met_is : met setup n k e ≡ met_by_worker n k of.info = ap (λ o. option_map_or (met_by_worker n k) o nothing_met) of.declared in
          let same = own_register_same setup n k j [] [] [] [] (pid_key of.info.pid ∷ []) (at_met setup n k j e (met_by_worker n k of.info) met_is (met_value setup n k j e stands.well_formed.chains agree)) of.info.pid (inl refl) in
          let from_other = sym (caller_same setup (records_of setup n k) (records_of setup n j) (after setup before) (after setup other) stands.agree stands_other.agree worker 0 moment of.info of.declared same) ∙ from in
          record {
            timed = at.timed;
            dies = subst (λ o. IsSome (option_map (λ (caller : Caller). conclude (view (after setup other)) (end_of_session (view (after setup other)) caller.sid moment [])) o)) (sym from_other) refl;
          }

  pub tidied_legal : (chain : ℕ) → IsLegalByFootprint setup n (record { by = by; seq = seq; what = Tidied chain })
  tidied_legal chain k j before other is legal legal_other stands stands_other agree at = tt
