-- What a history makes of chains stands for its table: entry by entry, with what the records name.
use Rattle.std.proofs.Common.{◌≡◌, ℕ, ◌<◌, ◌≤◌, true, ◌==◌, ◌&&◌, List, [], ◌∷◌, ◌++◌, Some, refl, sym, ap, ◌∙◌, subst, arith}
use Rattle.std.proofs.lemmas.Bool.{and_parts, eqb-true, false_from_ne_true}
use Rattle.sid_core.specs.declared.call.Call.TheVariants as call
use Rattle.sid_core.specs.declared.entry.Entry.{Entry}
use Rattle.sid_core.specs.declared.entry.Event.{Event}
use Rattle.sid_core.specs.declared.entry.Event.TheVariants.{Called, Died, Tidied}
use Rattle.sid_core.specs.declared.ids.Moment.{Moment}
use Rattle.sid_core.specs.declared.ids.Sid.{Sid}
use Rattle.sid_core.specs.declared.call.Call.{Call}
use Rattle.sid_core.specs.declared.reply.Reply.{Reply}
use Rattle.sid_core.specs.declared.setup.Setup.{Setup}
use Rattle.sid_core.specs.Setup.{IsSetup}
use Rattle.sid_core.specs.Counting.{CountsFrom, RisesAbove}
use Rattle.sid_core.specs.Ids.{same_sid}
use Rattle.serial_table.specs.declared.table.Table.{Table}
use Rattle.serial_table.specs.declared.decision.Caller.{Caller}
use Rattle.serial_table.specs.View.{view}
use Rattle.serial_table.specs.Step.{caller_of, changes_of}
use Rattle.serial_table.specs.History.{start, after, after_entry, AreLegal, IsLegal, own_seq, seqs_of, own_number, numbers_of}
use Rattle.serial_table.specs.Sound.{has_had}
use Rattle.serial_table.proofs.Alike.{after_all-append}
use Rattle.serial_table.proofs.Along.{raised_more, Rises, rises_at, KeptByCalls, along_before, legal_before}
use Rattle.serial_table.proofs.Callers.{is_caller_of}
use Rattle.serial_table.proofs.Members.{all_by}
use Rattle.serial_table.proofs.Names.{same_sid-eq}
use Rattle.serial_table.proofs.Soundness.{IsReached, expiries_reach, calls_reach, deaths_reach, start_reached}
use Rattle.record_codec.specs.declared.register_rec.RegisterRec.{RegisterRec}
use Rattle.stored_table.specs.Places.{Chains}
use Rattle.stored_table.specs.Decoded.{records_of}
use Rattle.stored_table.specs.Histories.{moved_from, moved_by}
use Rattle.stored_table.specs.Move.{added, move, places_written, first_chains}
use Rattle.stored_table.specs.Shown.{part_of}
use Rattle.stored_table.specs.Stands.{AddedHasSpelling, HaveSpellings, IsWellFormed, StandsFor}
use Rattle.stored_table.proofs.Keeping.{well_formed-move}
use Rattle.stored_table.proofs.Spelling.{have_spellings, added_has_spelling}
use Rattle.stored_table.proofs.Starting.{first_chains_stand}
use Rattle.stored_table.proofs.Whole.{records_moved}
use Rattle.table_laws.specs.Standing.{IsUnwatched, IsUnnamed, next_sid, call_entry, HistoryStands, NameNothingNew}
use Rattle.table_laws.proofs.Lists.{append_nothing}
use Rattle.table_laws.proofs.Chains.{IsFine, legal_is_fine, flat_joined, counts_before, rises_before}
use Rattle.table_laws.proofs.Recorded.{IsRecorded, had_perform_all, recorded_after}
use Rattle.table_laws.proofs.FirstRecords.{first_recorded}
use Rattle.table_laws.proofs.HandleEvents.{close_stands, delete_stands, unlock_stands, read_stands}
use Rattle.table_laws.proofs.WriteEvents.{write_stands}
use Rattle.table_laws.proofs.AckEvents.{ack_stands}
use Rattle.table_laws.proofs.CallerEvents.{recv_stands, tidy_stands, status_stands, tidied_stands}
use Rattle.table_laws.proofs.LockEvents.{gunlock_stands}
use Rattle.table_laws.proofs.WaitEvents.{glock_stands, lock_stands}
use Rattle.table_laws.proofs.OpenEvents.{open_stands}
use Rattle.table_laws.proofs.DeathEvents.{death_stands}
use Rattle.table_laws.proofs.SessionEvents.{not_had, disconnect_stands}
use Rattle.table_laws.proofs.ScavengeEvents.{scavenge_stands}
use Rattle.table_laws.proofs.ReconnectEvents.{reconnect_stands}

-- ---- the beginning of a legal history

pub grouped : {X : Type 0} (xs ys zs : List X) → (xs ++ ys) ++ zs ≡ xs ++ (ys ++ zs)
grouped [] ys zs = refl
grouped (x ∷ xs) ys zs = ap (λ l. x ∷ l) (grouped xs ys zs)

legal_first : (setup : Setup) (t : Table) (first later : List Entry) → AreLegal setup t (first ++ later) → AreLegal setup t first
legal_first setup t [] later legal = tt
legal_first setup t (e ∷ first) later legal = (legal.0, legal_first setup (after_entry setup t e) first later legal.1)

pub legal_begin : (setup : Setup) (first later : List Entry) → IsLegal setup (first ++ later) → IsLegal setup first
legal_begin setup first later legal = record {
  entries = legal_first setup (start setup) first later legal.entries;
  counted = λ by. counts_before 1 (seqs_of by first) (seqs_of by later) (subst (CountsFrom 1) (flat_joined (own_seq by) first later) (legal.counted by));
  rising = λ by. rises_before 0 (numbers_of by first) (numbers_of by later) (subst (RisesAbove 0) (flat_joined (own_number by) first later) (legal.rising by));
}

-- ---- entry by entry

module _ (setup : Setup) (n : ℕ) (Q : List Entry → List Entry → Chains → Type 0)
    (step : (done : List Entry) (e : Entry) (rest : List Entry) (k : Chains) → IsLegal setup (done ++ e ∷ rest) → Q done (e ∷ rest) k
    → Q (done ++ e ∷ []) rest (move setup n k e (view (after setup (done ++ e ∷ []))))) where
  pub carried : (done todo rest : List Entry) (k : Chains) → IsLegal setup (done ++ (todo ++ rest)) → Q done (todo ++ rest) k → Q (done ++ todo) rest (moved_from setup n k (after setup done) todo)
  carried done [] rest k legal q = subst (λ d. Q d rest k) (sym (append_nothing done)) q
  carried done (e ∷ todo) rest k legal q =
      let is : after setup (done ++ e ∷ []) ≡ after_entry setup (after setup done) e = after_all-append setup (start setup) done e in
      let next = carried (done ++ e ∷ []) todo rest (move setup n k e (view (after setup (done ++ e ∷ []))))
      (subst (IsLegal setup) (sym (grouped done (e ∷ []) (todo ++ rest))) legal) (step done e (todo ++ rest) k legal q) in
      subst (λ d. Q d rest (moved_from setup n (move setup n k e (view (after_entry setup (after setup done) e))) (after_entry setup (after setup done) e) todo)) (grouped done (e ∷ []) todo)
      (subst (λ x. Q ((done ++ e ∷ []) ++ todo) rest (moved_from setup n (move setup n k e (view x)) x todo)) is next)

-- ---- what records name

-- with the last numbers of calls, by pid
pub record Names (setup : Setup) (n : ℕ) (done rest : List Entry) (k : Chains) : Type 0 where
  pub low : ℕ → ℕ
  pub reached : IsReached low (after setup done)
  pub rises : Rises setup low rest
  pub recorded : IsRecorded low (after setup done) (records_of setup n k)
  pub formed : IsWellFormed n k

module _ (setup : Setup) (n : ℕ) (is : IsSetup setup) where
  -- reached, with numbers that are no lower than before
  abbrev IsHigher : (ℕ → ℕ) → (ℕ → ℕ) → Table → Type 0
  IsHigher low high t = IsReached high t × ((pid : ℕ) → low pid ≤ high pid)

  higher_calls : (low : ℕ → ℕ) → KeptByCalls setup (IsHigher low)
  higher_calls low high t by number moment call caller p legal of above = (
    calls_reach setup high t by number moment call caller p.0 legal of above,
    λ pid. let a : low pid ≤ high pid = p.1 pid in let b = raised_more high caller.sid.pid number above pid in omega (arith, a, b),
  )

  -- One entry more: the numbers go on, and what is recorded of it has its spellings.
  pub record NextStep (low : ℕ → ℕ) (done : List Entry) (e : Entry) (rest : List Entry) : Type 0 where
    pub high : ℕ → ℕ
    pub more : (pid : ℕ) → low pid ≤ high pid
    pub reached : IsReached high (after setup (done ++ e ∷ []))
    pub rises : Rises setup high rest
    pub fine : IsFine setup (after setup (done ++ e ∷ []))
    pub spelled : HaveSpellings setup (view (after setup (done ++ e ∷ [])))
    pub added_spelled : AddedHasSpelling (added setup (view (after setup (done ++ e ∷ []))) e)

  pub next_step : (low : ℕ → ℕ) (done : List Entry) (e : Entry) (rest : List Entry) → IsLegal setup (done ++ e ∷ rest) → IsReached low (after setup done) → Rises setup low (e ∷ rest) → NextStep low done e rest
  next_step low done e rest legal reached rises =
      let u = after setup (done ++ e ∷ []) in
      let next = along_before setup is (IsHigher low) (λ high t caller call p. (expiries_reach setup high t caller call p.0, p.1)) (higher_calls low)
      (λ high t worker moment caller p timed of. (deaths_reach setup high t worker moment caller p.0 timed of, p.1)) low (after setup done) (e ∷ []) rest (reached, λ pid. omega arith)
      ((legal_before setup (start setup) done rest e legal.entries).1, tt) rises in
      let fine = legal_is_fine setup (done ++ e ∷ []) is (legal_begin setup (done ++ e ∷ []) rest (subst (IsLegal setup) (sym (grouped done (e ∷ []) rest)) legal)) in
      record {
        high = next.0;
        more = next.1.1;
        reached = subst (IsReached next.0) (sym (after_all-append setup (start setup) done e)) next.1.0;
        rises = next.2;
        fine = fine;
        spelled = have_spellings setup u is fine.sets fine.sound.rows fine.bounded;
        added_spelled = added_has_spelling setup u is fine.sets fine.sound.rows fine.bounded e;
      }

  names_step : (done : List Entry) (e : Entry) (rest : List Entry) (k : Chains) → IsLegal setup (done ++ e ∷ rest) → Names setup n done (e ∷ rest) k
      → Names setup n (done ++ e ∷ []) rest (move setup n k e (view (after setup (done ++ e ∷ []))))
  names_step done e rest k legal q =
      let t = after setup done in
      let u = after setup (done ++ e ∷ []) in
      let next = next_step q.low done e rest legal q.reached q.rises in
      let still : (sid : Sid) → has_had (view t) sid ≡ true → has_had (view u) sid ≡ true =
      λ sid h. ap (λ (x : Table). has_had (view x) sid) (after_all-append setup (start setup) done e) ∙ had_perform_all sid (changes_of setup (view t) e.by e.what) t h in
      record {
        low = next.high;
        reached = next.reached;
        rises = next.rises;
        recorded = subst (IsRecorded next.high u) (sym (records_moved setup n k e (view u) is q.formed next.spelled next.added_spelled))
            (recorded_after setup (places_written setup n k e) (added setup (view u) e) (records_of setup n k) t u next.fine.sound.rows q.low next.high next.more next.reached.numbered still q.recorded);
        formed = well_formed-move setup n k e (view u) q.formed next.spelled next.added_spelled;
      }

  names_first : 1 ≤ n → (history : List Entry) → IsLegal setup history → Names setup n [] history (first_chains setup n)
  names_first some history legal = record {
    low = λ pid. 0;
    reached = start_reached setup is;
    rises = λ worker info d. legal.rising worker;
    recorded = first_recorded setup n is some (λ pid. 0);
    formed = (first_chains_stand setup n is some).well_formed;
  }

  -- ---- the next call

  module _ (done rest : List Entry) (by seq number : ℕ) (moment : Moment) (which : Call) (reply : Reply) (k : Chains)
      (q : Names setup n done (call_entry by seq number moment which reply ∷ rest) k) (caller : Caller) (from : caller_of setup (view (after setup done)) by number moment ≡ Some caller) where
    above : q.low caller.sid.pid < caller.number
    above =
        let of = is_caller_of setup (after setup done) by number moment caller from in
        let high : q.low of.info.pid < number = rises_at (q.low of.info.pid) by number (numbers_of by rest) (by == by) refl (q.rises by of.info of.declared) in
        subst (λ m. q.low caller.sid.pid < m) (sym of.number_is) (subst (λ pid. q.low pid < number) (sym of.pid) high)

    unwatched : IsUnwatched setup n k caller.sid caller.number
    unwatched pid = all_by _ (part_of (λ (r : RegisterRec). r.watchers) ((records_of setup n k).register pid)) (λ w i.
        false_from_ne_true (same_sid caller.sid w.sid && (caller.number == w.call)) (λ e.
        let p = and_parts (same_sid caller.sid w.sid) (caller.number == w.call) e in
        let low : w.call ≤ q.low w.sid.pid = q.recorded.watched pid w i in
        let same : q.low caller.sid.pid ≡ q.low w.sid.pid = ap (λ (x : Sid). q.low x.pid) (same_sid-eq caller.sid w.sid p.0) in
        let is_call : caller.number ≡ w.call = eqb-true caller.number w.call p.1 in
        let up : q.low caller.sid.pid < caller.number = above in
        omega (arith, low, same, is_call, up)))

    unnamed : IsUnnamed (records_of setup n k) (next_sid caller.sid)
    unnamed =
        let of = is_caller_of setup (after setup done) by number moment caller from in
        q.recorded.named (next_sid caller.sid) (false_from_ne_true (has_had (view (after setup done)) (next_sid caller.sid)) (not_had caller.sid moment (after setup done) q.reached.consistent of.alive))

  -- behind a history
  pub name_nothing_new : (before : List Entry) (by seq number : ℕ) (moment : Moment) (which : Call) (reply : Reply) → 1 ≤ n → IsLegal setup (before ++ call_entry by seq number moment which reply ∷ [])
      → (caller : Caller) → caller_of setup (view (after setup before)) by number moment ≡ Some caller → NameNothingNew setup n before caller
  name_nothing_new before by seq number moment which reply some legal caller from =
      let e = call_entry by seq number moment which reply in
      let q : Names setup n before (e ∷ []) (moved_by setup n before) = carried setup n (Names setup n) names_step [] before (e ∷ []) (first_chains setup n) legal (names_first some (before ++ e ∷ []) legal) in
      record { unwatched = unwatched before [] by seq number moment which reply (moved_by setup n before) q caller from; unnamed = unnamed before [] by seq number moment which reply (moved_by setup n before) q caller from }

  -- ---- what is written stands for the table

  abbrev Kept : List Entry → List Entry → Chains → Type 0
  Kept done rest k = Names setup n done rest k × StandsFor setup n k (view (after setup done))

  entry_stands : (done rest : List Entry) (by seq : ℕ) (what : Event) (k : Chains) → IsLegal setup (done ++ record { by = by; seq = seq; what = what } ∷ []) → Kept done (record { by = by; seq = seq; what = what } ∷ rest) k
      → StandsFor setup n (move setup n k (record { by = by; seq = seq; what = what }) (view (after setup (done ++ record { by = by; seq = seq; what = what } ∷ [])))) (view (after setup (done ++ record { by = by; seq = seq; what = what } ∷ [])))
  entry_stands done rest by seq (Called number moment (call.OpenFile file access share lease durable overwrite delete) reply) k legal q =
      open_stands setup n is done by seq number moment file access share lease durable overwrite delete reply legal k q.1
      (λ caller from. unwatched done rest by seq number moment (call.OpenFile file access share lease durable overwrite delete) reply k q.0 caller from)
  entry_stands done rest by seq (Called number moment (call.Close handle) reply) k legal q = close_stands setup n is done by seq number moment handle reply legal k q.1
  entry_stands done rest by seq (Called number moment (call.Delete handle on) reply) k legal q = delete_stands setup n is done by seq number moment handle reply on legal k q.1
  entry_stands done rest by seq (Called number moment (call.Ack key state) reply) k legal q = ack_stands setup n is done by seq number moment key state reply legal k q.1
  entry_stands done rest by seq (Called number moment (call.Lock handle span mode wait) reply) k legal q =
      lock_stands setup n is done by seq number moment handle reply span mode wait legal k q.1 (λ caller from. unwatched done rest by seq number moment (call.Lock handle span mode wait) reply k q.0 caller from)
  entry_stands done rest by seq (Called number moment (call.Unlock handle span) reply) k legal q = unlock_stands setup n is done by seq number moment handle reply span legal k q.1
  entry_stands done rest by seq (Called number moment (call.Read handle span) reply) k legal q = read_stands setup n is done by seq number moment handle reply span legal k q.1
  entry_stands done rest by seq (Called number moment (call.Write handle span) reply) k legal q = write_stands setup n is done by seq number moment handle reply span legal k q.1
  entry_stands done rest by seq (Called number moment (call.GLock key mode wait) reply) k legal q =
      glock_stands setup n is done by seq number moment reply key mode wait legal k q.1 (λ caller from. unwatched done rest by seq number moment (call.GLock key mode wait) reply k q.0 caller from)
  entry_stands done rest by seq (Called number moment (call.GUnlock key) reply) k legal q = gunlock_stands setup n is done by seq number moment key reply legal k q.1
  entry_stands done rest by seq (Called number moment call.Recv reply) k legal q = recv_stands setup n is done by seq number moment reply legal k q.1
  entry_stands done rest by seq (Called number moment call.Disconnect reply) k legal q =
      disconnect_stands setup n is done by seq number moment reply legal k q.1 (λ caller from. unnamed done rest by seq number moment call.Disconnect reply k q.0 caller from)
  entry_stands done rest by seq (Called number moment (call.Reconnect worker made key) reply) k legal q = reconnect_stands setup n is done by seq number moment worker made key reply legal k q.1
  entry_stands done rest by seq (Called number moment call.Scavenge reply) k legal q = scavenge_stands setup n is done by seq number moment reply legal k q.1
  entry_stands done rest by seq (Called number moment call.Tidy reply) k legal q = tidy_stands setup n is done by seq number moment reply legal k q.1
  entry_stands done rest by seq (Called number moment (call.Status tables) reply) k legal q = status_stands setup n is done by seq number moment reply tables legal k q.1
  entry_stands done rest by seq (Died worker moment) k legal q = death_stands setup n is done by seq worker moment legal k q.1
  entry_stands done rest by seq (Tidied chain) k legal q = tidied_stands setup n is done by seq chain legal k q.1

  kept_step : (done : List Entry) (e : Entry) (rest : List Entry) (k : Chains) → IsLegal setup (done ++ e ∷ rest) → Kept done (e ∷ rest) k → Kept (done ++ e ∷ []) rest (move setup n k e (view (after setup (done ++ e ∷ []))))
  kept_step done e rest k legal q = (
    names_step done e rest k legal q.0,
    entry_stands done rest e.by e.seq e.what k (legal_begin setup (done ++ e ∷ []) rest (subst (IsLegal setup) (sym (grouped done (e ∷ []) rest)) legal)) q,
  )

  pub history_stands : (history : List Entry) → 1 ≤ n → IsLegal setup history → HistoryStands setup n history
  history_stands history some legal =
      let whole : IsLegal setup (history ++ []) = subst (IsLegal setup) (sym (append_nothing history)) legal in
      (carried setup n Kept kept_step [] history [] (first_chains setup n) whole (names_first some (history ++ []) whole, first_chains_stand setup n is some)).1
