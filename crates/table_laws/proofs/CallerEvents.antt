-- `recv`, `tidy`, `status` and a tidied chain keep what the databases stand for.
use Rattle.std.proofs.Common.{◌≡◌, ℕ, Bool, true, false, List, [], ◌∷◌, ◌++◌, None, refl, sym, ap, ◌∙◌, subst, inl}
use Rattle.std.specs.List.{list_all}
use Rattle.std.specs.Option.{option_map_or}
use Rattle.std.proofs.lemmas.Bool.{and_from}
use Rattle.sid_core.specs.declared.call.Call.{Call}
use Rattle.sid_core.specs.declared.call.Call.TheVariants as call
use Rattle.sid_core.specs.declared.call.Tables.{Tables}
use Rattle.sid_core.specs.declared.entry.Entry.{Entry}
use Rattle.sid_core.specs.declared.entry.Event.TheVariants.{Tidied}
use Rattle.sid_core.specs.declared.entry.Post.{Post}
use Rattle.sid_core.specs.declared.ids.Moment.{Moment}
use Rattle.sid_core.specs.declared.reply.Reply.{Reply}
use Rattle.sid_core.specs.declared.reply.Reply.TheVariants.{Done, Shown, NoMessage}
use Rattle.sid_core.specs.declared.setup.Setup.{Setup}
use Rattle.sid_core.specs.Setup.{IsSetup}
use Rattle.serial_table.specs.declared.table.Table.{Table}
use Rattle.serial_table.specs.declared.decision.Caller.{Caller}
use Rattle.serial_table.specs.declared.decision.Decision.{Decision}
use Rattle.serial_table.specs.View.{View, view}
use Rattle.serial_table.specs.Change.{perform_all}
use Rattle.serial_table.specs.Decide.{decide}
use Rattle.serial_table.specs.Decision.{only_reply}
use Rattle.serial_table.specs.Expire.{expired_by}
use Rattle.serial_table.specs.History.{start, after, IsLegal}
use Rattle.serial_table.specs.Recv.{recv_first, recv}
use Rattle.serial_table.proofs.Alike.{after_all-append}
use Rattle.serial_table.proofs.Concluding.{start-settled}
use Rattle.serial_table.proofs.Expiring.{after_all-settled}
use Rattle.stored_table.specs.Keys.{pid_key}
use Rattle.stored_table.specs.Places.{Chains, Place, among}
use Rattle.stored_table.specs.Decoded.{records_of}
use Rattle.stored_table.specs.Met.{met_by_call, met_by_worker, all_met, nothing_met}
use Rattle.stored_table.specs.Move.{move, places_written}
use Rattle.stored_table.specs.Stands.{StandsFor}
use Rattle.table_laws.specs.Standing.{KeepsStanding}
use Rattle.table_laws.proofs.Contained.{mail_place}
use Rattle.table_laws.proofs.Meets.{own_mail}
use Rattle.table_laws.proofs.Touching.{contained}
use Rattle.table_laws.proofs.Deciding.{IsContained, reply_contained}
use Rattle.table_laws.proofs.Chains.{legal_is_fine, legal_start, adds_no_open, old_opens, chains_stand}
use Rattle.table_laws.proofs.Calls.{call_contained, call_opens}
use Rattle.table_laws.proofs.HandleEvents.{entry, keeps_standing}

-- no file's records
abbrev pub nowhere : ℕ → Bool
nowhere file = false

-- ---- calls that touch no file and look at no lease

module _ (setup : Setup) (n : ℕ) (is : IsSetup setup) (before : List Entry) (by seq number : ℕ) (moment : Moment) (reply : Reply) where
  -- a call that only replies, and writes nothing
  module _ (which : Call) (answer : Reply) (decides : (v : View) (caller : Caller) → decide setup v caller which ≡ only_reply answer)
      (looks : (v : View) (caller : Caller) → Rattle.serial_table.specs.Expire.look setup v caller which ≡ [])
      (writes : (k : Chains) → places_written setup n k (entry setup n is before by seq number moment which reply) ≡ [])
      (adds : (w : View) → Rattle.stored_table.specs.Move.added setup w (entry setup n is before by seq number moment which reply) ≡ None) where
    only_replies : IsLegal setup (before ++ entry setup n is before by seq number moment which reply ∷ []) → KeepsStanding setup n before (entry setup n is before by seq number moment which reply)
    only_replies legal =
        keeps_standing setup n is before by seq number moment which reply legal adds
        (λ k stands fine settled caller info declared pid guid.
        let t = after setup before in
        let b = perform_all (expired_by setup (view t) caller which) t in
        let looked : (l : Rattle.serial_table.specs.declared.rows.LeaseRow.LeaseRow) → Rattle.serial_table.proofs.Members.IsIn l (Rattle.serial_table.specs.Expire.due (view t) caller.moment (Rattle.serial_table.specs.Expire.look setup (view t) caller which)) → nowhere l.file ≡ true =
        λ l i. absurd (subst (λ ns. Rattle.serial_table.proofs.Members.IsIn l (Rattle.serial_table.specs.Expire.due (view t) caller.moment ns)) (looks (view t) caller) i) in
        let h : IsContained setup [] (records_of setup n k) nowhere t (decide setup (view b) caller which) =
        subst (IsContained setup [] (records_of setup n k) nowhere t) (sym (decides (view b) caller)) (reply_contained setup [] (records_of setup n k) nowhere t answer) in
        record {
          places = [];
          writes = writes k;
          inside = call_contained setup [] (records_of setup n k) nowhere t caller which (λ file e. absurd cc) (λ o i e. absurd cc) settled looked h;
          opens = call_opens setup [] (records_of setup n k) nowhere t caller which (λ file e. absurd cc) (λ o i e. absurd cc) settled looked h (ap (λ (d : Decision). list_all adds_no_open d.changes) (decides (view b) caller));
        })

  writes_none : (which : Call) → ((ps : List Place) → Rattle.stored_table.specs.Move.if_writes which ps ≡ []) → (k : Chains) → places_written setup n k (entry setup n is before by seq number moment which reply) ≡ []
  writes_none which e k = e _

  pub tidy_stands : IsLegal setup (before ++ entry setup n is before by seq number moment call.Tidy reply ∷ []) → KeepsStanding setup n before (entry setup n is before by seq number moment call.Tidy reply)
  tidy_stands = only_replies call.Tidy Done (λ v caller. refl) (λ v caller. refl) (writes_none call.Tidy (λ ps. refl)) (λ w. refl)

  pub status_stands : (tables : Tables) → IsLegal setup (before ++ entry setup n is before by seq number moment (call.Status tables) reply ∷ []) → KeepsStanding setup n before (entry setup n is before by seq number moment (call.Status tables) reply)
  status_stands tables = only_replies (call.Status tables) Shown (λ v caller. refl) (λ v caller. refl) (writes_none (call.Status tables) (λ ps. refl)) (λ w. refl)

  -- ---- recv

  pub recv_stands : IsLegal setup (before ++ entry setup n is before by seq number moment call.Recv reply ∷ []) → KeepsStanding setup n before (entry setup n is before by seq number moment call.Recv reply)
  unfolding recv
  recv_stands legal =
      keeps_standing setup n is before by seq number moment call.Recv reply legal (λ w. refl)
      (λ k stands fine settled caller info declared pid guid.
      let t = after setup before in
      let b = perform_all (expired_by setup (view t) caller call.Recv) t in
      let ps = all_met (met_by_worker n k info) in
      let own : among (mail_place caller.sid.pid) ps ≡ true =
      ap (λ p. among (mail_place p) ps) pid ∙ own_mail setup n k t stands.agree fine.sound fine.sets [] [] [] [] (pid_key info.pid ∷ []) info.pid (inl refl) in
      let h : IsContained setup ps (records_of setup n k) nowhere t (decide setup (view b) caller call.Recv) = received k t caller ps own ((view b).letters_of caller.sid) in
      record {
        places = ps;
        writes = ap (λ o. all_met (option_map_or (λ caller. met_by_call setup n k caller number call.Recv) o nothing_met)) declared;
        inside = call_contained setup ps (records_of setup n k) nowhere t caller call.Recv (λ file e. absurd cc) (λ o i e. absurd cc) settled (λ l i. absurd i) h;
        opens = call_opens setup ps (records_of setup n k) nowhere t caller call.Recv (λ file e. absurd cc) (λ o i e. absurd cc) settled (λ l i. absurd i) h (none ((view b).letters_of caller.sid) caller);
      })
    where
      received : (k : Chains) (t : Table) (caller : Caller) (ps : List Place) → among (mail_place caller.sid.pid) ps ≡ true → (posts : List Post) → IsContained setup ps (records_of setup n k) nowhere t (recv_first caller posts)
      received k t caller ps own [] = reply_contained setup ps (records_of setup n k) nowhere t NoMessage
      received k t caller ps own (post ∷ posts) = record { touched = refl; reached = and_from _ _ own refl; none_waits = refl; posts = λ p i. absurd i; spots = λ spot i. absurd i; waits = tt }

      none : (posts : List Post) (caller : Caller) → list_all adds_no_open (recv_first caller posts).changes ≡ true
      none [] caller = refl
      none (post ∷ posts) caller = refl

-- ---- a tidied chain

pub tidied_stands : (setup : Setup) (n : ℕ) → IsSetup setup → (before : List Entry) (by seq chain : ℕ) → IsLegal setup (before ++ record { by = by; seq = seq; what = Tidied chain } ∷ [])
    → KeepsStanding setup n before (record { by = by; seq = seq; what = Tidied chain })
tidied_stands setup n is before by seq chain legal k stands =
    let e : Entry = record { by = by; seq = seq; what = Tidied chain } in
    let t = after setup before in
    let fine = legal_is_fine setup before is (legal_start setup before e legal) in
    let ps = places_written setup n k e in
    subst (λ x. StandsFor setup n (move setup n k e (view x)) (view x)) (sym (after_all-append setup (start setup) before e))
    (chains_stand setup n k e t t is stands fine fine
    (contained setup ps (records_of setup n k) nowhere t [] (λ file h. absurd cc) (λ o i h. absurd cc) (after_all-settled setup (start setup) before (start-settled setup)) refl refl tt)
    (old_opens setup ps (records_of setup n k) t t stands.agree fine.sound (λ o i. i)))
