-- What a call writes goes by the chains of its footprint alone, where what it meets tells what it does to the table, and what the table shows of
-- that afterwards.
use Rattle.std.proofs.Common.{◌≡◌, ℕ, true, List, [], ◌∷◌, ◌++◌, Some, None, sym, ap, ◌∙◌, subst}
use Rattle.sid_core.specs.declared.call.Call.{Call}
use Rattle.sid_core.specs.declared.entry.Entry.{Entry}
use Rattle.sid_core.specs.declared.ids.Moment.{Moment}
use Rattle.sid_core.specs.declared.reply.Reply.{Reply}
use Rattle.sid_core.specs.declared.setup.Setup.{Setup}
use Rattle.sid_core.specs.declared.setup.WorkerInfo.{WorkerInfo}
use Rattle.serial_table.specs.ByNumber.{declared_at}
use Rattle.serial_table.specs.declared.table.Table.{Table}
use Rattle.serial_table.specs.declared.change.Change.{Change}
use Rattle.serial_table.specs.declared.decision.Caller.{Caller}
use Rattle.serial_table.specs.View.{view, lives}
use Rattle.serial_table.specs.Change.{perform_all}
use Rattle.serial_table.specs.Decide.{outcome}
use Rattle.serial_table.specs.History.{after}
use Rattle.serial_table.specs.Settle.{settle}
use Rattle.serial_table.specs.Sound.{IsSound}
use Rattle.serial_table.proofs.Entries.{call_is_new}
use Rattle.serial_table.proofs.Members.{IsIn}
use Rattle.chain_map.specs.declared.db.Db.TheVariants as db
use Rattle.record_codec.specs.OpenRec.{open_rec}
use Rattle.record_codec.specs.RegisterRec.{register_rec}
use Rattle.stored_table.specs.Keys.{open_key, pid_key}
use Rattle.stored_table.specs.Places.{Chains, Place, place, among, value_at}
use Rattle.stored_table.specs.Decoded.{decoded}
use Rattle.stored_table.specs.Histories.{moved_by}
use Rattle.stored_table.specs.Met.{Met, met, met_by_call, all_met, record_at}
use Rattle.stored_table.specs.Move.{added, new_open_record, places_written}
use Rattle.stored_table.specs.Stands.{StandsFor}
use Rattle.stored_table.proofs.Locality.{same_met_by_footprint}
use Rattle.table_laws.specs.ByFootprint.{AgreeOnFootprint, IsWrittenByFootprint}
use Rattle.table_laws.specs.Standing.{IsUnwatched, NameTheirFiles, call_entry}
use Rattle.table_laws.proofs.AddedOpens.{IsNewNumber, new_above}
use Rattle.table_laws.proofs.Chains.{IsFine, legal_is_fine, legal_start}
use Rattle.table_laws.proofs.Contained.{register_place}
use Rattle.table_laws.proofs.Footprints.{met_value}
use Rattle.table_laws.proofs.HistoryEvents.{name_nothing_new}
use Rattle.table_laws.proofs.Landing.{before_entry, lands, caller_of_both}
use Rattle.table_laws.proofs.Meets.{register_met}
use Rattle.table_laws.proofs.NewKeys.{none_at_next}
use Rattle.table_laws.proofs.OpenFiles.{name_their_files}
use Rattle.table_laws.proofs.PlainAnswers.{at_met, by_declared}
use Rattle.table_laws.proofs.Written.{AlikeAt}

-- what is known of both databases before a call, and of the tables that they stand for
pub record BothBefore (setup : Setup) (n by seq number : ℕ) (moment : Moment) (which : Call) (reply : Reply) (k j : Chains) (t u : Table) (caller : Caller) (info : WorkerInfo) : Type 0 where
  pub stands : StandsFor setup n k (view t)
  pub stands_other : StandsFor setup n j (view u)
  pub fine : IsFine setup t
  pub fine_other : IsFine setup u
  pub settled : settle t ≡ t
  pub settled_other : settle u ≡ u
  pub names : NameTheirFiles n k (view t)
  pub names_other : NameTheirFiles n j (view u)
  pub declared : declared_at setup.workers by ≡ Some info
  pub pid : caller.sid.pid ≡ info.pid
  pub guid : caller.guid ≡ info.guid
  pub number_is : caller.number ≡ number
  pub alive : lives (view t) caller.sid ≡ true
  pub alive_other : lives (view u) caller.sid ≡ true
  pub unwatched : IsUnwatched setup n k caller.sid caller.number
  pub unwatched_other : IsUnwatched setup n j caller.sid caller.number
  -- no open has the number of the call, and no open record stands under it
  pub new : IsNewNumber info.pid number t
  pub new_other : IsNewNumber info.pid number u
  pub free : record_at open_rec n k db.Opens (open_key info.pid number) ≡ None
  pub free_other : record_at open_rec n j db.Opens (open_key info.pid number) ≡ None
  pub agree : AgreeOnFootprint setup n k j (call_entry by seq number moment which reply)
  -- The call meets the same in both, and that is the same.
  pub met_alike : met_by_call setup n j info number which ≡ met_by_call setup n k info number which
  pub same : (p : Place) → among p (all_met (met_by_call setup n k info number which)) ≡ true → value_at n k p ≡ value_at n j p

-- These changes of the one table and those of the other are the same, and behind them both tables give the same new value at each met place.
pub record WritesAlike (setup : Setup) (n : ℕ) (e : Entry) (m : Met) (k j : Chains) (t u : Table) (cs ds : List Change) : Type 0 where
  pub changes : cs ≡ ds
  pub exact : IsSound (perform_all cs t) → IsSound (perform_all cs u) → AlikeAt setup m (view (perform_all cs t)) (view (perform_all cs u))
  pub opens : (key : List ℕ) → IsIn key m.opens
      → new_open_record (view (perform_all cs t)) (added setup (view (perform_all cs t)) e) (place db.Opens key) (value_at n k (place db.Opens key))
      ≡ new_open_record (view (perform_all cs u)) (added setup (view (perform_all cs u)) e) (place db.Opens key) (value_at n j (place db.Opens key))

module _ (setup : Setup) (n by seq number : ℕ) (moment : Moment) (which : Call) (reply : Reply)
    (own : (x : Chains) (t : Table) (info : WorkerInfo) (session : ℕ) → StandsFor setup n x (view t) → lives (view t) (record { pid = info.pid; session = session }) ≡ true → IsIn (pid_key info.pid) (met_by_call setup n x info number which).register)
    (writes : (x : Chains) → places_written setup n x (call_entry by seq number moment which reply) ≡ all_met (met setup n x (call_entry by seq number moment which reply)))
    (alike : (k j : Chains) (t u : Table) (caller : Caller) (info : WorkerInfo) → BothBefore setup n by seq number moment which reply k j t u caller info
    → WritesAlike setup n (call_entry by seq number moment which reply) (met_by_call setup n k info number which) k j t u (outcome setup (view t) caller which).changes (outcome setup (view u) caller which).changes) where
  pub call_written : IsWrittenByFootprint setup n (call_entry by seq number moment which reply)
  call_written before other is some legal legal_other agree =
      let e = call_entry by seq number moment which reply in
      let k = moved_by setup n before in
      let j = moved_by setup n other in
      let t = after setup before in
      let u = after setup other in
      let b = before_entry setup n is some before e legal in
      let d = before_entry setup n is some other e legal_other in
      let chains = b.stands.well_formed.chains in
      let met_is : (x : Chains) (info : WorkerInfo) → declared_at setup.workers by ≡ Some info → met setup n x e ≡ met_by_call setup n x info number which = λ x info declared. by_declared setup n x by number which info declared in
      let at : (info : WorkerInfo) → declared_at setup.workers by ≡ Some info → (p : Place) → among p (all_met (met_by_call setup n k info number which)) ≡ true → value_at n k p ≡ value_at n j p =
      λ info declared. at_met setup n k j e (met_by_call setup n k info number which) (met_is k info declared) (met_value setup n k j e chains agree) in
      let found = caller_of_both setup n is some before other by seq number moment which reply legal legal_other (λ info declared session alive.
      ap (decoded register_rec) (at info declared (register_place info.pid) (register_met (met_by_call setup n k info number which) (pid_key info.pid) (own k t info session b.stands alive)))) in
      let caller = found.0 in
      let info = found.1 in
      let c = found.2 in
      let w = alike k j t u caller info (record {
        stands = b.stands;
        stands_other = d.stands;
        fine = b.fine;
        fine_other = d.fine;
        settled = b.settled;
        settled_other = d.settled;
        names = name_their_files setup n is before some (legal_start setup before e legal);
        names_other = name_their_files setup n is other some (legal_start setup other e legal_other);
        declared = c.declared;
        pid = c.pid;
        guid = c.guid;
        number_is = c.number_is;
        alive = c.alive;
        alive_other = c.alive_other;
        unwatched = (name_nothing_new setup n is before by seq number moment which reply some legal caller c.from).unwatched;
        unwatched_other = (name_nothing_new setup n is other by seq number moment which reply some legal_other caller c.from_other).unwatched;
        new = subst (λ pid. IsNewNumber pid number t) c.pid (new_above caller.sid.pid number t (call_is_new setup before [] by seq number moment which reply caller is legal c.from));
        new_other = subst (λ pid. IsNewNumber pid number u) c.pid (new_above caller.sid.pid number u (call_is_new setup other [] by seq number moment which reply caller is legal_other c.from_other));
        free = none_at_next setup n is some before by seq number moment which reply legal info c.declared;
        free_other = none_at_next setup n is some other by seq number moment which reply legal_other info c.declared;
        agree = agree;
        met_alike = sym (met_is j info c.declared) ∙ sym (same_met_by_footprint setup n k j e chains d.stands.well_formed.chains agree) ∙ met_is k info c.declared;
        same = at info c.declared;
      }) in
      let cs = (outcome setup (view t) caller which).changes in
      let after_other = c.after_other ∙ ap (λ ds. perform_all ds u) (sym w.changes) in
      let sound : IsSound (perform_all cs t) = subst IsSound c.after_is (legal_is_fine setup (before ++ e ∷ []) is legal).sound in
      let sound_other : IsSound (perform_all cs u) = subst IsSound after_other (legal_is_fine setup (other ++ e ∷ []) is legal_other).sound in
      lands setup n is some before other e legal legal_other agree (perform_all cs t) (perform_all cs u) c.after_is after_other (met_by_call setup n k info number which) (met_is k info c.declared) writes (w.exact sound sound_other) w.opens
