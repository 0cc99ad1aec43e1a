-- An entry after two histories: what it makes of both tables by the same changes, and what is then written.
use Rattle.std.proofs.Common.{◌≡◌, ◌≤◌, ℕ, true, List, [], ◌∷◌, ◌++◌, Option, Some, None, refl, sym, ap, ◌∙◌, subst}
use Rattle.std.specs.List.{AllByRecursion}
use Rattle.std.specs.Option.{option_map, option_map_or}
use Rattle.sid_core.specs.declared.call.Call.{Call}
use Rattle.sid_core.specs.declared.entry.Entry.{Entry}
use Rattle.sid_core.specs.declared.ids.Moment.{Moment}
use Rattle.sid_core.specs.declared.reply.Reply.{Reply}
use Rattle.sid_core.specs.declared.setup.Setup.{Setup}
use Rattle.sid_core.specs.declared.setup.WorkerInfo.{WorkerInfo}
use Rattle.sid_core.specs.Call.{IsCall}
use Rattle.sid_core.specs.Setup.{IsSetup}
use Rattle.serial_table.specs.declared.table.Table.{Table}
use Rattle.serial_table.specs.declared.decision.Caller.{Caller}
use Rattle.serial_table.specs.View.{view, lives}
use Rattle.serial_table.specs.Change.{perform_all}
use Rattle.serial_table.specs.Decide.{outcome}
use Rattle.serial_table.specs.Decision.{Outcome}
use Rattle.serial_table.specs.History.{start, after, IsLegal, IsLegalCall}
use Rattle.serial_table.specs.Settle.{settle}
use Rattle.serial_table.specs.Step.{declared_at, caller_of}
use Rattle.serial_table.proofs.Alike.{after_all-append}
use Rattle.serial_table.proofs.Along.{legal_before}
use Rattle.serial_table.proofs.Callers.{is_caller_of}
use Rattle.serial_table.proofs.Concluding.{start-settled}
use Rattle.serial_table.proofs.Expiring.{after_all-settled}
use Rattle.serial_table.proofs.Members.{IsIn}
use Rattle.chain_map.specs.declared.db.Db.TheVariants as db
use Rattle.stored_table.specs.Places.{Chains, HasChains, place, chain_at, value_at}
use Rattle.stored_table.specs.Decoded.{records_of}
use Rattle.stored_table.specs.Footprint.{footprint}
use Rattle.stored_table.specs.Histories.{moved_by}
use Rattle.stored_table.specs.Met.{Met, met, all_met}
use Rattle.stored_table.specs.Move.{added, new_open_record, move, places_written}
use Rattle.stored_table.specs.Stands.{StandsFor}
use Rattle.stored_table.proofs.Locality.{same_met_by_footprint}
use Rattle.table_laws.specs.ByFootprint.{AgreeOnFootprint}
use Rattle.table_laws.specs.Standing.{call_entry}
use Rattle.table_laws.proofs.Chains.{IsFine, legal_is_fine, legal_start}
use Rattle.table_laws.proofs.HistoryEvents.{history_stands}
use Rattle.table_laws.proofs.Answering.{caller_same}
use Rattle.table_laws.proofs.Written.{AlikeAt, met_alike, written_alike}

-- ---- what is known before an entry

pub record Before (setup : Setup) (n : ℕ) (before : List Entry) : Type 0 where
  pub stands : StandsFor setup n (moved_by setup n before) (view (after setup before))
  pub fine : IsFine setup (after setup before)
  pub settled : settle (after setup before) ≡ after setup before

pub before_entry : (setup : Setup) (n : ℕ) → IsSetup setup → 1 ≤ n → (before : List Entry) (e : Entry) → IsLegal setup (before ++ e ∷ []) → Before setup n before
before_entry setup n is some before e legal = record {
  stands = history_stands setup n is before some (legal_start setup before e legal);
  fine = legal_is_fine setup before is (legal_start setup before e legal);
  settled = after_all-settled setup (start setup) before (start-settled setup);
}

-- ---- what is written

module _ (setup : Setup) (n : ℕ) (is : IsSetup setup) (some : 1 ≤ n) (before other : List Entry) (e : Entry) (legal : IsLegal setup (before ++ e ∷ [])) (legal_other : IsLegal setup (other ++ e ∷ []))
    (agree : AgreeOnFootprint setup n (moved_by setup n before) (moved_by setup n other) e) where
  abbrev k : Chains
  k = moved_by setup n before

  abbrev j : Chains
  j = moved_by setup n other

  chains : HasChains n (moved_by setup n before)
  chains = (before_entry setup n is some before e legal).stands.well_formed.chains

  chains_other : HasChains n (moved_by setup n other)
  chains_other = (before_entry setup n is some other e legal_other).stands.well_formed.chains

  -- the tables after it
  module _ (t u : Table) (after_is : after setup (before ++ e ∷ []) ≡ t) (after_other : after setup (other ++ e ∷ []) ≡ u) where
    -- where all that is met is written
    pub lands : (m : Met) → met setup n (moved_by setup n before) e ≡ m → ((x : Chains) → places_written setup n x e ≡ all_met (met setup n x e)) → AlikeAt setup m (view t) (view u)
        → ((key : List ℕ) → IsIn key m.opens
        → new_open_record (view t) (added setup (view t) e) (place db.Opens key) (value_at n (moved_by setup n before) (place db.Opens key))
        ≡ new_open_record (view u) (added setup (view u) e) (place db.Opens key) (value_at n (moved_by setup n other) (place db.Opens key)))
        → AllByRecursion (λ c. chain_at (move setup n (moved_by setup n before) e (view (after setup (before ++ e ∷ [])))) c ≡ chain_at (move setup n (moved_by setup n other) e (view (after setup (other ++ e ∷ [])))) c)
        (footprint setup n (moved_by setup n before) e)
    lands m met_is writes alike opens =
        let met_other : met setup n j e ≡ m = sym (same_met_by_footprint setup n k j e chains chains_other agree) ∙ met_is in
        subst (λ (x : Table). AllByRecursion (λ c. chain_at (move setup n (moved_by setup n before) e (view x)) c ≡ chain_at (move setup n (moved_by setup n other) e (view (after setup (other ++ e ∷ [])))) c) (footprint setup n (moved_by setup n before) e)) (sym after_is)
        (subst (λ (x : Table). AllByRecursion (λ c. chain_at (move setup n (moved_by setup n before) e (view t)) c ≡ chain_at (move setup n (moved_by setup n other) e (view x)) c) (footprint setup n (moved_by setup n before) e)) (sym after_other)
        (written_alike setup n k j e (view t) (view u) (before_entry setup n is some before e legal).stands.well_formed chains_other agree (all_met m) (writes k ∙ ap all_met met_is) (writes j ∙ ap all_met met_other)
        (met_alike setup n k j e (view t) (view u) m alike opens)))

    -- where nothing is
    pub lands_unwritten : ((x : Chains) → places_written setup n x e ≡ [])
        → AllByRecursion (λ c. chain_at (move setup n (moved_by setup n before) e (view (after setup (before ++ e ∷ [])))) c ≡ chain_at (move setup n (moved_by setup n other) e (view (after setup (other ++ e ∷ [])))) c)
        (footprint setup n (moved_by setup n before) e)
    lands_unwritten writes =
        written_alike setup n k j e (view (after setup (before ++ e ∷ []))) (view (after setup (other ++ e ∷ []))) (before_entry setup n is some before e legal).stands.well_formed chains_other agree [] (writes k) (writes j) tt

-- ---- who calls

-- the same caller behind both histories, and the tables after its call
pub record SameCaller (setup : Setup) (n : ℕ) (before other : List Entry) (by seq number : ℕ) (moment : Moment) (which : Call) (reply : Reply) (caller : Caller) (info : WorkerInfo) : Type 0 where
  pub declared : declared_at setup.workers by ≡ Some info
  pub pid : caller.sid.pid ≡ info.pid
  pub guid : caller.guid ≡ info.guid
  pub number_is : caller.number ≡ number
  pub in_sets : IsCall setup which
  pub from : caller_of setup (view (after setup before)) by number moment ≡ Some caller
  pub from_other : caller_of setup (view (after setup other)) by number moment ≡ Some caller
  pub alive : lives (view (after setup before)) caller.sid ≡ true
  pub alive_other : lives (view (after setup other)) caller.sid ≡ true
  pub after_is : after setup (before ++ call_entry by seq number moment which reply ∷ []) ≡ perform_all (outcome setup (view (after setup before)) caller which).changes (after setup before)
  pub after_other : after setup (other ++ call_entry by seq number moment which reply ∷ []) ≡ perform_all (outcome setup (view (after setup other)) caller which).changes (after setup other)

module _ (setup : Setup) (n : ℕ) (is : IsSetup setup) (some : 1 ≤ n) (before other : List Entry) (by seq number : ℕ) (moment : Moment) (which : Call) (reply : Reply)
    (legal : IsLegal setup (before ++ call_entry by seq number moment which reply ∷ [])) (legal_other : IsLegal setup (other ++ call_entry by seq number moment which reply ∷ []))
    (worker : (info : WorkerInfo) → declared_at setup.workers by ≡ Some info → ((session : ℕ) → lives (view (after setup before)) (record { pid = info.pid; session = session }) ≡ true
    → (records_of setup n (moved_by setup n before)).register info.pid ≡ (records_of setup n (moved_by setup n other)).register info.pid)) where
  abbrev e : Entry
  e = call_entry by seq number moment which reply

  abbrev t : Table
  t = after setup before

  abbrev u : Table
  u = after setup other

  pub caller_of_both : (caller : Caller) × (info : WorkerInfo) × SameCaller setup n before other by seq number moment which reply caller info
  caller_of_both = found (caller_of setup (view (after setup before)) by number moment) refl at.answered
    where
      at : IsLegalCall setup (after setup before) by number moment which reply
      at = (legal_before setup (start setup) before [] (call_entry by seq number moment which reply) legal.entries).1

      stepped : (history : List Entry) (caller : Caller) → caller_of setup (view (after setup history)) by number moment ≡ Some caller
          → after setup (history ++ call_entry by seq number moment which reply ∷ []) ≡ perform_all (outcome setup (view (after setup history)) caller which).changes (after setup history)
      stepped history caller from =
          after_all-append setup (start setup) history (call_entry by seq number moment which reply)
          ∙ ap (λ o. perform_all (option_map_or (λ (done : Outcome). done.changes) (option_map (λ caller. outcome setup (view (after setup history)) caller which) o) []) (after setup history)) from

      found : (q : Option Caller) → caller_of setup (view (after setup before)) by number moment ≡ q
          → option_map (λ (done : Outcome). done.reply) (option_map (λ caller. outcome setup (view (after setup before)) caller which) q) ≡ Some reply
          → (caller : Caller) × (info : WorkerInfo) × SameCaller setup n before other by seq number moment which reply caller info
      found None from answered = absurd cc
      found (Some caller) from answered =
          let of = is_caller_of setup t by number moment caller from in
          let b = before_entry setup n is some before e legal in
          let d = before_entry setup n is some other e legal_other in
          let same = worker of.info of.declared caller.sid.session (subst (λ p. lives (view t) (record { pid = p; session = caller.sid.session }) ≡ true) of.pid of.alive) in
          let from_other = sym (caller_same setup (records_of setup n (moved_by setup n before)) (records_of setup n (moved_by setup n other)) t u b.stands.agree d.stands.agree by number moment of.info of.declared same) ∙ from in (
            caller,
            of.info,
            record {
              declared = of.declared;
              pid = of.pid;
              guid = of.guid_is;
              number_is = of.number_is;
              in_sets = at.in_sets;
              from = from;
              from_other = from_other;
              alive = of.alive;
              alive_other = (is_caller_of setup u by number moment caller from_other).alive;
              after_is = stepped before caller from;
              after_other = stepped other caller from_other;
            },
          )
