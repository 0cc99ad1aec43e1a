-- A death keeps what the databases stand for.
--
-- The register record of the worker is written, and the mailboxes of the worker and of all who wait behind its session. Of the other records
-- some parts count no longer: entries, references and ranges of opens that went, holds of the session, and watches of waiters that went. What
-- settling leaves of a lease elsewhere is what is left of its record.
use Rattle.std.proofs.Common.{◌≡◌, ℕ, not, List, [], ◌∷◌, ◌++◌, map, Option, Some, None, refl, sym, ap, ◌∙◌, inl}
use Rattle.std.specs.Option.{option_map, option_map_or}
use Rattle.std.specs.Prelude.{IsSome}
use Rattle.std.proofs.lemmas.Bool.{and_parts}
use Rattle.sid_core.specs.declared.entry.Entry.{Entry}
use Rattle.sid_core.specs.declared.entry.Event.TheVariants.{Died}
use Rattle.sid_core.specs.declared.ids.Moment.{Moment}
use Rattle.sid_core.specs.declared.setup.Setup.{Setup}
use Rattle.sid_core.specs.Setup.{IsSetup}
use Rattle.sid_core.specs.Ids.{same_sid}
use Rattle.serial_table.specs.declared.table.Table.{Table}
use Rattle.serial_table.specs.declared.change.Change.TheVariants as c
use Rattle.serial_table.specs.declared.decision.Caller.{Caller}
use Rattle.serial_table.specs.View.{view}
use Rattle.serial_table.specs.Settle.{settle_where}
use Rattle.serial_table.specs.Change.{perform, end_session}
use Rattle.serial_table.specs.Decision.{Outcome, conclude}
use Rattle.serial_table.specs.Session.{end_of_session}
use Rattle.serial_table.specs.Step.{caller_of, changes_of}
use Rattle.serial_table.specs.History.{start, after, IsLegal, IsLegalDeath}
use Rattle.serial_table.proofs.Along.{legal_before}
use Rattle.serial_table.proofs.Callers.{is_caller_of}
use Rattle.serial_table.proofs.Living.{lives_among}
use Rattle.stored_table.specs.Met.{met_by_worker, all_met, nothing_met}
use Rattle.table_laws.specs.Standing.{KeepsStanding}
use Rattle.table_laws.proofs.Ending.{lives_ended, ended, others_ended}
use Rattle.table_laws.proofs.LessEvents.{ended_stands}

module _ (setup : Setup) (n : ℕ) (is : IsSetup setup) (before : List Entry) (by seq worker : ℕ) (moment : Moment) where
  abbrev entry : Entry
  entry = record { by = by; seq = seq; what = Died worker moment }

  abbrev t : Table
  t = after setup before

  module _ (legal : IsLegal setup (before ++ entry ∷ [])) (caller : Caller) (from : caller_of setup (view t) worker 0 moment ≡ Some caller) where
    changes_are : changes_of setup (view t) by (Died worker moment) ≡ (conclude (view t) (end_of_session (view t) caller.sid moment [])).changes
    changes_are = ap (λ o. option_map_or (λ (done : Outcome). done.changes) (option_map (λ (caller : Caller). conclude (view t) (end_of_session (view t) caller.sid moment [])) o) []) from

    leaves : perform c.Settle (ended t caller.sid moment) ≡ record (perform c.Settle (ended t caller.sid moment)) { workers = map (end_session caller.sid) t.workers }
    unfolding settle_where
    leaves = refl

    stands_after : KeepsStanding setup n before entry
    stands_after k stands =
        let of = is_caller_of setup t worker 0 moment caller from in
        ended_stands setup n is before entry legal caller.sid of.info of.pid of.alive moment [] (map (end_session caller.sid) t.workers) changes_are leaves k stands
        (record {
          others = others_ended caller.sid t.workers;
          had = λ q e. refl;
          living = λ q e. inl (and_parts (lives_among t.workers q) (not (same_sid q caller.sid)) (sym (lives_ended caller.sid q t.workers) ∙ e)).0;
        })
        (λ living. tt) (ap (λ o. all_met (option_map_or (met_by_worker n k) o nothing_met)) of.declared) (λ w. refl)

  by_caller : (legal : IsLegal setup (before ++ entry ∷ [])) (o : Option Caller) → caller_of setup (view t) worker 0 moment ≡ o → IsSome (option_map (λ (caller : Caller). conclude (view t) (end_of_session (view t) caller.sid moment [])) o)
      → KeepsStanding setup n before entry
  by_caller legal None from some = absurd cc
  by_caller legal (Some caller) from some = stands_after legal caller from

  pub death_stands : IsLegal setup (before ++ entry ∷ []) → KeepsStanding setup n before entry
  death_stands legal =
      let at : IsLegalDeath setup t worker moment = (legal_before setup (start setup) before [] entry legal.entries).1 in
      by_caller legal (caller_of setup (view t) worker 0 moment) refl at.dies
