-- A legal journal in which the entries of each pass count on is a legal history of the table.
use Rattle.std.proofs.Common.{◌≡◌, ℕ, ◌*◌, Bool, true, false, cond, eqb, List, [], ◌∷◌, ◌++◌, length, map, refl, sym, ap, ◌∙◌, subst, arith}
use Rattle.std.specs.Prelude.{fold}
use Rattle.sid_core.specs.declared.entry.Entry.{Entry}
use Rattle.sid_core.specs.declared.setup.Setup.{Setup}
use Rattle.sid_core.specs.Counting.{CountsFrom}
use Rattle.serial_table.specs.History.{seqs_of}
use Rattle.turn_types.specs.Journal.{Chains, of_pass}
use Rattle.dbwrap_core.specs.Counted.{IsCounted}
use Rattle.records_replay.specs.Behind.{IsJournal, IsOfTheTable}
use Rattle.records_replay.specs.Rule.{IsFirst, per_database, step}
use Rattle.records_replay.proofs.Journals.{journal_is_of_the_table}
use Rattle.databases.specs.Closing.{KeepsHistory}

-- over so many chains a database
of_the_table : (setup : Setup) (first : Chains) (journal : List Entry) (k : Chains) (n : ℕ) → IsFirst setup first → IsJournal setup first journal → k ≡ fold (step setup) first journal → length k ≡ 7 * n
    → IsOfTheTable setup n journal k
of_the_table setup first journal k n is legal made seven =
    let t = journal_is_of_the_table setup first journal is legal in
    let both : 7 * per_database first ≡ 7 * n = sym t.stands.well_formed.chains.count ∙ sym (ap length made) ∙ seven in
    let many : per_database first ≡ n = omega (arith, both) in
    subst (λ (p : ℕ × Chains). IsOfTheTable setup p.0 journal p.1) (λ i. (many i, sym made i)) t

seqs_of_pass : (by : ℕ) (es : List Entry) → map (λ (e : Entry). e.seq) (of_pass by es) ≡ seqs_of by es
seqs_of_pass by [] = refl
seqs_of_pass by (e ∷ es) = each (eqb e.by by) (seqs_of_pass by es)
  where
    each : (b : Bool) → map (λ (x : Entry). x.seq) (of_pass by es) ≡ seqs_of by es → map (λ (x : Entry). x.seq) (cond b (e ∷ of_pass by es) (of_pass by es)) ≡ cond b (e.seq ∷ []) [] ++ seqs_of by es
    each true h = ap (λ ns. e.seq ∷ ns) h
    each false h = h

pub keeps_history : (setup : Setup) (first : Chains) (journal : List Entry) (k : Chains) (n : ℕ) → IsFirst setup first → IsJournal setup first journal → IsCounted journal → k ≡ fold (step setup) first journal → length k ≡ 7 * n
    → KeepsHistory setup (record { chains = n; all = k; journal = journal })
keeps_history setup first journal k n is legal counted made seven =
    let t = of_the_table setup first journal k n is legal made seven in
    record {
      legal = record { entries = t.legal; counted = λ by. subst (CountsFrom 1) (seqs_of_pass by journal) (counted by); rising = t.rising };
      made = t.made;
      stands = t.stands;
    }
