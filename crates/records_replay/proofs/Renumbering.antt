-- Entries with their places among those of their worker, counted from 1. They do what they did before.
use Rattle.std.proofs.Common.{◌≡◌, ℕ, ◌+◌, Bool, true, false, cond, eqb, List, [], ◌∷◌, ◌++◌, refl, ap, subst}
use Rattle.std.proofs.lemmas.Bool.{eqb-true}
use Rattle.sid_core.specs.declared.entry.Entry.{Entry}
use Rattle.sid_core.specs.declared.setup.Setup.{Setup}
use Rattle.sid_core.specs.Counting.{CountsFrom}
use Rattle.serial_table.specs.declared.table.Table.{Table}
use Rattle.serial_table.specs.View.{view}
use Rattle.serial_table.specs.History.{after_entry, after_all, AreLegal, own_number, numbers_of, seqs_of}
use Rattle.stored_table.specs.Places.{Chains}
use Rattle.stored_table.specs.Histories.{moved_from}
use Rattle.stored_table.specs.Move.{move}
use Rattle.stored_reading.specs.Steps.{step, stepped_from}

-- by worker, how many entries it has had; one more of this worker
abbrev pub one_more : ℕ → (ℕ → ℕ) → ℕ → ℕ
one_more by had n = cond (eqb by n) (had n + 1) (had n)

abbrev pub renumbered : (ℕ → ℕ) → List Entry → List Entry
renumbered had [] = []
renumbered had (e ∷ es) = record e { seq = had e.by + 1 } ∷ renumbered (one_more e.by had) es

pub same_after : (setup : Setup) (had : ℕ → ℕ) (t : Table) (es : List Entry) → after_all setup t (renumbered had es) ≡ after_all setup t es
same_after setup had t [] = refl
same_after setup had t (e ∷ es) = same_after setup (one_more e.by had) (after_entry setup t e) es

pub same_steps : (setup : Setup) (n : ℕ) (had : ℕ → ℕ) (k : Chains) (es : List Entry) → stepped_from setup n k (renumbered had es) ≡ stepped_from setup n k es
same_steps setup n had k [] = refl
same_steps setup n had k (e ∷ es) = same_steps setup n (one_more e.by had) (step setup n k e) es

pub same_moves : (setup : Setup) (n : ℕ) (had : ℕ → ℕ) (k : Chains) (t : Table) (es : List Entry) → moved_from setup n k t (renumbered had es) ≡ moved_from setup n k t es
same_moves setup n had k t [] = refl
same_moves setup n had k t (e ∷ es) = same_moves setup n (one_more e.by had) (move setup n k e (view (after_entry setup t e))) (after_entry setup t e) es

pub still_legal : (setup : Setup) (had : ℕ → ℕ) (t : Table) (es : List Entry) → AreLegal setup t es → AreLegal setup t (renumbered had es)
still_legal setup had t [] legal = tt
still_legal setup had t (e ∷ es) legal = (legal.0, still_legal setup (one_more e.by had) (after_entry setup t e) es legal.1)

pub same_numbers : (by : ℕ) (had : ℕ → ℕ) (es : List Entry) → numbers_of by (renumbered had es) ≡ numbers_of by es
same_numbers by had [] = refl
same_numbers by had (e ∷ es) = ap (λ ns. own_number by e ++ ns) (same_numbers by (one_more e.by had) es)

counts_on : (by own n : ℕ) (b : Bool) (rest : List ℕ) → (b ≡ true → own ≡ n) → CountsFrom (cond b (n + 1) n) rest → CountsFrom n (cond b (own ∷ []) [] ++ rest)
counts_on by own n true rest h counts = (h refl, counts)
counts_on by own n false rest h counts = counts

next_is : (b : Bool) (n : ℕ) → cond b (n + 1) n + 1 ≡ cond b ((n + 1) + 1) (n + 1)
next_is true n = refl
next_is false n = refl

pub counted : (by : ℕ) (had : ℕ → ℕ) (es : List Entry) → CountsFrom (had by + 1) (seqs_of by (renumbered had es))
counted by had [] = tt
counted by had (e ∷ es) =
    counts_on by (had e.by + 1) (had by + 1) (eqb e.by by) (seqs_of by (renumbered (one_more e.by had) es)) (λ h. ap (λ x. had x + 1) (eqb-true e.by by h))
    (subst (λ n. CountsFrom n (seqs_of by (renumbered (one_more e.by had) es))) (next_is (eqb e.by by) (had by)) (counted by (one_more e.by had) es))

-- ---- one entry more

-- by worker, how many entries it has had behind these
abbrev pub counts : (ℕ → ℕ) → List Entry → ℕ → ℕ
counts had [] = had
counts had (e ∷ es) = counts (one_more e.by had) es

pub counts_longer : (had : ℕ → ℕ) (es : List Entry) (e : Entry) (by : ℕ) → counts had (es ++ e ∷ []) by ≡ one_more e.by (counts had es) by
counts_longer had [] e by = refl
counts_longer had (d ∷ es) e by = counts_longer (one_more d.by had) es e by

pub renumbered_longer : (had : ℕ → ℕ) (es : List Entry) (e : Entry) → renumbered had (es ++ e ∷ []) ≡ renumbered had es ++ record e { seq = counts had es e.by + 1 } ∷ []
renumbered_longer had [] e = refl
renumbered_longer had (d ∷ es) e = ap (λ l. record d { seq = had d.by + 1 } ∷ l) (renumbered_longer (one_more d.by had) es e)
