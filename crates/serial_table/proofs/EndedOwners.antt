-- The session of an open that is disconnected is among the ended ones of its worker.
use Rattle.std.proofs.Common.{◌≡◌, ◌==◌, ◌≤◌, ◌<◌, ◌+◌, ◌-◌, ◌&&◌, ℕ, suc, Bool, true, false, List, [], ◌∷◌, length, find, Option, Some, None, refl, ◌∙◌, subst, inl, inr, ◌⊎◌, arith, eq-eqb}
use Rattle.std.specs.Prelude.{IfSome, IsTrue, nat_le}
use Rattle.std.specs.List.{AllByRecursion, list_any}
use Rattle.std.specs.Option.{option_map_or}
use Rattle.std.proofs.lemmas.Bool.{leb-true, and_from, cond-true, cond-false, both_ways, cases_order}
use Rattle.sid_core.specs.declared.ids.Sid.{Sid}
use Rattle.sid_core.specs.declared.setup.Setup.{Setup}
use Rattle.sid_core.specs.Ids.{same_sid}
use Rattle.serial_table.specs.declared.rows.OpenRow.{OpenRow}
use Rattle.serial_table.specs.declared.rows.WorkerRow.{WorkerRow}
use Rattle.serial_table.specs.declared.rows.EndedRow.{EndedRow}
use Rattle.serial_table.specs.declared.table.Table.{Table}
use Rattle.serial_table.specs.View.{view, lives, has_pid, is_end_of}
use Rattle.sid_core.specs.Counting.{CountsFrom}
use Rattle.serial_table.specs.Sound.{IsConsistent, has_had}
use Rattle.serial_table.specs.InSets.{IsOpenRow, ended_sessions, ended_count, IsInSets}
use Rattle.serial_table.proofs.Members.{IsIn, each, all_of, all_by, any_of, in_filter, in_map}

at_first : (low k n : ℕ) (ns : List ℕ) → n ≡ low → (low ≡ k) ⊎ ((low < k) ⊎ (k < low)) → low ≤ k → (low + 1 ≤ k → IsIn k ns) → IsIn k (n ∷ ns)
at_first low k n ns e (inl h) above later = inl (e ∙ h)
at_first low k n ns e (inr (inl h)) above later = inr (later (omega arith))
at_first low k n ns e (inr (inr h)) above later = absurd (omega arith)

-- what counts from a number has each from there on
counted_in : (low k : ℕ) (ns : List ℕ) → CountsFrom low ns → low ≤ k → k < low + length ns → IsIn k ns
counted_in low k [] counts above below = absurd (omega arith)
counted_in low k (n ∷ ns) counts above below =
    at_first low k n ns counts.0 (cases_order low k) above (λ more. counted_in (low + 1) k ns counts.1 more (let b : k < low + suc (length ns) = below in omega arith))

-- of the sessions that a worker has had, each that doesn't live has ended
had_ended : (sid : Sid) (w : WorkerRow) (a b : Bool) → w.alive ≡ a → (w.session == sid.session) ≡ b → sid.session ≤ w.session → 1 ≤ sid.session → (a && b) ≡ false → sid.session ≤ ended_count w
had_ended sid w true true ea eb had low none = absurd (both_ways true none refl)
had_ended sid w true false ea eb had low none =
    let count : ended_count w ≡ w.session - 1 = cond-true w.alive (w.session - 1) w.session ea in
    let other : w.session ≡ sid.session → ⊥ = λ e. both_ways (w.session == sid.session) eb (eq-eqb w.session sid.session e) in
    earlier (cases_order w.session sid.session) count other
  where
    earlier : (w.session ≡ sid.session) ⊎ ((w.session < sid.session) ⊎ (sid.session < w.session)) → ended_count w ≡ w.session - 1 → (w.session ≡ sid.session → ⊥) → sid.session ≤ ended_count w
    earlier (inl e) count other = absurd (other e)
    earlier (inr (inl h)) count other = absurd (omega arith)
    earlier (inr (inr h)) count other = omega arith
had_ended sid w false b ea eb had low none = let count : ended_count w ≡ w.session = cond-false w.alive (w.session - 1) w.session ea in omega arith

ended_there : (setup : Setup) (t : Table) (sid : Sid) → IsInSets setup t → 1 ≤ sid.session → (o : Option WorkerRow) → find (has_pid sid.pid) t.workers ≡ o
    → option_map_or (λ worker. nat_le sid.session worker.session) o false ≡ true → option_map_or (λ worker. worker.alive && (worker.session == sid.session)) o false ≡ false
    → list_any (λ ended. same_sid ended.sid sid) ((view t).ended_of sid.pid) ≡ true
ended_there setup t sid k low None f had none = absurd cc
ended_there setup t sid k low (Some w) f had none =
    let count : length (ended_sessions t sid.pid) ≡ ended_count w = subst (λ o. IfSome o (λ worker. length (ended_sessions t sid.pid) ≡ ended_count worker)) f (k.ended_all sid.pid) in
    let most : sid.session ≤ ended_count w = had_ended sid w w.alive (w.session == sid.session) refl refl (leb-true sid.session w.session had) low none in
    let among : IsIn sid.session (ended_sessions t sid.pid) = counted_in 1 sid.session (ended_sessions t sid.pid) (k.ended_in_order sid.pid) low (omega arith) in
    let row = in_map (λ (r : EndedRow). r.sid.session) ((view t).ended_of sid.pid) sid.session among in
    any_of (λ (r : EndedRow). same_sid r.sid sid) ((view t).ended_of sid.pid) row.0 row.1
    (and_from (row.0.sid.pid == sid.pid) (row.0.sid.session == sid.session) (in_filter (is_end_of sid.pid) t.ended row.0 row.1).1 (eq-eqb row.0.sid.session sid.session row.2))

pub disconnected_ended : (setup : Setup) (t : Table) → IsConsistent t → IsInSets setup t
    → AllByRecursion (λ (o : OpenRow). lives (view t) o.owner ≡ false → IsTrue (list_any (λ ended. same_sid ended.sid o.owner) ((view t).ended_of o.owner.pid))) t.opens
disconnected_ended setup t k sets =
    all_by (λ (o : OpenRow). lives (view t) o.owner ≡ false → IsTrue (list_any (λ ended. same_sid ended.sid o.owner) ((view t).ended_of o.owner.pid))) t.opens
    (λ o i none. ended_there setup t o.owner sets (all_of (IsOpenRow setup) t.opens sets.opens o i).owner.session.0 (find (has_pid o.owner.pid) t.workers) refl
    (each (λ (o : OpenRow). has_had (view t) o.owner) t.opens k.owners_had o i) none)
