-- When sessions ended, by the register records; and that what expires ends none.
use Rattle.std.proofs.Common.{◌≡◌, ℕ, ◌+◌, Bool, true, false, List, [], ◌∷◌, map, Option, Some, None, refl, sym, ap, ◌∙◌, inl, inr}
use Rattle.std.specs.Prelude.{nat_lt}
use Rattle.std.specs.List.{list_all}
use Rattle.std.specs.Option.{option_map, option_map_or}
use Rattle.std.proofs.lemmas.Bool.{and_parts, eqb-true}
use Rattle.sid_core.specs.declared.setup.Setup.{Setup}
use Rattle.sid_core.specs.Counting.{CountsFrom}
use Rattle.serial_table.specs.declared.rows.OpenRow.{OpenRow}
use Rattle.serial_table.specs.declared.rows.EndedRow.{EndedRow}
use Rattle.serial_table.specs.declared.rows.WorkerRow.{WorkerRow}
use Rattle.serial_table.specs.declared.table.Table.{Table}
use Rattle.serial_table.specs.declared.change.Change.{Change}
use Rattle.serial_table.specs.declared.change.Change.TheVariants as c
use Rattle.serial_table.specs.View.{View, view, lives, carries, has_id, is_end_of}
use Rattle.serial_table.specs.Change.{perform, perform_all}
use Rattle.serial_table.specs.Settle.{settle_where}
use Rattle.serial_table.specs.InSets.{IsInSets}
use Rattle.serial_table.specs.Sound.{IsSound, has_had}
use Rattle.serial_table.proofs.Members.{IsIn, all_of, each, in_filter, some_same}
use Rattle.record_codec.specs.declared.register_rec.RegisterRec.{RegisterRec}
use Rattle.record_codec.specs.Counts.{Records}
use Rattle.stored_table.specs.Decoded.{AllRecords, deciding}
use Rattle.stored_table.specs.Exact.{register_record}
use Rattle.stored_table.specs.Stands.{AgreeWith, clean_register}
use Rattle.table_laws.proofs.Chains.{IsFine}

-- ---- when sessions ended, by the register record

abbrev ends : RegisterRec → List ℕ
ends r = r.ended

-- the ended sessions of a pid, by their moments: they are numbered
pub rebuilt : ℕ → ℕ → List ℕ → List EndedRow
rebuilt pid n [] = []
rebuilt pid n (m ∷ ms) = record { sid = record { pid = pid; session = n }; moment = record { 0 = m } } ∷ rebuilt pid (n + 1) ms

ended_back : (pid n : ℕ) (rows : List EndedRow) → ((e : EndedRow) → IsIn e rows → e.sid.pid ≡ pid) → CountsFrom n (map (λ (e : EndedRow). e.sid.session) rows) → rows ≡ rebuilt pid n (map (λ (e : EndedRow). e.moment.0) rows)
unfolding rebuilt
ended_back pid n [] own counted = refl
ended_back pid n (e ∷ rows) own counted =
    λ i. record { sid = record { pid = own e (inl refl) i; session = counted.0 i }; moment = e.moment } ∷ ended_back pid (n + 1) rows (λ x j. own x (inr j)) counted.1 i

ends_clean : (r : Records) (o : Option RegisterRec) → option_map ends (option_map (clean_register r) o) ≡ option_map ends o
ends_clean r None = refl
ends_clean r (Some x) = refl

ends_exact : (t : Table) (pid : ℕ) (o : Option WorkerRow) → (view t).worker_of pid ≡ o → option_map ends (option_map (register_record (view t)) o) ≡ option_map (λ (w : WorkerRow). map (λ (e : EndedRow). e.moment.0) ((view t).ended_of w.pid)) o
ends_exact t pid None e = refl
ends_exact t pid (Some w) e = refl

-- what the record of an owner tells
ends_told : (setup : Setup) (s : AllRecords) (t : Table) → AgreeWith setup s (view t) → (pid : ℕ) (o : Option WorkerRow) → (view t).worker_of pid ≡ o → option_map_or (λ (w : WorkerRow). true) o false ≡ true
    → option_map ends (s.register pid) ≡ Some (map (λ (e : EndedRow). e.moment.0) ((view t).ended_of pid))
ends_told setup s t agree pid None is some = absurd cc
ends_told setup s t agree pid (Some w) is some =
    sym (ends_clean (deciding s) (s.register pid)) ∙ ap (option_map ends) (agree.register pid) ∙ ap (λ o. option_map ends (option_map (register_record (view t)) o)) is
    ∙ ap (λ p. Some (map (λ (e : EndedRow). e.moment.0) ((view t).ended_of p))) (eqb-true w.pid pid (Rattle.serial_table.proofs.Members.found_in (Rattle.serial_table.specs.View.has_pid pid) t.workers w is).1)

-- the owner of an open has a worker
has_worker : (t : Table) → IsSound t → (o : OpenRow) → IsIn o t.opens → option_map_or (λ (w : WorkerRow). true) ((view t).worker_of o.owner.pid) false ≡ true
has_worker t sound o i = by ((view t).worker_of o.owner.pid) (each (λ (x : OpenRow). has_had (view t) x.owner) t.opens sound.rows.owners_had o i)
  where
    by : (w : Option WorkerRow) → option_map_or (λ (worker : WorkerRow). Rattle.std.specs.Prelude.nat_le o.owner.session worker.session) w false ≡ true → option_map_or (λ (worker : WorkerRow). true) w false ≡ true
    by None e = absurd cc
    by (Some worker) e = refl

pub ended_of_pid : (setup : Setup) (t : Table) → IsInSets setup t → (pid : ℕ) → (view t).ended_of pid ≡ rebuilt pid 1 (map (λ (e : EndedRow). e.moment.0) ((view t).ended_of pid))
ended_of_pid setup t sets pid = ended_back pid 1 ((view t).ended_of pid) (λ e i. eqb-true e.sid.pid pid (in_filter (is_end_of pid) t.ended e i).1) (sets.ended_in_order pid)

pub ended_same : (setup : Setup) (s z : AllRecords) (t u : Table) → AgreeWith setup s (view t) → AgreeWith setup z (view u) → IsFine setup t → IsFine setup u → (o : OpenRow) → IsIn o t.opens → IsIn o u.opens
    → s.register o.owner.pid ≡ z.register o.owner.pid → (view t).ended_of o.owner.pid ≡ (view u).ended_of o.owner.pid
ended_same setup s z t u agree agree_other fine fine_other o i j same =
    let a = ends_told setup s t agree o.owner.pid ((view t).worker_of o.owner.pid) refl (has_worker t fine.sound o i) in
    let b = ends_told setup z u agree_other o.owner.pid ((view u).worker_of o.owner.pid) refl (has_worker u fine_other.sound o j) in
    ended_of_pid setup t fine.sets o.owner.pid
    ∙ ap (rebuilt o.owner.pid 1) (some_same _ _ (sym a ∙ ap (option_map ends) same ∙ b))
    ∙ sym (ended_of_pid setup u fine_other.sets o.owner.pid)

-- ---- sessions behind what expires

-- No session ends.
abbrev pub ends_none : Change → Bool
ends_none (c.EndSession sid moment) = false
ends_none (c.TakeOver file id owner handle) = false
ends_none _ = true

ended_one : (change : Change) (x : Table) → ends_none change ≡ true → (perform change x).ended ≡ x.ended
unfolding settle_where
ended_one (c.EndSession sid moment) x e = absurd cc
ended_one (c.TakeOver file id owner handle) x e = absurd cc
ended_one _ x e = refl

pub ended_after : (cs : List Change) (x : Table) → list_all ends_none cs ≡ true → (perform_all cs x).ended ≡ x.ended
ended_after [] x e = refl
ended_after (change ∷ cs) x e = let p = and_parts (ends_none change) (list_all ends_none cs) e in ended_after cs (perform change x) p.1 ∙ ended_one change x p.0
