-- The rows of the workers at the start.
use Rattle.std.proofs.Common.{◌≡◌, ℕ, suc, ◌+◌, ◌<◌, List, [], ◌∷◌, ◌++◌, length, take, get_or, refl, sym, ap, ◌∙◌, arith, add-zero}
use Rattle.std.proofs.lemmas.List.{take_more, length-take-le}
use Rattle.sid_core.specs.declared.setup.WorkerInfo.{WorkerInfo}
use Rattle.serial_table.specs.declared.rows.WorkerRow.{WorkerRow}
use Rattle.serial_table.specs.History.{start_worker, start_workers}

start_workers-append : (n : ℕ) (infos : List WorkerInfo) (info : WorkerInfo) → start_workers n (infos ++ info ∷ []) ≡ start_workers n infos ++ start_worker (n + length infos) info ∷ []
start_workers-append n [] info = rw add-zero refl
start_workers-append n (first ∷ infos) info =
    let e : suc n + length infos ≡ n + suc (length infos) = omega arith in
    ap (λ rows. start_worker n first ∷ rows) (start_workers-append (suc n) infos info ∙ ap (λ k. start_workers (suc n) infos ++ start_worker k info ∷ []) e)

pub start_workers_more : (infos : List WorkerInfo) (i : ℕ) (d : WorkerInfo) → i < length infos → start_workers 1 (take (i + 1) infos) ≡ start_workers 1 (take i infos) ++ start_worker (i + 1) (get_or infos i d) ∷ []
start_workers_more infos i d h =
    let e : 1 + length (take i infos) ≡ i + 1 = omega (arith, length-take-le i infos (omega arith)) in
    ap (start_workers 1) (take_more infos i d h) ∙ start_workers-append 1 (take i infos) (get_or infos i d)
    ∙ ap (λ k. start_workers 1 (take i infos) ++ start_worker k (get_or infos i d) ∷ []) e

pub start_workers_push : (infos : List WorkerInfo) (i : ℕ) (info : WorkerInfo) (rows more : List WorkerRow) (number : ℕ)
    → i < length infos → info ≡ get_or infos i info → number ≡ i + 1 → rows ≡ start_workers 1 (take i infos) → more ≡ rows ++ start_worker number info ∷ []
    → more ≡ start_workers 1 (take (i + 1) infos)
start_workers_push infos i info rows more number h item n so_far pushed =
    pushed ∙ ap (λ (rs : List WorkerRow). rs ++ start_worker number info ∷ []) so_far
    ∙ ap (λ k. start_workers 1 (take i infos) ++ start_worker k info ∷ []) n
    ∙ ap (λ (x : WorkerInfo). start_workers 1 (take i infos) ++ start_worker (i + 1) x ∷ []) item
    ∙ sym (start_workers_more infos i info h)
