-- What a source lost by one read after another.
use Rattle.std.proofs.Common.{◌≡◌, ℕ, ◌+◌, ◌-◌, ◌≤◌, Option, None, Some, List, ◌++◌, length, take, drop, sym, ap, ◌∙◌, append-nil, length-append, length-drop, take-append-drop, zero-add, arith}
use Rattle.std.proofs.KnownBytes.{Consumes-trans}
use Rattle.std.proofs.lemmas.List.{take-append-le, length-take-le, take_all, drop-drop}
use Rattle.std.specs.Io.KnownBytes.{Consumes, IsAtEnd}
use Rattle.opendb_run.specs.Input.{TakesAll}

-- a read that gave nothing, at the end
pub TakesAll-at_end : (a b c : Option (List ℕ)) (bytes chunk : List ℕ) (count : ℕ) → Consumes a b bytes → IsAtEnd b → count ≡ 0 → Consumes b c (take count chunk) → TakesAll a c bytes
TakesAll-at_end None b c bytes chunk count before end zero none = tt
TakesAll-at_end (Some x) None c bytes chunk count before end zero none = absurd before
TakesAll-at_end (Some x) (Some y) None bytes chunk count before end zero none = absurd none
TakesAll-at_end (Some x) (Some y) (Some z) bytes chunk count before end zero none =
    let rest : y ≡ z = rw zero at none in
    (sym (before ∙ ap (λ l. bytes ++ l) end ∙ append-nil bytes), ap Some (sym rest ∙ end))

-- a read gave the front of the chunk, which was added to the bytes
pub Consumes-added : (a b c : Option (List ℕ)) (bytes more chunk rest : List ℕ) (count : ℕ) → Consumes a b bytes → Consumes b c (take count chunk) → count ≤ length chunk
    → more ≡ bytes ++ take count (chunk ++ rest) → Consumes a c more
Consumes-added a b c bytes more chunk rest count before next within added =
    let same : more ≡ bytes ++ take count chunk = rw added (ap (λ l. bytes ++ l) (take-append-le count chunk rest within)) in
    rw same (Consumes-trans a b c _ _ before next)

-- how many bytes stand after a read
pub length-added : (bytes chunk : List ℕ) (count : ℕ) → count ≤ length chunk → length (bytes ++ take count chunk) ≡ length bytes + count
length-added bytes chunk count within = omega (arith, length-append bytes (take count chunk), length-take-le count chunk within)

-- the same, where the read gave the front of the chunk
pub length-grown : (bytes more chunk rest : List ℕ) (count : ℕ) → count ≤ length chunk → more ≡ bytes ++ take count (chunk ++ rest) → length more ≡ length bytes + count
length-grown bytes more chunk rest count within added =
    let same : more ≡ bytes ++ take count chunk = rw added (ap (λ l. bytes ++ l) (take-append-le count chunk rest within)) in
    rw same (length-added bytes chunk count within)

-- the front of the bytes from a place on was copied to the front of a chunk
pub take-copied : (seen bytes chunk : List ℕ) (at count : ℕ) → seen ≡ bytes → count + at ≤ length bytes
    → take (0 + length (take count (take (length seen - at) (drop at seen)))) chunk ≡ take count (take (length seen - at) (drop at seen))
    → drop at bytes ≡ take count chunk ++ drop (at + count) bytes
take-copied seen bytes chunk at count same within copied =
    let whole : take (length seen - at) (drop at seen) ≡ drop at seen = take_all _ _ (omega (arith, length-drop at seen)) in
    let front : length (take count (drop at seen)) ≡ count = length-take-le count (drop at seen) (omega (arith, length-drop at seen, ap length same)) in
    let there : take count chunk ≡ take count (drop at seen) = rw (whole, front, zero-add count) at copied in
    rw (there, same) (sym (take-append-drop count (drop at bytes)) ∙ ap (λ l. take count (drop at bytes) ++ l) (drop-drop count at bytes))
