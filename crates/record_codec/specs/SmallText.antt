-- The bytes of a text that stands in the value itself where it is short.
use Rattle.std.specs.Prelude.{ℕ, ◌≤◌, ⊤, List, take}
use Rattle.record_codec.specs.declared.small_text.Kept.{Kept}
use Rattle.record_codec.specs.declared.small_text.Kept.TheVariants.{Inline, Owned}

abbrev pub kept_bytes : Kept → List ℕ
kept_bytes (Inline bytes len) = take len bytes
kept_bytes (Owned bytes) = bytes.items

-- No more bytes are counted than there are.
abbrev pub HasInlineLength : Kept → Type 0
HasInlineLength (Inline bytes len) = len ≤ 30
HasInlineLength (Owned bytes) = ⊤
