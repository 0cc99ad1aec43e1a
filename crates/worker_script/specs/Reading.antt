-- Which script a text spells, or which line is the first bad one with which reason.
use Rattle.std.specs.Prelude.{ℕ, ◌+◌, if◌then◌else◌, List, [], ◌∷◌, Result, Ok, Err, codes}
use Rattle.std.specs.List.{list_all}
use Rattle.std.specs.Str.{bytes_eq}
use Rattle.worker_script.specs.declared.reason.Reason.{Reason}
use Rattle.worker_script.specs.declared.reason.Reason.TheVariants as reason
use Rattle.worker_script.specs.declared.script.Script.{Script}
use Rattle.worker_script.specs.Text.{lines, tokens, token, is_plain, is_skipped}
use Rattle.worker_script.specs.Values.{is_digit}
use Rattle.worker_script.specs.Lines.{Draft, nothing, script_of, worker_line, file_line, phase_line}
use Rattle.worker_script.specs.Calls.{call_line}

-- A call line begins with digits alone.
unfoldable pub word_line : Draft → List (List ℕ) → Result Draft Reason
word_line draft ts =
    if is_skipped (token 0 ts) then Ok draft
    else if bytes_eq (token 0 ts) (codes "worker") then worker_line draft ts
    else if bytes_eq (token 0 ts) (codes "file") then file_line draft ts
    else if bytes_eq (token 0 ts) (codes "phase") then phase_line draft ts
    else if list_all is_digit (token 0 ts) then call_line draft ts
    else Err reason.UnknownLine

unfoldable pub read_line : Draft → List ℕ → Result Draft Reason
read_line draft line = if list_all is_plain line then word_line draft (tokens line) else Err reason.NotPlain

pub record BadLine : Type 0 where
  pub line : ℕ
  pub reason : Reason

-- Lines are counted from 1, skipped ones included.
abbrev pub script_from : ℕ → Draft → List (List ℕ) → Result Script BadLine
script_from number draft [] = Ok (script_of draft)
script_from number draft (line ∷ others) =
    elim (read_line draft line) [
      | Ok after ↦ script_from (number + 1) after others
      | Err fault ↦ Err (record { line = number; reason = fault })
    ]

-- the script that the text spells, or its first bad line with the least reason
abbrev pub script : List ℕ → Result Script BadLine
script bytes = script_from 1 nothing (lines bytes)
