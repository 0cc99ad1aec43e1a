-- A text that is read is a script.
use Rattle.std.proofs.Common.{◌≡◌, ℕ, ◌+◌, Bool, true, false, cond, List, [], ◌∷◌, length, Result, Ok, Err, refl, sym, subst, ap, ◌∙◌, arith}
use Rattle.std.specs.Prelude.{codes}
use Rattle.std.specs.List.{AllByRecursion, list_all, IsDistinct}
use Rattle.std.specs.Str.{bytes_eq}
use Rattle.worker_script.specs.declared.script.Script.{Script}
use Rattle.worker_script.specs.declared.reason.Reason.{Reason}
use Rattle.worker_script.specs.declared.reason.Reason.TheVariants as reason
use Rattle.worker_script.specs.Text.{lines, tokens, token, is_plain, is_skipped}
use Rattle.worker_script.specs.Script.{IsScript}
use Rattle.worker_script.specs.Lines.{Draft, nothing, script_of, worker_line, file_line, phase_line}
use Rattle.worker_script.specs.Values.{is_digit}
use Rattle.worker_script.specs.Calls.{call_line}
use Rattle.worker_script.specs.Reading.{word_line, read_line, BadLine, script_from, script}
use Rattle.worker_script.proofs.Facts.{IsToken, tokens-printable}
use Rattle.worker_script.proofs.Sound.{IsDraft, worker-sound, file-sound, phase-sound}
use Rattle.worker_script.proofs.SoundCalls.{call-line-sound}

-- whichever of two it is
either-is : (b : Bool) (x y : Result Draft Reason) (after : Draft) → (b ≡ true → x ≡ Ok after → IsDraft after) → (b ≡ false → y ≡ Ok after → IsDraft after) → cond b x y ≡ Ok after → IsDraft after
either-is true x y after one other e = one refl e
either-is false x y after one other e = other refl e

refused : (fault : Reason) (after : Draft) → ◌≡◌ {A = Result Draft Reason} (Err fault) (Ok after) → IsDraft after
refused fault after e = cc

same-sound : (draft after : Draft) → IsDraft draft → ◌≡◌ {A = Result Draft Reason} (Ok draft) (Ok after) → IsDraft after
same-sound draft after d e = let same : draft ≡ after = cc in subst IsDraft same d

word-line : (draft after : Draft) (ts : List (List ℕ)) → AllByRecursion IsToken ts → IsDraft draft → word_line draft ts ≡ Ok after → IsDraft after
unfolding word_line
word-line draft after ts all d e =
    either-is (is_skipped (token 0 ts)) (Ok draft) _ after (λ _. same-sound draft after d)
    (λ _. either-is (bytes_eq (token 0 ts) (codes "worker")) (worker_line draft ts) _ after (λ _. worker-sound draft after ts all d)
    (λ _. either-is (bytes_eq (token 0 ts) (codes "file")) (file_line draft ts) _ after (λ _. file-sound draft after ts all d)
    (λ _. either-is (bytes_eq (token 0 ts) (codes "phase")) (phase_line draft ts) _ after (λ _. phase-sound draft after ts d)
    (λ _. either-is (list_all is_digit (token 0 ts)) (call_line draft ts) (Err reason.UnknownLine) after (λ _. call-line-sound draft after ts d)
    (λ _. refused reason.UnknownLine after))))) e

line-step : (draft after : Draft) (line : List ℕ) (plain : Bool) → list_all is_plain line ≡ plain → IsDraft draft
    → cond plain (word_line draft (tokens line)) (Err reason.NotPlain) ≡ Ok after → IsDraft after
line-step draft after line true all d e = word-line draft after (tokens line) (tokens-printable line all) d e
line-step draft after line false all d e = refused reason.NotPlain after e

line-sound : (draft after : Draft) (line : List ℕ) → IsDraft draft → read_line draft line ≡ Ok after → IsDraft after
unfolding read_line
line-sound draft after line d e = line-step draft after line (list_all is_plain line) refl d e

next-line : (number : ℕ) (ls : List (List ℕ)) (s : Script) (r : Result Draft Reason) → ((after : Draft) → r ≡ Ok after → script_from (number + 1) after ls ≡ Ok s → IsScript s)
    → elim r as (λ x. Result Script BadLine) [ Ok after ↦ script_from (number + 1) after ls | Err fault ↦ Err (record { line = number; reason = fault }) ] ≡ Ok s → IsScript s
next-line number ls s (Ok after) others e = others after refl e
next-line number ls s (Err fault) others e = cc

same-script : (draft : Draft) (s : Script) → IsDraft draft → ◌≡◌ {A = Result Script BadLine} (Ok (script_of draft)) (Ok s) → IsScript s
same-script draft s d e = let same : script_of draft ≡ s = cc in subst IsScript same d.script

script-from : (number : ℕ) (draft : Draft) (ls : List (List ℕ)) (s : Script) → IsDraft draft → script_from number draft ls ≡ Ok s → IsScript s
script-from number draft [] s d e = same-script draft s d e
script-from number draft (line ∷ ls) s d e =
    next-line number ls s (read_line draft line) (λ after is more. script-from (number + 1) after ls s (line-sound draft after line d is) more) e

nothing-draft : IsDraft nothing
unfolding IsDistinct
nothing-draft = record {
  script = record {
    setup = record { few_workers = omega arith; few_files = omega arith; workers = tt; files = tt; pids_differ = tt; files_differ = tt };
    few_phases = omega arith;
    few_calls = omega arith;
    few_statuses = omega arith;
    phases = tt;
    moments = tt;
    numbered = λ worker. tt;
    stopped = λ worker. tt;
  };
  begun = λ none. refl;
}

-- A text that spells a script spells one that keeps the limits and the rules.
pub script_is_sound : (bytes : List ℕ) (s : Script) → script bytes ≡ Ok s → IsScript s
script_is_sound bytes s is = script-from 1 nothing (lines bytes) s nothing-draft is

-- So does the script of what the lines say, where no bytes are left.
pub end-sound : (bytes rest : List ℕ) (number : ℕ) (draft : Draft) (s : Script) → length rest ≡ 0 → script_from number draft (lines rest) ≡ script bytes → s ≡ script_of draft → IsScript s
end-sound bytes [] number draft s none read is = script_is_sound bytes s (sym read ∙ ap Ok (sym is))
end-sound bytes (b ∷ rest) number draft s none read is = absurd (omega (arith, none))
