-- The reasons of each list of faults rise, so the first fault is the one with the least reason.
use Rattle.std.specs.Prelude.{◌≡◌, ℕ, Bool, true, ◌&&◌, nat_lt, List, [], ◌∷◌, ◌++◌, map, Option, refl}
use Rattle.sid_core.specs.declared.words.CallWord.{CallWord}
use Rattle.worker_script.specs.declared.reason.Reason.{Reason}
use Rattle.worker_script.specs.declared.reason.Reason.TheVariants as reason
use Rattle.worker_script.specs.Reason.{number_of}
use Rattle.worker_script.specs.Text.{token}
use Rattle.worker_script.specs.Values.{value}
use Rattle.worker_script.specs.Lines.{Draft, worker_faults, file_faults, phase_faults}
use Rattle.worker_script.specs.Calls.{head_faults, open_faults, stop_faults}

abbrev reasons : List (Reason × Bool) → List ℕ
reasons faults = map (λ fault. number_of fault.0) faults

-- Each is above the one before it, and the first above this one.
abbrev rise_above : ℕ → List ℕ → Bool
rise_above low [] = true
rise_above low (reason ∷ others) = nat_lt low reason && rise_above reason others

worker_reasons_rise : (draft : Draft) (ts : List (List ℕ)) → rise_above 2 (reasons (worker_faults draft ts)) ≡ true
worker_reasons_rise draft ts = refl

file_reasons_rise : (draft : Draft) (ts : List (List ℕ)) → rise_above 2 (reasons (file_faults draft ts)) ≡ true
file_reasons_rise draft ts = refl

phase_reasons_rise : (draft : Draft) (ts : List (List ℕ)) → rise_above 2 (reasons (phase_faults draft ts)) ≡ true
phase_reasons_rise draft ts = refl

-- of a call line in the order in which they are judged, with those that stand in no list
call_reasons_rise : (draft : Draft) (w : Option CallWord) (count : ℕ) (ts : List (List ℕ))
    → rise_above 2 (reasons (head_faults draft w count ts) ++ number_of reason.UnknownCall ∷ reasons (open_faults draft (value (token 2 ts)) ts) ++ number_of reason.WrongOption ∷ reasons (stop_faults draft ts)) ≡ true
call_reasons_rise draft w count ts = refl
