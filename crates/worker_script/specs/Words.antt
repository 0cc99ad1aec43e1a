-- The words of scripts alone. Those that are printed too are in `sid_core`.
use Rattle.std.specs.Prelude.{ℕ, Bool, true, false, if◌then◌else◌, List, Option, Some, None, codes}
use Rattle.std.specs.Str.{bytes_eq}
use Rattle.sid_core.specs.declared.outside.Point.{Point}
use Rattle.sid_core.specs.declared.outside.Point.TheVariants as point

abbrev pub wait_text : Bool → List ℕ
wait_text false = codes "now"
wait_text true = codes "wait"

unfoldable pub wait_of : List ℕ → Option Bool
wait_of token =
    if bytes_eq token (codes "now") then Some false
    else if bytes_eq token (codes "wait") then Some true
    else None

abbrev pub on_text : Bool → List ℕ
on_text false = codes "off"
on_text true = codes "on"

unfoldable pub on_of : List ℕ → Option Bool
on_of token =
    if bytes_eq token (codes "off") then Some false
    else if bytes_eq token (codes "on") then Some true
    else None

-- Scripts have no `!mourn` yet.
abbrev pub stop_text : Point → List ℕ
stop_text point.Take = codes "!take"
stop_text point.Intent = codes "!intent"
stop_text point.Commit = codes "!commit"
stop_text point.Store = codes "!store"
stop_text point.Release = codes "!release"
stop_text point.Mourn = codes "!mourn"

unfoldable pub stop_of : List ℕ → Option Point
stop_of token =
    if bytes_eq token (codes "!take") then Some point.Take
    else if bytes_eq token (codes "!intent") then Some point.Intent
    else if bytes_eq token (codes "!commit") then Some point.Commit
    else if bytes_eq token (codes "!store") then Some point.Store
    else if bytes_eq token (codes "!release") then Some point.Release
    else None
