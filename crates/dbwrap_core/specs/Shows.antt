-- What the passes of plain cells show.
use Rattle.std.specs.Prelude.{ℕ, ◌+◌, Bool, true, false, cond, eqb, List, [], ◌∷◌, take, Option, Some, None}
use Rattle.sid_core.specs.declared.entry.Entry.{Entry}
use Rattle.turn_types.specs.Journal.{Chains, of_pass}
use Rattle.turn_types.specs.Shown.{Shown, Numbered}
use Rattle.turn_types.specs.Shown as show
use Rattle.dbwrap_core.specs.declared.pass.PlainPass.{PlainPass}
use Rattle.dbwrap_core.specs.declared.pass.Death.{Death}
use Rattle.dbwrap_core.specs.declared.pass.Stage.{Stage}
use Rattle.dbwrap_core.specs.declared.pass.Stage.TheVariants.{Nothing, Made, Committed}

-- the chains from number i on whose word is w
abbrev pub held_by : ℕ → ℕ → Chains → List ℕ → Numbered
held_by w i [] words = []
held_by w i (k ∷ ks) [] = []
held_by w i (k ∷ ks) (h ∷ words) = cond (eqb h w) ((i, k) ∷ held_by w (i + 1) ks words) (held_by w (i + 1) ks words)

abbrev pub plan_of : Stage → Numbered → show.Plan
plan_of Nothing new = show.Nothing
plan_of Made new = show.Made new
plan_of Committed new = show.Committed new

-- a dead pass shows what it showed when it died
abbrev pub lives : Option Death → Bool
lives None = true
lives (Some d) = false

abbrev pub held_at : Option Death → ℕ → Chains → List ℕ → Numbered
held_at None w chains words = held_by w 0 chains words
held_at (Some d) w chains words = held_by w 0 d.chains.value.items d.words.value.items

abbrev pub plan_at : Option Death → Stage → Numbered → show.Plan
plan_at None stage new = plan_of stage new
plan_at (Some d) stage new = plan_of d.stage d.new.value.items

-- of pass n
abbrev pub shown_of : {R : Type 0} → R → Chains → Chains → List ℕ → List Entry → ℕ → PlainPass → Shown R
shown_of rule first chains words journal n p = record {
  rule = rule;
  first = first;
  number = n;
  alive = lives p.death;
  seen = take p.seen journal;
  own = of_pass n (take p.seen journal);
  held = held_at p.death (n + 1) chains words;
  plan = plan_at p.death p.stage p.new.items;
  dead = p.dead.items;
  freed = p.freed.items;
  recovering = p.recovering;
  looked = p.looked;
  taken = p.taken;
  given_back = p.given_back;
  done = p.done;
}

-- of the passes from number n on
abbrev pub all_shown : {R : Type 0} → R → Chains → Chains → List ℕ → List Entry → ℕ → List PlainPass → List (Shown R)
all_shown rule first chains words journal n [] = []
all_shown rule first chains words journal n (p ∷ ps) = shown_of rule first chains words journal n p ∷ all_shown rule first chains words journal (n + 1) ps

-- what a pass shows that has done nothing
abbrev pub blank : {R : Type 0} → R → Chains → ℕ → List Bool → Shown R
blank r first n none = record {
  rule = r;
  first = first;
  number = n;
  alive = true;
  seen = [];
  own = [];
  held = [];
  plan = show.Nothing;
  dead = none;
  freed = none;
  recovering = None;
  looked = record { chain = None; journal = None; status = None };
  taken = 0;
  given_back = 0;
  done = 0;
}
