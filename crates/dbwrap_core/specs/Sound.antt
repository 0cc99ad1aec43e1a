-- What holds of plain cells between two calls.
use Rattle.std.specs.Prelude.{◌≡◌, ℕ, ◌+◌, ◌<◌, ◌≤◌, true, List, [], length, take, fold, Option, Some, None}
use mathlib.Core.Option.{some}
use mathlib.Core.Option.{is_set as option_set}
use Rattle.std.proofs.Props.{props}
use lib.ListN.{get_elem?}
use Rattle.chain_map.specs.Pairs.{Pairs}
use Rattle.sid_core.specs.declared.entry.Entry.{Entry}
use Rattle.turn_types.specs.Journal.{Chains, Legal, Single, of_pass}
use Rattle.turn_types.specs.Shown.{Numbered, look, or_else, due, planned, is_nothing}
use Rattle.dbwrap_core.specs.declared.pass.PlainPass.{PlainPass}
use Rattle.dbwrap_core.specs.declared.pass.Death.{Death}
use Rattle.dbwrap_core.specs.Counted.{IsCounted, counted_single}
use Rattle.dbwrap_core.specs.Shows.{plan_of}

abbrev pub due_of : PlainPass → Numbered
due_of p = due (plan_of p.stage p.new.items)

-- what was due when the pass died
abbrev pub due_at : Death → Numbered
due_at d = due (plan_of d.stage d.new.value.items)

-- what the pass plans, or has still to store
abbrev pub plans_of : PlainPass → Numbered
plans_of p = planned (plan_of p.stage p.new.items)

-- Of dead pass m: each chain that names it was held at its death, and what is due of the chain is what was due then.
pub record StillDue (chains : Chains) (words : List ℕ) (m : ℕ) (p : PlainPass) (d : Death) : Type 0 where
  pub many : length d.chains.value.items ≡ length chains
  pub was_held : (c : ℕ) → get_elem? words c ≡ some (m + 1) → get_elem? d.words.value.items c ≡ some (m + 1)
  pub same : (c : ℕ) (y z : Pairs) → get_elem? words c ≡ some (m + 1) → get_elem? chains c ≡ some y → get_elem? d.chains.value.items c ≡ some z → or_else (look c (due_of p)) y ≡ or_else (look c (due_at d)) z

-- Of pass m, where the journal makes the chains k.
pub record PassOk (buries : Entry → Option ℕ) (k chains : Chains) (words : List ℕ) (journal : List Entry) (count m : ℕ) (p : PlainPass) : Type 0 where
  -- a held chain is its part of the replay, or that part is still to be stored
  pub parts : (c : ℕ) (y : Pairs) → get_elem? words c ≡ some (m + 1) → get_elem? chains c ≡ some y → get_elem? k c ≡ some (or_else (look c (due_of p)) y)
  pub planned : (i : ℕ) (x : ℕ × Pairs) → get_elem? (plans_of p) i ≡ some x → get_elem? words x.0 ≡ some (m + 1)
  pub rising : (i j : ℕ) (x y : ℕ × Pairs) → get_elem? (plans_of p) i ≡ some x → get_elem? (plans_of p) j ≡ some y → i < j → x.0 < y.0
  pub idle : is_nothing (plan_of p.stage p.new.items) ≡ true → p.new.items ≡ []
  pub deaths : length p.dead.items ≡ count
  pub frees : length p.freed.items ≡ count
  pub recovered : (c h : ℕ) → get_elem? words c ≡ some (h + 1) → get_elem? p.freed.items h ≡ some true → ⊥
  pub seen : p.seen ≤ length journal
  pub own : of_pass m (take p.seen journal) ≡ of_pass m journal
  pub commits : p.commits ≡ length (of_pass m journal)
  pub unburied : (i : ℕ) (e : Entry) → p.death ≡ None → get_elem? journal i ≡ some e → buries e ≡ Some m → ⊥
  pub at_death : (d : Death) → p.death ≡ Some d → StillDue chains words m p d

pub due_single : (chains : Chains) (words : List ℕ) (m : ℕ) (p : PlainPass) (d : Death) → IsProp (StillDue chains words m p d)
due_single chains words m p d = hlevel (props, option_set)

pub pass_single : (buries : Entry → Option ℕ) (k chains : Chains) (words : List ℕ) (journal : List Entry) (count m : ℕ) (p : PlainPass) → IsProp (PassOk buries k chains words journal count m p)
pass_single buries k chains words journal count m p = hlevel (due_single, props, option_set)

module _ {R : Type 0} (first : R → Chains → Type 0) (step : R → Chains → Entry → Chains) (legal : R → Chains → Entry → Type 0) (follows : R → List Entry → Entry → Type 0) (buries : R → Entry → Option ℕ) (rule : R) where
  pub record Sound (k0 chains : Chains) (words : List ℕ) (journal : List Entry) (passes : List PlainPass) : Type 0 where
    pub began : first rule k0
    pub is_legal : Legal (step rule) (legal rule) (follows rule) k0 journal
    pub counted : IsCounted journal
    pub as_many : length chains ≡ length k0
    pub each_held : length words ≡ length chains
    pub few_chains : length chains ≤ 512
    pub few_passes : length passes ≤ 65
    pub named : (c h : ℕ) → get_elem? words c ≡ some h → h ≤ length passes
    pub free : (c : ℕ) (y : Pairs) → get_elem? words c ≡ some 0 → get_elem? chains c ≡ some y → get_elem? (fold (step rule) k0 journal) c ≡ some y
    pub dead_known : (m h : ℕ) (p q : PlainPass) → get_elem? passes m ≡ some p → get_elem? passes h ≡ some q → get_elem? p.dead.items h ≡ some true → q.death ≡ None → ⊥
    pub freed_known : (m h : ℕ) (p q : PlainPass) → get_elem? passes m ≡ some p → get_elem? passes h ≡ some q → get_elem? p.freed.items h ≡ some true → q.death ≡ None → ⊥
    pub each : (m : ℕ) (p : PlainPass) → get_elem? passes m ≡ some p → PassOk (buries rule) (fold (step rule) k0 journal) chains words journal (length passes) m p

  pub sound_single : Single (first rule) (legal rule) (follows rule) → (k0 chains : Chains) (words : List ℕ) (journal : List Entry) (passes : List PlainPass) → IsProp (Sound k0 chains words journal passes)
  sound_single one k0 chains words journal passes = hlevel (one.first_is, one.legal_is, one.follows_is, counted_single, pass_single, props, option_set)
