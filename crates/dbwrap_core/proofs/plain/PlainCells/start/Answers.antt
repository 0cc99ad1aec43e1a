use Rattle.std.proofs.Common.{◌≡◌, ℕ, ◌≤◌, List, length, replicate, sym, ap, subst, ◌∙◌, arith}
use Rattle.std.specs.List.{AllByRecursion}
use Rattle.sid_core.specs.declared.entry.Entry.{Entry}
use Rattle.turn_types.specs.Journal.{Chains}
use Rattle.dbwrap_core.specs.Sound.{Sound}
use Rattle.dbwrap_core.specs.Fresh.{Fresh}
use Rattle.dbwrap_core.specs.Begun.{Begun}
use Rattle.dbwrap_core.specs.Shows.{all_shown}
use Rattle.dbwrap_core.proofs.Starting.{begins, begun}
use Rattle.dbwrap_core.proofs.plain.PlainCells.start.Goals as goal

pub invariant_of-result : goal.invariant_of-result
invariant_of-result g c =
    let made = c.in_ok-made.made.items in let words = c.in_ok-words.words.items in let told = c.in_ok-made.ensures in
    let few : length made ≤ 65 = (let z = told.0 in let y = c.requires.passes.1 in omega arith) in
    let free : words ≡ replicate (length c.args.first.items) 0 = c.in_ok-words.ensures ∙ ap (λ (n : ℕ). replicate n 0) (c.len-count.ensures ∙ omega arith) in
    let all = subst (λ n. AllByRecursion (λ p. Fresh n p) made) (sym told.0) told.1 in
    let value : c.of.result.value.items ≡ c.args.first.items = ap (λ (v : _). v.items) c.of.ensures in
    record {
      sound = subst (λ (t : Chains × List Entry). Sound g.R.Replay.first g.R.Replay.step g.R.Replay.legal g.R.Replay.follows g.R.Replay.buries c.args.rule t.0 c.args.first.items words t.1 made)
          (λ j. (sym value j, sym c.new.ensures.items j))
          (begins g.R.Replay.first g.R.Replay.step g.R.Replay.legal g.R.Replay.follows g.R.Replay.buries c.args.rule c.args.first.items words made c.requires.first c.requires.chains.1 few free all);
    }

pub returns : goal.returns
returns g c =
    let made = c.in_ok-made.made.items in let words = c.in_ok-words.words.items in let told = c.in_ok-made.ensures in
    let free : words ≡ replicate (length c.args.first.items) 0 = c.in_ok-words.ensures ∙ ap (λ (n : ℕ). replicate n 0) (c.len-count.ensures ∙ omega arith) in
    let value : c.of.result.value.items ≡ c.args.first.items = ap (λ (v : _). v.items) c.of.ensures in
    subst (λ (t : Chains × List Entry). Begun c.args.rule c.args.first.items c.args.passes (record { journal = t.1; chains = c.args.first.items; words = words; passes = all_shown c.args.rule t.0 c.args.first.items words t.1 0 made }))
    (λ j. (sym value j, sym c.new.ensures.items j))
    (begun c.args.rule c.args.first.items words made c.args.passes free told.0 told.1)
