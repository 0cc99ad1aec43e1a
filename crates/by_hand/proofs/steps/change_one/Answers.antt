use Rattle.std.proofs.Common.{◌≡◌, ℕ, List, sym, subst}
use mathlib.Core.Option.{some}
use Rattle.chain_map.specs.Hash.{chain_number}
use Rattle.chain_map.specs.Pairs.{Pairs}
use Rattle.turn_types.specs.Shown.{look}
use Rattle.record_txn.specs.Hand.{chains_of}
use Rattle.by_hand.specs.Steps.{chain_of}
use Rattle.by_hand.proofs.Holding.{has_found, same_numbers, ok_same}
use Rattle.by_hand.proofs.steps.change_one.Goals as goal

pub store-requires-clause-held : goal.store-requires-clause-held
store-requires-clause-held g c = let t = c.args.txn.now in let x = c.args.change.now in let hand = chains_of t.hand.items in let same = c.in_ok-key-in-Some.ensures.items_if_clones_equal (λ x y e. e) in
    subst (λ (key : List ℕ). (chain : Pairs) × (look (chain_number x.db key t.chains) hand ≡ some chain)) (sym same) (has_found (chain_of t.chains x) hand c.requires.held)

pub delete-requires-clause-held : goal.delete-requires-clause-held
delete-requires-clause-held g c = has_found (chain_of c.args.txn.now.chains c.args.change.now) (chains_of c.args.txn.now.hand.items) c.requires.held

pub returns-in_ok-value-in-Some-clause-same : goal.returns-in_ok-value-in-Some-clause-same
returns-in_ok-value-in-Some-clause-same g c = let t = c.args.txn.now in ok_same c.store.result _ _ t.hand.items c.store.new.self.hand.items c.store.ensures.ok c.changes_in_hand.ensures

pub returns-in-None-clause-same : goal.returns-in-None-clause-same
returns-in-None-clause-same g c = let t = c.args.txn.now in let n = chain_of t.chains c.args.change.now in same_numbers n _ t.hand.items c.delete.new.self.hand.items c.delete.ensures.deleted c.changes_in_hand.ensures
