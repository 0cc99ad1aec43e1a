use Rattle.std.proofs.Common.{◌≡◌, ℕ, ◌+◌, List, sym, subst}
use mathlib.Core.Option.{some}
use lib.ListN.{get_elem?}
use Rattle.turn_types.specs.Shown.{Shown}
use Rattle.turn_types.specs.Ends.{Recovered}
use Rattle.dbwrap_core.specs.Plain.{shown_at}
use Rattle.dbwrap_core.proofs.Recovering as rec
use Rattle.dbwrap_core.proofs.plain.PlainCells.recover.Goals as goal

pub drop_uncommitted-requires : goal.drop_uncommitted-requires
drop_uncommitted-requires g c =
    record { dead = rec.dead_pass c.args.self.now c.args.pass c.args.dead c.requires.pass c.requires.able.lives c.requires.dead }

pub give_all_back-freed-requires-clause-few : goal.give_all_back-freed-requires-clause-few
give_all_back-freed-requires-clause-few g c =
    let one = c.drop_uncommitted.ensures in rec.few_stored c.drop_uncommitted.new.self c.store_due-stored.new.self c.args.dead c.store_due-stored.result one.redone.dead one.unmade c.store_due-stored.ensures.counted

pub end_recovery-requires-clause-few : goal.end_recovery-requires-clause-few
end_recovery-requires-clause-few g c =
    let one = c.drop_uncommitted.ensures in let two = c.store_due-stored.ensures in let three = c.give_all_back-freed.ensures in
    let t = rec.steps c.args.self.now c.drop_uncommitted.new.self c.store_due-stored.new.self c.give_all_back-freed.new.self c.args.dead _ _ one.redone one.unmade two.redone two.words two.counted three.redone three.counted in
    t.few

pub returns-clause-still : goal.returns-clause-still
returns-clause-still g c =
    let one = c.drop_uncommitted.ensures in let two = c.store_due-stored.ensures in let three = c.give_all_back-freed.ensures in
    let t = rec.steps c.args.self.now c.drop_uncommitted.new.self c.store_due-stored.new.self c.give_all_back-freed.new.self c.args.dead _ _ one.redone one.unmade two.redone two.words two.counted three.redone three.counted in
    rec.still c.args.self.now c.give_all_back-freed.new.self c.end_recovery.new.self c.args.dead c.args.pass t.all c.end_recovery.ensures.still

pub returns-clause-recovered : goal.returns-clause-recovered
returns-clause-recovered g c =
    let one = c.drop_uncommitted.ensures in let two = c.store_due-stored.ensures in let three = c.give_all_back-freed.ensures in
    let t = rec.steps c.args.self.now c.drop_uncommitted.new.self c.store_due-stored.new.self c.give_all_back-freed.new.self c.args.dead _ _ one.redone one.unmade two.redone two.words two.counted three.redone three.counted in
    let e = c.end_recovery.ensures in
    subst (λ (v : Shown g.row.R.Denot). Recovered c.args.dead c.args.stop v (shown_at c.end_recovery.new.self c.args.pass) c.end_recovery.result) (rec.shown_same c.args.self.now c.give_all_back-freed.new.self c.args.dead c.args.pass t.all)
    (rec.recovered c.args.dead c.store_due-stored.result c.give_all_back-freed.result c.args.stop _ _ c.end_recovery.new.self.words.items c.end_recovery.result e.counted
    (λ x at. three.stopped x (subst (λ (l : List ℕ). get_elem? l x ≡ some (c.args.dead + 1)) e.chains.1 at))
    (λ n is. three.allowed n is (two.allowed n is))
    (λ unnamed. t.once (λ x at. unnamed x (subst (λ (l : List ℕ). get_elem? l x ≡ some (c.args.dead + 1)) (sym e.chains.1) at))))

pub returns-clause-frees : goal.returns-clause-frees
returns-clause-frees g c =
    let one = c.drop_uncommitted.ensures in let two = c.store_due-stored.ensures in let three = c.give_all_back-freed.ensures in
    let t = rec.steps c.args.self.now c.drop_uncommitted.new.self c.store_due-stored.new.self c.give_all_back-freed.new.self c.args.dead _ _ one.redone one.unmade two.redone two.words two.counted three.redone three.counted in
    let dead = rec.dead_pass c.args.self.now c.args.pass c.args.dead c.requires.pass c.requires.able.lives c.requires.dead in let e = c.end_recovery.ensures in
    rec.frees c.args.self.now c.give_all_back-freed.new.self c.end_recovery.new.self c.args.dead c.store_due-stored.result c.give_all_back-freed.result (shown_at c.give_all_back-freed.new.self c.args.pass) (shown_at c.end_recovery.new.self c.args.pass) c.end_recovery.result dead t.all e.chains.0 e.chains.1 e.chains.2 e.counted
