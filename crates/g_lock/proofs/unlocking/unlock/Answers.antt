use Rattle.std.proofs.Common.{◌≡◌, true, false, cond, refl, ap, sym, ◌∙◌}
use Rattle.std.specs.List.{list_any}
use Rattle.sid_core.specs.declared.reply.Reply.TheVariants.{Done, ObjectNameNotFound}
use Rattle.g_lock.specs.Holds.{counted_holds}
use Rattle.g_lock.specs.Scans.{is_own}
use Rattle.g_lock.proofs.GivenUp.{none_stays, others, gives_up, sets_stay}
use Rattle.g_lock.proofs.unlocking.unlock.Goals as goal

pub returns-then-held-clause-reply : goal.returns-then-held-clause-reply
returns-then-held-clause-reply c = λ register key v caller asks.
    let own : true ≡ list_any (is_own c.args.sid) c.args.rec.now.holds = sym c.if-held.true ∙ c.has_own-held.ensures ∙ ap (list_any (is_own c.args.sid)) c.as_slice.ensures in
    ap (λ b. cond b Done ObjectNameNotFound) (c.if-held.true ∙ own) ∙ (gives_up register key c.args.rec.now.holds c.args.sid v caller asks).reply

pub returns-then-held-clause-holds : goal.returns-then-held-clause-holds
returns-then-held-clause-holds c = λ register key v caller asks.
    ap (counted_holds register key) c.drop_own.ensures ∙ (gives_up register key c.args.rec.now.holds c.args.sid v caller asks).holds

pub returns-then-held-clause-sets : goal.returns-then-held-clause-sets
returns-then-held-clause-sets c = sets_stay c.args.sid c.args.rec.now _ c.drop_own.ensures refl

pub returns-else-held-clause-reply : goal.returns-else-held-clause-reply
returns-else-held-clause-reply c = λ register key v caller asks.
    let own : false ≡ list_any (is_own c.args.sid) c.args.rec.now.holds = sym c.if-held.false ∙ c.has_own-held.ensures ∙ ap (list_any (is_own c.args.sid)) c.as_slice.ensures in
    ap (λ b. cond b Done ObjectNameNotFound) (c.if-held.false ∙ own) ∙ (gives_up register key c.args.rec.now.holds c.args.sid v caller asks).reply

pub returns-else-held-clause-holds : goal.returns-else-held-clause-holds
returns-else-held-clause-holds c = λ register key v caller asks.
    let none : list_any (is_own c.args.sid) c.args.rec.now.holds ≡ false = sym (sym c.if-held.false ∙ c.has_own-held.ensures ∙ ap (list_any (is_own c.args.sid)) c.as_slice.ensures) in
    ap (counted_holds register key) (sym (none_stays (is_own c.args.sid) c.args.rec.now.holds none)) ∙ (gives_up register key c.args.rec.now.holds c.args.sid v caller asks).holds

pub returns-else-held-clause-others : goal.returns-else-held-clause-others
returns-else-held-clause-others c =
    let none : list_any (is_own c.args.sid) c.args.rec.now.holds ≡ false = sym (sym c.if-held.false ∙ c.has_own-held.ensures ∙ ap (list_any (is_own c.args.sid)) c.as_slice.ensures) in
    sym (none_stays (is_own c.args.sid) c.args.rec.now.holds none)
