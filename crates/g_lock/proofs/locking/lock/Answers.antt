use Rattle.std.proofs.Common.{◌≡◌, find, refl, ap, ◌∙◌}
use Rattle.g_lock.specs.Holds.{counted_holds, stale_holds}
use Rattle.g_lock.specs.Answer.{told, who_keeps_out, who_upgrades}
use Rattle.g_lock.specs.Scans.{is_own, is_in_the_way, is_upgrade_beside, answered, becomes}
use Rattle.g_lock.proofs.Held.{stale_stay, kept_sets}
use Rattle.g_lock.proofs.Agreeing.{answered_still, names_no_holder, names_no_other, answer_to, agrees}
use Rattle.g_lock.proofs.locking.lock.Goals as goal

pub returns-clause-decision : goal.returns-clause-decision
returns-clause-decision c =
    let a = c.args in
    let own_is = c.own_hold-own.ensures ∙ ap (find (is_own a.sid)) c.as_slice.ensures in
    let is = c.answer-answer.ensures ∙ ap (λ o. answered a.wait a.mode o (find (is_in_the_way a.register.now a.sid a.mode) a.rec.now.holds) (find (is_upgrade_beside a.mails.now a.key a.sid) a.rec.now.watchers)) own_is in
    answered_still c.carry_out.result _ _ (λ e v caller asks. ap (told caller a.key) (e ∙ is) ∙ (agrees a.register.now a.mails.now a.key a.rec.now a.mode a.wait a.sid v caller asks).decision) c.carry_out.ensures.answer

pub returns-clause-holder : goal.returns-clause-holder
returns-clause-holder c = λ v caller asks.
    let a = c.args in
    let own_is = c.own_hold-own.ensures ∙ ap (find (is_own a.sid)) c.as_slice.ensures in
    let is = c.answer-answer.ensures ∙ ap (λ o. answered a.wait a.mode o (find (is_in_the_way a.register.now a.sid a.mode) a.rec.now.holds) (find (is_upgrade_beside a.mails.now a.key a.sid) a.rec.now.watchers)) own_is in
    names_no_holder c.carry_out.result (answer_to a.register.now a.mails.now a.key a.rec.now a.mode a.wait a.sid) _
    (answered_still c.carry_out.result _ _ (λ e. e ∙ is) c.carry_out.ensures.answer)
    (agrees a.register.now a.mails.now a.key a.rec.now a.mode a.wait a.sid v caller asks).holder

pub returns-clause-other : goal.returns-clause-other
returns-clause-other c = λ v caller asks.
    let a = c.args in
    let own_is = c.own_hold-own.ensures ∙ ap (find (is_own a.sid)) c.as_slice.ensures in
    let is = c.answer-answer.ensures ∙ ap (λ o. answered a.wait a.mode o (find (is_in_the_way a.register.now a.sid a.mode) a.rec.now.holds) (find (is_upgrade_beside a.mails.now a.key a.sid) a.rec.now.watchers)) own_is in
    names_no_other c.carry_out.result (answer_to a.register.now a.mails.now a.key a.rec.now a.mode a.wait a.sid) _
    (answered_still c.carry_out.result _ _ (λ e. e ∙ is) c.carry_out.ensures.answer)
    (agrees a.register.now a.mails.now a.key a.rec.now a.mode a.wait a.sid v caller asks).other

pub returns-clause-holds : goal.returns-clause-holds
returns-clause-holds c =
    let a = c.args in
    let own_is = c.own_hold-own.ensures ∙ ap (find (is_own a.sid)) c.as_slice.ensures in
    let is = c.answer-answer.ensures ∙ ap (λ o. answered a.wait a.mode o (find (is_in_the_way a.register.now a.sid a.mode) a.rec.now.holds) (find (is_upgrade_beside a.mails.now a.key a.sid) a.rec.now.watchers)) own_is in
    answered_still c.carry_out.result _ _ (λ e v caller asks.
    ap (counted_holds a.register.now a.key)
    (e ∙ ap (λ x. becomes x a.sid a.mode c.own_hold-own.result a.rec.now.holds) is
    ∙ ap (λ o. becomes (answer_to a.register.now a.mails.now a.key a.rec.now a.mode a.wait a.sid) a.sid a.mode o a.rec.now.holds) own_is)
    ∙ (agrees a.register.now a.mails.now a.key a.rec.now a.mode a.wait a.sid v caller asks).holds) c.carry_out.ensures.holds

pub returns-clause-stale : goal.returns-clause-stale
returns-clause-stale c =
    let a = c.args in
    answered_still c.carry_out.result _ _ (λ e living. ap (stale_holds a.register.now) e ∙ stale_stay a.register.now a.sid living c.answer-answer.result a.mode c.own_hold-own.result a.rec.now.holds) c.carry_out.ensures.holds

pub returns-clause-sets : goal.returns-clause-sets
returns-clause-sets c =
    let a = c.args in
    answered_still c.carry_out.result _ _ (λ e sets sid few. kept_sets c.answer-answer.result a.sid a.mode c.own_hold-own.result a.rec.now _ e refl sets sid few) c.carry_out.ensures.holds
