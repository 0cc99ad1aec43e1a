use Rattle.std.proofs.Common.{◌≡◌, Bool, true, false, cond, sym, ap, ◌∙◌}
use Rattle.std.proofs.lemmas.Result.{IfOk-weaker}
use Rattle.std.specs.List.{list_any}
use Rattle.sid_core.specs.declared.reply.Reply.TheVariants.{AccessDenied, InvalidParameter, DeletePending}
use Rattle.serial_table.specs.declared.decision.Decision.{Decision}
use Rattle.serial_table.specs.View.{view, names_file}
use Rattle.serial_table.specs.File.{file_view}
use Rattle.serial_table.specs.Decision.{only_reply}
use Rattle.serial_table.specs.Asked.{deletes_without_right, is_elsewhere}
use Rattle.serial_table.specs.Open.{open_shared, open_by}
use Rattle.serial_table.proofs.open.open_by.Goals as goal

-- what follows the checks, and what each check asks
module _ (d e p : Bool) (last : Decision) where
  abbrev answer : Decision
  answer = cond d (only_reply AccessDenied) (cond e (only_reply InvalidParameter) (cond p (only_reply DeletePending) last))

  denied : true ≡ d → only_reply AccessDenied ≡ answer
  denied h = λ j. cond (h j) (only_reply AccessDenied) (cond e (only_reply InvalidParameter) (cond p (only_reply DeletePending) last))

  invalid : false ≡ d → true ≡ e → only_reply InvalidParameter ≡ answer
  invalid h i = λ j. cond (h j) (only_reply AccessDenied) (cond (i j) (only_reply InvalidParameter) (cond p (only_reply DeletePending) last))

  goes : false ≡ d → false ≡ e → true ≡ p → only_reply DeletePending ≡ answer
  goes h i k = λ j. cond (h j) (only_reply AccessDenied) (cond (i j) (only_reply InvalidParameter) (cond (k j) (only_reply DeletePending) last))

  passes : false ≡ d → false ≡ e → false ≡ p → last ≡ answer
  passes h i k = λ j. cond (h j) (only_reply AccessDenied) (cond (i j) (only_reply InvalidParameter) (cond (k j) (only_reply DeletePending) last))

pub returns-then-deletes_without_right : goal.returns-then-deletes_without_right
unfolding open_by
returns-then-deletes_without_right c =
    let asked = c.args.asked.now in
    let f = file_view asked.file (view c.args.table.now) in
    c.only_reply.ensures
    ∙ denied (deletes_without_right asked) (is_elsewhere (view c.args.table.now) asked) f.pending (open_shared f c.args.caller.now asked) (sym c.if-deletes_without_right.true ∙ c.deletes_without_right.ensures)

pub returns-then-is_elsewhere : goal.returns-then-is_elsewhere
unfolding open_by
returns-then-is_elsewhere c =
    let asked = c.args.asked.now in
    let f = file_view asked.file (view c.args.table.now) in
    c.only_reply-then-is_elsewhere.ensures
    ∙ invalid (deletes_without_right asked) (is_elsewhere (view c.args.table.now) asked) f.pending (open_shared f c.args.caller.now asked) (sym c.if-deletes_without_right.false ∙ c.deletes_without_right.ensures)
    (sym c.if-is_elsewhere.true ∙ c.is_elsewhere.ensures)

pub returns-then-is_pending : goal.returns-then-is_pending
unfolding open_by
returns-then-is_pending c =
    let asked = c.args.asked.now in
    let f = file_view asked.file (view c.args.table.now) in
    c.only_reply-then-is_pending.ensures
    ∙ goes (deletes_without_right asked) (is_elsewhere (view c.args.table.now) asked) f.pending (open_shared f c.args.caller.now asked) (sym c.if-deletes_without_right.false ∙ c.deletes_without_right.ensures)
    (sym c.if-is_elsewhere.false ∙ c.is_elsewhere.ensures) (sym c.if-is_pending.true ∙ c.is_pending.ensures ∙ ap (list_any (names_file asked.file)) c.as_slice.ensures)

pub returns-else-is_pending : goal.returns-else-is_pending
unfolding open_by
returns-else-is_pending c =
    let asked = c.args.asked.now in
    let t = c.args.table.now in
    let f = file_view asked.file (view t) in
    IfOk-weaker c.open_here.result _ _
    (λ _ h. h
    ∙ passes (deletes_without_right asked) (is_elsewhere (view t) asked) f.pending (open_shared f c.args.caller.now asked) (sym c.if-deletes_without_right.false ∙ c.deletes_without_right.ensures)
    (sym c.if-is_elsewhere.false ∙ c.is_elsewhere.ensures) (sym c.if-is_pending.false ∙ c.is_pending.ensures ∙ ap (list_any (names_file asked.file)) c.as_slice.ensures))
    c.open_here.ensures
