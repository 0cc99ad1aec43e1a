use Rattle.std.proofs.Common.{refl, ap, [], ◌∷◌, Some, ◌∙◌}
use Rattle.lease_breaks.specs.Breaks.{with_state}
use Rattle.lease_breaks.proofs.breaks.begins_to_break.Goals as goal

pub returns : goal.returns
returns c = λ records. record {
  post = ap (λ p. p ∷ []) c.break_post-post.ensures;
  blocks = refl;
  changes = c.set_breaking.ensures ∙ ap (λ b. with_state c.args.rec.now.held (Some b) c.args.rec.now) c.new_breaking.ensures;
}
