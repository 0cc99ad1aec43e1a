use Rattle.std.proofs.Common.{refl, ap, [], ◌∷◌}
use Rattle.lease_breaks.proofs.breaks.breaks_read.Goals as goal

pub returns : goal.returns
returns c = λ records. record { post = ap (λ p. p ∷ []) c.break_post-post.ensures; blocks = refl; changes = c.hold.ensures }
