use Rattle.std.proofs.Common.{take, drop, ap, ◌∙◌}
use Rattle.chain_map.specs.Pairs.{put}
use Rattle.chain_map.specs.Leaves.{joined}
use Rattle.chain_map.specs.Marks.{kept_each}
use Rattle.chain_map.specs.Laid.{leaves_of, shown}
use Rattle.chain_map.proofs.Each.{IsRising-each}
use Rattle.chain_map.proofs.Laid.{laid_put}
use Rattle.chain_map.proofs.chain.Chain.put_packed.Goals as goal

pub returns-clause-ok : goal.returns-clause-ok
returns-clause-ok c =
    let key = take c.args.key_len c.args.bytes.items in
    let value = drop c.args.key_len c.args.bytes.items in
    let leaves = leaves_of c.relieve.new.base in
    c.place.ensures.same
    ∙ ap (shown leaves c.relieve.new.marks) (c.in_ok-put.ensures.ok ∙ (λ i. put (c.packed.ensures i).0 (c.packed.ensures i).1 c.relieve.new.over))
    ∙ laid_put key value c.relieve.new.over (joined (kept_each leaves c.relieve.new.marks)) (IsRising-each leaves c.relieve.new.marks c.leaves_of-rising.ensures.rising)
    ∙ ap (put key value) (c.in_ok-relieve.ensures.same ∙ c.self.view_is)
