use Rattle.std.proofs.Common.{List, map, ap, sym, subst, ◌∙◌}
use Rattle.record_codec.specs.declared.lease_rec.LeaseRef.{LeaseRef}
use Rattle.record_codec.specs.LeaseRec.{IsLeaseRec}
use Rattle.durable_open.specs.Taking.{ref_taken_over}
use Rattle.durable_open.proofs.Sets.{lease_keeps}
use Rattle.durable_open.proofs.reconnecting.take_over_lease.Goals as goal

pub returns-clause-sets : goal.returns-clause-sets
returns-clause-sets c = λ sets is.
    subst (λ (refs : List LeaseRef). IsLeaseRec (record c.settle.new.rec { refs = refs }))
    (sym (c.from_vec.ensures ∙ c.take_over_refs.ensures ∙ ap (map (ref_taken_over c.args.id c.args.owner)) c.take_refs-refs.ensures.taken))
    (lease_keeps c.args.id c.args.owner c.settle.new.rec (c.settle.ensures.sets sets) is)
