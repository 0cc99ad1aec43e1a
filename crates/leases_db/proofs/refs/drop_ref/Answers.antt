use Rattle.std.proofs.Common.{not, filter, ap, subst, sym, ◌∙◌}
use Rattle.record_codec.specs.LeaseRec.{IsLeaseRec}
use Rattle.leases_db.specs.Refs.{is_of}
use Rattle.leases_db.proofs.Sets.{fewer_refs}
use Rattle.leases_db.proofs.refs.drop_ref.Goals as goal

pub returns-clause-sets : goal.returns-clause-sets
returns-clause-sets c = λ sets.
    subst IsLeaseRec (sym (ap (λ refs. record c.args.rec.now { refs = refs }) (c.from_vec.ensures ∙ c.keep_others.ensures ∙ ap (filter (λ ref. not (is_of c.args.id ref))) c.take-refs.ensures.taken)))
    (fewer_refs (λ ref. not (is_of c.args.id ref)) c.args.rec.now sets)
