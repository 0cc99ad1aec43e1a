use Rattle.std.proofs.Common.{refl, ap, sym, ◌∙◌}
use Rattle.std.specs.FinMap as map
use Rattle.leases_db.specs.Names.{name_cmp, named}
use Rattle.leases_db.proofs.Maps.{get_is, lent_at}
use Rattle.leases_db.proofs.by_name.ByName.get_mut.Goals as goal

pub returns : goal.returns
returns g c =
    let es = c.self.inside.records.entries in
    let f = c.get_mut.follows in (
      (
        refl,
        (λ w. lent_at es (f.lender w).entries _ c.args.name w c.get_mut.result c.self.view_is c.get_mut.ensures.value (λ some. ((f.holds w).3 some).0)),
        ap (λ (m : _). map.from_entries {R = name_cmp} (named m.entries)) f.holds-at-none ∙ c.self.view_is,
      ),
      record {
        writes_back = tt;
        value = c.get_mut.ensures.value ∙ sym (get_is es c.args.name) ∙ ap (λ m. map.get m c.args.name) c.self.view_is;
      },
    )
