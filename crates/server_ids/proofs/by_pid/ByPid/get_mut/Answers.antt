use Rattle.std.proofs.Common.{refl, ap, sym, ◌∙◌}
use Rattle.std.specs.FinMap as map
use Rattle.server_ids.proofs.Maps.{get_is, lent_at}
use Rattle.server_ids.proofs.by_pid.ByPid.get_mut.Goals as goal

pub returns : goal.returns
returns g c =
    let es = c.self.inside.records.entries in
    let f = c.get_mut.follows in (
      (
        refl,
        (λ w. lent_at es (f.lender w).entries _ c.args.pid w c.get_mut.result c.self.view_is c.get_mut.ensures.value (λ some. ((f.holds w).3 some).0)),
        ap (λ (m : _). map.from_entries m.entries) f.holds-at-none ∙ c.self.view_is,
      ),
      record {
        writes_back = tt;
        value = c.get_mut.ensures.value ∙ sym (get_is es c.args.pid) ∙ ap (λ m. map.get m c.args.pid) c.self.view_is;
      },
    )
