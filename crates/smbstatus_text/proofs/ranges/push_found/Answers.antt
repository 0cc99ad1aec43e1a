use Rattle.std.proofs.Common.{◌++◌, [], sym, ap, ◌∙◌}
use Rattle.std.proofs.lemmas.Result.{on_ok_weaker}
use Rattle.std.proofs.lemmas.List.{append-nil}
use Rattle.std.specs.BTreeMap.{get}
use Rattle.std.specs.Option.{option_map_or}
use Rattle.server_ids.specs.Sessions.{registered}
use Rattle.smbstatus_text.specs.Rows.{item_row}
use Rattle.smbstatus_text.specs.Opens.{id_cmp, found_range_row}
use Rattle.smbstatus_text.proofs.ranges.push_found.Goals as goal

pub returns-in-Some : goal.returns-in-Some
unfolding found_range_row
returns-in-Some c =
    let a = c.args in
    on_ok_weaker c.push_range.result (λ e.
    e ∙ ap (λ o. a.out.now.items ++ option_map_or (item_row a.info.now (registered a.register.now) a.file a.range.now) o []) (c.in-Some.ensures.value ∙ ap (get id_cmp a.opens.now) c.key_of.ensures)) c.push_range.ensures

pub returns-in-None : goal.returns-in-None
unfolding found_range_row
returns-in-None c =
    let a = c.args in
    sym (append-nil a.out.now.items)
    ∙ ap (λ o. a.out.now.items ++ option_map_or (item_row a.info.now (registered a.register.now) a.file a.range.now) o []) (c.in-None.ensures.value ∙ ap (get id_cmp a.opens.now) c.key_of.ensures)
