use Rattle.std.proofs.Common.{[], Option, sym, ap, ◌∙◌}
use Rattle.std.specs.Option.{option_map, option_map_or}
use Rattle.std.specs.BTreeMap.{get}
use Rattle.serial_table.specs.declared.rows.OpenRow.{OpenRow}
use Rattle.serial_table.specs.View.{view, lives}
use Rattle.serial_table.specs.File.{FileOpen, file_open}
use Rattle.serial_table.specs.Keeping.{key_cmp}
use Rattle.serial_table.specs.InPlace.{lives_by}
use Rattle.serial_table.specs.Showing.{pid_of_owner}
use Rattle.serial_table.specs.Tables.{owner_text, pid_text}
use Rattle.serial_table.proofs.Tabling.{open_shown}
use Rattle.serial_table.proofs.show.ranges.owner_of.Goals as goal

pub returns-in_err-row : goal.returns-in_err-row
returns-in_err-row c =
    let t = c.args.table.now in
    let file = c.args.file in
    let id = c.args.range.now.id in
    ap pid_of_owner c.from_residual.ensures
    ∙ ap (λ (found : Option OpenRow). option_map_or pid_text (option_map (file_open (lives (view t))) found) []) (c.in_err-row.ensures.value ∙ ap (get key_cmp c.args.opens.now) c.key_of_id.ensures ∙ c.requires file id)
    ∙ ap (λ (found : Option FileOpen). option_map_or pid_text found []) (sym (open_shown t file id))

pub returns : goal.returns
returns c =
    let t = c.args.table.now in
    let file = c.args.file in
    let id = c.args.range.now.id in
    let owner = c.in_ok-row.row.now.owner in
    ap (λ connected. owner_text connected owner.pid) (c.lives.ensures ∙ ap (λ workers. lives_by workers owner) c.as_slice.ensures)
    ∙ ap (λ (found : Option OpenRow). option_map_or pid_text (option_map (file_open (lives (view t))) found) []) (c.in_ok-row.ensures.value ∙ ap (get key_cmp c.args.opens.now) c.key_of_id.ensures ∙ c.requires file id)
    ∙ ap (λ (found : Option FileOpen). option_map_or pid_text found []) (sym (open_shown t file id))
