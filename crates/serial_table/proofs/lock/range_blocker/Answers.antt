use Rattle.std.proofs.Common.{ap, ◌∙◌, sym, cond, filter, Option, Some, None}
use Rattle.std.specs.Option.{option_map, option_map_or}
use Rattle.sid_core.specs.declared.ids.Sid.{Sid}
use Rattle.serial_table.specs.declared.rows.OpenRow.{OpenRow}
use Rattle.serial_table.specs.View.{view, lives, has_id, is_of_file}
use Rattle.serial_table.specs.File.{FileOpen, file_open}
use Rattle.serial_table.specs.InPlace.{lives_by}
use Rattle.serial_table.proofs.Finding.{find-of_map}
use Rattle.serial_table.proofs.lock.range_blocker.Goals as goal

owner_of : FileOpen → Option Sid
owner_of o = cond o.connected (Some o.row.owner) None

pub returns-in-Some : goal.returns-in-Some
unfolding owner_of
returns-in-Some c =
    let t = c.args.table.now in
    let opens = filter (is_of_file c.args.file) t.opens in
    c.connected_owner.ensures
    ∙ ap (λ workers. cond (lives_by workers c.in-Some.row.owner) (Some c.in-Some.row.owner) None) c.as_slice.ensures
    ∙ ap (λ (found : Option OpenRow). option_map_or owner_of (option_map (file_open (lives (view t))) found) None) c.in-Some.ensures
    ∙ ap (λ (found : Option FileOpen). option_map_or owner_of found None) (sym (find-of_map (λ (o : FileOpen). has_id c.args.range.now.id o.row) (file_open (lives (view t))) opens))

pub returns-in-None : goal.returns-in-None
unfolding owner_of
returns-in-None c =
    let t = c.args.table.now in
    let opens = filter (is_of_file c.args.file) t.opens in
    ap (λ (found : Option OpenRow). option_map_or owner_of (option_map (file_open (lives (view t))) found) None) c.in-None.ensures
    ∙ ap (λ (found : Option FileOpen). option_map_or owner_of found None) (sym (find-of_map (λ (o : FileOpen). has_id c.args.range.now.id o.row) (file_open (lives (view t))) opens))
