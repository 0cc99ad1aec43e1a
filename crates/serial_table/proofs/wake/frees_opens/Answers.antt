use Rattle.std.proofs.Common.{◌∙◌, sym, ap, ◌&&◌, eq-eqb}
use Rattle.std.specs.List.{list_any}
use Rattle.serial_table.specs.View.{view, has_id}
use Rattle.serial_table.specs.File.{file_view}
use Rattle.serial_table.specs.Wake.{frees_opens}
use Rattle.serial_table.specs.InPlace.{table_of}
use Rattle.serial_table.proofs.InPlace.{opens_will_go, open_there}
use Rattle.serial_table.proofs.wake.frees_opens.Goals as goal

pub returns-then-file-of : goal.returns-then-file-of
returns-then-file-of c =
    c.has_open.ensures ∙ open_there (table_of c.args.lists.now) c.args.of c.in-DropOpen.id
    ∙ ap (λ b. b && list_any (λ o. has_id c.in-DropOpen.id o.row) (file_view c.args.of (view (table_of c.args.lists.now))).opens) (sym (eq-eqb c.in-DropOpen.file c.args.of c.if-file-of.true))
    ∙ ap (λ change. frees_opens change c.args.of (file_view c.args.of (view (table_of c.args.lists.now)))) (sym c.in-DropOpen.is)

pub returns-in-Settle : goal.returns-in-Settle
returns-in-Settle c =
    c.some_open_will_go.ensures ∙ opens_will_go (table_of c.args.lists.now) c.args.of
    ∙ ap (λ change. frees_opens change c.args.of (file_view c.args.of (view (table_of c.args.lists.now)))) (sym c.in-Settle.is)
