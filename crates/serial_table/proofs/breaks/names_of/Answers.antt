use Rattle.std.proofs.Common.{[], filter, sym, ap, ◌∙◌}
use Rattle.std.proofs.lemmas.Result.{IfOk-weaker}
use Rattle.std.specs.List.{filter_map}
use Rattle.serial_table.specs.declared.rows.OpenRow.{OpenRow}
use Rattle.serial_table.specs.View.{is_of_file}
use Rattle.serial_table.specs.Break.{each_once}
use Rattle.serial_table.specs.InPlace.{table_of}
use Rattle.serial_table.proofs.Broken.{names-is}
use Rattle.serial_table.proofs.breaks.names_of.Goals as goal

pub returns : goal.returns
returns c =
    IfOk-weaker c.each_once.result _ _
    (λ _ h. h
    ∙ ap (each_once []) (c.as_slice-2.ensures.value ∙ (c.in_ok-all.ensures ∙ ap (λ opens. filter_map (λ (o : OpenRow). o.lease) (filter (is_of_file c.args.file) opens)) c.as_slice.ensures.value))
    ∙ sym (names-is (table_of c.args.rows.now) c.args.file))
    c.each_once.ensures
