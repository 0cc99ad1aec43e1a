use Rattle.std.proofs.Common.{◌+◌, ◌++◌, refl, ap, ◌∙◌, arith}
use Rattle.serial_table.specs.View.{view}
use Rattle.serial_table.specs.Tables.{file_rows, of_files}
use Rattle.serial_table.proofs.Tabling.{files_next, files_all}
use Rattle.serial_table.proofs.show.files.push_rows.Goals as goal

pub loop-info-preserved : goal.loop-info-preserved
loop-info-preserved c = record {
  number = omega arith;
  rows = files_next (file_rows c.args.setup.now) (view c.args.table.now) c.as_slice-infos.result.now c.loop-info.info-index c.loop-info.file (c.loop-info.file + 1) c.info-item.result
      c.loop-info.out.items c.push_file.new.out.items _ c.loop-info-test.true c.info-item.is refl c.in_ok-push_file.ensures c.loop-info.invariant.rows;
}

pub returns : goal.returns
returns c =
    let R = file_rows c.args.setup.now in
    let v = view c.args.table.now in
    files_all R v c.as_slice-infos.result.now c.loop-info.info-index c.loop-info.file c.loop-info.out.items _ c.loop-info-test.false c.loop-info.invariant.rows
    ∙ ap (λ infos. c.args.out.now.items ++ of_files R v 1 infos) c.as_slice-infos.ensures
