use Rattle.std.proofs.lemmas.List.{drop_all}
use Rattle.serial_table.specs.Alone.{shown}
use Rattle.serial_table.proofs.Broken.{broken_next, left_next, broken_all, left_all}
use Rattle.std.proofs.Common.{drop}
use Rattle.serial_table.proofs.breaks.break_each.Goals as goal

pub loop-name-preserved : goal.loop-name-preserved
loop-name-preserved c =
    let file = c.args.file in
    let names = c.args.names.now in
    let at = c.loop-name.name-index in
    let made = c.in_ok-break_named.ensures in
    record {
      done = broken_next c.args.now file c.args.kept.0 names at _ (shown file c.loop-name.rows) (shown file c.break_named.new.rows) _ _ _ c.loop-name-test.true made.done made.rows c.loop-name.invariant.done;
      rows = left_next c.args.now file c.args.kept.0 names at _ (shown file c.loop-name.rows) (shown file c.break_named.new.rows) _ c.loop-name-test.true made.rows c.loop-name.invariant.rows;
    }

pub returns-clause-done : goal.returns-clause-done
returns-clause-done c =
    let names = c.args.names.now in
    let at = c.loop-name.name-index in
    broken_all c.args.now c.args.file c.args.kept.0 (drop at names) (shown c.args.file c.loop-name.rows) _ _ (drop_all at names c.loop-name-test.false) c.loop-name.invariant.done

pub returns-clause-rows : goal.returns-clause-rows
returns-clause-rows c =
    let names = c.args.names.now in
    let at = c.loop-name.name-index in
    left_all c.args.now c.args.file c.args.kept.0 (drop at names) (shown c.args.file c.loop-name.rows) _ (drop_all at names c.loop-name-test.false) c.loop-name.invariant.rows
