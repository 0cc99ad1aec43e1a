use Rattle.std.proofs.Common.{◌≡◌, ap, ◌∙◌, sym, find}
use Rattle.std.proofs.lemmas.Result.{on_ok_weaker}
use Rattle.std.specs.Option.{option_map_or}
use Rattle.serial_table.specs.Local.{perform_all_in_file}
use Rattle.serial_table.specs.Break.{Breaks, no_break, both, break_lease}
use Rattle.serial_table.specs.InPlace.{table_of}
use Rattle.serial_table.specs.Alone.{shown, breaks_of, break_named, is_lease_named}
use Rattle.serial_table.proofs.Broken.{break_named-is, both-no_break}
use Rattle.serial_table.proofs.breaks.break_named.Goals as goal

one : (c : goal.After-break_lease) → break_lease c.args.now c.args.file (shown c.args.file c.args.rows.now) c.args.kept.0 c.in-Some.lease ≡ break_named c.args.now c.args.file (shown c.args.file c.args.rows.now) c.args.kept.0 c.args.name
one c =
    let file = c.args.file in
    let f = shown file c.args.rows.now in
    sym (break_named-is c.args.now (table_of c.args.rows.now) file c.args.kept.0 c.args.name
    ∙ ap (λ found. option_map_or (break_lease c.args.now file f c.args.kept.0) found no_break) (sym (c.in-Some.ensures ∙ ap (find (is_lease_named file c.args.name)) c.as_slice.ensures.value)))

none : (c : goal.In-None) → break_named c.args.now c.args.file (shown c.args.file c.args.rows.now) c.args.kept.0 c.args.name ≡ no_break
none c =
    let file = c.args.file in
    let f = shown file c.args.rows.now in
    break_named-is c.args.now (table_of c.args.rows.now) file c.args.kept.0 c.args.name
    ∙ ap (λ found. option_map_or (break_lease c.args.now file f c.args.kept.0) found no_break) (sym (c.in-None.ensures ∙ ap (find (is_lease_named file c.args.name)) c.as_slice.ensures.value))

pub returns-in-Some-clause-done : goal.returns-in-Some-clause-done
returns-in-Some-clause-done c = on_ok_weaker c.break_lease.result (λ h. h ∙ ap (both (breaks_of c.args.done.now)) (one c)) c.break_lease.ensures.done

pub returns-in-Some-clause-rows : goal.returns-in-Some-clause-rows
returns-in-Some-clause-rows c =
    on_ok_weaker c.break_lease.result (λ h. h ∙ ap (λ (b : Breaks). perform_all_in_file b.changes (shown c.args.file c.args.rows.now)) (one c)) c.break_lease.ensures.rows

pub returns-in-None-clause-done : goal.returns-in-None-clause-done
returns-in-None-clause-done c = sym (ap (both (breaks_of c.args.done.now)) (none c) ∙ both-no_break (breaks_of c.args.done.now))

pub returns-in-None-clause-rows : goal.returns-in-None-clause-rows
returns-in-None-clause-rows c = sym (ap (λ (b : Breaks). perform_all_in_file b.changes (shown c.args.file c.args.rows.now)) (none c))
