use Rattle.std.proofs.Common.{false, ap, sym, ◌∙◌, ◌&&◌, ◌==◌}
use Rattle.std.specs.Option.{option_map, option_map_or}
use Rattle.serial_table.specs.declared.rows.WorkerRow.{WorkerRow}
use Rattle.record_codec.specs.Counts.{is_current}
use Rattle.server_ids.specs.Sessions.{worker_row}
use Rattle.server_ids.proofs.sessions.living.Goals as goal

pub returns-in-Some-clause-counts : goal.returns-in-Some-clause-counts
returns-in-Some-clause-counts c = c.is_current.ensures c.args.sid.pid ∙ ap (λ o. is_current o c.args.sid.session) c.in-Some.ensures

pub returns-in-Some-clause-table : goal.returns-in-Some-clause-table
returns-in-Some-clause-table c = λ v h.
    c.is_current.ensures c.args.sid.pid
    ∙ ap (λ o. option_map_or (λ (w : WorkerRow). w.alive && (w.session == c.args.sid.session)) (option_map (worker_row c.args.sid.pid) o) false) c.in-Some.ensures
    ∙ ap (λ o. option_map_or (λ (w : WorkerRow). w.alive && (w.session == c.args.sid.session)) o false) (sym h)
