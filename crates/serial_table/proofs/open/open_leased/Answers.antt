use Rattle.std.proofs.Common.{ap, ◌∙◌}
use Rattle.std.proofs.lemmas.Result.{IfOk-weaker}
use Rattle.serial_table.specs.View.{view}
use Rattle.serial_table.specs.File.{file_view}
use Rattle.serial_table.specs.Alone.{alone}
use Rattle.serial_table.specs.Open.{open_shared}
use Rattle.serial_table.proofs.BreaksSeen.{alone_seen}
use Rattle.serial_table.proofs.OpenSeen.{open_shared_seen}
use Rattle.serial_table.proofs.open.open_leased.Goals as goal

pub returns : goal.returns
returns c =
    let asked = c.args.asked.now in
    let caller = c.args.caller.now in
    let t = c.args.table.now in
    IfOk-weaker c.open_at.result _ _
    (λ _ h. h
    ∙ ap (λ u. open_shared (file_view asked.file (view u)) caller asked) c.in_ok-rows_alone.ensures
    ∙ open_shared_seen caller asked (file_view asked.file (view (alone asked.file t))) (file_view asked.file (view t)) (alone_seen asked.file t))
    c.open_at.ensures
