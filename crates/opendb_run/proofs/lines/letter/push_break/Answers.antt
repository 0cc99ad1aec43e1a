use Rattle.std.proofs.Common.{◌++◌, codes}
use Rattle.std.specs.Fmt.{decimal}
use Rattle.opendb_run.proofs.Pieces.{on_ok_after}
use Rattle.opendb_run.proofs.lines.letter.push_break.Goals as goal

pub returns : goal.returns
returns c =
    on_ok_after _ _ _ _ (codes "BREAK file=" ++ decimal c.args.file) _ c.in_ok-push_numbered.ensures
    (on_ok_after _ _ _ _ (codes " key=" ++ decimal c.args.key) _ c.in_ok-push_numbered-2.ensures
    (on_ok_after _ _ _ _ (codes " ") _ c.in_ok-push.ensures.ok c.push_change.ensures))
