use Rattle.std.proofs.Common.{◌≡◌, ◌++◌, take}
use Rattle.std.specs.List.{flat_map}
use Rattle.serial_table.specs.Text.{post_line}
use Rattle.opendb_run.proofs.lines.push_post_lines.Given as goal

-- the lines of the letters so far
abbrev pub invariant-loop-post : goal.invariant-loop-post
invariant-loop-post l = l.text ≡ l.initial.text ++ flat_map (post_line l.setup) (take l.post-index l.posts)
