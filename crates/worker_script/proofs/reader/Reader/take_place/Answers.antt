use Rattle.std.proofs.Common.{◌∙◌, not, ap}
use Rattle.worker_script.proofs.reader.Reader.take_place.Goals as goal

pub returns-clause-free : goal.returns-clause-free
returns-clause-free c = c.in_ok-free.ensures.added ∙ ap not (c.requires.places (c.args.dev, c.args.inode))
