use Rattle.std.proofs.Common.{List, length, ap}
use Rattle.dbwrap_core.specs.Plain.{beside_of}
use Rattle.chain_map.specs.Pairs.{Pairs}
use Rattle.tests.proofs.Waits.{wait_first}
use Rattle.tests.proofs.passes.six_passes.Goals as goal

pub returns : goal.returns
returns c = wait_first _ _ (beside_of c.in_ok-cells.cells) (ap (λ (ks : List Pairs). length ks) c.in_ok-first.ensures.items) c.in_ok-cells.ensures
