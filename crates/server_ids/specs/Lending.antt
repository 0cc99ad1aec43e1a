-- What becomes of the map of which a record is lent.
use Rattle.std.specs.Prelude.{◌≡◌, ℕ, Option, OnSome}
use Rattle.std.specs.Borrow.{LendsSo, MutBor, Fml}
use Rattle.std.specs.Ordering.{nat_cmp}
use Rattle.std.specs.FinMap as map
use denote.RattleType.{RattleType}
use Rattle.server_ids.specs.contracts.by_pid.ByPid.{the_row}

-- it ends with the record as it is left, or as it was where the pid has none
abbrev pub LendsRecord : (T : RattleType) → MutBor (map.FinMap nat_cmp T.Denot) → ℕ → Option (MutBor T.Denot) → Fml
LendsRecord T m pid r = LendsSo (the_row T) T m r (λ after rec. OnSome r (after ≡ map.insert m.now pid rec)) (λ after. after ≡ m.now)
