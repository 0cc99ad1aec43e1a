-- What an `open` asks, as a type: that of `asked_of`, which its crate doesn't name for others.
use Rattle.std.specs.Prelude.{ℕ, Bool, Option}
use Rattle.sid_core.specs.declared.bits.Access.{Access}
use Rattle.sid_core.specs.declared.bits.Share.{Share}
use Rattle.sid_core.specs.declared.call.LeaseAsk.{LeaseAsk}
use Rattle.serial_table.specs.declared.decision.Caller.{Caller}
use Rattle.serial_table.specs.Asked.{asked_of}

abbrev result_of : {B : Type 0} → (Caller → ℕ → Access → Share → Option LeaseAsk → ℕ → Bool → Bool → B) → Type 0
result_of {B} f = B

abbrev pub Asked : Type 0
Asked = result_of asked_of
