-- `disconnect`.
use Rattle.std.specs.Prelude.{[], ◌∷◌}
use Rattle.serial_table.specs.declared.change.Change.TheVariants.{NextSession, Settle}
use Rattle.serial_table.specs.declared.decision.Caller.{Caller}
use Rattle.serial_table.specs.declared.decision.Decision.{Decision}
use Rattle.serial_table.specs.View.{View}
use Rattle.serial_table.specs.Session.{end_of_session}

-- The caller's session ends. Once the table has settled without it, the next one begins, at the same moment.
unfoldable pub disconnect : View → Caller → Decision
disconnect v caller = end_of_session v caller.sid caller.moment (Settle ∷ NextSession caller.sid caller.moment ∷ [])
