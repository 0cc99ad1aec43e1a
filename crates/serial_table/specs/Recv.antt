-- `recv`.
use Rattle.std.specs.Prelude.{List, [], ◌∷◌}
use Rattle.sid_core.specs.declared.entry.Post.{Post}
use Rattle.sid_core.specs.declared.reply.Reply.TheVariants.{Message, NoMessage}
use Rattle.serial_table.specs.declared.change.Change.TheVariants.{TakeLetter}
use Rattle.serial_table.specs.declared.decision.Caller.{Caller}
use Rattle.serial_table.specs.declared.decision.Decision.{Decision}
use Rattle.serial_table.specs.View.{View}
use Rattle.serial_table.specs.Decision.{only_reply}

-- the first letter of the mailbox, if any
abbrev pub recv_first : Caller → List Post → Decision
recv_first caller [] = only_reply NoMessage
recv_first caller (first ∷ others) = record (only_reply (Message first.letter)) { changes = TakeLetter caller.sid ∷ [] }

unfoldable pub recv : View → Caller → Decision
recv v caller = recv_first caller (v.letters_of caller.sid)
