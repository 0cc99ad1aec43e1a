-- Mailboxes, and how tokens and letters come and go.
use Rattle.std.specs.Prelude.{◌≡◌, ℕ, Bool, ◌&&◌, not, List, [], ◌∷◌, ◌++◌, filter, map, drop}
use Rattle.std.specs.List.{list_all}
use Rattle.std.specs.Option.{option_map}
use Rattle.std.specs.Ordering.{nat_cmp}
use Rattle.std.specs.FinMap as map
use Rattle.std.specs.FinMap.{FinMap}
use Rattle.sid_core.specs.declared.ids.Sid.{Sid}
use Rattle.sid_core.specs.declared.ids.Spot.{Spot}
use Rattle.sid_core.specs.declared.entry.Post.{Post}
use Rattle.sid_core.specs.Ids.{same_spot}
use Rattle.serial_table.specs.declared.rows.Watch.{Watch}
use Rattle.serial_table.specs.View.{is_to}
use Rattle.serial_table.specs.Change.{is_other_wait}
use Rattle.record_codec.specs.declared.mail_rec.Token.{Token}
use Rattle.record_codec.specs.declared.mail_rec.MailRec.{MailRec}

-- the session whose mailbox it is
abbrev pub receiver : ℕ → MailRec → Sid
receiver pid mail = record { pid = pid; session = mail.session }

-- the tokens that stay once these watches wait no more
abbrev pub still_waits : List Watch → Sid → Token → Bool
still_waits over sid token = list_all (λ (watch : Watch). is_other_wait watch.sid watch.call sid token.call) over

-- these watches wait no more
abbrev pub without_waits : List Watch → ℕ → MailRec → MailRec
without_waits over pid mail = record mail { tokens = filter (still_waits over (receiver pid mail)) mail.tokens }

-- the letter comes into the mailbox of the session that it is to
abbrev pub with_letter : Post → ℕ → MailRec → MailRec
with_letter post pid mail = record mail { letters = mail.letters ++ map (λ (p : Post). p.letter) (filter (is_to (receiver pid mail)) (post ∷ [])) }

-- nothing waits at the spot any more
abbrev pub without_spot : Spot → MailRec → MailRec
without_spot spot mail = record mail { tokens = filter (λ token. not (same_spot token.spot spot)) mail.tokens }

-- the first letter is taken
abbrev pub without_first : MailRec → MailRec
without_first mail = record mail { letters = drop 1 mail.letters }

-- each mailbox becomes what this makes of it, by its pid
abbrev pub ChangesEach : (ℕ → MailRec → MailRec) → FinMap nat_cmp MailRec → FinMap nat_cmp MailRec → Type 0
ChangesEach change old new = (pid : ℕ) → map.get new pid ≡ option_map (change pid) (map.get old pid)
