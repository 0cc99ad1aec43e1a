use Rattle.record_codec.proofs.MailExact.{letter_exact, letter_set, letter_size}
use Rattle.record_codec.proofs.mail_rec.LetterRowRowLetter.laws.Goals as goal

pub returns : goal.returns
returns c = record { exact = letter_exact; sets = letter_set; sized = letter_size }
