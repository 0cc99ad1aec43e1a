use Rattle.record_codec.proofs.MailExact.{token_exact, token_set, token_size}
use Rattle.record_codec.proofs.mail_rec.TokenRowRowToken.laws.Goals as goal

pub returns : goal.returns
returns c = record { exact = token_exact; sets = token_set; sized = token_size }
