use Rattle.record_codec.specs.MailRec.{mail_rec}
use Rattle.record_codec.proofs.Whole.{exact_is_grammar}
use Rattle.record_codec.proofs.MailExact.{mail_exact, mail_fields_set, mail_set, mail_size}
use Rattle.record_codec.proofs.mail_rec.MailRecPacked.laws.Goals as goal

pub returns : goal.returns
returns c = record { grammar = exact_is_grammar mail_rec mail_exact; sets = mail_set; older = λ version x v. (mail_fields_set x).1 v.1; sized = mail_size }
