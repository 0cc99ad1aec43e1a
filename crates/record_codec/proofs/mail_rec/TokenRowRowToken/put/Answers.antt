use Rattle.record_codec.specs.MailRec.{token}
use Rattle.record_codec.proofs.Append.{appended}
use Rattle.record_codec.proofs.mail_rec.TokenRowRowToken.put.Goals as goal

pub returns-clause-items : goal.returns-clause-items
unfolding token
returns-clause-items c = appended _ _ _ _ _ c.put_spot.ensures.items c.put_u32.ensures.items
