use Rattle.stored_table.specs.Decoded.{records_of}
use Rattle.stored_table.proofs.Telling.{file_tells, lives_alike}
use Rattle.stored_table.proofs.laws.records_tell.Goals as goal

pub returns : goal.returns
returns c = record {
  files = λ setup n k t file stands sets sound. file_tells setup (records_of setup n k) t stands.agree sets sound file;
  living = λ setup n k t sid stands sets sound. lives_alike setup (records_of setup n k) t stands.agree sets sound sid;
}
