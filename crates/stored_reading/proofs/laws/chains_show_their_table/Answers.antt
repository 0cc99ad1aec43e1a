use Rattle.std.proofs.Common.{sym, ap, subst}
use Rattle.stored_table.specs.Decoded.{records_of}
use Rattle.stored_table.specs.Exact.{exact_at}
use Rattle.stored_table.specs.Stands.{StandsFor}
use Rattle.stored_reading.proofs.Shown.{view_is}
use Rattle.stored_reading.proofs.laws.chains_show_their_table.Goals as goal

pub returns : goal.returns
returns c = record {
  shown = λ setup n k t stands sets sound. view_is setup (records_of setup n k) t stands.agree sets sound;
  exact = λ setup n k t old p stands sets sound. ap (λ v. exact_at setup old v p) (view_is setup (records_of setup n k) t stands.agree sets sound);
  stands = λ setup n k t stands sets sound. subst (StandsFor setup n k) (sym (view_is setup (records_of setup n k) t stands.agree sets sound)) stands;
}
