use Rattle.std.proofs.Common.{codes}
use Rattle.opendb_run.proofs.Appending.{AppendsPrefix-first, AppendsPrefix-next}
use Rattle.opendb_run.proofs.status.write_reason.Goals as goal

pub returns-in_err-write_all-clause-prefix : goal.returns-in_err-write_all-clause-prefix
returns-in_err-write_all-clause-prefix g c = AppendsPrefix-first _ _ (codes ": reason ") _ c.in_err-write_all.ensures.prefix

pub returns-in_err-write_decimal-clause-prefix : goal.returns-in_err-write_decimal-clause-prefix
returns-in_err-write_decimal-clause-prefix g c =
    AppendsPrefix-next _ _ _ (codes ": reason ") _ c.in_ok-write_all.ensures.written
    (AppendsPrefix-first _ _ _ _ c.in_err-write_decimal.ensures.prefix)

pub returns-clause-prefix : goal.returns-clause-prefix
returns-clause-prefix g c =
    AppendsPrefix-next _ _ _ (codes ": reason ") _ c.in_ok-write_all.ensures.written
    (AppendsPrefix-next _ _ _ _ _ c.in_ok-write_decimal.ensures.written c.write_all-2.ensures.prefix)
