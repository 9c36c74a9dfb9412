-- One that fits can be read; one that does not is refused.
use Rattle.std.proofs.Common.{arith}
use borrow.Author.Tests.{leb-true, eqb-true, eqb-false}
use Rattle.casefile.proofs.Body.{body-misfits}
use Rattle.casefile.proofs.checking.body_fits.Goals as goal

pub returns-then-zone_count-le4 : goal.returns-then-zone_count-le4
returns-then-zone_count-le4 c = record {
  fits = λ e. record { zones = omega arith; size = omega (arith, eqb-true _ _ e); long = omega arith };
  misfits = λ e. body-misfits c.args.edition c.args.body.now (omega (arith, eqb-false _ _ e));
}

pub returns-else-zone_count-le4 : goal.returns-else-zone_count-le4
returns-else-zone_count-le4 c = record {
  fits = λ e. absurd (omega (arith, leb-true _ 4 e));
  misfits = λ _. body-misfits c.args.edition c.args.body.now (omega arith);
}
