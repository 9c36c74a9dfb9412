use Rattle.std.proofs.Common.{refl}
use Rattle.site.proofs.HoldsOffer.{unit-none, unit-some}
use Rattle.site.proofs.decoding.write_unit.Goals as goal

pub returns-then-next-start : goal.returns-then-next-start
returns-then-next-start c = (unit-none c.write_coefficients.ensures c.write_regions-next.ensures c.if-next-start.true c.args.site.now.ranges, refl, refl)

pub returns : goal.returns
returns c = (unit-some c.write_coefficients.ensures c.write_regions-next.ensures c.if-next-start.false c.write_range.ensures, refl, refl)
