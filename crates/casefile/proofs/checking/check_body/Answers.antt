-- A body that fits has the verdict of its unit.
use Rattle.std.proofs.Common.{ap, sym, ◌∙◌}
use Rattle.rules.specs.Refusal.{zone_count_invalid, unit_verdict}
use Rattle.casefile.proofs.Body.{body-fits, zone_count_fits}
use Rattle.casefile.proofs.checking.check_body.Goals as goal

pub check_numbers-requires : goal.check_numbers-requires
check_numbers-requires c = ap zone_count_invalid c.read_body.ensures ∙ zone_count_fits _ _ (c.body_fits.ensures.fits c.if-not-body_fits.false).zones

pub returns : goal.returns
returns c = c.check_numbers.ensures ∙ ap unit_verdict c.read_body.ensures ∙ sym (body-fits _ _ (c.body_fits.ensures.fits c.if-not-body_fits.false))
