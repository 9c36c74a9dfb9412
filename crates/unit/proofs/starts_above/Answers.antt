-- Without a zone nothing starts below; else the first zone's lower edge decides.
use Rattle.std.proofs.Common.{sym}
use Rattle.rules.specs.Unit.{zones}
use Rattle.unit.proofs.Zones.{starts-some}
use Rattle.unit.proofs.starts_above.Goals as goal

pub returns-then-u-eq0 : goal.returns-then-u-eq0
unfolding zones
returns-then-u-eq0 c = rw (c.if-u-eq0.true)

pub returns-else-u-eq0 : goal.returns-else-u-eq0
unfolding zones
returns-else-u-eq0 c = let u = c.args.u in sym (starts-some u.edges u.zone_count u.least c.if-u-eq0.false)
