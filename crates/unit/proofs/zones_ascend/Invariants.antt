-- The zones from number k on decide the answer.
use Rattle.std.proofs.Common.{◌≡◌}
use Rattle.unit.proofs.Zones.{ascend_from}
use Rattle.unit.proofs.zones_ascend.Given as goal

abbrev pub invariant-loop-k : goal.invariant-loop-k
invariant-loop-k l = ascend_from l.u.edges l.u.zone_count l.u.least 0 l.u.greatest ≡ ascend_from l.u.edges l.u.zone_count l.below l.k l.u.greatest
