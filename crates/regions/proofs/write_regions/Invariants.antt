-- The regions written so far have the permitted outputs below `from`, the end of the last zone passed.
use Rattle.unit.specs.UnitHeld.{unit_held}
use Rattle.regions.proofs.Dividing.{Dividing}
use Rattle.regions.proofs.write_regions.Given as goal

abbrev pub invariant-loop-k : goal.invariant-loop-k
invariant-loop-k l = Dividing (unit_held l.fn.u) l.start l.initial.ends l.ends l.next l.from l.k
