use Rattle.site.specs.Clauses.{unit_with}
use Rattle.site.proofs.UnitsWritten.{UnitsWritten}
use Rattle.site.proofs.decoding.decode_with.Given as goal

abbrev pub invariant-loop-i : goal.invariant-loop-i
invariant-loop-i l = UnitsWritten (unit_with l.file l.previous) l.site.coefficients l.site.ends l.site.ranges l.all_permitted l.i
