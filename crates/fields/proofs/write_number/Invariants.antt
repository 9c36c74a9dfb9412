-- Writing the rest into the bytes that are left gives what is to be written.
use Rattle.std.proofs.Common.{◌≡◌}
use Rattle.fields.specs.Field.{written}
use Rattle.fields.proofs.write_number.Given as goal

abbrev pub invariant-loop-i : goal.invariant-loop-i
invariant-loop-i l = written l.s l.at l.i l.rest ≡ written l.fn.s l.at l.width l.n
