use Rattle.site.proofs.Decodes.{Decoding}
use Rattle.site.proofs.decoding.decode_bodies.Given as goal

abbrev pub invariant-loop-i : goal.invariant-loop-i
invariant-loop-i l = Decoding l.file l.n l.site.coefficients l.site.ends l.site.ranges l.permitted l.i
