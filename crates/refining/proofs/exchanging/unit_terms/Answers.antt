-- What holds at the next multiplier holds at this one.
use Rattle.std.proofs.Common.{arith}
use Rattle.refining.proofs.exchanging.unit_terms.Goals as goal

pub term_at-requires : goal.term_at-requires
term_at-requires c = let u = c.requires in record { few = u.few; multiplier = omega (arith, u.multiplier); offer = u.offer; holds = u.holds }
