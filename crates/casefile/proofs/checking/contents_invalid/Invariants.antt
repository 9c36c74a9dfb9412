-- The first i entries fit, and the last of them ends at `at`.
use Rattle.casefile.proofs.Contents.{Passed}
use Rattle.casefile.proofs.checking.contents_invalid.Given as goal

abbrev pub invariant-loop-i : goal.invariant-loop-i
invariant-loop-i l = Passed l.file l.n l.at l.i
