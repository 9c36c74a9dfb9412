-- `stepping::same_bytes`: how many of the first i places differ.
use Rattle.std.proofs.Common.{take}
use Rattle.stepping.proofs.Comparing.{Comparing}
use Rattle.stepping.proofs.same_bytes.Given as goal

abbrev pub invariant-loop-i : goal.invariant-loop-i
invariant-loop-i l = Comparing (take l.length l.held) l.file l.different l.i
