-- What is read so far is `Reading`.
use Rattle.fields.proofs.Width.{Reading}
use Rattle.fields.proofs.read_number.Given as goal

abbrev pub invariant-loop-byte : goal.invariant-loop-byte
invariant-loop-byte l = Reading l.byte-items l.n l.byte-index
