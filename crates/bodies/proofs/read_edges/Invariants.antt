-- The first k edges are read, the others zero.
use Rattle.std.proofs.Common.{◌≡◌, ◌+◌, ◌*◌}
use Rattle.fields.specs.Field.{field}
use Rattle.unit.proofs.Edges.{first}
use Rattle.bodies.proofs.read_edges.Given as goal

abbrev pub invariant-loop-k : goal.invariant-loop-k
invariant-loop-k l = l.edges ≡ first (λ j. field l.body (l.start + 2 * j) 2) l.k
