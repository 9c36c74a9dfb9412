-- The loop has put the lines of the first i units, of at most 42 bytes each.
use Rattle.std.proofs.Common.{◌+◌, ◌*◌, ◌≤◌}
use Rattle.text.specs.Text.{output_lines}
use Rattle.text.specs.Clauses.{Puts}
use Rattle.text.proofs.Writer.put_outputs.Given as goal

abbrev pub invariant-loop-i : goal.invariant-loop-i
invariant-loop-i l = Puts l.fn.self (output_lines l.i l.reply) l.self × (l.self.at ≤ l.fn.self.at + 42 * l.i)
