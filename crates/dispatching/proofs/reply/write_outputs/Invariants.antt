-- The first i outputs are written.
use Rattle.std.proofs.Common.{◌*◌, take}
use Rattle.fields.specs.Field.{bytes_of_each}
use Rattle.rules.proofs.Encoding.Front.{Front}
use Rattle.dispatching.proofs.reply.write_outputs.Given as goal

abbrev pub invariant-loop-i : goal.invariant-loop-i
invariant-loop-i l = Front l.initial.s (bytes_of_each 2 (take l.i l.outputs)) l.s (2 * l.i)
