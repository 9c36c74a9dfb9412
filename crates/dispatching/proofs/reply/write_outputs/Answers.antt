-- One output more is written behind those before it (`Front`).
use Rattle.std.proofs.Common.{arith}
use Rattle.fields.specs.Field.{bytes_of_each}
use Rattle.rules.proofs.Encoding.Front.{front-none, front-each}
use Rattle.dispatching.proofs.reply.write_outputs.Goals as goal

pub loop-i-init : goal.loop-i-init
unfolding bytes_of_each
loop-i-init c = front-none c.args.s.now

pub loop-i-preserved : goal.loop-i-preserved
loop-i-preserved c = front-each 2 c.args.outputs.now c.loop-i.i (omega arith) c.loop-i.invariant c.write.ensures
