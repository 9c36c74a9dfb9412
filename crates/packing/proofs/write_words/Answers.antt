-- Each turn writes one number behind those that stand there.
use Rattle.std.proofs.Common.{arith}
use Rattle.fields.specs.Field.{bytes_of_each}
use Rattle.rules.proofs.Encoding.Front.{front-none, front-each}
use Rattle.packing.proofs.write_words.Goals as goal

pub loop-k-init : goal.loop-k-init
unfolding bytes_of_each
loop-k-init c = front-none c.args.part.now

pub loop-k-preserved : goal.loop-k-preserved
loop-k-preserved c = front-each 2 c.args.words.now c.loop-k.k (omega arith) c.loop-k.invariant c.write.ensures
