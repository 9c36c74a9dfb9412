-- `stepping::numbers::outputs_in` meets its contract: the first i outputs are copied (`Copying`).
use Rattle.std.proofs.Common.{refl, get_or, arith}
use lib.Dec.{leb}
use borrow.Author.Tests.{leb-true}
use Rattle.stepping.proofs.Fitting.{all-at}
use Rattle.stepping.proofs.Copying.{copying_starts, copying_more, copying_ends}
use Rattle.stepping.proofs.numbers.outputs_in.Goals as goal

pub loop-i-init : goal.loop-i-init
loop-i-init c = copying_starts _ 0 c.args.list.now (omega (arith, c.requires.0))

pub overflow_cast-outputs : goal.overflow_cast-outputs
overflow_cast-outputs c = omega (arith, leb-true (get_or c.args.list.now c.loop-i.i 0) 10000 (all-at (λ p. leb p 10000) c.args.list.now c.loop-i.i c.requires.1 (omega (arith, c.requires.0))))

pub loop-i-preserved : goal.loop-i-preserved
loop-i-preserved c = copying_more _ 0 c.args.list.now c.loop-i.invariant (omega arith) refl (omega (arith, c.requires.0))

pub returns : goal.returns
returns c = copying_ends _ 0 c.args.list.now c.loop-i.invariant (omega (arith, c.requires.0)) (omega (arith, c.requires.0))
