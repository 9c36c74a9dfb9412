-- `stepping::numbers::write_outputs` meets its contract: the first i outputs are copied (`Copying`).
use Rattle.std.proofs.Common.{◌≡◌, refl, length, arith, rules}
use Rattle.stepping.proofs.Copying.{copying_starts, copying_more, copying_ends}
use Rattle.stepping.proofs.numbers.write_outputs.Goals as goal

pub loop-i-init : goal.loop-i-init
loop-i-init c =
    let outputs : length c.args.outputs ≡ 32 = search rules in
    copying_starts c.args.list.now 0 c.args.outputs (omega (arith, c.requires))

pub loop-i-preserved : goal.loop-i-preserved
loop-i-preserved c =
    let outputs : length c.args.outputs ≡ 32 = search rules in
    copying_more c.args.list.now 0 c.args.outputs c.loop-i.invariant (omega arith) refl (omega arith)

pub returns : goal.returns
returns c =
    let outputs : length c.args.outputs ≡ 32 = search rules in
    copying_ends c.args.list.now 0 c.args.outputs c.loop-i.invariant (omega arith) (omega (arith, c.requires))
