-- `stepping::numbers::write` meets its contract: nine numbers, and the outputs into the lent rest (`Nine`).
use Rattle.std.proofs.Common.{◌≡◌, ◌++◌, length, drop, length-append, length-drop, ap, ◌∙◌, arith}
use Rattle.stepping.proofs.Copying.{part-long}
use Rattle.stepping.proofs.Nine.{nine_then}
use Rattle.stepping.proofs.numbers.write.Goals as goal

pub write_outputs-requires : goal.write_outputs-requires
write_outputs-requires c =
    let front = c.copy_from_slice.new.self in
    let rest = drop 9 c.args.run.now in
    let nine : length front ≡ 9 = ap length c.copy_from_slice.ensures.after in
    part-long 9 (front ++ rest) ∙ omega (arith, length-append front rest, nine, length-drop 9 c.args.run.now, c.requires)

pub returns : goal.returns
returns c =
    let n = c.args.n in
    rw c.copy_from_slice.ensures.after (nine_then 1 n.finished n.evaluations n.low n.cost n.surplus n.floor n.count n.length (drop 9 c.args.run.now) _ n.outputs c.write_outputs.ensures)
