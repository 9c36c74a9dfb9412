-- Two numbers one behind the other, then the lent tail (`ReplyWritten`).
use Rattle.std.proofs.Common.{take}
use Rattle.dispatching.proofs.ReplyWritten.{numbers-written}
use Rattle.dispatching.proofs.reply.write_numbers.Goals as goal

pub returns-clause-written : goal.returns-clause-written
returns-clause-written c =
    let a = c.args in
    let m = a.amounts in
    numbers-written m.cost m.gap m.surplus (take a.n a.outputs.now) a.width a.s.now a.n a.second c.write.ensures c.write_number.ensures c.write_amounts.ensures
