-- The amounts one behind the other, then the lent tail (`ReplyWritten`).
use Rattle.dispatching.proofs.ReplyWritten.{amounts-written}
use Rattle.dispatching.proofs.reply.write_amounts.Goals as goal

pub returns : goal.returns
returns c =
    let a = c.args.amounts in
    amounts-written a.cost a.gap a.surplus c.args.outputs.now c.args.s.now c.write.ensures c.write-2.ensures c.write-3.ensures c.write_outputs.ensures
