-- Edition, count and demand, one behind the other, are the head.
use Rattle.rules.proofs.Encoding.Front.{front-none, front-field, front-over}
use Rattle.packing.proofs.write_head.Goals as goal

pub returns : goal.returns
returns c =
    let a = c.args in
    let edition = front-field (front-none a.file.now) 2 a.edition c.write.ensures in
    let count = front-field edition 2 a.n c.write-2.ensures in
    front-over (front-field count 4 a.demand c.write-3.ensures)
