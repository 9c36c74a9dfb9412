-- `day::write_slot`: three fields one behind the other (`Front`).
use Rattle.rules.proofs.Encoding.Front.{front-none, front-field, front-over}
use Rattle.day.proofs.write_slot.Goals as goal

pub returns : goal.returns
returns c =
    let a = c.args in
    front-over (front-field (front-field (front-field (front-none a.s.now) 2 a.status c.write.ensures) 8 a.cost c.write-2.ensures) 8 a.gap c.write-3.ensures)
