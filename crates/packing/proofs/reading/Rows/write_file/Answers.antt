-- Head, contents and bodies, one behind the other, are the file.
use Rattle.packing.specs.Clauses.{row_count, unit_in}
use Rattle.packing.proofs.Written.{file-whole}
use Rattle.packing.proofs.reading.Rows.write_file.Goals as goal

pub returns : goal.returns
returns c =
    let a = c.args in
    rw c.count-n.ensures
    (file-whole a.self.edition (row_count a.self) a.demand (unit_in a.self) a.file.now c.write_head.new.file c.write_contents.new.contents (rw c.count-n.ensures at c.write_head.ensures) c.write_contents.ensures c.write_bodies.new.part (rw c.count-n.ensures at c.write_bodies.ensures))
