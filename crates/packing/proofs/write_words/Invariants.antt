-- What stands over the part after some numbers (`Front`).
use Rattle.std.proofs.Common.{◌*◌, take}
use Rattle.fields.specs.Field.{bytes_of_each}
use Rattle.rules.proofs.Encoding.Front.{Front}
use Rattle.packing.proofs.write_words.Given as goal

-- the first k words are written
abbrev pub invariant-loop-k : goal.invariant-loop-k
invariant-loop-k l = Front l.initial.part (bytes_of_each 2 (take l.k l.words)) l.part (2 * l.k)
