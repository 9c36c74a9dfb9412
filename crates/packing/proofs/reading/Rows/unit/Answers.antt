-- Chunk `i` of nineteen numbers is row `i`.
use Rattle.std.proofs.Common.{[], rules}
use Rattle.std.proofs.Math.Facts.{to_z-of_z}
use mir.Syntax.{w32}
use Rattle.packing.specs.Clauses.{row_count}
use Rattle.packing.proofs.Chunks.{chunk_at}
use Rattle.packing.proofs.reading.Rows.unit.Goals as goal

pub returns : goal.returns
returns c =
    let s = c.args.self in
    rw (
      c.as_chunks.ensures.front,
      chunk_at 19 (row_count s) s.numbers.now c.args.i [] c.requires,
      to_z-of_z {w = w32} {z = c.linear_loss.result} (search rules),
      c.linear_loss.ensures,
    ) at c.row_numbers.ensures
