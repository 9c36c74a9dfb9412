-- `day::previous_outputs`: those of the first i histories.
use Rattle.std.proofs.Common.{◌≡◌, ◌<◌, ℕ, length, get_or}
use Rattle.day.specs.Clauses.{none}
use Rattle.day.proofs.previous_outputs.Given as goal

abbrev pub invariant-loop-i : goal.invariant-loop-i
invariant-loop-i l = record {
  long : length l.previous ≡ 32;
  held : (k : ℕ) → k < l.i → get_or l.previous k 0 ≡ (get_or l.histories k none).previous;
}
