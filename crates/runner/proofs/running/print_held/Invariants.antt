-- Neither sum passes 64 bits.
use Rattle.std.proofs.Common.{◌≤◌, ◌*◌}
use Rattle.runner.proofs.running.print_held.Given as goal

abbrev pub invariant-loop-byte : goal.invariant-loop-byte
invariant-loop-byte g l = (l.sum ≤ 255 * l.byte-index) × (l.sums ≤ 410040 * l.byte-index)
