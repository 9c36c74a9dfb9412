-- The digits left spell behind the number so far, up to the limit, what all digits spell.
use Rattle.std.proofs.Common.{◌≡◌, ◌+◌, ◌≤◌, drop}
use Rattle.gencost.specs.Row.{number_after}
use Rattle.gencost.specs.Clauses.{held}
use Rattle.gencost.proofs.Scale.number_after.Given as goal

abbrev pub invariant-loop-digit : goal.invariant-loop-digit
invariant-loop-digit l = record {
  most : l.n ≤ l.self.limit + 1;
  rest : held l.self.limit (number_after l.before l.digits) ≡ held l.self.limit (number_after l.n (drop l.digit-index l.digits));
}
