-- `stepping::numbers::width_at` meets its contract.
use Rattle.std.proofs.Common.{refl}
use Rattle.stepping.specs.Runs.{width_at}
use Rattle.stepping.proofs.numbers.width_at.Goals as goal

pub returns : goal.returns
unfolding width_at
returns c = refl
