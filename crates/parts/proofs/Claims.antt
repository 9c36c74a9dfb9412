-- What specs/Parts states, proved: by the sums of `Sums`, and the bounds of a part times the multipliers of its inequalities.
use mathlib.Core.List.{List}
use Prim.Native.Nat.{ℕ, ◌+◌, ◌*◌, ◌≤◌, min}
use native.Mathlib.Nat.{mul-le-mul_left, min-le_left, min-le_right}
use native.Mathlib.Decide.{dec_le}
use native.Mathlib.Omega.{arith}
use lib.ListN.{get_or}
use borrow.Author.Tests.{le-leb, leb-true}
use Rattle.rules.specs.Problem.{total_cost, total_net}
use Rattle.branching.proofs.Claims.{refines_accepted}
use Rattle.parts.specs.Parts.{total_output, running_units, PartBounded, PartEmpty, CoversWithNoMoreLosses, CoversWithoutLosses, BoundOnPart, SplitsBy, PartsTogether, RefinedBound, RefusedUncoverable}
use Rattle.parts.proofs.Sums.{permitted_too, cost-sum, net-sum, output-sum}

-- ---- a part's bound

pub part-bounded : PartBounded
part-bounded s c e x f h bound ps a i k =
    let sum = cost-sum s c.units e.units x.ranges ps h a i.inside in
    let cost = bound ps (permitted_too s c.units e.units x.ranges ps h a i.inside) k in
    let reached : f + s.credit * x.least_running ≤ total_cost e.units ps + s.credit * running_units ps = omega (arith, cost, mul-le-mul_left s.credit i.least) in
    let added : s.step * total_output ps + s.start * running_units ps ≤ s.step * x.most_output + s.start * x.most_running = omega (arith, mul-le-mul_left s.step i.output, mul-le-mul_left s.start i.most) in
    omega (arith, sum, mul-le-mul_left s.share reached, mul-le-mul_left s.share added)

pub part-empty : PartEmpty
part-empty s c e x h none ps a i k = none ps (permitted_too s c.units e.units x.ranges ps h a i.inside) k

-- ---- what covers in e

pub covers_with_no_more_losses : CoversWithNoMoreLosses
covers_with_no_more_losses c e x h less ps a i k =
    le-leb (100000000 * e.demand) (total_net e.units ps) (omega (arith, leb-true (100000000 * c.demand) (total_net c.units ps) k, less, net-sum c.units e.units x.ranges ps h a i.inside))

pub covers_without_losses : CoversWithoutLosses
covers_without_losses e x h ps i k = le-leb (100000000 * e.demand) (total_net e.units ps) (omega (arith, k, output-sum e.units x.ranges ps h i.inside))

-- ---- a bound on a part, and two parts

pub bound_on_part : BoundOnPart
bound_on_part s c e x f z h bound reached ps a k i = omega (arith, reached, part-bounded s c e x f h bound ps a i.0 i.1)

splits-by : (f : List ℕ → ℕ) → SplitsBy f
splits-by f c P m y z low high ps a k i = by (dec_le (f ps) m)
  where
    by : Dec (f ps ≤ m) → min y z ≤ total_cost c.units ps
    by (yes h) = omega (arith, min-le_left y z, low ps a k (i, h))
    by (no h) = omega (arith, min-le_right y z, high ps a k (i, omega (arith, h)))

pub parts_together : PartsTogether
parts_together =
    record {
      output = splits-by total_output;
      running = splits-by running_units;
      unit = λ i. splits-by (λ ps. get_or ps i 0);
      within = λ c P Q z lies bound ps a k i. bound ps a k (lies ps a k i);
      empty = λ c P z none ps a k i. absurd (none ps a k i);
      all = λ c z bound ps a k. bound ps a k tt;
    }

-- ---- what refining gives

pub refined-bound : RefinedBound
refined-bound file budget reply accepted asked replies = ((refines_accepted file budget reply accepted asked).reply replies).nobody_spends_less

pub refused_uncoverable : RefusedUncoverable
refused_uncoverable file budget reply accepted asked refused = (refines_accepted file budget reply accepted asked).refuses.0 refused
