-- Sums over the units: the ranges of an allocation's cost and net. Of 32 units, cost is at most 6,432,000,000,000 and net 32,000,000,000,000.
use mathlib.Core.List.{List, [], ◌∷◌}
use Prim.Native.Nat.{ℕ, ◌*◌, ◌≤◌}
use native.Mathlib.Omega.{arith}
use lib.ListN.{length}
use Rattle.rules.specs.Unit.{Unit}
use Rattle.rules.specs.Problem.{total_cost, total_net}
use Rattle.rules.specs.Lists.{Every}
use Rattle.rules.specs.Sound.{Sound}
use Rattle.rules.proofs.Economics.Quantities.{cost-range, net-range}

pub total_cost_range : (us : List Unit) (ps : List ℕ) → Every Sound us → Every (λ p. p ≤ 10000) ps → total_cost us ps ≤ 201000000000 * length us
unfolding total_cost
total_cost_range [] ps s h = omega arith
total_cost_range (u ∷ us) [] s h = omega arith
total_cost_range (u ∷ us) (p ∷ ps) s h = omega (arith, cost-range s.0 h.0, total_cost_range us ps s.1 h.1)

pub total_net_range : (us : List Unit) (ps : List ℕ) → Every Sound us → Every (λ p. p ≤ 10000) ps → total_net us ps ≤ 1100000000000 * length us
unfolding total_net
total_net_range [] ps s h = omega arith
total_net_range (u ∷ us) [] s h = omega arith
total_net_range (u ∷ us) (p ∷ ps) s h = omega (arith, net-range s.0 h.0, total_net_range us ps s.1 h.1)
