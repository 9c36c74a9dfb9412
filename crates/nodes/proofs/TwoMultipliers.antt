-- What the sums of a problem's choices tell of it: the dual value of a multiplier; and, where two multipliers confirm it, the dispatch.
use Prim.Native.Nat.{ℕ, ◌+◌, ◌*◌, ◌-◌, ◌≤◌, max}
use native.Mathlib.Omega.{arith}
use mathlib.Core.Path.{◌≡◌, refl, sym, ap, ◌∙◌}
use mathlib.Core.Bool.{Bool, true, false, cond}
use lib.IntN.{ℤ}
use lib.Signed.{◌≤ℤ◌}
use Rattle.std.specs.Prelude.{int_lt}
use Rattle.std.specs.Int.{int_max}
use Rattle.fields.specs.Integers.{Is}
use Rattle.fields.proofs.Integers.{same, ints, itself, is_pos, is_minus, when_lt, when_ge, one-zero}
use Rattle.rules.specs.Lists.{Every}
use Rattle.rules.specs.Numbers.{natural}
use Rattle.rules.specs.Problem.{total_cost, total_net, Problem, units_of, target}
use Rattle.rules.specs.Choice.{choices, dual_value, floor, greatest_floor}
use Rattle.rules.specs.Bisection.{solvable, found, solve}
use Rattle.rules.specs.Offers.{Proper, Available}
use Rattle.rules.proofs.Economics.Allocations.{dual-is, choices_tied, tied-given}
use Rattle.rules.proofs.Economics.Quantities.{natural-up}
use Rattle.rules.proofs.Economics.Solvable.{unsolvable}
use Rattle.rules.proofs.Economics.Solution.{difference, floor_not_negative, greatest-floor}
use Rattle.sums.specs.declared.Totals.{Totals}
use Rattle.sums.specs.Sums.{HoldsSums}
use Rattle.sums.proofs.Summed.{costs_together, nets_together}

-- ---- one multiplier

module _ (m : ℕ) (q : Problem) {s : Totals} (h : HoldsSums m q.offers s) where
  pub cost_summed : s.cost ≡ total_cost (units_of q) (choices m q)
  unfolding choices
  cost_summed = h.cost ∙ sym (costs_together m q.offers)

  pub net_summed : s.net ≡ total_net (units_of q) (choices m q)
  unfolding choices
  net_summed = h.net ∙ sym (nets_together m q.offers)

  pub dual_summed : {t : ℕ} {d : ℤ} → t ≡ target q → Is d (100000 * s.cost + m * t) (m * s.net) → d ≡ dual_value m q
  dual_summed {t} e k = same k (dual-is m q) (omega (arith, cost_summed, ap (λ (x : ℕ). m * x) net_summed, ap (λ (x : ℕ). m * x) e))

-- ---- a dispatch and its floor

pub natural-rises : (x y : ℤ) → x ≤ℤ y → natural x ≤ natural y
natural-rises x y h = omega (arith, ints, natural-up x, natural-up y, one-zero x, one-zero y)

module _ (q : Problem) (proper : Every Proper q.offers) (solves : solvable q ≡ true) where
  -- cost less gap is the greatest floor
  pub floor-natural : (solve q).cost - (solve q).gap ≡ natural (greatest_floor q (found q).evaluated)
  floor-natural =
      let z = greatest_floor q (found q).evaluated in
      sym (natural-up z ∙ omega (arith, ints, difference q proper solves, floor_not_negative q proper solves, is_pos 0, is_minus (is_pos (solve q).cost) (is_pos (solve q).gap), one-zero z))

  -- no multiplier's floor lies above it
  pub floor_proves : (m : ℕ) → m ≤ 65536 → natural (floor m q) ≤ (solve q).cost - (solve q).gap
  floor_proves m few = omega (arith, floor-natural, natural-rises (floor m q) (greatest_floor q (found q).evaluated) ((greatest-floor q proper solves).greatest m few))

-- choices that cover are an allocation
pub covered-solvable : (m : ℕ) (q : Problem) → Every Proper q.offers → Every Available q.offers → target q ≤ total_net (units_of q) (choices m q) → solvable q ≡ true
covered-solvable m q proper available h =
    by (solvable q) refl
  where
    by : (b : Bool) → solvable q ≡ b → b ≡ true
    by true e = refl
    by false e = absurd (omega (arith, h, unsolvable q proper e (choices m q) (tied-given m q.offers (choices m q) (choices_tied m q available))))

-- the greater of two, as naturals
pub natural-greater : (x y : ℤ) → natural (int_max x y) ≡ max (natural x) (natural y)
natural-greater x y = by (int_lt y x) refl
  where
    by : (b : Bool) → int_lt y x ≡ b → natural (cond b x y) ≡ max (natural x) (natural y)
    by true e = omega (arith, when_lt (itself y) (itself x) e, natural-up x, natural-up y, one-zero x, one-zero y)
    by false e = omega (arith, when_ge (itself y) (itself x) e, natural-up x, natural-up y, one-zero x, one-zero y)
