-- A unit's priced cost at a multiplier, on running outputs, as a curve, square × p² + linear × p + constant. Of the definitions this alone says which coefficients it is made of.
use Rattle.std.specs.Prelude.{ℕ, ◌+◌, ◌*◌, ◌≤◌, ◌<◌, ◌≡◌, cond, eqb, ℤ, pos, ◌<ℤ◌}
use Rattle.std.proofs.Math.IntN.{sub_ℕ}
use Rattle.rules.specs.Unit.{Unit, linear_factor}
use Rattle.fields.specs.Integers.{positive_part, negative_part, Is}
use Rattle.curve.specs.declared.Curve.{Curve}

-- the curve's value at p
unfoldable pub height : Curve → ℕ → ℤ
height c p = sub_ℕ (c.square * (p * p) + positive_part c.linear * p + c.constant) (negative_part c.linear * p)

-- a unit's priced cost by its curve: the curve's value at a running output, nothing where it stands (rule 6.2)
unfoldable pub priced_at : Curve → ℕ → ℤ
priced_at c p = cond (eqb p 0) (pos 0) (height c p)

-- the curve of unit u at m: 100,000 × cost − m × net of a running output, by powers of p
pub record IsCurve (m : ℕ) (u : Unit) (c : Curve) : Type 0 where
  pub square : c.square ≡ 100000 * u.c2 + m * u.b
  pub linear : Is c.linear (100000 * u.c1) (linear_factor u * m)
  pub constant : c.constant ≡ 100000 * u.c0

-- its numbers in range
pub record InRange (c : Curve) : Type 0 where
  pub square : c.square ≤ 1000000000
  pub above : positive_part c.linear ≤ 10000000000000
  pub below : negative_part c.linear ≤ 10000000000000
  pub constant : c.constant ≤ 1000000000000000

-- on from..to the function f falls strictly before v and rises strictly from v; of the step into v nothing is said
pub record Valley (f : ℕ → ℤ) (from to v : ℕ) : Type 0 where
  pub falls : (p q : ℕ) → from ≤ p → p < q → q ≤ to → q < v → f q <ℤ f p
  pub rises : (p q : ℕ) → from ≤ p → p < q → q ≤ to → v ≤ p → f p <ℤ f q
