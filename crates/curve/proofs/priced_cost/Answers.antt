-- Each step is a difference of naturals that fits.
use Rattle.std.proofs.Common.{ℕ, ◌+◌, ◌*◌, ◌≤◌, ℤ, ◌+ℤ◌, ◌*ℤ◌, to_z, of_z, w64, FitsSigned, rules, arith}
use Rattle.std.proofs.Math.Nat.{mul-le-mul}
use Rattle.fields.specs.Integers.{positive_part, negative_part, Is}
use Rattle.fields.proofs.Integers.{back, cast, is_add, is-product, fits, kept, same}
use Rattle.curve.specs.declared.Curve as code
use Rattle.curve.specs.Curve.{InRange}
use Rattle.curve.proofs.Heights.{height-is}
use Rattle.curve.proofs.priced_cost.Goals as goal

module _ (c : code.Curve) (p : ℕ) (r : InRange c × (p ≤ 10000)) (linear-fits : FitsSigned w64 c.linear) where
  abbrev a : ℕ
  a = c.square

  abbrev s : ℕ
  s = positive_part c.linear

  abbrev t : ℕ
  t = negative_part c.linear

  x-is : Is (to_z w64 p) p 0
  x-is = cast p (omega (arith, r.1))

  -- the products, for `omega`
  squared : a * p ≤ 10000000000000
  squared = mul-le-mul r.0.square r.1

  slope : a * p * p ≤ 100000000000000000
  slope = mul-le-mul squared r.1

  above : s * p ≤ 100000000000000000
  above = mul-le-mul r.0.above r.1

  below : t * p ≤ 100000000000000000
  below = mul-le-mul r.0.below r.1

  -- a × p, a × p + linear, (a × p + linear) × p and (a × p + linear) × p + constant: as computed and as read
  abbrev First : ℤ
  First = to_z w64 a *ℤ to_z w64 p

  first-read : Is (to_z w64 (of_z w64 First)) (a * p) 0
  first-read =
      let first : Is First (a * p) 0 = record { is = omega (arith, is-product (cast a (omega (arith, r.0.square))) x-is) } in
      kept first (omega (arith, squared)) (omega arith)

  abbrev Second : ℤ
  Second = to_z w64 (of_z w64 First) +ℤ to_z w64 (of_z w64 c.linear)

  second-is : Is Second (a * p + s) (0 + t)
  second-is = is_add first-read (back linear-fits)

  second-fits : FitsSigned w64 Second
  second-fits = fits second-is (omega (arith, squared, r.0.above)) (omega (arith, r.0.below))

  second-read : Is (to_z w64 (of_z w64 Second)) (a * p + s) (0 + t)
  second-read = kept second-is (omega (arith, squared, r.0.above)) (omega (arith, r.0.below))

  abbrev Third : ℤ
  Third = to_z w64 (of_z w64 Second) *ℤ to_z w64 p

  third-is : Is Third (a * p * p + s * p) (t * p)
  third-is = record { is = omega (arith, is-product second-read x-is) }

  third-fits : FitsSigned w64 Third
  third-fits = fits third-is (omega (arith, slope, above)) (omega (arith, below))

  abbrev Fourth : ℤ
  Fourth = to_z w64 (of_z w64 Third) +ℤ to_z w64 c.constant

  fourth-is : Is Fourth (a * p * p + s * p + c.constant) (t * p + 0)
  fourth-is = is_add (kept third-is (omega (arith, slope, above)) (omega (arith, below))) (cast c.constant (omega (arith, r.0.constant)))

  fourth-fits : FitsSigned w64 Fourth
  fourth-fits = fits fourth-is (omega (arith, slope, above, r.0.constant)) (omega (arith, below))

  fourth-read : Is (to_z w64 (of_z w64 Fourth)) (a * p * p + s * p + c.constant) (t * p + 0)
  fourth-read = kept fourth-is (omega (arith, slope, above, r.0.constant)) (omega (arith, below))

pub overflow_add-result : goal.overflow_add-result
overflow_add-result c = second-fits c.args.c c.args.p c.requires (search rules)

pub overflow_mul-result-2 : goal.overflow_mul-result-2
overflow_mul-result-2 c = third-fits c.args.c c.args.p c.requires (search rules)

pub overflow_add-result-2 : goal.overflow_add-result-2
overflow_add-result-2 c = fourth-fits c.args.c c.args.p c.requires (search rules)

pub returns : goal.returns
returns c = same (fourth-read c.args.c c.args.p c.requires (search rules)) (height-is c.args.c c.args.p) (omega arith)
