-- The range of every quantity of a sound unit at an output up to its greatest, and that net grows with the output. This file alone looks at what cost, net and the linear factor are made of; others cite `cost-running`, `cost-standing`, `net-is` and `factor`.
use mathlib.Core.Path.{◌≡◌, refl, ◌∙◌}
use Prim.Native.Nat.{ℕ, zero, suc, ◌+◌, ◌*◌, ◌-◌, ◌≤◌, ◌<◌}
use native.Mathlib.Nat.{add-zero, le_refl, mul-le-mul, mul-le-mul_right}
use native.Mathlib.Omega.{arith}
use lib.IntN.{ℤ, pos, negsuc}
use borrow.Author.Tests.{ne_eqb}
use Rattle.rules.specs.Numbers.{natural}
use Rattle.rules.specs.Unit.{Unit, cost, linear_factor, net}
use Rattle.rules.specs.Choice.{priced_cost}
use Rattle.fields.specs.Integers.{positive_part, negative_part, Is}
use Rattle.fields.proofs.Integers.{itself, is_pos, is-sub, is_minus, is_add, up_is, ≤_in, <_in}
use Rattle.rules.specs.Sound.{SoundLosses, Sound}

pub cost-running : (u : Unit) (p : ℕ) → 1 ≤ p → cost u p ≡ u.c0 + u.c1 * p + u.c2 * p * p
unfolding cost
cost-running u p h = rw (ne_eqb p 0 (λ e. omega arith))

pub cost-standing : (u : Unit) → cost u 0 ≡ 0
unfolding cost
cost-standing u = refl

pub net-is : (u : Unit) (p : ℕ) → net u p ≡ linear_factor u * p - u.b * p * p
unfolding net
net-is u p = refl

-- the linear factor of a unit that number 18 does not refuse: the difference 100,000,000 − b1 as it is, in a narrow range, and above the quadratic losses of every step
pub record Factor (u : Unit) : Type 0 where
  pub whole : Is u.b1 100000000 (linear_factor u)
  pub least : 90000000 ≤ linear_factor u
  pub greatest : linear_factor u ≤ 110000000
  pub above : 19999 * u.b < linear_factor u

pub natural-up : (z : ℤ) → natural z ≡ positive_part z
unfolding natural positive_part
natural-up (pos n) = refl
natural-up (negsuc n) = refl

pub factor-up : (u : Unit) → linear_factor u ≡ 100000000 + negative_part u.b1 - positive_part u.b1
unfolding linear_factor
factor-up u = natural-up _ ∙ up_is (is_minus (is_pos 100000000) (itself u.b1)) ∙ omega arith

pub factor : {u : Unit} → SoundLosses u → Factor u
unfolding positive_part negative_part
factor {u} s =
    let low = ≤_in s.range.least in
    let high = ≤_in s.range.greatest in
    let rising = <_in s.rises in
    let sum = is_add (itself u.b1) (is_pos (19999 * u.b)) in
    record {
      whole = record { is = omega (arith, factor-up u) };
      least = omega (arith, factor-up u);
      greatest = omega (arith, factor-up u);
      above = omega (arith, factor-up u, sum);
    }

-- the quadratic loss stays below the rest of the net
pub loss-below : {u : Unit} → SoundLosses u → {p : ℕ} → p ≤ 10000 → u.b * p * p ≤ linear_factor u * p
loss-below {u} s {p} h = mul-le-mul_right p (omega (arith, mul-le-mul (le_refl u.b) h, (factor s).above))

-- the products of which cost and net are made, for `omega`, which bounds no product itself
pub record Products (u : Unit) (p : ℕ) : Type 0 where
  pub linear : u.c1 * p ≤ 100000000000
  pub quadratic : u.c2 * p * p ≤ 100000000000
  pub loss : u.b * p * p ≤ linear_factor u * p
  pub gross : linear_factor u * p ≤ 1100000000000

module _ {u : Unit} (s : Sound u) {p : ℕ} (h : p ≤ 10000) where
  pub products : Products u p
  products =
      record {
        linear = mul-le-mul s.c1 h;
        quadratic = mul-le-mul (mul-le-mul s.c2 h) h;
        loss = loss-below s.losses h;
        gross = mul-le-mul (factor s.losses).greatest h;
      }

  -- the quadratic loss stays below the rest, so that net is a true difference
  pub net-whole : net u p + u.b * p * p ≡ linear_factor u * p
  unfolding net
  net-whole = omega (arith, products.loss)

  pub cost-range : cost u p ≤ 201000000000
  cost-range = by p products.linear products.quadratic
    where
      by : (p : ℕ) → u.c1 * p ≤ 100000000000 → u.c2 * p * p ≤ 100000000000 → cost u p ≤ 201000000000
      by zero l q = omega (arith, cost-standing u)
      by (suc n) l q = omega (arith, cost-running u (suc n) (omega arith), l, q, s.c0)

  pub net-range : net u p ≤ 1100000000000
  net-range = omega (arith, net-whole, products.gross)

pub priced-is : (m : ℕ) (u : Unit) (p : ℕ) → Is (priced_cost m u p) (100000 * cost u p) (m * net u p)
unfolding priced_cost
priced-is m u p = is-sub (100000 * cost u p) (m * net u p)

-- net grows with the output: each step more, up to output 10,000, nets more
pub net_grows : {u : Unit} → SoundLosses u → (p j : ℕ) → p + j ≤ 10000 → net u p + j ≤ net u (p + j)
unfolding net
net_grows {u} s p zero h = rw (add-zero p) (omega arith)
net_grows {u} s p (suc k) h =
    let j = suc k in
    let before = loss-below s {p = p} (omega arith) in
    let after = loss-below s {p = p + j} h in
    let twice : p + (p + j) ≤ 19999 = omega arith in
    let slope : u.b * (p + (p + j)) + 1 ≤ linear_factor u = omega (arith, mul-le-mul (le_refl u.b) twice, (factor s).above) in
    let step : (u.b * (p + (p + j)) + 1) * j ≤ linear_factor u * j = mul-le-mul_right j slope in
    omega (arith, before, after, step)

pub net_monotone : {u : Unit} → Sound u → {p q : ℕ} → p ≤ q → q ≤ 10000 → net u p ≤ net u q
net_monotone {u} s {p} {q} h k =
    let e : p + (q - p) ≡ q = omega arith in
    let g = net_grows s.losses p (q - p) (omega arith) in
    omega (arith, rw e at g)
