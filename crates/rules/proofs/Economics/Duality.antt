-- Lagrangian relaxation of a covering constraint, over any type of allocations: how cost, net and floor go along the multipliers.
use mathlib.Core.Path.{◌≡◌, ap}
use Prim.Native.Nat.{ℕ, suc, ◌+◌, ◌*◌, ◌-◌, ◌≤◌, ◌<◌}
use native.Mathlib.Nat.{le_refl, mul-le-mul_left, le_of_mul-le-mul_left}
use native.Mathlib.Decide.{dec_lt}
use native.Mathlib.Omega.{arith}
use lib.IntN.{ℤ, pos}
use lib.Signed.{◌≤ℤ◌}
use Rattle.rules.specs.Numbers.{divided_up}
use Rattle.fields.specs.Integers.{Is}
use Rattle.fields.proofs.Integers.{is_pos, at_most}
use Rattle.rules.proofs.Economics.Rounding.{divided_at_most, divided-rises, divided-exact}

-- ---- products of two orders

-- with the greater factor written as a sum
crossed-by : (m j : ℕ) {a b : ℕ} → a ≤ b → m * b + (m + j) * a ≤ m * a + (m + j) * b
crossed-by m j h = omega (arith, mul-le-mul_left j h)

uncrossed-by : (m j : ℕ) {a b : ℕ} → m * b + (m + suc j) * a ≤ m * a + (m + suc j) * b → a ≤ b
uncrossed-by m j h = le_of_mul-le-mul_left {k = suc j} (omega arith) (omega arith)

-- (n − m) × (b − a) is not negative
pub crossed : {m n a b : ℕ} → m ≤ n → a ≤ b → m * b + n * a ≤ m * a + n * b
crossed {m} {n} {a} {b} h k =
    let e : m + (n - m) ≡ n = omega arith in
    rw e at (crossed-by m (n - m) k)

-- and then, with n − m positive, b − a is not negative
pub uncrossed : {m n a b : ℕ} → m < n → m * b + n * a ≤ m * a + n * b → a ≤ b
uncrossed {m} {n} {a} {b} h k =
    let e : m + suc (n - suc m) ≡ n = omega arith in
    uncrossed-by m (n - suc m) (rw e k)

-- ---- the relaxation

-- The one hypothesis: among the allowed allocations, `choose m` has the least Lagrangian at the multiplier m, s × cost − m × net (`least`, without subtraction). `value m` is the dual value: that least Lagrangian + m × target.
pub record Relaxation {X : Type 0} (Allowed : X → Type 0) (cost net : X → ℕ) (s target : ℕ) (choose : ℕ → X) (value : ℕ → ℤ) : Type 0 where
  pub positive : 0 < s
  pub allowed : (m : ℕ) → Allowed (choose m)
  pub least : (m : ℕ) (y : X) → Allowed y → s * cost (choose m) + m * net y ≤ s * cost y + m * net (choose m)
  pub value-is : (m : ℕ) → Is (value m) (s * cost (choose m) + m * target) (m * net (choose m))

-- the floor of m: its dual value divided by s, rounded up
abbrev pub floor_at : (ℕ → ℤ) → ℕ → ℕ → ℤ
floor_at value s m = divided_up (value m) s

module _ {X : Type 0} {Allowed : X → Type 0} {cost net : X → ℕ} {s target : ℕ} {choose : ℕ → X} {value : ℕ → ℤ} (r : Relaxation Allowed cost net s target choose value) where
  -- ---- cost and net along the multipliers

  -- whatever has at least the net of the choices of m costs at least as much
  pub costs-least : (m : ℕ) (y : X) → Allowed y → net (choose m) ≤ net y → cost (choose m) ≤ cost y
  costs-least m y a h = le_of_mul-le-mul_left (omega (arith, r.least m y a, mul-le-mul_left m h)) r.positive

  -- the choices of 0 cost least of all
  pub zero_costs_least : (y : X) → Allowed y → cost (choose 0) ≤ cost y
  zero_costs_least y a = le_of_mul-le-mul_left (omega (arith, r.least 0 y a)) r.positive

  -- a greater multiplier's choices have no smaller net
  pub net-rises : (m n : ℕ) → m ≤ n → net (choose m) ≤ net (choose n)
  net-rises m n h = by (dec_lt m n)
    where
      by : Dec (m < n) → net (choose m) ≤ net (choose n)
      by (yes k) = uncrossed k (omega (arith, r.least m (choose n) (r.allowed n), r.least n (choose m) (r.allowed m)))
      by (no k) =
          let e : m ≡ n = omega arith in
          rw e (le_refl (net (choose n)))

  -- and no smaller cost
  pub cost-rises : (m n : ℕ) → m ≤ n → cost (choose m) ≤ cost (choose n)
  cost-rises m n h = costs-least m (choose n) (r.allowed n) (net-rises m n h)

  -- ---- floors along the multipliers

  -- weak duality: whatever is allowed and covers costs at least the floor of any multiplier
  pub weak_duality : (m : ℕ) (y : X) → Allowed y → target ≤ net y → floor_at value s m ≤ℤ pos (cost y)
  weak_duality m y a h = divided_at_most r.positive (r.value-is m) (is_pos (cost y)) (omega (arith, r.least m y a, mul-le-mul_left m h))

  -- past choices that cover the dual value does not rise
  pub value-falls : (m n : ℕ) → target ≤ net (choose m) → m ≤ n → value n ≤ℤ value m
  value-falls m n h k = at_most (r.value-is n) (r.value-is m) (omega (arith, r.least n (choose m) (r.allowed m), crossed k h))

  -- up to choices that do not exceed the target it does not fall
  pub value-rises : (m n : ℕ) → net (choose m) ≤ target → n ≤ m → value n ≤ℤ value m
  value-rises m n h k = at_most (r.value-is n) (r.value-is m) (omega (arith, r.least n (choose m) (r.allowed m), crossed k h))

  -- past choices that cover the floor does not rise
  pub floor-falls : (m n : ℕ) → target ≤ net (choose m) → m ≤ n → floor_at value s n ≤ℤ floor_at value s m
  floor-falls m n h k = divided-rises r.positive (value-falls m n h k)

  -- up to choices that do not exceed the target it does not fall
  pub floor-rises : (m n : ℕ) → net (choose m) ≤ target → n ≤ m → floor_at value s n ≤ℤ floor_at value s m
  floor-rises m n h k = divided-rises r.positive (value-rises m n h k)

  -- ---- floors that are costs

  -- where the net equals the target the gap is 0
  pub equal-net : (m : ℕ) → net (choose m) ≡ target → floor_at value s m ≡ pos (cost (choose m))
  equal-net m e = divided-exact r.positive (r.value-is m) (is_pos (cost (choose m))) (omega (arith, ap (λ (n : ℕ). m * n) e))

  -- the floor of 0 is the cost of its choices
  pub floor-zero : floor_at value s 0 ≡ pos (cost (choose 0))
  floor-zero = divided-exact r.positive (r.value-is 0) (is_pos (cost (choose 0))) (omega arith)

  -- so it is not negative
  pub floor_zero_not_negative : pos 0 ≤ℤ floor_at value s 0
  floor_zero_not_negative = rw floor-zero (at_most (is_pos 0) (is_pos (cost (choose 0))) (omega arith))
