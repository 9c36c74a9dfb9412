-- A quotient rounded up is the least integer whose multiple by the divisor is not below the dividend; its other laws follow from that.
use mathlib.Core.Path.{◌≡◌, refl, ap}
use Prim.Native.Nat.{ℕ, zero, suc, ◌+◌, ◌*◌, ◌-◌, ◌/◌, ◌≤◌, ◌<◌}
use native.Mathlib.Nat.{lt-mul-div-succ, mul-div-le, div-lt_iff_lt-mul, le-div_iff_mul-le, le_of_mul-le-mul_left}
use native.Mathlib.Omega.{arith}
use lib.IntN.{ℤ, pos, negsuc, neg_ℤ}
use lib.Signed.{◌≤ℤ◌}
use Rattle.rules.specs.Numbers.{divided_up}
use Rattle.fields.specs.Integers.{positive_part, negative_part, Is}
use Rattle.fields.proofs.Integers.{up_is, dn_is, ints}

-- the negative of a natural
is_negative : (n : ℕ) → Is (neg_ℤ (pos n)) 0 n
unfolding positive_part negative_part
is_negative zero = record { is = refl }
is_negative (suc n) = record { is = omega arith }

module _ {k : ℕ} (positive : 0 < k) where
  -- the multiple of the quotient is not below the dividend
  reaches : (z : ℤ) → positive_part z + k * negative_part (divided_up z k) ≤ k * positive_part (divided_up z k) + negative_part z
  unfolding positive_part negative_part divided_up
  reaches (pos n) = omega (arith, lt-mul-div-succ (n + (k - 1)) positive)
  reaches (negsuc n) =
      let q = suc n / k in
      let u : positive_part (neg_ℤ (pos q)) ≡ 0 = omega (arith, up_is (is_negative q)) in
      let d : negative_part (neg_ℤ (pos q)) ≡ q = omega (arith, dn_is (is_negative q)) in
      rw (u, d) (omega (arith, mul-div-le (suc n) k))

  -- and no smaller integer has such a multiple
  least : (z w : ℤ) → positive_part z + k * negative_part w ≤ k * positive_part w + negative_part z → divided_up z k ≤ℤ w
  unfolding positive_part negative_part divided_up
  least (pos n) (pos v) h = omega (arith, ints, (div-lt_iff_lt-mul {k = k} {x = n + (k - 1)} {y = suc v} positive).1 (omega arith))
  least (pos n) (negsuc v) h = absurd (omega arith)
  least (negsuc n) (pos v) h = omega (arith, ints, is_negative (suc n / k))
  least (negsuc n) (negsuc v) h = omega (arith, ints, is_negative (suc n / k), (le-div_iff_mul-le {k = k} {x = suc v} {y = suc n} positive).1 (omega arith))

  -- at most what has such a multiple
  pub divided_at_most : {z w : ℤ} {a b c d : ℕ} → Is z a b → Is w c d → a + k * d ≤ k * c + b → divided_up z k ≤ℤ w
  divided_at_most {z} {w} p q h = least z w (omega (arith, ap (λ (n : ℕ). k * n) q.is))

  -- monotone
  pub divided-rises : {x y : ℤ} → x ≤ℤ y → divided_up x k ≤ℤ divided_up y k
  divided-rises {x} {y} h = least x (divided_up y k) (omega (arith, ints, reaches y))

  -- exact at a multiple
  pub divided-exact : {z w : ℤ} {a b c d : ℕ} → Is z a b → Is w c d → a + k * d ≡ k * c + b → divided_up z k ≡ w
  divided-exact {z} {w} p q e =
      let v = divided_up z k in
      let above : positive_part w + negative_part v ≤ positive_part v + negative_part w = le_of_mul-le-mul_left {k = k} (omega (arith, reaches z, ap (λ (n : ℕ). k * n) q.is)) positive in
      omega (arith, ints, divided_at_most p q (omega arith))
