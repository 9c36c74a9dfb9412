-- A dual value carried to another demand: it is that of the same offers with that demand, so that weak duality bounds it; and rounding up after the greatest is taken gives the same as before.
use Prim.Native.Nat.{ℕ, ◌+◌, ◌*◌, ◌≤◌, ◌<◌}
use native.Mathlib.Nat.{mul-le-mul_left}
use native.Mathlib.Omega.{arith}
use mathlib.Core.Path.{◌≡◌, refl, ap, sym, ◌∙◌}
use mathlib.Core.Bool.{Bool, true, false, cond}
use mathlib.Core.List.{List, [], ◌∷◌, map}
use lib.IntN.{ℤ, pos, ◌-ℤ◌}
use lib.ListN.{length}
use lib.Signed.{◌≤ℤ◌, le_z}
use Rattle.fields.specs.Integers.{Is, positive_part, negative_part}
use Rattle.fields.proofs.Integers.{itself, is_pos, is_add, is_minus, is-product, same, at_most, up_is, dn_is, ints, when_le, when_gt, yes_at_most}
use Rattle.rules.specs.Numbers.{total, divided_up, greatest_at}
use Rattle.rules.specs.Problem.{Problem, target}
use Rattle.rules.specs.Choice.{least_priced_cost, dual_value, floor}
use Rattle.rules.proofs.Economics.Greatest.{greatest-same}
use Rattle.rules.proofs.Economics.Rounding.{divided-rises}
use Rattle.sensitivity.specs.Floors.{dual_for}
use Rattle.sensitivity.specs.Clauses.{Shifted, carried}

-- the same offers with another demand
abbrev pub at : Problem → ℕ → Problem
at q d = record { demand = d; offers = q.offers }

module _ (m : ℕ) (q : Problem) (d : ℕ) where
  -- the units' part of the dual value, and the demand's
  parts : (e : ℕ) → Is (dual_value m (at q e)) (positive_part (total (map (least_priced_cost m) q.offers)) + m * (100000000 * e)) (negative_part (total (map (least_priced_cost m) q.offers)))
  unfolding dual_value
  parts e = record { is = omega (arith, is_add (itself (total (map (least_priced_cost m) q.offers))) (is_pos (m * (100000000 * e)))) }

  own : Is (dual_value m q) (positive_part (total (map (least_priced_cost m) q.offers)) + m * (100000000 * q.demand)) (negative_part (total (map (least_priced_cost m) q.offers)))
  unfolding dual_value
  own = parts q.demand

  pub dual_for_lem : dual_for m q d ≡ dual_value m (at q d)
  unfolding dual_for
  dual_for_lem = same (is_add own (is-product (is_pos (m * 100000000)) (is_minus (is_pos d) (is_pos q.demand)))) (parts d) (omega arith)

  pub floor_for_lem : divided_up (dual_for m q d) 100000 ≡ floor m (at q d)
  unfolding floor
  floor_for_lem = ap (λ (z : ℤ). divided_up z 100000) dual_for_lem

  -- as it is computed
  pub carried_for : (shift : ℤ) → shift ≡ pos (100000000 * d) -ℤ pos (target q) → carried q shift m ≡ dual_for m q d
  unfolding dual_for
  carried_for shift e =
      rw e
      (same (is_add own (is-product (is_pos m) (is_minus (is_pos (100000000 * d)) (is_pos (target q))))) (is_add own (is-product (is_pos (m * 100000000)) (is_minus (is_pos d) (is_pos q.demand)))) (omega arith))

-- with the demand it does not fall
pub dual-rises : (m : ℕ) (q : Problem) (d e : ℕ) → d ≤ e → dual_for m q d ≤ℤ dual_for m q e
dual-rises m q d e h = rw (dual_for_lem m q d, dual_for_lem m q e) (at_most (parts m q d d) (parts m q e e) (omega (arith, mul-le-mul_left m h)))

-- at 0 it is the same for every demand
pub dual_at_zero : (q : Problem) (d e : ℕ) → dual_for 0 q d ≡ dual_for 0 q e
dual_at_zero q d e = rw (dual_for_lem 0 q d, dual_for_lem 0 q e) (same (parts 0 q d d) (parts 0 q e e) (omega arith))

-- ---- rounding up, and the greatest

module _ (f : ℕ → ℤ) where
  abbrev up' : ℤ → ℤ
  up' z = divided_up z 100000

  rounded_one : (x y : ℤ) → cond (le_z (up' x) (up' y)) (up' y) (up' x) ≡ up' (cond (le_z x y) y x)
  rounded_one x y = by (le_z x y) refl
    where
      by : (t : Bool) → le_z x y ≡ t → cond (le_z (up' x) (up' y)) (up' y) (up' x) ≡ up' (cond t y x)
      by true e =
          let h : x ≤ℤ y = omega (arith, ints, when_le (itself x) (itself y) e) in
          rw (yes_at_most (divided-rises {k = 100000} (omega arith) h))
      by false e =
          let h : y ≤ℤ x = omega (arith, ints, when_gt (itself x) (itself y) e) in
          either (le_z (up' x) (up' y)) refl (divided-rises {k = 100000} (omega arith) h)
        where
          either : (t : Bool) → le_z (up' x) (up' y) ≡ t → up' y ≤ℤ up' x → cond t (up' y) (up' x) ≡ up' x
          either true g k = let l = when_le (itself (up' x)) (itself (up' y)) g in omega (arith, ints)
          either false g k = refl

  pub rounded_greatest : (m : ℕ) (ms : List ℕ) → greatest_at (λ n. up' (f n)) (m ∷ ms) ≡ up' (greatest_at f (m ∷ ms))
  unfolding greatest_at
  rounded_greatest m [] = refl
  rounded_greatest m (n ∷ ms) = rw (rounded_greatest n ms) (rounded_one (f m) (greatest_at f (n ∷ ms)))

-- ---- the floor for a demand, as it is computed

pub floor-computed : (q : Problem) (ms : List ℕ) (d : ℕ) (shift x : ℤ) → 0 < length ms → shift ≡ pos (100000000 * d) -ℤ pos (target q) → x ≡ divided_up (greatest_at (carried q shift) ms) 100000 → x ≡ greatest_at (λ m. divided_up (dual_for m q d) 100000) ms
floor-computed q [] d shift x some e f = absurd (omega arith)
floor-computed q (m ∷ ms) d shift x some e f =
    f
    ∙ sym (rounded_greatest (carried q shift) m ms)
    ∙ greatest-same (λ n. divided_up (carried q shift n) 100000) (λ n. divided_up (dual_for n q d) 100000) (m ∷ ms) (λ n _. ap (λ (z : ℤ). divided_up z 100000) (carried_for n q d shift e))

pub shifted : (d t : ℕ) → d ≤ 320000 → t ≤ 32000000000000 → Shifted (pos (100000000 * d) -ℤ pos t)
shifted d t h k =
    let i = is_minus (is_pos (100000000 * d)) (is_pos t) in
    record { above = omega (arith, up_is i); below = omega (arith, dn_is i) }
