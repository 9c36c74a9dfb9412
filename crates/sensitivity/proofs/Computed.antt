-- A dual value carried to another demand, as it is computed from a pair of the trace: in range, and read back as it is; and the greatest of them, pair by pair.
use Prim.Native.Nat.{ℕ, ◌+◌, ◌*◌, ◌≤◌}
use native.Mathlib.Nat.{mul-le-mul}
use native.Mathlib.Omega.{arith}
use mathlib.Core.Path.{◌≡◌, refl, ap, ap₂, sym, ◌∙◌}
use mathlib.Core.Bool.{Bool, true, false, cond}
use mathlib.Core.List.{List, [], ◌∷◌}
use lib.IntN.{ℤ, ◌+ℤ◌, ◌*ℤ◌}
use lib.ListN.{length}
use lib.Signed.{le_z, lt_z}
use Rattle.std.specs.Int.{int_max}
use mir.Syntax.{w64}
use mir.Val.{SFits, to_z, of_z}
use mir.Facts.{to_z-of_z}
use Rattle.fields.specs.Integers.{Is, positive_part, negative_part}
use Rattle.fields.proofs.Integers.{itself, is_add, is-product, fits, when_le, when_lt, when_ge, when_gt}
use Rattle.rules.specs.Numbers.{greatest_at}
use Rattle.rules.specs.Problem.{Problem}
use Rattle.bisection.specs.Clauses.{multiplier_at, dual_at, Traces}
use Rattle.sensitivity.specs.Clauses.{PairInRange, Shifted, carried}

-- ---- one pair

module _ {m d s : ℤ} (p : PairInRange m d) (h : Shifted s) where
  above : positive_part m * positive_part s ≤ 65536 * 32000000000000
  above = mul-le-mul p.multiplier h.above

  below : positive_part m * negative_part s ≤ 65536 * 32000000000000
  below = mul-le-mul p.multiplier h.below

  product : Is (m *ℤ s) (positive_part m * positive_part s) (positive_part m * negative_part s)
  product = record { is = omega (arith, is-product (itself m) (itself s), ap (λ (n : ℕ). n * negative_part s) p.natural, ap (λ (n : ℕ). n * positive_part s) p.natural) }

  m-kept : to_z w64 (of_z w64 m) ≡ m
  m-kept = to_z-of_z {w = w64} (fits (itself m) (omega (arith, p.multiplier)) (omega (arith, p.natural)))

  s-kept : to_z w64 (of_z w64 s) ≡ s
  s-kept = to_z-of_z {w = w64} (fits (itself s) (omega (arith, h.above)) (omega (arith, h.below)))

  d-kept : to_z w64 (of_z w64 d) ≡ d
  d-kept = to_z-of_z {w = w64} (fits (itself d) (omega (arith, p.above)) (omega (arith, p.below)))

  product_in_range : SFits w64 (m *ℤ s)
  product_in_range = fits product (omega (arith, above)) (omega (arith, below))

  pub product-fits : SFits w64 (to_z w64 (of_z w64 m) *ℤ to_z w64 (of_z w64 s))
  product-fits = rw (m-kept, s-kept) product_in_range

  product-kept : to_z w64 (of_z w64 (to_z w64 (of_z w64 m) *ℤ to_z w64 (of_z w64 s))) ≡ m *ℤ s
  product-kept = rw (m-kept, s-kept) (to_z-of_z {w = w64} product_in_range)

  sum_in_range : SFits w64 (d +ℤ m *ℤ s)
  sum_in_range = fits (is_add (itself d) product) (omega (arith, above, p.above)) (omega (arith, below, p.below))

  pub sum_fits : SFits w64 (to_z w64 (of_z w64 d) +ℤ to_z w64 (of_z w64 (to_z w64 (of_z w64 m) *ℤ to_z w64 (of_z w64 s))))
  sum_fits = rw (d-kept, product-kept) sum_in_range

  pub value_read : to_z w64 (of_z w64 (to_z w64 (of_z w64 d) +ℤ to_z w64 (of_z w64 (to_z w64 (of_z w64 m) *ℤ to_z w64 (of_z w64 s))))) ≡ d +ℤ m *ℤ s
  value_read = rw (d-kept, product-kept) (to_z-of_z {w = w64} sum_in_range)

-- ---- the greatest of the first k pairs

-- the greater of two, by either order
greater : (x g : ℤ) → int_max x g ≡ cond (le_z x g) g x
greater x g = by (le_z x g) (lt_z g x) refl refl
  where
    by : (t u : Bool) → le_z x g ≡ t → lt_z g x ≡ u → cond u x g ≡ cond t g x
    by true true e f = absurd (omega (arith, when_le (itself x) (itself g) e, when_lt (itself g) (itself x) f))
    by true false e f = refl
    by false true e f = refl
    by false false e f = absurd (omega (arith, when_gt (itself x) (itself g) e, when_ge (itself g) (itself x) f))

pub record Reached (trace : List ℤ) (shift : ℤ) (k : ℕ) (g : ℤ) : Type 0 where
  pub greatest : (q : Problem) (ms : List ℕ) → Traces q ms trace → length ms ≡ k → g ≡ greatest_at (carried q shift) ms

module _ (trace : List ℤ) (shift : ℤ) where
  one : {x : ℤ} → x ≡ dual_at trace 0 +ℤ multiplier_at trace 0 *ℤ shift → (q : Problem) (ms : List ℕ) → Traces q ms trace → length ms ≡ 1 → x ≡ greatest_at (carried q shift) ms
  unfolding greatest_at
  one e q [] t l = absurd (omega arith)
  one e q (m ∷ []) t l = e ∙ ap₂ (λ (y z : ℤ). y +ℤ z *ℤ shift) t.1 t.0
  one e q (m ∷ n ∷ ms) t l = absurd (omega arith)

  pub reached-starts : {x : ℤ} → x ≡ dual_at trace 0 +ℤ multiplier_at trace 0 *ℤ shift → Reached trace shift 1 x
  reached-starts e = record { greatest = one e }

  more : {k : ℕ} {g x : ℤ} → 1 ≤ k → Reached trace shift k g → x ≡ dual_at trace k +ℤ multiplier_at trace k *ℤ shift → (q : Problem) (ms : List ℕ) → Traces q ms trace → length ms ≡ k + 1 → cond (le_z x g) g x ≡ greatest_at (carried q shift) ms
  unfolding greatest_at
  more some r e q [] t l = absurd (omega arith)
  more some r e q (m ∷ []) t l = absurd (omega arith)
  more {k} {g} {x} some r e q (m ∷ n ∷ ms) t l =
      let count : length (n ∷ ms) ≡ k = omega arith in
      let rest : g ≡ greatest_at (carried q shift) (n ∷ ms) = r.greatest q (n ∷ ms) t.2 count in
      let here : x ≡ carried q shift m = e ∙ ap (λ (i : ℕ). dual_at trace i +ℤ multiplier_at trace i *ℤ shift) (sym count) ∙ ap₂ (λ (y z : ℤ). y +ℤ z *ℤ shift) t.1 t.0 in
      ap₂ (λ (y z : ℤ). cond (le_z y z) z y) here rest

  pub reached-more : {k : ℕ} {g x : ℤ} → 1 ≤ k → Reached trace shift k g → x ≡ dual_at trace k +ℤ multiplier_at trace k *ℤ shift → Reached trace shift (k + 1) (int_max x g)
  reached-more {g = g} {x} some r e = record { greatest = λ q ms t l. greater x g ∙ more some r e q ms t l }
