-- The vertex over / by as it is computed, where over is square − linear and by is 2 × square; and what the tests of over against by × an output tell: past an end of the regions that end is the choice, where the curve is flat all outputs tie, and else the vertex lies between the ends.
use mathlib.Core.Path.{◌≡◌, ap}
use mathlib.Core.Bool.{true, false}
use mathlib.Core.List.{List}
use Prim.Native.Nat.{ℕ, ◌+◌, ◌*◌, ◌-◌, ◌/◌, ◌%◌, ◌≤◌, ◌<◌}
use native.Mathlib.Nat.{mul-le-mul, mod-lt}
use native.Mathlib.Omega.{arith}
use lib.IntN.{ℤ, nat_abs, ◌-ℤ◌}
use lib.Signed.{lt_z, non_neg, quot_z, rem_z}
use lib.Dec.{T, eqb}
use mir.Syntax.{w16, w64}
use mir.Val.{Fits, SFits, to_z, of_z}
use borrow.Author.Tests.{eqb-true, eqb-false}
use Rattle.fields.specs.Integers.{Is, positive_part, negative_part}
use Rattle.fields.proofs.Integers.{back, cast, is_minus, fits, kept, not_negative, size_is, when_lt, when_ge}
use Rattle.regions.specs.Regions.{low, high}
use Rattle.choice.proofs.Signed.{is_quotient, is-remainder, zero_bits, other_bits}
use Rattle.curve.proofs.Heights.{vertex-valley, vertex-from, vertex-to, vertex-level, vertex-falls}
use Rattle.rules.specs.Offers.{Chosen}
use Rattle.site.specs.Site.{Within}
use Rattle.curve.specs.Curve.{height}
use Rattle.curve.specs.declared.Curve as code
use Rattle.choice.specs.Clauses.{Running, Beside}
use Rattle.choice.proofs.Regions.{small, lowest, highest, past-highest, before-lowest, all-tied}

module _ {ends : List ℕ} {first last : ℕ} {c : code.Curve} (u : Running ends first last c) (linear-fits : SFits w64 c.linear) where
  abbrev a : ℕ
  a = c.square

  abbrev s : ℕ
  s = positive_part c.linear

  abbrev t : ℕ
  t = negative_part c.linear

  abbrev least : ℕ
  least = low ends first

  abbrev greatest : ℕ
  greatest = high ends last

  least-small : least ≤ 10000
  least-small = small u.regions least (lowest u.regions)

  greatest-small : greatest ≤ 10000
  greatest-small = small u.regions greatest (highest u.regions)

  abbrev over : ℤ
  over = to_z w64 a -ℤ to_z w64 (of_z w64 c.linear)

  over-is : Is over (a + t) (0 + s)
  over-is = is_minus (cast a (omega (arith, u.curve.square))) (back linear-fits)

  pub over-fits : SFits w64 over
  over-fits = fits over-is (omega (arith, u.curve)) (omega (arith, u.curve))

  over-read : Is (to_z w64 (of_z w64 over)) (a + t) s
  over-read = record { is = omega (arith, kept over-is (omega (arith, u.curve)) (omega (arith, u.curve))) }

  -- by × an output
  product : (p : ℕ) → p ≤ 10000 → 2 * a * p ≤ 20000000000000
  product p h = mul-le-mul {n₂ = 2000000000} (omega (arith, u.curve.square)) h

  product-read : (p : ℕ) → p ≤ 10000 → Is (to_z w64 (2 * a * p)) (2 * a * p) 0
  product-read p h = cast (2 * a * p) (omega (arith, product p h))

  pub past : (p : ℕ) → p ≡ greatest → lt_z (to_z w64 (2 * a * p)) (to_z w64 (of_z w64 over)) ≡ true → Chosen (height c) (Within ends first last) p p
  past p e h = rw e (past-highest u (omega (arith, when_lt (product-read greatest greatest-small) over-read (rw e at h))))

  pub before : (p : ℕ) → p ≡ least → lt_z (to_z w64 (of_z w64 over)) (to_z w64 (2 * a * p)) ≡ true → Chosen (height c) (Within ends first last) p p
  before p e h = rw e (before-lowest u (omega (arith, when_lt over-read (product-read least least-small) (rw e at h))))

  -- ---- between the two ends

  module _ (p q : ℕ) (e : p ≡ greatest) (f : q ≡ least) (h : lt_z (to_z w64 (2 * a * p)) (to_z w64 (of_z w64 over)) ≡ false) (k : lt_z (to_z w64 (of_z w64 over)) (to_z w64 (2 * a * q)) ≡ false) where
    below-greatest : a + t ≤ 2 * (a * greatest) + s
    below-greatest = omega (arith, when_ge (product-read greatest greatest-small) over-read (rw e at h))

    above-least : 2 * (a * least) + s ≤ a + t
    above-least = omega (arith, when_ge over-read (product-read least least-small) (rw f at k))

    not-less : s ≤ a + t
    not-less = omega (arith, above-least)

    pub level : a ≡ 0 → Chosen (height c) (Within ends first last) p q
    level none = rw (e, f) (all-tied u none (omega (arith, below-greatest, above-least, ap (λ (n : ℕ). n * greatest) none, ap (λ (n : ℕ). n * least) none)))

    module _ (positive : 0 < a) where
      abbrev v : ℕ
      v = (a + t - s) / (2 * a)

      v-from : least ≤ v
      v-from = vertex-from c positive not-less least above-least

      v-to : v ≤ greatest
      v-to = vertex-to c positive not-less greatest below-greatest

      v-runs : 1 ≤ v
      v-runs = omega (arith, v-from, u.runs)

      v-small : v ≤ 10000
      v-small = omega (arith, v-to, greatest-small)

      abbrev quotient : ℤ
      quotient = quot_z (to_z w64 (of_z w64 over)) (to_z w64 (2 * a))

      abbrev rest : ℤ
      rest = rem_z (to_z w64 (of_z w64 over)) (to_z w64 (2 * a))

      quotient-is : Is quotient v 0
      quotient-is = is_quotient over-read not-less (2 * a) (omega (arith, u.curve.square))

      rest-is : Is rest ((a + t - s) % (2 * a)) 0
      rest-is = is-remainder over-read not-less (2 * a) (omega (arith, u.curve.square))

      rest-small : (a + t - s) % (2 * a) < 2 * a
      rest-small = mod-lt (a + t - s) (omega (arith, positive))

      rest-read : Is (to_z w64 (of_z w64 rest)) ((a + t - s) % (2 * a)) 0
      rest-read = kept rest-is (omega (arith, rest-small, u.curve.square)) (omega arith)

      v-read : Is (to_z w64 (of_z w64 quotient)) v 0
      v-read = kept quotient-is (omega (arith, v-small)) (omega arith)

      v-is : nat_abs (to_z w64 (of_z w64 quotient)) ≡ v
      v-is = omega (arith, size_is v-read (omega arith))

      pub v-fits : T (non_neg (to_z w64 (of_z w64 quotient))) × Fits w16 (nat_abs (to_z w64 (of_z w64 quotient)))
      v-fits = (not_negative v-read (omega arith), record { fits = omega (arith, v-is, v-small) })

      some : (r : ℕ) → ¬ (r ≡ 0) → 0 < r
      some r n = omega arith

      pub beside : Beside ends first last c (nat_abs (to_z w64 (of_z w64 quotient))) (eqb (of_z w64 rest) 0)
      beside =
          rw v-is
          (record {
            running = u;
            from = v-from;
            to = v-to;
            valley = vertex-valley c positive not-less;
            level = λ h. vertex-level c positive not-less v-runs (omega (arith, zero_bits rest (eqb-true (of_z w64 rest) 0 h), rest-read));
            falls = λ h. vertex-falls c positive not-less v-runs (some ((a + t - s) % (2 * a)) (other_bits rest-is (eqb-false (of_z w64 rest) 0 h)));
          })
