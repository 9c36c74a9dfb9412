-- Which places writing keeps: a place that is written lies in the range, and one step after another keeps what both keep. And what stands in two places that were written.
use Prim.Native.Nat.{ℕ, ◌≤◌, ◌<◌}
use native.Mathlib.Omega.{arith}
use mathlib.Core.Path.{◌≡◌, refl, ◌∙◌}
use mathlib.Core.List.{List}
use lib.ListN.{length, get_or, set, length-set}
use lib.Seq.{get_or-set_same, get_or-set_other}
use Rattle.regions.specs.Clauses.{KeptOutside}

module _ {from to : ℕ} where
  pub kept-all : {s : List ℕ} → KeptOutside from to s s
  kept-all = record { below = λ k h. refl; above = λ k h. refl }

  -- place i of the range is written besides
  pub kept_set : {s t : List ℕ} (i x : ℕ) → from ≤ i → i < to → KeptOutside from to s t → KeptOutside from to s (set t i x)
  kept_set {t = t} i x a b h =
      record {
        below = λ k l. get_or-set_other t i k x 0 (omega arith) ∙ h.below k l;
        above = λ k l. get_or-set_other t i k x 0 (omega arith) ∙ h.above k l;
      }

  pub kept_then : {s t r : List ℕ} → KeptOutside from to s t → KeptOutside from to t r → KeptOutside from to s r
  kept_then h g = record { below = λ k l. g.below k l ∙ h.below k l; above = λ k l. g.above k l ∙ h.above k l }

-- x at place i, and then y at place j
module _ (s : List ℕ) (i j x y : ℕ) (apart : i < j) (room : j < length s) where
  pub first-written : get_or (set (set s i x) j y) i 0 ≡ x
  first-written = get_or-set_other (set s i x) j i y 0 (omega arith) ∙ get_or-set_same s i x 0 (omega arith)

  pub second-written : get_or (set (set s i x) j y) j 0 ≡ y
  second-written = get_or-set_same (set s i x) j y 0 (omega (arith, length-set s i x))

  pub both-kept : {from to : ℕ} → from ≤ i → j < to → KeptOutside from to s (set (set s i x) j y)
  both-kept a b = kept_set j y (omega arith) b (kept_set i x a (omega arith) kept-all)
