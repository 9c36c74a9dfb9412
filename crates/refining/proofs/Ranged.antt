-- A unit's range of regions changed and put back.
use mathlib.Core.Path.{◌≡◌, ap, ◌∙◌}
use mathlib.Core.List.{List}
use Prim.Native.Nat.{ℕ, ◌+◌, ◌*◌, ◌<◌}
use native.Mathlib.Omega.{arith}
use native.Mathlib.Decide.{dec_lt}
use lib.ListN.{length, get_or, set, length-set, get_or-eq_default}
use lib.Seq.{get_or-set_same, get_or-set_other, set-set, set_comm, set-get_or}
use Rattle.site.specs.Site.{first, last}
use Rattle.refining.specs.Clauses.{ranged}

-- what is put later counts
pub ranged-over : (xs : List ℕ) (k a b c d : ℕ) → ranged (ranged xs k a b) k c d ≡ ranged xs k c d
ranged-over xs k a b c d =
    ap (λ (ys : List ℕ). set ys (2 * k + 1) d) (set_comm (set xs (2 * k) a) (2 * k + 1) (2 * k) b c (λ e. omega arith) ∙ ap (λ (ys : List ℕ). set ys (2 * k + 1) b) (set-set xs (2 * k) a c))
    ∙ set-set (set xs (2 * k) c) (2 * k + 1) b d

-- its own range changes nothing
pub ranged-own : (xs : List ℕ) (k : ℕ) → ranged xs k (first xs k) (last xs k) ≡ xs
ranged-own xs k = ap (λ (ys : List ℕ). set ys (2 * k + 1) (get_or xs (2 * k + 1) 0)) (set-get_or xs (2 * k) 0) ∙ set-get_or xs (2 * k + 1) 0

-- a place that does not hold 0 is one of the array's
inside : (xs : List ℕ) (i : ℕ) → 0 < get_or xs i 0 → i < length xs
inside xs i h = by (dec_lt i (length xs))
  where
    by : Dec (i < length xs) → i < length xs
    by (yes l) = l
    by (no l) = absurd (omega (arith, get_or-eq_default xs 0 {n = i} (omega arith)))

module _ (xs : List ℕ) (k a b : ℕ) (some : 0 < last xs k) where
  place : 2 * k + 1 < length xs
  place = inside xs (2 * k + 1) some

  pub ranged-first : first (ranged xs k a b) k ≡ a
  ranged-first = get_or-set_other (set xs (2 * k) a) (2 * k + 1) (2 * k) b 0 (λ z. omega arith) ∙ get_or-set_same xs (2 * k) a 0 (omega (arith, place))

  pub ranged-last : last (ranged xs k a b) k ≡ b
  ranged-last = get_or-set_same (set xs (2 * k) a) (2 * k + 1) b 0 (rw length-set place)

  pub ranged_first_other : (i : ℕ) → (i ≡ k → ⊥) → first (ranged xs k a b) i ≡ first xs i
  ranged_first_other i e = get_or-set_other (set xs (2 * k) a) (2 * k + 1) (2 * i) b 0 (λ z. omega arith) ∙ get_or-set_other xs (2 * k) (2 * i) a 0 (λ z. omega arith)

  pub ranged_last_other : (i : ℕ) → (i ≡ k → ⊥) → last (ranged xs k a b) i ≡ last xs i
  ranged_last_other i e = get_or-set_other (set xs (2 * k) a) (2 * k + 1) (2 * i + 1) b 0 (λ z. omega arith) ∙ get_or-set_other xs (2 * k) (2 * i + 1) a 0 (λ z. omega arith)
