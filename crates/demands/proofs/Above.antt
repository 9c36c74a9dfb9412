-- A demand above 320,000 steps is one that is not at most 320,000.
use Prim.Native.Nat.{ℕ, ◌<◌}
use native.Mathlib.Decide.{dec_lt}
use native.Mathlib.Omega.{arith}
use mathlib.Core.Path.{◌≡◌, refl}
use mathlib.Core.Bool.{Bool, not, ◌||◌, ◌&&◌}
use mathlib.Core.List.{List, [], ◌∷◌}
use lib.Dec.{ltb, leb}
use borrow.Author.Tests.{lt-ltb, le-ltb, le-leb, lt-leb}
use Rattle.std.specs.List.{list_any}
use Rattle.rules.specs.Lists.{all}

-- the test of one demand, and of the others
one_more : (d : ℕ) (a b : Bool) → a ≡ not b → (ltb 320000 d || a) ≡ not (leb d 320000 && b)
one_more d a b e = by (dec_lt 320000 d)
  where
    by : Dec (320000 < d) → (ltb 320000 d || a) ≡ not (leb d 320000 && b)
    by (yes h) = rw (lt-ltb 320000 d h, lt-leb d 320000 h)
    by (no h) = rw (le-ltb 320000 d (omega arith), le-leb d 320000 (omega arith)) e

pub any_above : (demands : List ℕ) → list_any (ltb 320000) demands ≡ not (all (λ d. leb d 320000) demands)
any_above [] = refl
any_above (d ∷ ds) = one_more d _ _ (any_above ds)
