-- The loop over a unit's zones: what is left to look at decides what all of it decides.
use Prim.Native.Nat.{ℕ, zero, suc, ◌+◌, ◌*◌, ◌≤◌, ◌<◌}
use native.Mathlib.Omega.{arith}
use mathlib.Core.Path.{◌≡◌, refl}
use mathlib.Core.Logic.{◌⊎◌}
use mathlib.Core.Bool.{Bool, false}
use mathlib.Core.List.{List}
use lib.Dec.{ltb}
use lib.ListN.{get_or, drop}
use Rattle.std.proofs.lemmas.Bool.Decides.{nat_tests}
use Rattle.rules.specs.Lists.{each}
use Rattle.rules.specs.Unit.{zone_at}
use Rattle.rules.specs.Refusal.{zones_ascend, starts_above}
use Rattle.rules.proofs.Each.{rest-ends, rest_more}

-- whether the zones from number k on ascend above `below`
abbrev pub ascend_from : List ℕ → ℕ → ℕ → ℕ → ℕ → Bool
ascend_from edges z below k greatest = zones_ascend below (drop k (each z (zone_at edges))) greatest

module _ (edges : List ℕ) (z below k greatest : ℕ) where
  pub ascend-ends : z ≤ k → ascend_from edges z below k greatest ≡ ltb below greatest
  unfolding zones_ascend
  ascend-ends h = rw (rest-ends z (zone_at edges) k h)

  module _ (h : k < z) where
    pub ascend_fails : (get_or edges (2 * k) 0 < below) ⊎ ((below ≤ get_or edges (2 * k) 0) × (get_or edges (2 * k + 1) 0 ≤ get_or edges (2 * k) 0)) → ascend_from edges z below k greatest ≡ false
    unfolding zones_ascend
    ascend_fails p = rw (rest_more z (zone_at edges) k h) (grind (arith, nat_tests))

    pub ascend-more : below ≤ get_or edges (2 * k) 0 → get_or edges (2 * k) 0 < get_or edges (2 * k + 1) 0 → ascend_from edges z below k greatest ≡ ascend_from edges z (get_or edges (2 * k + 1) 0) (k + 1) greatest
    unfolding zones_ascend
    ascend-more l p = rw (rest_more z (zone_at edges) k h) (grind (arith, nat_tests))

-- where there is a first zone, its lower edge decides
pub starts-some : (edges : List ℕ) (z least : ℕ) → (z ≡ 0 → ⊥) → starts_above least (each z (zone_at edges)) ≡ ltb least (get_or edges 0 0)
starts-some edges zero least n = absurd (n refl)
starts-some edges (suc z) least n = refl
