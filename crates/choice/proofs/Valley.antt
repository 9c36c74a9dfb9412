-- Of a function that falls strictly before v and rises strictly from v, the least candidates are beside v: the last one before it, the first one behind it, or both. Of any candidates, in any number of regions.
use mathlib.Core.Path.{◌≡◌}
use mathlib.Core.Logic.{◌⊎◌, inl, inr}
use Prim.Native.Nat.{ℕ, ◌≤◌, ◌<◌}
use native.Mathlib.Decide.{ℕ_discrete}
use native.Mathlib.Omega.{arith}
use lib.IntN.{ℤ}
use lib.Signed.{◌<ℤ◌}
use Rattle.rules.specs.Choice.{better, earlier}
use Rattle.rules.specs.Offers.{Chosen}
use Rattle.rules.proofs.Economics.Chosen.{alike, only, either, upper-better, both_tie}
use Rattle.curve.specs.Curve.{Valley}

module _ {f : ℕ → ℤ} {from to v : ℕ} (w : Valley f from to v) {C : ℕ → Type 0} (above : (p : ℕ) → C p → from ≤ p) (below : (p : ℕ) → C p → p ≤ to) where
  -- the last candidate, before v
  pub last-before : (r : ℕ) → C r → r < v → ((p : ℕ) → C p → p ≤ r) → Chosen f C r r
  last-before r c h l = only r c (λ p i. by p i (ℕ_discrete p r))
    where
      by : (p : ℕ) → C p → Dec (p ≡ r) → (p ≡ r) ⊎ (f r <ℤ f p)
      by p i (yes e) = inl e
      by p i (no n) = inr (w.falls p r (above p i) (omega (arith, l p i)) (below r c) h)

  -- the first candidate, not before v
  pub first-behind : (r : ℕ) → C r → v ≤ r → ((p : ℕ) → C p → r ≤ p) → Chosen f C r r
  first-behind r c h l = only r c (λ p i. by p i (ℕ_discrete p r))
    where
      by : (p : ℕ) → C p → Dec (p ≡ r) → (p ≡ r) ⊎ (f r <ℤ f p)
      by p i (yes e) = inl e
      by p i (no n) = inr (w.rises r p (above r c) (omega (arith, l p i)) (below p i) h)

-- the last candidate before v and the first one behind it
module _ {f : ℕ → ℤ} {from to v : ℕ} (w : Valley f from to v) {C : ℕ → Type 0} (above : (p : ℕ) → C p → from ≤ p) (below : (p : ℕ) → C p → p ≤ to) (r s : ℕ) (c : C r) (d : C s) (h : r < v) (k : v ≤ s) (split : (p : ℕ) → C p → (p ≤ r) ⊎ (s ≤ p)) where
  lower : Chosen f (λ p. C p × (p ≤ r)) r r
  lower = last-before w (λ p i. above p i.0) (λ p i. below p i.0) r (c, omega arith) h (λ p i. i.1)

  upper : Chosen f (λ p. C p × (s ≤ p)) s s
  upper = first-behind w (λ p i. above p i.0) (λ p i. below p i.0) s (d, omega arith) k (λ p i. i.1)

  apart : (p q : ℕ) → C p × (p ≤ r) → C q × (s ≤ q) → p < q
  apart p q i j = omega (arith, i.1, j.1)

  into : (p : ℕ) → (C p × (p ≤ r)) ⊎ (C p × (s ≤ p)) → C p
  into p (inl i) = i.0
  into p (inr i) = i.0

  back : (p : ℕ) → C p → (C p × (p ≤ r)) ⊎ (C p × (s ≤ p))
  back p i = by (split p i)
    where
      by : (p ≤ r) ⊎ (s ≤ p) → (C p × (p ≤ r)) ⊎ (C p × (s ≤ p))
      by (inl e) = inl (i, e)
      by (inr e) = inr (i, e)

  pub compared : Chosen f C (better f r s) (earlier f r s)
  compared = alike into back (either lower upper apart)

  pub upper-only : f s <ℤ f r → Chosen f C s s
  upper-only l = alike into back (upper-better lower upper apart l)

  pub both : f s ≡ f r → Chosen f C s r
  both e = alike into back (both_tie lower upper apart e)
