-- The search one evaluation at a time: what steps 2, 3 and 4 become, by what the choices just evaluated net.
use mathlib.Core.Path.{◌≡◌, refl, ap, ◌∙◌}
use mathlib.Core.Bool.{cond}
use mathlib.Core.List.{List, [], ◌∷◌}
use Prim.Native.Nat.{ℕ, suc, ◌+◌, ◌^◌, ◌≤◌, ◌<◌}
use native.Mathlib.Omega.{arith}
use lib.Dec.{eqb, leb}
use borrow.Author.Tests.{eq-eqb, ne_eqb, le-leb, lt-leb}
use Rattle.rules.specs.Bisection.{Found, step4, step3, search}
use Rattle.rules.proofs.Economics.Search.{middle-is}

module _ {X : Type 0} (choose : ℕ → X) (net : X → ℕ) (target : ℕ) where
  -- ---- step 4: the middle of low and low + 2 ^ (k + 1) is low + 2 ^ k

  middle-first : (k low : ℕ) (best : X) (seen : List ℕ) → let m = low + 2 ^ k in
      step4 choose net target (suc k) low best seen ≡ cond (eqb (net (choose m)) target) (record { best = choose m; evaluated = m ∷ seen }) (cond (leb target (net (choose m))) (step4 choose net target k low (choose m) (m ∷ seen)) (step4 choose net target k m best (m ∷ seen)))
  unfolding step4
  middle-first k low best seen =
      ap (λ (m : ℕ). cond {A = Found X} (eqb (net (choose m)) target) (record { best = choose m; evaluated = m ∷ seen }) (cond (leb target (net (choose m))) (step4 choose net target k low (choose m) (m ∷ seen)) (step4 choose net target k m best (m ∷ seen)))) (middle-is k low)

  module _ (k low : ℕ) (best : X) (seen : List ℕ) where
    pub step4-equal : net (choose (low + 2 ^ k)) ≡ target → step4 choose net target (suc k) low best seen ≡ record { best = choose (low + 2 ^ k); evaluated = (low + 2 ^ k) ∷ seen }
    step4-equal e = middle-first k low best seen ∙ rw (eq-eqb (net (choose (low + 2 ^ k))) target e)

    pub step4-covers : target < net (choose (low + 2 ^ k)) → step4 choose net target (suc k) low best seen ≡ step4 choose net target k low (choose (low + 2 ^ k)) ((low + 2 ^ k) ∷ seen)
    step4-covers h =
        middle-first k low best seen
        ∙ rw (ne_eqb (net (choose (low + 2 ^ k))) target (λ e. omega arith), le-leb target (net (choose (low + 2 ^ k))) (omega arith))

    pub step4-short : net (choose (low + 2 ^ k)) < target → step4 choose net target (suc k) low best seen ≡ step4 choose net target k (low + 2 ^ k) best ((low + 2 ^ k) ∷ seen)
    step4-short h =
        middle-first k low best seen
        ∙ rw (ne_eqb (net (choose (low + 2 ^ k))) target (λ e. omega arith), lt-leb target (net (choose (low + 2 ^ k))) h)

  pub step4-ends : (low : ℕ) (best : X) (seen : List ℕ) → step4 choose net target 0 low best seen ≡ record { best = best; evaluated = seen }
  unfolding step4
  step4-ends low best seen = refl

  -- ---- steps 3 and 2

  module _ (first : X) where
    pub step3-short : net (choose 65536) < target → step3 choose net target first ≡ record { best = first; evaluated = 65536 ∷ 0 ∷ [] }
    unfolding step3
    step3-short h = rw (lt-leb target (net (choose 65536)) h)

    pub step3-equal : net (choose 65536) ≡ target → step3 choose net target first ≡ record { best = choose 65536; evaluated = 65536 ∷ 0 ∷ [] }
    unfolding step3
    step3-equal e = rw (le-leb target (net (choose 65536)) (omega arith), eq-eqb (net (choose 65536)) target e)

    pub step3-covers : target < net (choose 65536) → step3 choose net target first ≡ step4 choose net target 16 0 (choose 65536) (65536 ∷ 0 ∷ [])
    unfolding step3
    step3-covers h = rw (le-leb target (net (choose 65536)) (omega arith), ne_eqb (net (choose 65536)) target (λ e. omega arith))

    pub search-covers : target ≤ net (choose 0) → search choose net target first ≡ record { best = choose 0; evaluated = 0 ∷ [] }
    unfolding search
    search-covers h = rw (le-leb target (net (choose 0)) h)

    pub search-short : net (choose 0) < target → search choose net target first ≡ step3 choose net target first
    unfolding search
    search-short h = rw (lt-leb target (net (choose 0)) h)
