-- Characters that pass a test, one behind the other at the start of a text: what lies before and behind the first place where the test fails.
use Prim.Native.Nat.{ℕ, suc, ◌+◌, ◌≤◌}
use native.Mathlib.Omega.{arith}
use mathlib.Core.Path.{◌≡◌, refl, ap}
use mathlib.Core.Bool.{Bool, true, false, cond, ◌&&◌}
use mathlib.Core.List.{List, [], ◌∷◌}
use lib.ListN.{length, take, drop}
use Rattle.std.specs.List.{list_all}
use Rattle.std.proofs.lemmas.List.Sums.{prefix_len-le-length}
use Rattle.rules.specs.Lists.{all, Every, True}
use Rattle.gencost.specs.Clauses.{run}

-- ---- what lies before the place passes, and what stands at it does not

abbrev pub Stops : (ℕ → Bool) → List ℕ → Type 0
Stops test [] = True
Stops test (c ∷ cs) = test c ≡ false

module _ (test : ℕ → Bool) where
  pub run-within : (s : List ℕ) → run test s ≤ length s
  run-within s = prefix_len-le-length test s

  pub run-passes : (s : List ℕ) → Every (λ c. test c ≡ true) (take (run test s) s)
  run-passes [] = tt
  run-passes (c ∷ cs) = pick (test c) refl (run-passes cs)
    where
      pick : (b : Bool) → test c ≡ b → Every (λ c. test c ≡ true) (take (run test cs) cs) → Every (λ c. test c ≡ true) (take (cond b (1 + run test cs) 0) (c ∷ cs))
      pick true e h = let k : 1 + run test cs ≡ suc (run test cs) = omega arith in rw k (e, h)
      pick false e h = tt

  pub run-stops : (s : List ℕ) → Stops test (drop (run test s) s)
  run-stops [] = tt
  run-stops (c ∷ cs) = pick (test c) refl (run-stops cs)
    where
      pick : (b : Bool) → test c ≡ b → Stops test (drop (run test cs) cs) → Stops test (drop (cond b (1 + run test cs) 0) (c ∷ cs))
      pick true e h = let k : 1 + run test cs ≡ suc (run test cs) = omega arith in rw k h
      pick false e h = e

  -- the library's test of every element is that of `Lists`
  pub all-is : (s : List ℕ) → list_all test s ≡ all test s
  all-is [] = refl
  all-is (c ∷ cs) = ap (λ (b : Bool). test c && b) (all-is cs)
