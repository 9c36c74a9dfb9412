-- A loop that reads eight edges: those below k are read, and the others are zero.
use Prim.Native.Nat.{ℕ, ◌+◌, ◌<◌}
use native.Mathlib.Decide.{dec_lt, ℕ_discrete}
use native.Mathlib.Omega.{arith}
use mathlib.Core.Path.{◌≡◌, ap, sym, ◌∙◌}
use mathlib.Core.Logic.{◌≢◌}
use mathlib.Core.Bool.{Bool, cond}
use mathlib.Core.List.{List}
use lib.Dec.{ltb}
use lib.ListN.{get_or, set, length-set}
use lib.Seq.{ext_get_or, get_or-set_same, get_or-set_other}
use borrow.Author.Tests.{lt-ltb, le-ltb}
use Rattle.rules.specs.Lists.{each}
use Rattle.rules.proofs.Lists.{get_or_each}

-- the first k of eight numbers, and zero for the others
abbrev pub first : (ℕ → ℕ) → ℕ → List ℕ
first f k = each 8 (λ j. cond (ltb j k) (f j) 0)

module _ (f : ℕ → ℕ) where
  below_more : (k j : ℕ) → j ≢ k → cond (ltb j k) (f j) 0 ≡ cond (ltb j (k + 1)) (f j) 0
  below_more k j n = ap (λ (b : Bool). cond b (f j) 0) (by (dec_lt j k))
    where
      by : Dec (j < k) → ltb j k ≡ ltb j (k + 1)
      by (yes h) = lt-ltb j k h ∙ sym (lt-ltb j (k + 1) (omega arith))
      by (no h) = le-ltb j k (omega arith) ∙ sym (le-ltb j (k + 1) (omega arith))

  pub first_more : (k : ℕ) → k < 8 → set (first f k) k (f k) ≡ first f (k + 1)
  first_more k h =
      ext_get_or 0 (set (first f k) k (f k)) (first f (k + 1)) (length-set (first f k) k (f k)) (λ i l. at i (omega (arith, length-set (first f k) k (f k))) (ℕ_discrete i k))
    where
      at : (i : ℕ) → i < 8 → Dec (i ≡ k) → get_or (set (first f k) k (f k)) i 0 ≡ get_or (first f (k + 1)) i 0
      at i l (yes e) =
          rw (e, get_or-set_same (first f k) k (f k) 0 h, get_or_each 8 (λ j. cond (ltb j (k + 1)) (f j) 0) k 0 h, lt-ltb k (k + 1) (omega arith))
      at i l (no n) =
          get_or-set_other (first f k) k i (f k) 0 n ∙ get_or_each 8 (λ j. cond (ltb j k) (f j) 0) i 0 l ∙ below_more k i n
          ∙ sym (get_or_each 8 (λ j. cond (ltb j (k + 1)) (f j) 0) i 0 l)
