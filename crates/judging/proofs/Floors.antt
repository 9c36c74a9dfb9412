-- The greatest floor of all multipliers, as it is defined, is the one that `GreatestFloor` tells of: it need not be computed to be known.
use Prim.Native.Nat.{ℕ, zero, suc, ◌≤◌, ◌<◌}
use native.Mathlib.Omega.{arith}
use mathlib.Core.Path.{◌≡◌, refl}
use mathlib.Core.List.Memᴰ
use mathlib.Core.List.{Memᴰ}
use lib.IntN.{ℤ}
use lib.Signed.{◌≤ℤ◌}
use Rattle.fields.proofs.Integers.{ints}
use Rattle.rules.specs.Lists.{each}
use Rattle.rules.specs.Problem.{Problem}
use Rattle.rules.specs.Choice.{floor, greatest_floor}
use Rattle.rules.specs.Promise.{GreatestFloor}
use Rattle.rules.proofs.Economics.Greatest.{greatest_of}
use Rattle.judging.specs.Judging.{multipliers}

-- each of f 0, f 1, .. is a member, and no other is
member : (n : ℕ) (f : ℕ → ℕ) (k : ℕ) → k < n → Memᴰ (f k) (each n f)
member zero f k h = absurd (omega arith)
member (suc n) f zero h = Memᴰ.head refl
member (suc n) f (suc k) h = Memᴰ.tail (member n (λ i. f (suc i)) k (omega arith))

members : (n : ℕ) (f : ℕ → ℕ) (P : ℕ → Type 0) → ((k : ℕ) → k < n → P (f k)) → (m : ℕ) → Memᴰ m (each n f) → P m
members zero f P h m i = absurd (Memᴰ.not-nil i)
members (suc n) f P h m (Memᴰ.head e) = rw e (h 0 (omega arith))
members (suc n) f P h m (Memᴰ.tail i) = members n (λ k. f (suc k)) P (λ k l. h (suc k) (omega arith)) m i

among : (m : ℕ) → m ≤ 65536 → Memᴰ m multipliers
unfolding multipliers
among m h = member 65537 (λ k. k) m (omega arith)

within : (m : ℕ) → Memᴰ m multipliers → m ≤ 65536
unfolding multipliers
within m i = members 65537 (λ k. k) (λ k. k ≤ 65536) (λ k l. omega arith) m i

pub all-floors : (q : Problem) (z : ℤ) → GreatestFloor q z → greatest_floor q multipliers ≡ z
all-floors q z g =
    let top = greatest_of (λ m. floor m q) (among 0 (omega arith)) in
    let (m, h, e) = g.one in
    let (k, i, f) = top.one in
    let up : z ≤ℤ greatest_floor q multipliers = rw (← e) (top.each m (among m h)) in
    let down : greatest_floor q multipliers ≤ℤ z = rw (← f) (g.greatest k (within k i)) in
    omega (arith, ints, up, down)
