-- The greatest that a function has at some multipliers: it has it at one of them, and nothing greater at any of them.
use mathlib.Core.Path.{◌≡◌, refl, sym, subst}
use mathlib.Core.Bool.{cond}
use mathlib.Core.List.Memᴰ
use mathlib.Core.List.{List, [], ◌∷◌, Memᴰ}
use Prim.Native.Nat.{ℕ}
use native.Mathlib.Omega.{arith}
use lib.IntN.{ℤ}
use lib.Signed.{le_z, ◌≤ℤ◌, ≤ℤ_refl}
use Rattle.rules.specs.Numbers.{greatest_at}
use Rattle.rules.proofs.Verdicts.{either_way}
use Rattle.fields.proofs.Integers.{ints, itself, when_le, when_gt}

-- what holds of a number and of each of a list holds of each of both
pub each_more : (P : ℕ → Type 0) {n : ℕ} {ms : List ℕ} → P n → ((m : ℕ) → Memᴰ m ms → P m) → (m : ℕ) → Memᴰ m (n ∷ ms) → P m
each_more P p q m (Memᴰ.head e) = subst P (sym e) p
each_more P p q m (Memᴰ.tail h) = q m h

-- z is the value of f at one of the numbers, and at least its value at each
pub record Greatest (f : ℕ → ℤ) (ms : List ℕ) (z : ℤ) : Type 0 where
  pub one : (m : ℕ) × Memᴰ m ms × (f m ≡ z)
  pub each : (m : ℕ) → Memᴰ m ms → f m ≤ℤ z

module _ (f : ℕ → ℤ) where
  -- with one number more
  greatest-more : (n : ℕ) {ms : List ℕ} {z : ℤ} → Greatest f ms z → Greatest f (n ∷ ms) (cond (le_z (f n) z) z (f n))
  greatest-more n {ms} {z} p =
      either_way (Greatest f (n ∷ ms)) (le_z (f n) z) (λ e. record { one = (p.one.0, Memᴰ.tail p.one.1, p.one.2); each = each_more (λ m. f m ≤ℤ z) (omega (arith, ints, when_le (itself (f n)) (itself z) e)) p.each })
      (λ e. record { one = (n, Memᴰ.head refl, refl); each = each_more (λ m. f m ≤ℤ f n) (≤ℤ_refl (f n)) (λ m h. omega (arith, ints, when_gt (itself (f n)) (itself z) e, p.each m h)) })

  -- of a list by its first number
  pub greatest-at : (n : ℕ) (ms : List ℕ) → Greatest f (n ∷ ms) (greatest_at f (n ∷ ms))
  unfolding greatest_at
  greatest-at n [] = record { one = (n, Memᴰ.head refl, refl); each = each_more (λ m. f m ≤ℤ f n) (≤ℤ_refl (f n)) (λ m h. absurd (Memᴰ.not-nil h)) }
  greatest-at n (m ∷ ms) = greatest-more n (greatest-at m ms)

  -- of a list that is not empty
  pub greatest_of : {n : ℕ} {ms : List ℕ} → Memᴰ n ms → Greatest f ms (greatest_at f ms)
  greatest_of {ms = []} h = absurd (Memᴰ.not-nil h)
  greatest_of {ms = m ∷ ms} h = greatest-at m ms

-- of two functions that agree, or of which one is nowhere greater
pub greatest-same : (f g : ℕ → ℤ) (ms : List ℕ) → ((m : ℕ) → Memᴰ m ms → f m ≡ g m) → greatest_at f ms ≡ greatest_at g ms
unfolding greatest_at
greatest-same f g [] h = refl
greatest-same f g (m ∷ []) h = h m (Memᴰ.head refl)
greatest-same f g (m ∷ n ∷ ms) h = rw (h m (Memᴰ.head refl), greatest-same f g (n ∷ ms) (λ k i. h k (Memᴰ.tail i)))

pub greatest-rises : (f g : ℕ → ℤ) {n : ℕ} {ms : List ℕ} → Memᴰ n ms → ((m : ℕ) → Memᴰ m ms → f m ≤ℤ g m) → greatest_at f ms ≤ℤ greatest_at g ms
greatest-rises f g {n} {ms} i h =
    let (m, k, e) = (greatest_of f i).one in
    let below = h m k in
    let top = (greatest_of g i).each m k in
    rw (← e) (omega (arith, ints))
