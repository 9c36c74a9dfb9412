-- The decimal digits of a number: those of its tenth, then the last one.
use Prim.Native.Nat.{ℕ, zero, suc, ◌+◌, ◌*◌, ◌/◌, ◌%◌, ◌≤◌, ◌<◌}
use native.Mathlib.Omega.{arith}
use mathlib.Core.Bool.{Bool, true, false, cond}
use mathlib.Core.Path.{◌≡◌, ap, sym}
use mathlib.Core.List.{List, [], ◌∷◌, ◌++◌}
use lib.Dec.{ltb}
use lib.ListN.{length, length-append}
use borrow.Author.Tests.{lt-ltb, le-ltb}
use Rattle.text.specs.Text.{digits, decimal}

-- ten times over
abbrev tens : ℕ → ℕ
tens zero = 10
tens (suc k) = 10 * tens k

length_digits : (k n : ℕ) → length (digits k n) ≤ k
unfolding digits
length_digits zero n = omega arith
length_digits (suc k) n = pick (ltb n 10) (length_digits k (n / 10))
  where
    pick : (b : Bool) → length (digits k (n / 10)) ≤ k → length (cond b ((48 + n) ∷ []) (digits k (n / 10) ++ ((48 + n % 10) ∷ []))) ≤ suc k
    pick true h = omega arith
    pick false h = simp length-append (omega arith)

-- with fuel enough, more changes nothing
digits_more : (k n : ℕ) → n < tens k → digits (suc (suc k)) n ≡ digits (suc k) n
unfolding digits
digits_more zero n h = rw (lt-ltb n 10 h)
digits_more (suc k) n h =
    ap (λ (l : List ℕ). cond (ltb n 10) ((48 + n) ∷ []) (l ++ ((48 + n % 10) ∷ []))) (digits_more k (n / 10) (omega arith))

pub decimal-small : (n : ℕ) → n < 10 → decimal n ≡ (48 + n) ∷ []
unfolding digits decimal
decimal-small n h = rw (lt-ltb n 10 h)

tenth : (n : ℕ) → n < 18446744073709551616 → decimal (n / 10) ≡ digits 19 (n / 10)
unfolding decimal
tenth n h = digits_more 18 (n / 10) (omega arith)

pub decimal-more : (n : ℕ) → n < 18446744073709551616 → 10 ≤ n → decimal n ≡ decimal (n / 10) ++ ((48 + n % 10) ∷ [])
unfolding digits decimal
decimal-more n h m = rw (le-ltb n 10 m) (ap (λ (l : List ℕ). l ++ ((48 + n % 10) ∷ [])) (sym (tenth n h)))

pub length-tenth : (n : ℕ) → n < 18446744073709551616 → length (decimal (n / 10)) ≤ 19
length-tenth n h = rw (tenth n h) (length_digits 19 (n / 10))

pub length-decimal : (n : ℕ) → length (decimal n) ≤ 20
unfolding decimal
length-decimal n = length_digits 20 n
