-- The value of a number: what it gives is exact, and depends on the value alone; the digits of a number spell it.
use Prim.Native.Nat.{ℕ, zero, suc, ◌+◌, ◌-◌, ◌*◌, ◌/◌, ◌%◌, ◌^◌, ◌≤◌, ◌<◌}
use native.Mathlib.Nat.{pow-suc, mul_comm, div-add-mod', mul-div-mul_right, mul-le-mul_right}
use native.Mathlib.Omega.{arith}
use mathlib.Core.Bool.{Bool, true, false}
use mathlib.Core.Path.{◌≡◌, refl, sym, ap, ap₂, ◌∙◌}
use mathlib.Core.List.{List, [], ◌∷◌, ◌++◌}
use lib.Dec.{eqb}
use lib.ListN.{length, length-append, length-replicate}
use borrow.Author.Tests.{le-leb, eq-eqb, ne_eqb, eqb-true, eqb-false}
use Rattle.rules.specs.Lists.{Every}
use Rattle.gencost.specs.Row.{digit, number_after, Decimal, whole, scaled}
use Rattle.gencost.specs.Clauses.{Digits}
use Rattle.gencost.specs.Claims.{Exact, digits_of, zeros}
use Rattle.gencost.proofs.Numbers.{after_append, after_shift}
use Rattle.gencost.proofs.Placing.{ten_pos}

-- ---- exact where the remainder is 0

pub exact : (factor : ℕ) (d : Decimal) → whole factor d ≡ true → Exact factor d (scaled factor d)
exact factor d e =
    let x = d.digits * factor in
    let r : x % 10 ^ d.decimals ≡ 0 = eqb-true (x % 10 ^ d.decimals) 0 e in
    omega (arith, div-add-mod' x (10 ^ d.decimals))

-- ---- one value, one result

module _ (a b k l f : ℕ) (same : a * 10 ^ l ≡ b * 10 ^ k) where
  crossed : a * f * 10 ^ l ≡ b * f * 10 ^ k
  crossed = omega (arith, ap (λ (x : ℕ). x * f) same)

  pub same-scaled : a * f / 10 ^ k ≡ b * f / 10 ^ l
  same-scaled =
      sym (mul-div-mul_right (a * f) (10 ^ k) (ten_pos l)) ∙ ap₂ (λ (x y : ℕ). x / y) crossed (mul_comm (10 ^ k) (10 ^ l)) ∙ mul-div-mul_right (b * f) (10 ^ l) (ten_pos k)

  left_over : a * f % 10 ^ k * 10 ^ l ≡ b * f % 10 ^ l * 10 ^ k
  left_over =
      let q = b * f / 10 ^ l in
      let x : q * 10 ^ k + a * f % 10 ^ k ≡ a * f = ap (λ (z : ℕ). z * 10 ^ k + a * f % 10 ^ k) (sym same-scaled) ∙ div-add-mod' (a * f) (10 ^ k) in
      let y : q * 10 ^ l + b * f % 10 ^ l ≡ b * f = div-add-mod' (b * f) (10 ^ l) in
      omega (arith, crossed, ap (λ (z : ℕ). z * 10 ^ l) x, ap (λ (z : ℕ). z * 10 ^ k) y)

none_left : (r s p q : ℕ) → 0 < q → r * p ≡ s * q → r ≡ 0 → s ≡ 0
none_left r zero p q h e z = refl
none_left r (suc s) p q h e z =
    let o : 1 * q ≤ suc s * q = mul-le-mul_right q (omega arith) in
    let n : r * p ≡ 0 = ap (λ (x : ℕ). x * p) z ∙ omega arith in
    absurd (omega arith)

pub same_whole : (a b k l f : ℕ) → a * 10 ^ l ≡ b * 10 ^ k → eqb (a * f % 10 ^ k) 0 ≡ eqb (b * f % 10 ^ l) 0
same_whole a b k l f e = pick (eqb (a * f % 10 ^ k) 0) refl
  where
    pick : (t : Bool) → eqb (a * f % 10 ^ k) 0 ≡ t → t ≡ eqb (b * f % 10 ^ l) 0
    pick true h = sym (eq-eqb (b * f % 10 ^ l) 0 (none_left (a * f % 10 ^ k) (b * f % 10 ^ l) (10 ^ l) (10 ^ k) (ten_pos k) (left_over a b k l f e) (eqb-true (a * f % 10 ^ k) 0 h)))
    pick false h = sym (ne_eqb (b * f % 10 ^ l) 0 (λ z. eqb-false (a * f % 10 ^ k) 0 h (none_left (b * f % 10 ^ l) (a * f % 10 ^ k) (10 ^ k) (10 ^ l) (ten_pos l) (sym (left_over a b k l f e)) z)))

-- ---- zeros

pub zeros-digits : (n : ℕ) → Digits (zeros n)
zeros-digits zero = tt
zeros-digits (suc n) = (refl, zeros-digits n)

pub every_append : (P : ℕ → Type 0) (xs ys : List ℕ) → Every P xs → Every P ys → Every P (xs ++ ys)
every_append P [] ys h k = k
every_append P (x ∷ xs) ys h k = (h.0, every_append P xs ys h.1 k)

-- before a number they change nothing
pub zeros-before : (n : ℕ) (s : List ℕ) → number_after 0 (zeros n ++ s) ≡ number_after 0 s
zeros-before zero s = refl
zeros-before (suc n) s = zeros-before n s

spell : (n : ℕ) → number_after 0 (zeros n) ≡ 0
spell zero = refl
spell (suc n) = spell n

-- behind it each is a factor of ten
pub zeros-behind : (n m : ℕ) → number_after m (zeros n) ≡ m * 10 ^ n
zeros-behind n m =
    let e : number_after 0 (zeros n) ≡ 0 = spell n in
    let l : length (zeros n) ≡ n = length-replicate n 48 in
    after_shift m (zeros n) ∙ ap₂ (λ (x y : ℕ). m * 10 ^ x + y) l e ∙ omega arith

-- ---- the digits of a number

pub length-digits_of : (k n : ℕ) → length (digits_of k n) ≡ k
length-digits_of zero n = refl
length-digits_of (suc k) n = length-append (digits_of k (n / 10)) ((48 + n % 10) ∷ []) ∙ omega (arith, length-digits_of k (n / 10))

pub digits-digits_of : (k n : ℕ) → Digits (digits_of k n)
digits-digits_of zero n = tt
digits-digits_of (suc k) n = every_append (λ c. digit c ≡ true) (digits_of k (n / 10)) ((48 + n % 10) ∷ []) (digits-digits_of k (n / 10)) (is_digit (n % 10) (omega arith), tt)
  where
    is_digit : (m : ℕ) → m < 10 → digit (48 + m) ≡ true
    is_digit m h = rw (le-leb 48 (48 + m) (omega arith), le-leb (48 + m) 57 (omega arith))

pub spelt-digits_of : (k n : ℕ) → n < 10 ^ k → number_after 0 (digits_of k n) ≡ n
spelt-digits_of zero n h = omega arith
spelt-digits_of (suc k) n h =
    let e : 10 ^ suc k ≡ 10 ^ k * 10 = pow-suc 10 k in
    let tenth : n / 10 < 10 ^ k = omega arith in
    let here : number_after (n / 10) ((48 + n % 10) ∷ []) ≡ 10 * (n / 10) + (48 + n % 10 - 48) = refl in
    after_append 0 (digits_of k (n / 10)) ((48 + n % 10) ∷ []) ∙ ap (λ (m : ℕ). number_after m ((48 + n % 10) ∷ [])) (spelt-digits_of k (n / 10) tenth) ∙ omega arith
