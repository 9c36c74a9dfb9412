-- Decimals placed without large numbers: of a number with more decimals than the factor has zeros, the product is whole exactly where the decimals past these are all zero, and is then what the other digits spell; one with fewer is filled up by a power of ten.
use Prim.Native.Nat.{ℕ, zero, suc, ◌+◌, ◌-◌, ◌*◌, ◌/◌, ◌%◌, ◌^◌, ◌≤◌, ◌<◌}
use native.Mathlib.Nat.{pow-suc, mul-add-mod_self_right, mul-add-div_right, mod-eq_of_lt, div-eq_of_lt, mul-mod_left, mul-div_cancel, mul-lt-mul_of_pos_right, mul-le-mul_left, mul-le-mul_right}
use native.Mathlib.Omega.{arith}
use mathlib.Core.Bool.{Bool, true, false}
use mathlib.Core.Path.{◌≡◌, refl, sym, ap, ap₂, ◌∙◌}
use mathlib.Core.List.{List, ◌++◌, append_assoc}
use lib.Dec.{eqb}
use lib.ListN.{length, take, drop, take-append-drop, length-drop}
use lib.Pow.{pow-add}
use lib.Seq.{take_all}
use borrow.Author.Tests.{eq-eqb, ne_eqb, eqb-true, eqb-false}
use Rattle.std.specs.List.{list_all}
use Rattle.rules.specs.Lists.{all}
use Rattle.gencost.specs.Row.{number_after, Decimal}
use Rattle.gencost.specs.Clauses.{Digits, held, valued}
use Rattle.gencost.proofs.Runs.{all-is}
use Rattle.gencost.proofs.Numbers.{after_append, after_shift, after_grows, below_power, zeros-spell, held-through}

pub ten_pos : (k : ℕ) → 0 < 10 ^ k
ten_pos zero = omega arith
ten_pos (suc k) = let e : 10 ^ suc k ≡ 10 ^ k * 10 = pow-suc 10 k in omega (arith, ten_pos k)

-- ---- as many decimals as the factor has zeros, or fewer

module _ (n f k : ℕ) (few : k ≤ f) where
  pub filled : n * 10 ^ f ≡ n * 10 ^ (f - k) * 10 ^ k
  filled = let e : 10 ^ (f - k + k) ≡ 10 ^ (f - k) * 10 ^ k = pow-add 10 (f - k) k in let s : f - k + k ≡ f = omega arith in ap (λ (j : ℕ). n * 10 ^ j) (sym s) ∙ omega (arith, ap (λ (x : ℕ). n * x) e)

  pub few-whole : n * 10 ^ f % 10 ^ k ≡ 0
  few-whole = ap (λ (x : ℕ). x % 10 ^ k) filled ∙ mul-mod_left (n * 10 ^ (f - k)) (10 ^ k)

  pub few-result : n * 10 ^ f / 10 ^ k ≡ n * 10 ^ (f - k)
  few-result = ap (λ (x : ℕ). x / 10 ^ k) filled ∙ mul-div_cancel (n * 10 ^ (f - k)) (ten_pos k)

-- ---- more: `past` are the decimals behind the first f, `before` all digits up to these

module _ (before past : List ℕ) (f : ℕ) (digits : Digits past) where
  abbrev a : ℕ
  a = number_after 0 before

  abbrev b : ℕ
  b = number_after 0 past

  abbrev k : ℕ
  k = f + length past

  product : number_after 0 (before ++ past) * 10 ^ f ≡ a * 10 ^ k + b * 10 ^ f
  product =
      let e : number_after 0 (before ++ past) ≡ a * 10 ^ length past + b = after_append 0 before past ∙ after_shift a past in
      let p : 10 ^ k ≡ 10 ^ f * 10 ^ length past = pow-add 10 f (length past) in
      ap (λ (x : ℕ). x * 10 ^ f) e ∙ omega (arith, ap (λ (x : ℕ). a * x) p)

  small : b * 10 ^ f < 10 ^ k
  small =
      let p : 10 ^ k ≡ 10 ^ f * 10 ^ length past = pow-add 10 f (length past) in
      let m : b * 10 ^ f < 10 ^ length past * 10 ^ f = mul-lt-mul_of_pos_right (below_power past digits) (ten_pos f) in
      omega arith

  pub past-remainder : number_after 0 (before ++ past) * 10 ^ f % 10 ^ k ≡ b * 10 ^ f
  past-remainder = ap (λ (x : ℕ). x % 10 ^ k) product ∙ mul-add-mod_self_right a (10 ^ k) (b * 10 ^ f) ∙ mod-eq_of_lt small

  pub past-result : number_after 0 (before ++ past) * 10 ^ f / 10 ^ k ≡ a
  past-result = ap (λ (x : ℕ). x / 10 ^ k) product ∙ mul-add-div_right (ten_pos k) a (b * 10 ^ f) ∙ omega (arith, div-eq_of_lt small)

  -- the remainder is 0 exactly where the decimals past the others spell 0
  pub past-whole : eqb (number_after 0 (before ++ past) * 10 ^ f % 10 ^ k) 0 ≡ eqb b 0
  past-whole = ap (λ (x : ℕ). eqb x 0) past-remainder ∙ pick (eqb b 0) refl
    where
      pick : (t : Bool) → eqb b 0 ≡ t → eqb (b * 10 ^ f) 0 ≡ t
      pick true e = eq-eqb (b * 10 ^ f) 0 (ap (λ (x : ℕ). x * 10 ^ f) (eqb-true b 0 e) ∙ omega arith)
      pick false e =
          let z : b ≡ 0 → ⊥ = eqb-false b 0 e in
          let one : 1 ≤ b = omega arith in
          let m : 1 * 10 ^ f ≤ b * 10 ^ f = mul-le-mul_right (10 ^ f) one in
          ne_eqb (b * 10 ^ f) 0 (λ w. omega (arith, ten_pos f))

-- ---- what `placed` gives

abbrev pub spelt : List ℕ → List ℕ → Decimal
spelt ds fs = record { formed = true; digits = number_after 0 (ds ++ fs); decimals = length fs }

module _ (ds fs : List ℕ) (places limit : ℕ) where
  pub placed-few : length fs ≤ places → {ones n p r : ℕ} → ones ≡ held limit (number_after 0 ds) → n ≡ held limit (number_after ones fs) → p ≡ 10 ^ (places - length fs) → r ≡ held limit (n * p) → record { result = r; whole = true } ≡ valued places limit (spelt ds fs)
  unfolding valued
  placed-few h {ones} {n} {p} {r} e g q z =
      let number = number_after 0 (ds ++ fs) in
      let power = 10 ^ (places - length fs) in
      let n-is : n ≡ held limit number = g ∙ ap (λ (k : ℕ). held limit (number_after k fs)) e ∙ sym (held-through limit (λ k. number_after k fs) (λ k. after_grows k fs) (number_after 0 ds)) ∙ ap (held limit) (sym (after_append 0 ds fs)) in
      let value : r ≡ held limit (number * 10 ^ places / 10 ^ length fs) = z ∙ ap₂ (λ (m k : ℕ). held limit (m * k)) n-is q ∙ sym (held-through limit (λ k. k * power) grown number) ∙ ap (held limit) (sym (few-result number places (length fs) h)) in
      ap₂ (λ (x : ℕ) (w : Bool). record { result = x; whole = w }) value (sym (eq-eqb (number * 10 ^ places % 10 ^ length fs) 0 (few-whole number places (length fs) h)))
    where
      grown : (k : ℕ) → k ≤ k * 10 ^ (places - length fs)
      grown k = let m : k * 1 ≤ k * 10 ^ (places - length fs) = mul-le-mul_left k (ten_pos (places - length fs)) in omega arith

  pub placed-more : places < length fs → Digits (drop places fs) → {ones r : ℕ} {w : Bool} → ones ≡ held limit (number_after 0 ds) → r ≡ held limit (number_after ones (take places fs)) → w ≡ list_all (λ c. eqb c 48) (take (length fs - places) (drop places fs)) → record { result = r; whole = w } ≡ valued places limit (spelt ds fs)
  unfolding valued
  placed-more h digits {ones} {r} {w} o g z =
      let front = take places fs in
      let past = drop places fs in
      let parted : ds ++ fs ≡ (ds ++ front) ++ past = ap (λ (l : List ℕ). ds ++ l) (sym (take-append-drop places fs)) ∙ sym (append_assoc ds front past) in
      let long : places + length past ≡ length fs = omega (arith, length-drop places fs) in
      let number = number_after 0 (ds ++ front) in
      let r-is : r ≡ held limit number = g ∙ ap (λ (k : ℕ). held limit (number_after k front)) o ∙ sym (held-through limit (λ k. number_after k front) (λ k. after_grows k front) (number_after 0 ds)) ∙ ap (held limit) (sym (after_append 0 ds front)) in
      let quotient : number_after 0 (ds ++ fs) * 10 ^ places / 10 ^ length fs ≡ number = ap₂ (λ (l : List ℕ) (k : ℕ). number_after 0 l * 10 ^ places / 10 ^ k) parted (sym long) ∙ past-result (ds ++ front) past places digits in
      let exact : eqb (number_after 0 (ds ++ fs) * 10 ^ places % 10 ^ length fs) 0 ≡ all (λ c. eqb c 48) past = ap₂ (λ (l : List ℕ) (k : ℕ). eqb (number_after 0 l * 10 ^ places % 10 ^ k) 0) parted (sym long) ∙ past-whole (ds ++ front) past places digits ∙ sym (zeros-spell past digits) in
      ap₂ (λ (x : ℕ) (w : Bool). record { result = x; whole = w }) (r-is ∙ ap (held limit) (sym quotient)) (z ∙ ap (list_all (λ c. eqb c 48)) (take_all (length fs - places) past (omega (arith, long))) ∙ all-is (λ c. eqb c 48) past ∙ sym exact)
