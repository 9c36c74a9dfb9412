-- The number that digits spell, and the same up to a limit: once it is above the limit it stays above.
use Prim.Native.Nat.{ℕ, zero, suc, ◌+◌, ◌-◌, ◌*◌, ◌^◌, ◌≤◌, ◌<◌}
use native.Mathlib.Nat.{pow-suc, mul-le-mul_right}
use native.Mathlib.Numerals.{add-one}
use native.Mathlib.Omega.{arith}
use mathlib.Core.Bool.{Bool, true, false, ◌&&◌, and-eq-true_iff}
use mathlib.Core.Path.{◌≡◌, refl, sym, ap, ◌∙◌}
use mathlib.Core.List.{List, [], ◌∷◌, ◌++◌}
use lib.Dec.{ltb, leb, eqb}
use lib.ListN.{length, get_or, take, drop}
use lib.Seq.{drop-cons}
use borrow.Author.Tests.{lt-ltb, le-ltb, ne_eqb, leb-true, ltb-true, ltb-false, eqb-true, eqb-false}
use Rattle.rules.specs.Lists.{all, Every}
use Rattle.gencost.specs.Row.{digit, number_after}
use Rattle.gencost.specs.Clauses.{Digits, held}

pub digit-range : (c : ℕ) → digit c ≡ true → (48 ≤ c) × (c ≤ 57)
digit-range c e = let b = (and-eq-true_iff (leb 48 c) (leb c 57)).0 e in (leb-true 48 c b.0, leb-true c 57 b.1)

module _ (P : ℕ → Type 0) where
  pub every_take : (n : ℕ) (s : List ℕ) → Every P s → Every P (take n s)
  every_take zero s h = tt
  every_take (suc n) [] h = tt
  every_take (suc n) (c ∷ cs) h = (h.0, every_take n cs h.1)

  pub every_drop : (n : ℕ) (s : List ℕ) → Every P s → Every P (drop n s)
  every_drop zero s h = h
  every_drop (suc n) [] h = tt
  every_drop (suc n) (c ∷ cs) h = every_drop n cs h.1

-- ---- digits behind others

pub after_append : (n : ℕ) (xs ys : List ℕ) → number_after n (xs ++ ys) ≡ number_after (number_after n xs) ys
after_append n [] ys = refl
after_append n (x ∷ xs) ys = after_append (10 * n + (x - 48)) xs ys

pub after_shift : (n : ℕ) (ys : List ℕ) → number_after n ys ≡ n * 10 ^ length ys + number_after 0 ys
after_shift n [] = omega arith
after_shift n (y ∷ ys) =
    let e : 10 ^ suc (length ys) ≡ 10 ^ length ys * 10 = pow-suc 10 (length ys) in
    let here : number_after n (y ∷ ys) ≡ number_after (10 * n + (y - 48)) ys = refl in
    let alone : number_after 0 (y ∷ ys) ≡ number_after (y - 48) ys = ap (λ (m : ℕ). number_after m ys) (omega arith) in
    let long : n * 10 ^ length (y ∷ ys) ≡ n * (10 ^ length ys * 10) = ap (λ (m : ℕ). n * m) e in
    omega (arith, after_shift (10 * n + (y - 48)) ys, after_shift (y - 48) ys)

-- digits spell less than the power of ten
pub below_power : (ys : List ℕ) → Digits ys → number_after 0 ys < 10 ^ length ys
below_power [] h = omega arith
below_power (y ∷ ys) h =
    let e : 10 ^ suc (length ys) ≡ 10 ^ length ys * 10 = pow-suc 10 (length ys) in
    let d : y - 48 ≤ 9 = omega (arith, digit-range y h.0) in
    let m : (y - 48) * 10 ^ length ys ≤ 9 * 10 ^ length ys = mul-le-mul_right (10 ^ length ys) d in
    let alone : number_after 0 (y ∷ ys) ≡ number_after (y - 48) ys = ap (λ (m : ℕ). number_after m ys) (omega arith) in
    let long : 10 ^ length (y ∷ ys) ≡ 10 ^ length ys * 10 = e in
    omega (arith, after_shift (y - 48) ys, below_power ys h.1)

pub after_grows : (n : ℕ) (ys : List ℕ) → n ≤ number_after n ys
after_grows n [] = omega arith
after_grows n (y ∷ ys) =
    let here : number_after n (y ∷ ys) ≡ number_after (10 * n + (y - 48)) ys = refl in
    omega (arith, after_grows (10 * n + (y - 48)) ys)

-- digits spell 0 exactly where each of them is 0
pub zeros-spell : (ys : List ℕ) → Digits ys → all (λ c. eqb c 48) ys ≡ eqb (number_after 0 ys) 0
zeros-spell [] h = refl
zeros-spell (y ∷ ys) h = pick (eqb y 48) refl (zeros-spell ys h.1)
  where
    pick : (b : Bool) → eqb y 48 ≡ b → all (λ c. eqb c 48) ys ≡ eqb (number_after 0 ys) 0 → (b && all (λ c. eqb c 48) ys) ≡ eqb (number_after 0 (y ∷ ys)) 0
    pick true e k = let z : y ≡ 48 = eqb-true y 48 e in rw z k
    pick false e k =
        let r = digit-range y h.0 in
        let here : number_after 0 (y ∷ ys) ≡ number_after (y - 48) ys = ap (λ (m : ℕ). number_after m ys) (omega arith) in
        let z : y ≡ 48 → ⊥ = eqb-false y 48 e in
        let p : 0 < y - 48 = omega arith in
        sym (ne_eqb (number_after 0 (y ∷ ys)) 0 (λ w. omega (arith, after_grows (y - 48) ys)))

-- ---- up to a limit

module _ (limit : ℕ) where
  pub held-above : (n : ℕ) → limit < n → held limit n ≡ limit + 1
  held-above n h = rw (lt-ltb limit n h)

  pub held_below : (n : ℕ) → n ≤ limit → held limit n ≡ n
  held_below n h = rw (le-ltb limit n h)

  by_cases : {P : Type 0} (n : ℕ) → (limit < n → P) → (n ≤ limit → P) → P
  by_cases {P} n above below = pick (ltb limit n) refl
    where
      pick : (b : Bool) → ltb limit n ≡ b → P
      pick true e = above (ltb-true limit n e)
      pick false e = below (ltb-false limit n e)

  pub held-most : (n : ℕ) → held limit n ≤ limit + 1
  held-most n = by_cases n (λ h. rw (held-above n h) (omega arith)) (λ h. rw (held_below n h) (omega arith))

  -- it is above the limit exactly where the number is
  pub held-over : (n : ℕ) → ltb limit (held limit n) ≡ ltb limit n
  held-over n = by_cases n (λ h. rw (held-above n h) (lt-ltb limit (limit + 1) (omega arith) ∙ sym (lt-ltb limit n h))) (λ h. rw (held_below n h))

  -- what does not fall below its argument may be held before or after
  pub held-through : (f : ℕ → ℕ) → ((n : ℕ) → n ≤ f n) → (n : ℕ) → held limit (f n) ≡ held limit (f (held limit n))
  held-through f grows n =
      by_cases n
      (λ h. held-above (f n) (omega (arith, grows n)) ∙ sym (held-above (f (held limit n)) (omega (arith, grows (held limit n), held-above n h))))
      (λ h. ap (λ (m : ℕ). held limit (f m)) (sym (held_below n h)))

-- ---- the loop

module _ (before : ℕ) (s : List ℕ) (limit : ℕ) where
  pub spelling_more : (n i : ℕ) → i < length s → held limit (number_after before s) ≡ held limit (number_after n (drop i s)) → {m : ℕ} → m ≡ held limit (10 * n + (get_or s i 0 - 48)) → held limit (number_after before s) ≡ held limit (number_after m (drop (i + 1) s))
  spelling_more n i h rest {m} e =
      let next = 10 * n + (get_or s i 0 - 48) in
      let step : number_after n (drop i s) ≡ number_after next (drop (i + 1) s) = rw (drop-cons s i 0 h, add-one) in
      rest ∙ ap (held limit) step ∙ held-through limit (λ k. number_after k (drop (i + 1) s)) (λ k. after_grows k (drop (i + 1) s)) next ∙ ap (λ (k : ℕ). held limit (number_after k (drop (i + 1) s))) (sym e)
