-- Two lists are the same where no place differs: a loop that counts the places that do.
use Prim.Native.Nat.{ℕ, suc, ◌+◌, ◌≤◌, ◌<◌}
use native.Mathlib.Decide.{ℕ_discrete}
use native.Mathlib.Numerals.{add-one}
use native.Mathlib.Omega.{arith}
use mathlib.Core.Path.{◌≡◌, refl, sym, ap, ap₂, ◌∙◌}
use mathlib.Core.Bool.{Bool, true, false, not, true≢false}
use mathlib.Core.List.{List, [], ◌∷◌, ◌++◌}
use lib.Dec.{eqb}
use lib.ListN.{length, get_or, take}
use lib.Seq.{take-suc, take_all}
use mir.Val.{bool_byte}
use borrow.Author.Tests.{eqb-true, eq-eqb, ne_eqb}
use Rattle.rules.proofs.Verdicts.{and-true}
use Rattle.stepping.specs.Runs.{same}

-- ---- what `same` says

pub same-equal : (xs ys : List ℕ) → same xs ys ≡ true → xs ≡ ys
same-equal [] [] e = refl
same-equal [] (y ∷ ys) e = absurd (true≢false (sym e))
same-equal (x ∷ xs) [] e = absurd (true≢false (sym e))
same-equal (x ∷ xs) (y ∷ ys) e =
    let both = (and-true (eqb x y) (same xs ys)).0 e in
    ap₂ (λ (u : ℕ) (us : List ℕ). u ∷ us) (eqb-true x y both.0) (same-equal xs ys both.1)

pub same-itself : (xs : List ℕ) → same xs xs ≡ true
same-itself [] = refl
same-itself (x ∷ xs) = (and-true (eqb x x) (same xs xs)).1 (eq-eqb x x refl, same-itself xs)

pub equal-same : (xs ys : List ℕ) → xs ≡ ys → same xs ys ≡ true
equal-same xs ys e = ap (same xs) (sym e) ∙ same-itself xs

pub unequal_same : (xs ys : List ℕ) → (xs ≡ ys → ⊥) → same xs ys ≡ false
unequal_same xs ys h = by (same xs ys) refl
  where
    by : (t : Bool) → same xs ys ≡ t → same xs ys ≡ false
    by true e = absurd (h (same-equal xs ys e))
    by false e = e

-- ---- the loop

-- of the first i places d differ
pub record Comparing (xs ys : List ℕ) (d i : ℕ) : Type 0 where
  pub within : i ≤ length xs
  pub small : d ≤ i
  pub alike : d ≡ 0 → take i xs ≡ take i ys
  pub unlike : 0 < d → xs ≡ ys → ⊥

module _ (xs ys : List ℕ) (long : length ys ≡ length xs) where
  pub comparing_starts : Comparing xs ys 0 0
  comparing_starts = record { within = omega arith; small = omega arith; alike = λ e. refl; unlike = λ h e. omega arith }

  module _ {d i : ℕ} (c : Comparing xs ys d i) where
    pub comparing_more : (x y : ℕ) → x ≡ get_or xs i 0 → y ≡ get_or ys i 0 → i < length xs → Comparing xs ys (d + bool_byte (not (eqb x y))) (i + 1)
    comparing_more x y ex ey h = by (ℕ_discrete x y)
      where
        by : Dec (x ≡ y) → Comparing xs ys (d + bool_byte (not (eqb x y))) (i + 1)
        by (yes e) =
            rw (eq-eqb x y e)
            (record {
              within = omega arith;
              small = omega (arith, c.small);
              alike = λ z.
                  let more : take (suc i) xs ≡ take (suc i) ys = take-suc xs i 0 h ∙ ap₂ (λ (u : List ℕ) (v : ℕ). u ++ (v ∷ [])) (c.alike (omega arith)) (sym ex ∙ e ∙ ey) ∙ sym (take-suc ys i 0 (omega arith)) in
                  rw add-one more;
              unlike = λ z. c.unlike (omega arith);
            })
        by (no n) =
            rw (ne_eqb x y n)
            (record {
              within = omega arith;
              small = omega (arith, c.small);
              alike = λ z. absurd (omega arith);
              unlike = λ z e. n (ex ∙ ap (λ (l : List ℕ). get_or l i 0) e ∙ sym ey);
            })

    pub comparing_ends : length xs ≤ i → eqb d 0 ≡ same xs ys
    comparing_ends h = by (ℕ_discrete d 0)
      where
        by : Dec (d ≡ 0) → eqb d 0 ≡ same xs ys
        by (yes e) = eq-eqb d 0 e ∙ sym (equal-same xs ys (sym (take_all i xs h) ∙ c.alike e ∙ take_all i ys (omega arith)))
        by (no n) = ne_eqb d 0 n ∙ sym (unequal_same xs ys (c.unlike (omega arith)))
