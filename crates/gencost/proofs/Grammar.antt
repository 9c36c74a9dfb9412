-- Pieces, and the form of a number: how it is told by its first characters that are digits.
use Prim.Native.Nat.{ℕ, ◌+◌, ◌≤◌, ◌<◌}
use native.Mathlib.Numerals.{add-one}
use native.Mathlib.Omega.{arith}
use mathlib.Core.Bool.{Bool, true, false, cond, ◌&&◌}
use mathlib.Core.Path.{◌≡◌, refl, sym, ap, ◌∙◌}
use mathlib.Core.List.{List, [], ◌∷◌, ◌++◌, append-nil}
use lib.Dec.{leb}
use lib.ListN.{length, get_or, take, drop, take-append-drop}
use lib.Seq.{drop-cons, take_all, take-length, length-take-le}
use borrow.Author.Tests.{lt-leb, ne_eqb}
use Rattle.rules.specs.Lists.{all, Every}
use Rattle.gencost.specs.Row.{point, digit, onto, pieces, some, digits_only, decimal}
use Rattle.gencost.specs.Clauses.{run, Digits}
use Rattle.gencost.proofs.Numbers.{digit-range}
use Rattle.gencost.proofs.Placing.{spelt}
use Rattle.gencost.proofs.Runs.{Stops, run-passes, run-stops, run-within}

-- a test does not both hold and fail
pub clash : {P : Type 0} {b : Bool} → b ≡ true → b ≡ false → P
clash e f = absurd (let z : ◌≡◌ {A = ℕ} 0 1 = cc in omega arith)

-- ---- pieces

module _ (test : ℕ → Bool) where
  pub pieces-one : (w : List ℕ) → Every (λ c. test c ≡ false) w → pieces test w ≡ w ∷ []
  pieces-one [] h = refl
  pieces-one (c ∷ w) h = rw h.0 (ap (onto c) (pieces-one w h.1))

  pub pieces-parted : (w : List ℕ) (c : ℕ) (t : List ℕ) → Every (λ c. test c ≡ false) w → test c ≡ true → pieces test (w ++ c ∷ t) ≡ w ∷ pieces test t
  pieces-parted [] c t h e = rw e
  pieces-parted (x ∷ w) c t h e = rw h.0 (ap (onto x) (pieces-parted w c t h.1 e))

  onto-some : (c : ℕ) (ps : List (List ℕ)) → 1 ≤ length (onto c ps)
  onto-some c [] = omega arith
  onto-some c (p ∷ ps) = omega arith

  pub pieces-some : (s : List ℕ) → 1 ≤ length (pieces test s)
  pieces-some [] = omega arith
  pieces-some (c ∷ cs) = pick (test c) (pieces test cs)
    where
      pick : (b : Bool) (ps : List (List ℕ)) → 1 ≤ length (cond b ([] ∷ ps) (onto c ps))
      pick true ps = omega arith
      pick false ps = onto-some c ps

-- ---- digits

pub digit_no_point : (c : ℕ) → digit c ≡ true → point c ≡ false
digit_no_point c e = ne_eqb c 46 (λ z. omega (arith, digit-range c e))

pub digits_no_point : (w : List ℕ) → Digits w → Every (λ c. point c ≡ false) w
digits_no_point [] h = tt
digits_no_point (c ∷ w) h = (digit_no_point c h.0, digits_no_point w h.1)

pub all_digits : (w : List ℕ) → Digits w → all digit w ≡ true
all_digits [] h = refl
all_digits (c ∷ w) h = rw (h.0, all_digits w h.1)

and-false : (b : Bool) → (b && false) ≡ false
and-false true = refl
and-false false = refl

-- ---- a number is well formed where it is digits, or digits, a point and digits

pub decimal-digits : (w : List ℕ) → some w ≡ true → Digits w → decimal w ≡ spelt w []
unfolding decimal
decimal-digits w s h = rw (pieces-one point w (digits_no_point w h), s, all_digits w h)

pub decimal-parted : (ds fs : List ℕ) → some ds ≡ true → Digits ds → some fs ≡ true → Digits fs → decimal (ds ++ 46 ∷ fs) ≡ spelt ds fs
unfolding decimal
decimal-parted ds fs s h t g = rw (pieces-parted point ds 46 fs (digits_no_point ds h) refl, pieces-one point fs (digits_no_point fs g), s, t, all_digits ds h, all_digits fs g)

-- ---- and nowhere else

-- a character that is neither a digit nor a point stands in some piece
onto-other : (c : ℕ) (ps : List (List ℕ)) → digit c ≡ false → all (all digit) (onto c ps) ≡ false
onto-other c [] e = rw e
onto-other c (p ∷ ps) e = rw e

onto-digit : (c : ℕ) (ps : List (List ℕ)) → digit c ≡ true → all (all digit) ps ≡ false → all (all digit) (onto c ps) ≡ false
onto-digit c [] e h = absurd (let z : ◌≡◌ {A = ℕ} 0 1 = cc in omega arith)
onto-digit c (p ∷ ps) e h = rw e h

strange : (w : List ℕ) (c : ℕ) (t : List ℕ) → digit c ≡ false → point c ≡ false → all (all digit) (pieces point (w ++ c ∷ t)) ≡ false
strange [] c t e p = rw p (onto-other c (pieces point t) e)
strange (x ∷ w) c t e p = pick (point x) (digit x) refl (strange w c t e p)
  where
    pick : (b d : Bool) → digit x ≡ d → all (all digit) (pieces point (w ++ c ∷ t)) ≡ false → all (all digit) (cond b ([] ∷ pieces point (w ++ c ∷ t)) (onto x (pieces point (w ++ c ∷ t)))) ≡ false
    pick true d f h = h
    pick false true f h = onto-digit x (pieces point (w ++ c ∷ t)) f h
    pick false false f h = onto-other x (pieces point (w ++ c ∷ t)) f

-- digits alone are digits
weaker : (ps : List (List ℕ)) → all (all digit) ps ≡ false → all digits_only ps ≡ false
weaker [] e = e
weaker (p ∷ ps) e = pick (some p) (all digit p) refl (weaker ps)
  where
    pick : (a b : Bool) → all digit p ≡ b → (all (all digit) ps ≡ false → all digits_only ps ≡ false) → ((a && b) && all digits_only ps) ≡ false
    pick false b f k = refl
    pick true false f k = refl
    pick true true f k = k (rw f at e)

module _ (w : List ℕ) where
  pub unformed : all digits_only (pieces point w) ≡ false → (decimal w).formed ≡ false
  unfolding decimal
  unformed e = rw e (and-false (leb (length (pieces point w)) 2))

  pub unformed_many : 2 < length (pieces point w) → (decimal w).formed ≡ false
  unfolding decimal
  unformed_many h = rw (lt-leb (length (pieces point w)) 2 h)

pub unformed-strange : (w : List ℕ) (c : ℕ) (t : List ℕ) → digit c ≡ false → point c ≡ false → (decimal (w ++ c ∷ t)).formed ≡ false
unformed-strange w c t e p = unformed (w ++ c ∷ t) (weaker (pieces point (w ++ c ∷ t)) (strange w c t e p))

-- without a digit before the point
pub unformed-start : (w : List ℕ) → Stops digit w → (decimal w).formed ≡ false
unformed-start [] h = unformed [] refl
unformed-start (c ∷ t) h = pick (point c) refl
  where
    pick : (b : Bool) → point c ≡ b → (decimal (c ∷ t)).formed ≡ false
    pick true e = unformed (c ∷ t) (rw e)
    pick false e = unformed-strange [] c t h e

-- without one behind it
pub unformed_bare : (ds : List ℕ) → Digits ds → (decimal (ds ++ 46 ∷ [])).formed ≡ false
unformed_bare ds h = unformed (ds ++ 46 ∷ []) (rw (pieces-parted point ds 46 [] (digits_no_point ds h) refl) (and-false (digits_only ds)))

-- with another text than digits behind the point
pub unformed-rest : (ds r fs t : List ℕ) → Digits ds → r ≡ fs ++ t → Digits fs → Stops digit t → (length r ≡ length fs → ⊥) → (decimal (ds ++ 46 ∷ r)).formed ≡ false
unformed-rest ds r fs [] h e g s n = absurd (n (ap length e ∙ ap length (append-nil fs)))
unformed-rest ds r fs (c ∷ t) h e g s n = pick (point c) refl
  where
    parted : pieces point (ds ++ 46 ∷ r) ≡ ds ∷ pieces point (fs ++ c ∷ t)
    parted = pieces-parted point ds 46 r (digits_no_point ds h) refl ∙ ap (λ (l : List ℕ). ds ∷ pieces point l) e

    pick : (b : Bool) → point c ≡ b → (decimal (ds ++ 46 ∷ r)).formed ≡ false
    pick true p =
        let three : pieces point (ds ++ 46 ∷ r) ≡ ds ∷ fs ∷ pieces point t = parted ∙ ap (λ (ps : List (List ℕ)). ds ∷ ps) (pieces-parted point fs c t (digits_no_point fs g) p) in
        unformed_many (ds ++ 46 ∷ r) (rw three (omega (arith, pieces-some point t)))
    pick false p =
        unformed (ds ++ 46 ∷ r) (rw (parted, weaker (pieces point (fs ++ c ∷ t)) (strange fs c t s p)) (and-false (digits_only ds)))

-- ---- what the end of the first digits tells

pub some-long : (w : List ℕ) → (length w ≡ 0 → ⊥) → some w ≡ true
some-long [] h = absurd (h refl)
some-long (c ∷ w) h = refl

module _ (w : List ℕ) {n : ℕ} (e : n ≡ run digit w) where
  pub front : Digits (take n w)
  front = rw e (run-passes digit w)

  stops : Stops digit (drop n w)
  stops = rw e (run-stops digit w)

  parts : w ≡ take n w ++ drop n w
  parts = sym (take-append-drop n w)

  pub told_none : n ≡ 0 → (decimal w).formed ≡ false
  told_none z = unformed-start w (rw z at stops)

  pub whole-digits : n ≡ length w → Digits w
  whole-digits l = rw (l, take-length w) at front

  pub told-whole : (n ≡ 0 → ⊥) → n ≡ length w → decimal w ≡ spelt w []
  told-whole z l = decimal-digits w (some-long w (λ k. z (l ∙ k))) (whole-digits l)

  module _ (h : n < length w) where
    rest-is : drop n w ≡ get_or w n 0 ∷ drop (n + 1) w
    rest-is = rw add-one (drop-cons w n 0 h)

    other : digit (get_or w n 0) ≡ false
    other = rw rest-is at stops

    pub told-strange : (get_or w n 0 ≡ 46 → ⊥) → (decimal w).formed ≡ false
    told-strange z = rw (parts, rest-is) (unformed-strange (take n w) (get_or w n 0) (drop (n + 1) w) other (ne_eqb (get_or w n 0) 46 z))

    -- with a point there
    module _ (p : get_or w n 0 ≡ 46) where
      told-parts : w ≡ take n w ++ 46 ∷ drop (n + 1) w
      told-parts = parts ∙ ap (λ (l : List ℕ). take n w ++ l) (rest-is ∙ ap (λ (c : ℕ). c ∷ drop (n + 1) w) p)

      module _ {rest : List ℕ} (f : rest ≡ drop (n + 1) w) where
        pub told-point : w ≡ take n w ++ 46 ∷ rest
        told-point = told-parts ∙ ap (λ (l : List ℕ). take n w ++ 46 ∷ l) (sym f)

        pub told_bare : length rest ≡ 0 → (decimal w).formed ≡ false
        told_bare l = ap (λ (x : List ℕ). (decimal x).formed) (told-point ∙ ap (λ (l : List ℕ). take n w ++ 46 ∷ l) (nothing rest l)) ∙ unformed_bare (take n w) front
          where
            nothing : (s : List ℕ) → length s ≡ 0 → s ≡ []
            nothing [] l = refl
            nothing (c ∷ s) l = absurd (omega arith)

        pub told-other : all digit rest ≡ false → (decimal w).formed ≡ false
        told-other z =
            let r = run digit rest in
            let d : Digits (take r rest) = run-passes digit rest in
            let whole : length rest ≡ length (take r rest) → ⊥ = λ k. clash (all_digits rest (rw (take_all r rest (omega (arith, k, length-take-le r rest (run-within digit rest)))) at d)) z in
            ap (λ (x : List ℕ). (decimal x).formed) told-point ∙ unformed-rest (take n w) rest (take r rest) (drop r rest) front (sym (take-append-drop r rest)) d (run-stops digit rest) whole

        pub told-parted : (n ≡ 0 → ⊥) → (length rest ≡ 0 → ⊥) → Digits rest → decimal w ≡ spelt (take n w) rest
        told-parted z y d =
            let some-front : some (take n w) ≡ true = some-long (take n w) (λ k. z (omega (arith, length-take-le n w (omega arith)))) in
            ap decimal told-point ∙ decimal-parted (take n w) rest some-front front (some-long rest y) d
