-- The words of a row, one behind the other: what the next word is, and what is left behind it.
use Prim.Native.Nat.{ℕ, zero, suc, ◌+◌, ◌-◌, ◌≤◌, ◌<◌}
use native.Mathlib.Nat.{add-zero}
use native.Mathlib.Omega.{arith}
use mathlib.Core.Bool.{Bool, true, false, cond}
use mathlib.Core.Path.{◌≡◌, refl, sym, ap, ◌∙◌}
use mathlib.Core.List.{List, [], ◌∷◌, ◌++◌, append-nil}
use lib.ListN.{length, get_or, take, drop, take-append-drop, length-drop}
use lib.Seq.{drop-drop, get_or-drop, get_or-take, length-take-le}
use borrow.Author.Tests.{not-true, not-false}
use Rattle.rules.specs.Lists.{Every, filter}
use Rattle.rules.proofs.Lists.{every-at}
use Rattle.gencost.specs.Row.{blank, onto, pieces, some, words, word}
use Rattle.gencost.specs.Clauses.{other, run, first_word, behind_word, last, Behind}
use Rattle.gencost.proofs.Runs.{Stops, run-passes, run-stops, run-within}
use Rattle.gencost.proofs.Grammar.{pieces-one, pieces-parted}

others_no_blank : (w : List ℕ) → Every (λ c. other c ≡ true) w → Every (λ c. blank c ≡ false) w
others_no_blank [] h = tt
others_no_blank (c ∷ w) h = (not-true (blank c) h.0, others_no_blank w h.1)

-- ---- words of a text by its start

pub words-blanks : (g t : List ℕ) → Every (λ c. blank c ≡ true) g → words (g ++ t) ≡ words t
unfolding words
words-blanks [] t h = refl
words-blanks (c ∷ g) t h = rw h.0 (words-blanks g t h.1)

pub words-first : (w t : List ℕ) → some w ≡ true → Every (λ c. other c ≡ true) w → Stops other t → words (w ++ t) ≡ w ∷ words t
unfolding words
words-first w [] s h e = rw (append-nil, pieces-one blank w (others_no_blank w h), s)
words-first w (c ∷ t) s h e =
    let b : blank c ≡ true = not-false (blank c) e in
    rw (pieces-parted blank w c t (others_no_blank w h) b, s, b)

pub words-none : (s : List ℕ) → Stops blank s → Stops other s → words s ≡ []
unfolding words
words-none [] h e = refl
words-none (c ∷ s) h e = absurd (let z : ◌≡◌ {A = ℕ} 0 1 = cc (not-false (blank c) e) in omega arith)

pub words-nothing : (s : List ℕ) → length s ≡ 0 → words s ≡ []
unfolding words
words-nothing [] h = refl
words-nothing (c ∷ s) h = absurd (omega arith)

-- a text without a word is of blanks
never : (c : ℕ) (ps : List (List ℕ)) → filter some (onto c ps) ≡ [] → ⊥
never c [] k = let z : ◌≡◌ {A = ℕ} 0 1 = cc in omega arith
never c (p ∷ ps) k = let z : ◌≡◌ {A = ℕ} 0 1 = cc in omega arith

words-empty : (c : ℕ) (s : List ℕ) → words (c ∷ s) ≡ [] → (blank c ≡ true) × (words s ≡ [])
unfolding words
words-empty c s e = pick (blank c) refl e
  where
    pick : (b : Bool) → blank c ≡ b → filter some (cond b ([] ∷ pieces blank s) (onto c (pieces blank s))) ≡ [] → (blank c ≡ true) × (filter some (pieces blank s) ≡ [])
    pick true f k = (f, k)
    pick false f k = absurd (never c (pieces blank s) k)

pub blank-at : (s : List ℕ) (n : ℕ) → n < length s → words s ≡ [] → blank (get_or s n 32) ≡ true
blank-at [] n h e = absurd (omega arith)
blank-at (c ∷ s) zero h e = (words-empty c s e).0
blank-at (c ∷ s) (suc n) h e = blank-at s n (omega arith) (words-empty c s e).1

-- ---- the next word

pub positive : (w : List ℕ) → some w ≡ true → 0 < length w
positive [] f = absurd (let z : ◌≡◌ {A = ℕ} 0 1 = cc in omega arith)
positive (c ∷ w) f = omega arith

last-drop : (n : ℕ) (s : List ℕ) → 0 < length (drop n s) → last (drop n s) ≡ last s
last-drop n s h =
    let place : n + (length (drop n s) - 1) ≡ length s - 1 = omega (arith, length-drop n s) in
    get_or-drop n s (length (drop n s) - 1) 32 ∙ ap (λ (k : ℕ). get_or s k 32) place

module _ (row : List ℕ) where
  abbrev left : List ℕ
  left = drop (run blank row) row

  abbrev reach : ℕ
  reach = run other left

  skipped : words row ≡ words left
  skipped = let b = run blank row in ap words (sym (take-append-drop b row)) ∙ words-blanks (take b row) left (run-passes blank row)

  -- it is the first of the words, and the others are behind it
  pub next-some : some (first_word row) ≡ true → words row ≡ first_word row ∷ words (behind_word row)
  unfolding first_word behind_word
  next-some s = skipped ∙ ap words (sym (take-append-drop reach left)) ∙ words-first (take reach left) (drop reach left) s (run-passes other left) (run-stops other left)

  -- or there is none
  pub next-none : some (first_word row) ≡ false → words row ≡ []
  unfolding first_word
  next-none e =
      let z : reach ≡ 0 = omega (arith, length-take-le reach left (run-within other left), none (take reach left) e) in
      skipped ∙ words-none left (run-stops blank row) (rw z at (run-stops other left))
    where
      none : (w : List ℕ) → some w ≡ false → length w ≡ 0
      none [] f = refl
      none (c ∷ w) f = absurd (let z : ◌≡◌ {A = ℕ} 0 1 = cc in omega arith)

  reach-positive : some (first_word row) ≡ true → 0 < reach
  unfolding first_word
  reach-positive s = omega (arith, length-take-le reach left (run-within other left), positive (take reach left) s)

  pub some-length : some (first_word row) ≡ true → 0 < length row
  some-length s = omega (arith, reach-positive s, run-within other left, length-drop (run blank row) row)

  pub behind-length : length (behind_word row) ≤ length row
  unfolding behind_word
  behind-length = omega (arith, length-drop reach left, length-drop (run blank row) row)

  -- what stands behind it ends as the row does
  pub behind-last : 0 < length (behind_word row) → last (behind_word row) ≡ last row
  unfolding behind_word
  behind-last h = last-drop reach left h ∙ last-drop (run blank row) row (omega (arith, h, length-drop reach left))

  -- if nothing does, the last character is no blank
  pub solid-end : some (first_word row) ≡ true → length (behind_word row) ≡ 0 → blank (last row) ≡ false
  unfolding behind_word
  solid-end s z =
      let one : 0 < reach = reach-positive s in
      let all : reach ≡ length left = omega (arith, z, length-drop reach left, run-within other left) in
      let here : get_or (take reach left) (reach - 1) 32 ≡ last row = get_or-take reach left (reach - 1) 32 (omega arith) ∙ ap (λ (k : ℕ). get_or left (k - 1) 32) all ∙ last-drop (run blank row) row (omega arith) in
      not-true (blank (last row)) (rw here at (every-at (λ c. other c ≡ true) (take reach left) (reach - 1) 32 (run-passes other left) (omega (arith, length-take-le reach left (run-within other left)))))

-- ---- the word of a number, and what is behind it

module _ (row : List ℕ) where
  pub behind-none : Behind row 0 row
  behind-none = record { count = omega arith; words = refl; ending = λ h. refl }

  module _ {k : ℕ} {rest : List ℕ} (b : Behind row k rest) where
    pub behind-word : word row k ≡ first_word rest
    behind-word =
        let first : word row k ≡ get_or (words rest) 0 [] = ap (λ (j : ℕ). get_or (words row) j []) (sym (add-zero k)) ∙ sym (get_or-drop k (words row) 0 []) ∙ ap (λ (ws : List (List ℕ)). get_or ws 0 []) b.words in
        first ∙ pick (first_word rest) refl
      where
        pick : (w : List ℕ) → first_word rest ≡ w → get_or (words rest) 0 [] ≡ first_word rest
        pick [] e = ap (λ (ws : List (List ℕ)). get_or ws 0 []) (next-none rest (ap some e)) ∙ sym e
        pick (c ∷ w) e = ap (λ (ws : List (List ℕ)). get_or ws 0 []) (next-some rest (ap some e))

    pub behind-next : some (first_word rest) ≡ true → Behind row (k + 1) (behind_word rest)
    behind-next s =
        let e : drop k (words row) ≡ first_word rest ∷ words (behind_word rest) = b.words ∙ next-some rest s in
        record {
          count = omega (arith, ap length e, length-drop k (words row));
          words = sym (drop-drop 1 k (words row)) ∙ ap (drop 1) e;
          ending = λ h. behind-last rest h ∙ b.ending (omega (arith, h, behind-length rest));
        }

    pub behind-solid : some (first_word rest) ≡ true → length (behind_word rest) ≡ 0 → blank (last row) ≡ false
    behind-solid s z = ap blank (sym (b.ending (some-length rest s))) ∙ solid-end rest s z
