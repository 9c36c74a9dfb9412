-- The form of a row as a relation: words with gaps between them are the words of the row, and a tight row is made in that way; a word is well formed where it is a numeral.
use Prim.Native.Nat.{ℕ, suc, ◌+◌, ◌-◌, ◌<◌}
use native.Mathlib.Omega.{arith}
use mathlib.Core.Bool.{Bool, true, false, not, and-eq-true_iff}
use mathlib.Core.Path.{◌≡◌, refl, sym, ap, ◌∙◌, subst⁻¹}
use mathlib.Core.List.{List, [], ◌∷◌, ◌++◌, append-nil, append_assoc}
use lib.Dec.{eqb}
use lib.ListN.{length, get_or, take, drop, length-append}
use lib.Seq.{get_or-append-add, length-take-le}
use borrow.Author.Tests.{eqb-true, eqb-false, not-true}
use Rattle.rules.specs.Lists.{all, Every, filter}
use Rattle.rules.proofs.Lists.{every-at, all-every}
use Rattle.gencost.specs.Row.{blank, digit, onto, pieces, some, words, tight, decimal}
use Rattle.gencost.specs.Clauses.{other, run}
use Rattle.gencost.specs.Claims.{Word, Gap, Spaced, final, before, Numeral, plain, pointed}
use Rattle.gencost.proofs.Grammar.{clash, decimal-digits, decimal-parted, front, told_none, whole-digits, told-strange, told-point, told_bare, told-other, some-long}
use Rattle.gencost.proofs.Runs.{Stops, run-within}
use Rattle.gencost.proofs.Words.{positive, words-nothing, words-blanks, words-first}

-- ---- words with gaps between them

others : (w : List ℕ) → Every (λ c. blank c ≡ false) w → Every (λ c. other c ≡ true) w
others [] h = tt
others (c ∷ w) h = (rw h.0, others w h.1)

gap-stops : (g t : List ℕ) → Gap g → Stops other (g ++ t)
gap-stops [] t h = clash h.0 refl
gap-stops (c ∷ g) t h = rw h.1.0

pub spaced-words : (ws : List (List ℕ)) (row : List ℕ) → Spaced ws row → words row ≡ ws
spaced-words ws row (final w h) = ap words (sym (append-nil w)) ∙ words-first w [] h.0 (others w h.1) tt ∙ ap (λ (x : List (List ℕ)). w ∷ x) (words-nothing [] refl)
spaced-words ws row (before w g t {ws = vs} h k s) =
    words-first w (g ++ t) h.0 (others w h.1) (gap-stops g t k) ∙ ap (λ (x : List (List ℕ)). w ∷ x) (words-blanks g t k.1 ∙ spaced-words vs t s)

-- the first and the last character of such a text

first-solid : (w t : List ℕ) → Word w → blank (get_or (w ++ t) 0 32) ≡ false
first-solid [] t h = clash h.0 refl
first-solid (c ∷ w) t h = h.1.0

last-solid : (ws : List (List ℕ)) (row : List ℕ) → Spaced ws row → (0 < length row) × (blank (get_or row (length row - 1) 32) ≡ false)
last-solid ws row (final w h) = let p = positive w h.0 in (p, every-at (λ c. blank c ≡ false) w (length w - 1) 32 h.1 (omega arith))
last-solid ws row (before w g t {ws = vs} h k s) =
    let e = last-solid vs t s in
    let long : length (w ++ (g ++ t)) ≡ length (w ++ g) + length t = ap length (sym (append_assoc w g t)) ∙ length-append (w ++ g) t in
    let place : length (w ++ (g ++ t)) - 1 ≡ length (w ++ g) + (length t - 1) = omega (arith, long, e.0) in
    let here : get_or (w ++ (g ++ t)) (length (w ++ (g ++ t)) - 1) 32 ≡ get_or t (length t - 1) 32 = ap (λ (n : ℕ). get_or (w ++ (g ++ t)) n 32) place ∙ ap (λ (l : List ℕ). get_or l (length (w ++ g) + (length t - 1)) 32) (sym (append_assoc w g t)) ∙ get_or-append-add (w ++ g) t (length t - 1) 32 in
    (omega (arith, long, e.0), ap blank here ∙ e.1)

first-spaced : (ws : List (List ℕ)) (row : List ℕ) → Spaced ws row → blank (get_or row 0 32) ≡ false
first-spaced ws row (final w h) = ap (λ (l : List ℕ). blank (get_or l 0 32)) (sym (append-nil w)) ∙ first-solid w [] h
first-spaced ws row (before w g t h k s) = first-solid w (g ++ t) h

pub spaced-tight : (ws : List (List ℕ)) (row : List ℕ) → Spaced ws row → tight row ≡ true
unfolding tight
spaced-tight ws row s = rw (first-spaced ws row s, (last-solid ws row s).1)

-- ---- a tight row is of that kind

-- a text that starts with a blank
record Parted (s : List ℕ) : Type 0 where
  gap : List ℕ
  rest : List ℕ
  whole : s ≡ gap ++ rest
  blanks : Gap gap
  spaced : Spaced (words s) rest

-- one character more before the first word
longer : (c : ℕ) (ws : List (List ℕ)) (row : List ℕ) → blank c ≡ false → Spaced ws row → Spaced (onto c ws) (c ∷ row)
longer c ws row e (final w h) = final (c ∷ w) (refl, (e, h.1))
longer c ws row e (before w g t h k s) = before (c ∷ w) g t (refl, (e, h.1)) k s

onto-twice : (c d : ℕ) (ps : List (List ℕ)) → filter some (onto c (onto d ps)) ≡ onto c (filter some (onto d ps))
onto-twice c d [] = refl
onto-twice c d (p ∷ ps) = refl

words-longer : (c d : ℕ) (s : List ℕ) → blank c ≡ false → blank d ≡ false → words (c ∷ d ∷ s) ≡ onto c (words (d ∷ s))
unfolding words
words-longer c d s e f = rw (e, f) (onto-twice c d (pieces blank s))

words-alone : (c : ℕ) → blank c ≡ false → words (c ∷ []) ≡ (c ∷ []) ∷ []
unfolding words
words-alone c e = rw e

alone : (c : ℕ) → blank c ≡ false → Word (c ∷ [])
alone c e = (refl, (e, tt))

made : (c : ℕ) (s : List ℕ) → blank (get_or (c ∷ s) (length s) 32) ≡ false → (blank c ≡ false → Spaced (words (c ∷ s)) (c ∷ s)) × (blank c ≡ true → Parted (c ∷ s))
made c [] h = (λ e. subst⁻¹ (λ (ws : List (List ℕ)). Spaced ws (c ∷ [])) (words-alone c e) (final (c ∷ []) (alone c e)), λ e. clash e h)
made c (d ∷ s) h = (solid (blank d) refl (made d s h), gapped (blank d) refl (made d s h))
  where
    solid : (b : Bool) → blank d ≡ b → (blank d ≡ false → Spaced (words (d ∷ s)) (d ∷ s)) × (blank d ≡ true → Parted (d ∷ s)) → blank c ≡ false → Spaced (words (c ∷ d ∷ s)) (c ∷ d ∷ s)
    solid false f r e = subst⁻¹ (λ (ws : List (List ℕ)). Spaced ws (c ∷ d ∷ s)) (words-longer c d s e f) (longer c (words (d ∷ s)) (d ∷ s) e (r.0 f))
    solid true f r e =
        let p = r.1 f in
        let first : words (c ∷ d ∷ s) ≡ (c ∷ []) ∷ words (d ∷ s) = words-first (c ∷ []) (d ∷ s) refl (others (c ∷ []) (e, tt)) (rw f) in
        subst⁻¹ (λ (ws : List (List ℕ)). Spaced ws (c ∷ d ∷ s)) first
        (subst⁻¹ (λ (l : List ℕ). Spaced ((c ∷ []) ∷ words (d ∷ s)) (c ∷ l)) p.whole (before (c ∷ []) p.gap p.rest (alone c e) p.blanks p.spaced))

    gapped : (b : Bool) → blank d ≡ b → (blank d ≡ false → Spaced (words (d ∷ s)) (d ∷ s)) × (blank d ≡ true → Parted (d ∷ s)) → blank c ≡ true → Parted (c ∷ d ∷ s)
    gapped false f r e = record { gap = c ∷ []; rest = d ∷ s; whole = refl; blanks = (refl, (e, tt)); spaced = subst⁻¹ (λ (ws : List (List ℕ)). Spaced ws (d ∷ s)) (words-blanks (c ∷ []) (d ∷ s) (e, tt)) (r.0 f) }
    gapped true f r e =
        let p = r.1 f in
        record { gap = c ∷ p.gap; rest = p.rest; whole = ap (λ (l : List ℕ). c ∷ l) p.whole; blanks = (refl, (e, p.blanks.1)); spaced = subst⁻¹ (λ (ws : List (List ℕ)). Spaced ws p.rest) (words-blanks (c ∷ []) (d ∷ s) (e, tt)) p.spaced }

pub tight-spaced : (row : List ℕ) → tight row ≡ true → Spaced (words row) row
unfolding tight
tight-spaced [] e = clash e refl
tight-spaced (c ∷ s) e =
    let b = (and-eq-true_iff (not (blank c)) (not (blank (get_or (c ∷ s) (suc (length s) - 1) 32)))).0 e in
    let n : suc (length s) - 1 ≡ length s = omega arith in
    (made c s (ap (λ (k : ℕ). blank (get_or (c ∷ s) k 32)) (sym n) ∙ not-true (blank (get_or (c ∷ s) (suc (length s) - 1) 32)) b.1)).0 (not-true (blank c) b.0)

-- ---- numerals

decide : {P : Type 0} (a b : ℕ) → (a ≡ b → P) → ((a ≡ b → ⊥) → P) → P
decide {P} a b y n = pick (eqb a b) refl
  where
    pick : (t : Bool) → eqb a b ≡ t → P
    pick true e = y (eqb-true a b e)
    pick false e = n (eqb-false a b e)

pub numeral-formed : (w : List ℕ) → Numeral w → (decimal w).formed ≡ true
numeral-formed w (plain ds h) = ap (λ d. d.formed) (decimal-digits ds h.0 h.1)
numeral-formed w (pointed ds fs h k) = ap (λ d. d.formed) (decimal-parted ds fs h.0 h.1 k.0 k.1)

pub formed-numeral : (w : List ℕ) → (decimal w).formed ≡ true → Numeral w
formed-numeral w f =
    decide n 0
    (λ z. clash f (told_none w e z))
    (λ z. decide n (length w)
    (λ l. plain w (some-long w (λ k. z (l ∙ k)), whole-digits w e l))
    (λ l. let h : n < length w = omega (arith, run-within digit w) in
    decide (get_or w n 0) 46
    (λ p. decide (length rest) 0
    (λ y. clash f (told_bare w e h p refl y))
    (λ y. pointed-by z h p y (all digit rest) refl))
    (λ p. clash f (told-strange w e h p))))
  where
    n : ℕ
    n = run digit w

    e : n ≡ run digit w
    e = refl

    rest : List ℕ
    rest = drop (n + 1) w

    pointed-by : (n ≡ 0 → ⊥) → n < length w → get_or w n 0 ≡ 46 → (length rest ≡ 0 → ⊥) → (b : Bool) → all digit rest ≡ b → Numeral w
    pointed-by z h p y false a = clash f (told-other w e h p refl a)
    pointed-by z h p y true a = subst⁻¹ Numeral (told-point w e h p refl) (pointed (take n w) rest (some-long (take n w) (λ k. z (omega (arith, length-take-le n w (omega arith)))), front w e) (some-long rest y, (all-every digit rest).0 a))
