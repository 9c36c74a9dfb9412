-- A row by where its reading ends.
use Prim.Native.Nat.{ℕ, ◌-◌, ◌≤◌, ◌<◌}
use native.Mathlib.Omega.{arith}
use mathlib.Core.Bool.{Bool, true, false, cond, not, ◌&&◌, ◌||◌, or-true, and-false}
use mathlib.Core.Path.{◌≡◌, refl, sym, ap, ◌∙◌}
use mathlib.Core.List.{List, [], ◌∷◌}
use lib.Dec.{ltb, eqb}
use lib.ListN.{length, get_or, length-drop, get_or-eq_default}
use borrow.Author.Tests.{eqb-true, eqb-false, lt-ltb, le-ltb, eq-eqb, ne_eqb}
use Rattle.rules.specs.Refusal.{◌refuses◌, ◌then◌}
use Rattle.rules.specs.declared.Refusal.{Refusal}
use Rattle.rules.specs.declared.Refusal.TheVariants.{GencostMalformed, GencostNotWhole, GencostAboveLimit}
use Rattle.std.specs.Prelude.{Option, Some, None, Result, Ok, Err}
use Rattle.std.specs.Option.{ok_or}
use Rattle.std.specs.Bool.{then_some}
use Rattle.gencost.specs.declared.Coefficients.{Coefficients}
use Rattle.gencost.specs.declared.Number.{Number}
use Rattle.gencost.specs.Row.{blank, words, tight, word, number, headed, malformed, Decimal, decimal, whole, scaled, Answer, ended, given, gencost_read}
use Rattle.gencost.specs.Clauses.{first_word, last, Behind, HeadEnd, NumberFirst, valued, parsed, judged}
use Rattle.gencost.proofs.Numbers.{held-over}
use Rattle.gencost.proofs.Words.{words-nothing, blank-at}
use Rattle.gencost.proofs.Taking.{Took, took, took-none}

-- ---- what the numbers give

accepted : (w a b c : Bool) (x y z x' y' z' : ℕ) → ended (w refuses GencostNotWhole then (a || b || c) refuses GencostAboveLimit) (Ok (record { c2 = cond a x' x; c1 = cond b y' y; c0 = cond c z' z })) ≡ ended (w refuses GencostNotWhole then (a || b || c) refuses GencostAboveLimit) (Ok (record { c2 = x; c1 = y; c0 = z }))
accepted true a b c x y z x' y' z' = refl
accepted false true b c x y z x' y' z' = refl
accepted false false true c x y z x' y' z' = refl
accepted false false false true x y z x' y' z' = refl
accepted false false false false x y z x' y' z' = refl

-- the numbers that a row spells, each up to one above its limit
abbrev pub spelled : Decimal → Decimal → Decimal → Coefficients
spelled s l c = record { square = valued 4 1000 s; linear = valued 5 10000000 l; constant = valued 6 1000000000 c }

pub judged-given : (s l c : Decimal) → judged (spelled s l c) ≡ given s l c
unfolding judged valued given
judged-given s l c =
    rw (held-over 1000 (scaled 10000 s), held-over 10000000 (scaled 100000 l), held-over 1000000000 (scaled 1000000 c))
    (accepted (not (whole 10000 s && whole 100000 l && whole 1000000 c)) (ltb 1000 (scaled 10000 s)) (ltb 10000000 (scaled 100000 l)) (ltb 1000000000 (scaled 1000000 c)) (scaled 10000 s) (scaled 100000 l) (scaled 1000000 c) 1001 10000001 1000000001)

-- ---- malformed rows

module _ (row : List ℕ) where
  pub refused : malformed row ≡ true → Err GencostMalformed ≡ gencost_read row
  unfolding gencost_read
  refused e = rw e

  pub too_long : 256 < length row → malformed row ≡ true
  unfolding malformed
  too_long h = rw (lt-ltb 256 (length row) h)

  pub not-tight : tight row ≡ false → malformed row ≡ true
  unfolding malformed
  not-tight e = rw (e, or-true (ltb 256 (length row)))

  pub not-seven : (length (words row) ≡ 7 → ⊥) → malformed row ≡ true
  unfolding malformed
  not-seven h = rw (ne_eqb (length (words row)) 7 h, or-true (ltb 256 (length row) || not (tight row)))

  pub other_word : (headed row && number row 4 && number row 5 && number row 6) ≡ false → malformed row ≡ true
  unfolding malformed
  other_word e = rw e (or-true (ltb 256 (length row) || not (tight row) || not (eqb (length (words row)) 7)))

  -- the first character
  pub empty : length row ≡ 0 → tight row ≡ false
  unfolding tight
  empty h = rw (get_or-eq_default row 32 {n = 0} (omega arith))

  first_any : 0 < length row → get_or row 0 32 ≡ get_or row 0 0
  first_any h = pick row h
    where
      pick : (s : List ℕ) → 0 < length s → get_or s 0 32 ≡ get_or s 0 0
      pick [] h = absurd (omega arith)
      pick (c ∷ s) h = refl

  pub blank-first : 0 < length row → blank (get_or row 0 0) ≡ true → tight row ≡ false
  unfolding tight
  blank-first h e = rw (first_any h, e)

  -- the last one
  pub blank-last : blank (last row) ≡ true → tight row ≡ false
  unfolding tight
  blank-last e = rw e (and-false (not (blank (get_or row 0 32))))

  pub not-ended : {rest : List ℕ} → Behind row 7 rest → (length rest ≡ 0 → ⊥) → malformed row ≡ true
  not-ended {rest} b z = pick (words rest) refl
    where
      pick : (ws : List (List ℕ)) → words rest ≡ ws → malformed row ≡ true
      pick [] e =
          let some : 0 < length rest = omega arith in
          not-tight (blank-last (ap blank (sym (b.ending some)) ∙ blank-at rest (length rest - 1) (omega arith) e))
      pick (w ∷ ws) e = not-seven (λ s. omega (arith, length-drop 7 (words row), ap length (b.words ∙ e)))

  -- ---- a row of the form

  pub formed : length row ≤ 256 → 0 < length row → blank (get_or row 0 0) ≡ false → headed row ≡ true → number row 4 ≡ true → number row 5 ≡ true → number row 6 ≡ true → {rest : List ℕ} → Behind row 7 rest → length rest ≡ 0 → blank (last row) ≡ false → malformed row ≡ false
  unfolding malformed tight
  formed short some solid head square linear constant {rest} b e z =
      let none : words rest ≡ [] = words-nothing rest e in
      let seven : length (words row) ≡ 7 = omega (arith, b.count, length-drop 7 (words row), ap length (b.words ∙ none)) in
      rw (le-ltb 256 (length row) short, first_any some, solid, z, eq-eqb (length (words row)) 7 seven, head, square, linear, constant)

  pub read-given : malformed row ≡ false → gencost_read row ≡ given (decimal (word row 4)) (decimal (word row 5)) (decimal (word row 6))
  unfolding gencost_read
  read-given e = rw e

  -- ---- what `parsed` gives

  not-parsed : malformed row ≡ true → None ≡ parsed row
  unfolding parsed
  not-parsed e = rw e

  pub parsed-short : 256 < length row → None ≡ parsed row
  parsed-short h = not-parsed (too_long h)

  pub parsed-empty : length row ≡ 0 → None ≡ parsed row
  parsed-empty h = not-parsed (not-tight (empty h))

  pub parsed-blank : (length row ≡ 0 → ⊥) → blank (get_or row 0 0) ≡ true → None ≡ parsed row
  parsed-blank h e = not-parsed (not-tight (blank-first (omega arith) e))

  pub parsed-no-head : headed row ≡ false → None ≡ parsed row
  parsed-no-head e = not-parsed (other_word (rw e))

  module _ {head : List ℕ} (e : HeadEnd row head) where
    pub parsed-no-square : (decimal (first_word head)).formed ≡ false → None ≡ parsed row
    parsed-no-square f = not-parsed (other_word (rw (e.headed, took-none row e.behind f)))

    module _ {square : Number} {fourth : List ℕ} (f : NumberFirst 4 1000 head square fourth) where
      s : Took row 4 4 1000 square fourth
      s = took row e.behind f

      pub parsed-no-linear : (decimal (first_word fourth)).formed ≡ false → None ≡ parsed row
      parsed-no-linear g = not-parsed (other_word (rw (e.headed, s.formed, took-none row s.behind g)))

      module _ {linear : Number} {fifth : List ℕ} (g : NumberFirst 5 10000000 fourth linear fifth) where
        l : Took row 5 5 10000000 linear fifth
        l = took row s.behind g

        pub parsed-no-constant : (decimal (first_word fifth)).formed ≡ false → None ≡ parsed row
        parsed-no-constant h = not-parsed (other_word (rw (e.headed, s.formed, l.formed, took-none row l.behind h)))

        module _ {constant : Number} {rest : List ℕ} (h : NumberFirst 6 1000000000 fifth constant rest) where
          c : Took row 6 6 1000000000 constant rest
          c = took row l.behind h

          abbrev numbers : Coefficients
          numbers = record { square = square; linear = linear; constant = constant }

          pub parsed-ends : length row ≤ 256 → (length row ≡ 0 → ⊥) → blank (get_or row 0 0) ≡ false → {ended : Bool} → ended ≡ eqb (length rest) 0 → then_some ended numbers ≡ parsed row
          unfolding parsed
          parsed-ends short some solid z = rw z (pick (eqb (length rest) 0) refl)
            where
              whole-form : length rest ≡ 0 → malformed row ≡ false
              whole-form end = formed short (omega arith) solid e.headed s.formed l.formed c.formed c.behind end (c.solid end)

              all : length rest ≡ 0 → Some numbers ≡ parsed row
              all end = rw (whole-form end, s.value, l.value, c.value)

              pick : (b : Bool) → eqb (length rest) 0 ≡ b → then_some b numbers ≡ parsed row
              pick true z = all (eqb-true (length rest) 0 z)
              pick false z = not-parsed (not-ended c.behind (eqb-false (length rest) 0 z))

  -- ---- what `read` gives

  read-malformed : None ≡ parsed row → Err GencostMalformed ≡ gencost_read row
  unfolding parsed gencost_read
  read-malformed e = pick (malformed row) _ _ e
    where
      pick : (b : Bool) (n : Coefficients) (a : Answer) → None ≡ cond b None (Some n) → Err GencostMalformed ≡ ended (b refuses GencostMalformed) a
      pick true n a z = refl
      pick false n a z = absurd (let y : ◌≡◌ {A = ℕ} 0 1 = cc in omega arith)

  pub read-refused : (o : Option Coefficients) {e : Refusal} → o ≡ parsed row → o ≡ None → ◌≡◌ {A = Result Coefficients Refusal} (Err e) (ok_or o GencostMalformed) → ◌≡◌ {A = Answer} (Err e) (gencost_read row)
  read-refused None {e} p z v = let k : e ≡ GencostMalformed = cc in rw k (read-malformed p)
  read-refused (Some n) p z v = absurd (let y : ◌≡◌ {A = ℕ} 0 1 = cc in omega arith)

  pub read-parsed : {n : Coefficients} → Some n ≡ parsed row → judged n ≡ gencost_read row
  unfolding parsed gencost_read
  read-parsed {n} e = pick (malformed row) _ e ∙ ap (ended (malformed row refuses GencostMalformed)) (judged-given (decimal (word row 4)) (decimal (word row 5)) (decimal (word row 6)))
    where
      pick : (b : Bool) (m : Coefficients) → Some n ≡ cond b None (Some m) → judged n ≡ ended (b refuses GencostMalformed) (judged m)
      pick true m z = absurd (let y : ◌≡◌ {A = ℕ} 0 1 = cc in omega arith)
      pick false m z = let k : n ≡ m = cc in ap judged k
