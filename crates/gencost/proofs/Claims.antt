-- What holds of every row (`specs/Claims`): what is read is exact and within the limits of a unit's coefficients; 26 is given exactly where the row is not of the form; rows of the same words have one answer; and all coefficients have a row.
use Prim.Native.Nat.{ℕ, suc, ◌+◌, ◌-◌, ◌*◌, ◌/◌, ◌%◌, ◌^◌, ◌≤◌, ◌<◌}
use native.Mathlib.Omega.{arith}
use mathlib.Core.Bool.{Bool, true, false, not, ◌&&◌, ◌||◌, and-eq-true_iff}
use mathlib.Core.Path.{◌≡◌, refl, sym, ap, ap₂, ◌∙◌, subst}
use mathlib.Core.List.{List, [], ◌∷◌, ◌++◌, append_assoc, append-nil}
use lib.Dec.{ltb, eqb}
use lib.ListN.{length, get_or, take, drop, length-append, length-replicate, take-append-drop, length-drop}
use lib.Pow.{pow-add}
use lib.Seq.{length-take-le}
use borrow.Author.Tests.{ne_eqb, ltb-false, le-ltb, eq-eqb, eqb-true, not-false}
use Rattle.rules.specs.Refusal.{◌refuses◌, ◌then◌}
use Rattle.rules.specs.Lists.{each, Every}
use Rattle.rules.proofs.Lists.{each_get_or}
use Rattle.rules.specs.declared.Refusal.TheVariants.{GencostMalformed, GencostNotWhole, GencostAboveLimit}
use Rattle.std.specs.Prelude.{Ok, Err}
use Rattle.gencost.specs.declared.Costs.{Costs}
use Rattle.gencost.specs.Row.{blank, digit, some, words, tight, only, word, number, headed, malformed, number_after, Decimal, decimal, whole, scaled, ended, given, gencost_read}
use Rattle.gencost.specs.Clauses.{Digits}
use Rattle.gencost.specs.Claims.{Exact, ReadExactly, NeverEight, Word, Gap, Spaced, before, final, Spelled, Numeral, plain, pointed, Form, MalformedExactly, Alike, SameWords, WordsAreThose, OneAnswer, zeros, ZerosBefore, ZerosBehind, PointBehind, digits_of, decimal_of, row_of, EachHasARow}
use Rattle.gencost.proofs.Forms.{spaced-words, spaced-tight, tight-spaced, numeral-formed, formed-numeral}
use Rattle.gencost.proofs.Grammar.{clash, decimal-digits, decimal-parted, some-long}
use Rattle.gencost.proofs.Numbers.{digit-range, after_append, every_take, every_drop}
use Rattle.gencost.proofs.Placing.{few-whole, few-result}
use Rattle.rules.proofs.Verdicts.{or_false}
use Rattle.gencost.proofs.Reading.{refused, read-given}
use Rattle.gencost.proofs.Values.{exact, same-scaled, same_whole, every_append, zeros-digits, zeros-before, zeros-behind, length-digits_of, digits-digits_of, spelt-digits_of}

-- ---- rows that are read

record Passed (w a b c : Bool) (x y z c2 c1 c0 : ℕ) : Type 0 where
  whole : w ≡ false
  square : (a ≡ false) × (x ≡ c2)
  linear : (b ≡ false) × (y ≡ c1)
  constant : (c ≡ false) × (z ≡ c0)

passed : (w a b c : Bool) (x y z c2 c1 c0 : ℕ) → ended (w refuses GencostNotWhole then (a || b || c) refuses GencostAboveLimit) (Ok (record { c2 = x; c1 = y; c0 = z })) ≡ Ok (record { c2 = c2; c1 = c1; c0 = c0 }) → Passed w a b c x y z c2 c1 c0
passed true a b c x y z c2 c1 c0 e = absurd (let z : ◌≡◌ {A = ℕ} 0 1 = cc in omega arith)
passed false true b c x y z c2 c1 c0 e = absurd (let z : ◌≡◌ {A = ℕ} 0 1 = cc in omega arith)
passed false false true c x y z c2 c1 c0 e = absurd (let z : ◌≡◌ {A = ℕ} 0 1 = cc in omega arith)
passed false false false true x y z c2 c1 c0 e = absurd (let z : ◌≡◌ {A = ℕ} 0 1 = cc in omega arith)
passed false false false false x y z c2 c1 c0 e =
    let k : ◌≡◌ {A = Costs} (record { c2 = x; c1 = y; c0 = z }) (record { c2 = c2; c1 = c1; c0 = c0 }) = cc in
    record { whole = refl; square = (refl, ap (λ (r : Costs). r.c2) k); linear = (refl, ap (λ (r : Costs). r.c1) k); constant = (refl, ap (λ (r : Costs). r.c0) k) }

-- a coefficient that is read
record Coefficient (factor limit : ℕ) (d : Decimal) (result : ℕ) : Type 0 where
  exact : Exact factor d result
  within : result ≤ limit

record Coefficients (row : List ℕ) (c2 c1 c0 : ℕ) : Type 0 where
  square : Coefficient 10000 1000 (decimal (word row 4)) c2
  linear : Coefficient 100000 10000000 (decimal (word row 5)) c1
  constant : Coefficient 1000000 1000000000 (decimal (word row 6)) c0

coefficient : (factor limit : ℕ) (d : Decimal) {c : ℕ} → whole factor d ≡ true → (ltb limit (scaled factor d) ≡ false) × (scaled factor d ≡ c) → Coefficient factor limit d c
coefficient factor limit d w h = record { exact = subst (Exact factor d) h.1 (exact factor d w); within = omega (arith, ltb-false limit (scaled factor d) h.0, h.1) }

coefficients : (row : List ℕ) (c2 c1 c0 : ℕ) → gencost_read row ≡ Ok (record { c2 = c2; c1 = c1; c0 = c0 }) → Coefficients row c2 c1 c0
unfolding gencost_read given
coefficients row c2 c1 c0 e = pick (malformed row) e
  where
    pick : (b : Bool) → ended (b refuses GencostMalformed) (given (decimal (word row 4)) (decimal (word row 5)) (decimal (word row 6))) ≡ Ok (record { c2 = c2; c1 = c1; c0 = c0 }) → Coefficients row c2 c1 c0
    pick true f = absurd (let z : ◌≡◌ {A = ℕ} 0 1 = cc in omega arith)
    pick false f =
        let s = decimal (word row 4) in
        let l = decimal (word row 5) in
        let c = decimal (word row 6) in
        let p = passed (not (whole 10000 s && whole 100000 l && whole 1000000 c)) (ltb 1000 (scaled 10000 s)) (ltb 10000000 (scaled 100000 l)) (ltb 1000000000 (scaled 1000000 c)) (scaled 10000 s) (scaled 100000 l) (scaled 1000000 c) c2 c1 c0 f in
        let all = (and-eq-true_iff (whole 10000 s && whole 100000 l) (whole 1000000 c)).0 (not-false (whole 10000 s && whole 100000 l && whole 1000000 c) p.whole) in
        let two = (and-eq-true_iff (whole 10000 s) (whole 100000 l)).0 all.0 in
        record {
          square = coefficient 10000 1000 s two.0 p.square;
          linear = coefficient 100000 10000000 l two.1 p.linear;
          constant = coefficient 1000000 1000000000 c all.1 p.constant;
        }

pub read_exactly : ReadExactly gencost_read
read_exactly row c2 c1 c0 e = let r = coefficients row c2 c1 c0 e in (r.square.exact, r.linear.exact, r.constant.exact)

pub never-eight : NeverEight gencost_read
never-eight row u e =
    let r = coefficients row u.c2 u.c1 u.c0 e in
    rw (le-ltb 1000000000 u.c0 r.constant.within, le-ltb 10000000 u.c1 r.linear.within, le-ltb 1000 u.c2 r.square.within)

-- ---- the form

record Formed (row : List ℕ) : Type 0 where
  short : length row ≤ 256
  tight : tight row ≡ true
  seven : length (words row) ≡ 7
  first : only 50 (word row 0) ≡ true
  startup : number row 1 ≡ true
  shutdown : number row 2 ≡ true
  fourth : only 51 (word row 3) ≡ true
  square : number row 4 ≡ true
  linear : number row 5 ≡ true
  constant : number row 6 ≡ true

well_formed : (row : List ℕ) → malformed row ≡ false → Formed row
unfolding malformed
well_formed row e =
    let a = ltb 256 (length row) in
    let b = not (tight row) in
    let c = not (eqb (length (words row)) 7) in
    let n = number row in
    let six = headed row && n 4 && n 5 && n 6 in
    let l₁ = (or_false (a || b || c) (not six)).0 e in
    let l₂ = (or_false (a || b) c).0 l₁.0 in
    let l₃ = (or_false a b).0 l₂.0 in
    let k₁ = (and-eq-true_iff (headed row && n 4 && n 5) (n 6)).0 (not-false six l₁.1) in
    let k₂ = (and-eq-true_iff (headed row && n 4) (n 5)).0 k₁.0 in
    let k₃ = (and-eq-true_iff (headed row) (n 4)).0 k₂.0 in
    let h₁ = (and-eq-true_iff (only 50 (word row 0) && n 1 && n 2) (only 51 (word row 3))).0 k₃.0 in
    let h₂ = (and-eq-true_iff (only 50 (word row 0) && n 1) (n 2)).0 h₁.0 in
    let h₃ = (and-eq-true_iff (only 50 (word row 0)) (n 1)).0 h₂.0 in
    record {
      short = ltb-false 256 (length row) l₃.0;
      tight = not-false (tight row) l₃.1;
      seven = eqb-true (length (words row)) 7 (not-false (eqb (length (words row)) 7) l₂.1);
      first = h₃.0;
      startup = h₃.1;
      shutdown = h₂.1;
      fourth = h₁.1;
      square = k₃.1;
      linear = k₂.1;
      constant = k₁.1;
    }

only_one : (c : ℕ) (w : List ℕ) → only c w ≡ true → w ≡ c ∷ []
only_one c w e = let b = (and-eq-true_iff (eqb (length w) 1) (eqb (get_or w 0 0) c)).0 e in pick w (eqb-true (length w) 1 b.0) (eqb-true (get_or w 0 0) c b.1)
  where
    pick : (w : List ℕ) → length w ≡ 1 → get_or w 0 0 ≡ c → w ≡ c ∷ []
    pick [] l h = absurd (omega arith)
    pick (x ∷ []) l h = ap (λ (y : ℕ). y ∷ []) h
    pick (x ∷ y ∷ w) l h = absurd (omega arith)

form : (row : List ℕ) → malformed row ≡ false → Form row
form row e =
    let f = well_formed row e in
    let each_word : words row ≡ word row 0 ∷ word row 1 ∷ word row 2 ∷ word row 3 ∷ word row 4 ∷ word row 5 ∷ word row 6 ∷ [] = sym (each_get_or (words row) []) ∙ ap (λ (n : ℕ). each n (λ i. get_or (words row) i [])) f.seven in
    let seven : words row ≡ (50 ∷ []) ∷ word row 1 ∷ word row 2 ∷ (51 ∷ []) ∷ word row 4 ∷ word row 5 ∷ word row 6 ∷ [] = each_word ∙ ap₂ (λ (x y : List ℕ). x ∷ word row 1 ∷ word row 2 ∷ y ∷ word row 4 ∷ word row 5 ∷ word row 6 ∷ []) (only_one 50 (word row 0) f.first) (only_one 51 (word row 3) f.fourth) in
    record {
      startup = word row 1;
      shutdown = word row 2;
      square = word row 4;
      linear = word row 5;
      constant = word row 6;
      numbers = (formed-numeral (word row 1) f.startup, (formed-numeral (word row 2) f.shutdown, (formed-numeral (word row 4) f.square, (formed-numeral (word row 5) f.linear, (formed-numeral (word row 6) f.constant, tt)))));
      made = subst (λ (ws : List (List ℕ)). Spaced ws row) seven (tight-spaced row f.tight);
      short = f.short;
    }

-- whether a row that is not too long, and tight, is malformed by its words
amiss : List (List ℕ) → Bool
amiss ws =
    let n : ℕ → Bool = λ k. (decimal (get_or ws k [])).formed in
    not (eqb (length ws) 7) || not (only 50 (get_or ws 0 []) && n 1 && n 2 && only 51 (get_or ws 3 []) && n 4 && n 5 && n 6)

by-words : (ws : List (List ℕ)) (row : List ℕ) → Spaced ws row → length row ≤ 256 → malformed row ≡ amiss ws
unfolding malformed amiss
by-words ws row s h =
    let form : List (List ℕ) → Bool = λ ws. let n : ℕ → Bool = λ k. (decimal (get_or ws k [])).formed in ltb 256 (length row) || not (tight row) || not (eqb (length ws) 7) || not (only 50 (get_or ws 0 []) && n 1 && n 2 && only 51 (get_or ws 3 []) && n 4 && n 5 && n 6) in
    ap form (spaced-words ws row s) ∙ rw (le-ltb 256 (length row) h, spaced-tight ws row s)

formed : (row : List ℕ) → Form row → malformed row ≡ false
unfolding amiss
formed row f =
    let n = f.numbers in
    by-words _ row f.made f.short ∙ rw (numeral-formed f.startup n.0, numeral-formed f.shutdown n.1.0, numeral-formed f.square n.1.1.0, numeral-formed f.linear n.1.1.1.0, numeral-formed f.constant n.1.1.1.1.0)

-- what the numbers give is never 26
not-malformed : (w a b c : Bool) (x y z : ℕ) → ended (w refuses GencostNotWhole then (a || b || c) refuses GencostAboveLimit) (Ok (record { c2 = x; c1 = y; c0 = z })) ≡ Err GencostMalformed → ⊥
not-malformed true a b c x y z e = let z : ◌≡◌ {A = ℕ} 0 1 = cc in omega arith
not-malformed false true b c x y z e = let z : ◌≡◌ {A = ℕ} 0 1 = cc in omega arith
not-malformed false false true c x y z e = let z : ◌≡◌ {A = ℕ} 0 1 = cc in omega arith
not-malformed false false false true x y z e = let z : ◌≡◌ {A = ℕ} 0 1 = cc in omega arith
not-malformed false false false false x y z e = let z : ◌≡◌ {A = ℕ} 0 1 = cc in omega arith

is-malformed : (row : List ℕ) → gencost_read row ≡ Err GencostMalformed → malformed row ≡ true
unfolding gencost_read given
is-malformed row e = pick (malformed row) e
  where
    pick : (b : Bool) → ended (b refuses GencostMalformed) (given (decimal (word row 4)) (decimal (word row 5)) (decimal (word row 6))) ≡ Err GencostMalformed → b ≡ true
    pick true f = refl
    pick false f =
        let s = decimal (word row 4) in
        let l = decimal (word row 5) in
        let c = decimal (word row 6) in
        absurd (not-malformed (not (whole 10000 s && whole 100000 l && whole 1000000 c)) (ltb 1000 (scaled 10000 s)) (ltb 10000000 (scaled 100000 l)) (ltb 1000000000 (scaled 1000000 c)) (scaled 10000 s) (scaled 100000 l) (scaled 1000000 c) f)

pub malformed_exactly : MalformedExactly gencost_read
malformed_exactly row = (λ e f. clash (is-malformed row e) (formed row f), λ n. pick n (malformed row) refl)
  where
    pick : (Form row → ⊥) → (b : Bool) → malformed row ≡ b → gencost_read row ≡ Err GencostMalformed
    pick n true e = sym (refused row e)
    pick n false e = absurd (n (form row e))

-- ---- one answer

Same : Decimal → Decimal → Type 0
Same d e = d.digits * 10 ^ e.decimals ≡ e.digits * 10 ^ d.decimals

given-same : (s l c s' l' c' : Decimal) → Same s s' → Same l l' → Same c c' → given s l c ≡ given s' l' c'
unfolding given Same
given-same s l c s' l' c' p q r =
    rw (same_whole s.digits s'.digits s.decimals s'.decimals 10000 p, same_whole l.digits l'.digits l.decimals l'.decimals 100000 q, same_whole c.digits c'.digits c.decimals c'.decimals 1000000 r, same-scaled s.digits s'.digits s.decimals s'.decimals 10000 p, same-scaled l.digits l'.digits l.decimals l'.decimals 100000 q, same-scaled c.digits c'.digits c.decimals c'.decimals 1000000 r)

amiss-same : (ws vs : List (List ℕ)) → SameWords ws vs → amiss ws ≡ amiss vs
unfolding amiss
amiss-same ws vs e = rw (e.count, e.first, e.startup, e.shutdown, e.fourth, e.square.formed, e.linear.formed, e.constant.formed)

pub words_are_those : WordsAreThose
words_are_those = spaced-words

pub one_answer : OneAnswer gencost_read
unfolding Same
one_answer ws vs row other s t h k e = pick (malformed row) refl
  where
    same : malformed row ≡ malformed other
    same = by-words ws row s h ∙ amiss-same ws vs e ∙ sym (by-words vs other t k)

    pick : (b : Bool) → malformed row ≡ b → gencost_read row ≡ gencost_read other
    pick true f = sym (refused row f) ∙ refused other (sym same ∙ f)
    pick false f =
        let w = well_formed row f in
        let x = spaced-words ws row s in
        let y = spaced-words vs other t in
        let value : (j : ℕ) → Alike (get_or ws j []) (get_or vs j []) → number row j ≡ true → Same (decimal (word row j)) (decimal (word other j)) = λ j a n. rw (x, y) (a.value (ap (λ (l : List (List ℕ)). (decimal (get_or l j [])).formed) (sym x) ∙ n)) in
        read-given row f ∙ given-same (decimal (word row 4)) (decimal (word row 5)) (decimal (word row 6)) (decimal (word other 4)) (decimal (word other 5)) (decimal (word other 6)) (value 4 e.square w.square) (value 5 e.linear w.linear) (value 6 e.constant w.constant) ∙ sym (read-given other (sym same ∙ f))

-- ---- numbers written in other ways

alike : (w v : List ℕ) {d e : Decimal} → decimal w ≡ d → decimal v ≡ e → d.formed ≡ e.formed → d.digits * 10 ^ e.decimals ≡ e.digits * 10 ^ d.decimals → Alike w v
alike w v p q f h =
    record {
      formed = ap (λ x. x.formed) p ∙ f ∙ ap (λ x. x.formed) (sym q);
      value = λ z. ap₂ (λ (x y : Decimal). x.digits * 10 ^ y.decimals) p q ∙ h ∙ ap₂ (λ (x y : Decimal). y.digits * 10 ^ x.decimals) (sym p) (sym q);
    }

some_append : (xs ys : List ℕ) → some ys ≡ true → some (xs ++ ys) ≡ true
some_append [] ys h = h
some_append (x ∷ xs) ys h = refl

some-before : (xs ys : List ℕ) → some xs ≡ true → some (xs ++ ys) ≡ true
some-before [] ys h = clash h refl
some-before (x ∷ xs) ys h = refl

spelled-after : (n : ℕ) (ds : List ℕ) → Spelled ds → Spelled (zeros n ++ ds)
spelled-after n ds h = (some_append (zeros n) ds h.0, every_append (λ c. digit c ≡ true) (zeros n) ds (zeros-digits n) h.1)

pub zeros_before_alike : ZerosBefore
zeros_before_alike n w (plain ds h) =
    let k = spelled-after n ds h in
    alike (zeros n ++ ds) ds (decimal-digits (zeros n ++ ds) k.0 k.1) (decimal-digits ds h.0 h.1) refl
    (ap (λ (x : ℕ). x * 10 ^ 0) (ap (number_after 0) (append_assoc (zeros n) ds []) ∙ zeros-before n (ds ++ [])))
zeros_before_alike n w (pointed ds fs h k) =
    let z = spelled-after n ds h in
    alike (zeros n ++ (ds ++ 46 ∷ fs)) (ds ++ 46 ∷ fs)
    (ap decimal (sym (append_assoc (zeros n) ds (46 ∷ fs))) ∙ decimal-parted (zeros n ++ ds) fs z.0 z.1 k.0 k.1) (decimal-parted ds fs h.0 h.1 k.0 k.1) refl
    (ap (λ (x : ℕ). x * 10 ^ length fs) (ap (number_after 0) (append_assoc (zeros n) ds fs) ∙ zeros-before n (ds ++ fs)))

-- digits with zeros behind them, of which as many more are decimals
more-zeros : (n : ℕ) (s : List ℕ) (k : ℕ) → number_after 0 (s ++ zeros n) * 10 ^ k ≡ number_after 0 s * 10 ^ (k + n)
more-zeros n s k =
    ap (λ (x : ℕ). x * 10 ^ k) (after_append 0 s (zeros n) ∙ zeros-behind n (number_after 0 s)) ∙ omega (arith, ap (λ (x : ℕ). number_after 0 s * x) (pow-add 10 k n))

pub zeros_behind_alike : ZerosBehind
zeros_behind_alike n ds fs h k =
    let digits = every_append (λ c. digit c ≡ true) fs (zeros n) k.1 (zeros-digits n) in
    let long : length (fs ++ zeros n) ≡ length fs + n = length-append fs (zeros n) ∙ ap (λ (x : ℕ). length fs + x) (length-replicate n 48) in
    alike (ds ++ 46 ∷ (fs ++ zeros n)) (ds ++ 46 ∷ fs) (decimal-parted ds (fs ++ zeros n) h.0 h.1 (some-before fs (zeros n) k.0) digits) (decimal-parted ds fs h.0 h.1 k.0 k.1) refl
    (ap (λ (l : List ℕ). number_after 0 l * 10 ^ length fs) (sym (append_assoc ds fs (zeros n))) ∙ more-zeros n (ds ++ fs) (length fs) ∙ ap (λ (x : ℕ). number_after 0 (ds ++ fs) * 10 ^ x) (sym long))

pub point_behind_alike : PointBehind
point_behind_alike n ds h =
    let long : length (zeros (suc n)) ≡ 0 + suc n = ap suc (length-replicate n 48) ∙ omega arith in
    alike (ds ++ 46 ∷ zeros (suc n)) ds (decimal-parted ds (zeros (suc n)) h.0 h.1 refl (zeros-digits (suc n))) (decimal-digits ds h.0 h.1) refl
    (more-zeros (suc n) ds 0 ∙ ap₂ (λ (l : List ℕ) (x : ℕ). number_after 0 l * 10 ^ x) (sym (append-nil ds)) (sym long))

-- ---- a row for each

digit_no_blank : (c : ℕ) → digit c ≡ true → blank c ≡ false
digit_no_blank c e = let r = digit-range c e in rw (ne_eqb c 32 (λ z. omega arith), ne_eqb c 9 (λ z. omega arith))

digits_no_blank : (w : List ℕ) → Digits w → Every (λ c. blank c ≡ false) w
digits_no_blank [] h = tt
digits_no_blank (c ∷ w) h = (digit_no_blank c h.0, digits_no_blank w h.1)

numeral-word : (w : List ℕ) → Numeral w → Word w
numeral-word w (plain ds h) = (h.0, digits_no_blank ds h.1)
numeral-word w (pointed ds fs h k) = (some-before ds (46 ∷ fs) h.0, every_append (λ c. blank c ≡ false) ds (46 ∷ fs) (digits_no_blank ds h.1) (refl, digits_no_blank fs k.1))

record Written (a b n : ℕ) : Type 0 where
  numeral : Numeral (decimal_of a b n)
  digits : (decimal (decimal_of a b n)).digits ≡ n
  decimals : (decimal (decimal_of a b n)).decimals ≡ b
  long : length (decimal_of a b n) ≡ a + b + 1

written : (a b n : ℕ) → 0 < a → 0 < b → n < 10 ^ (a + b) → Written a b n
written a b n h k l =
    let s = digits_of (a + b) n in
    let ds = take a s in
    let fs = drop a s in
    let long = length-digits_of (a + b) n in
    let front : length ds ≡ a = length-take-le a s (omega arith) in
    let rest : length fs ≡ b = omega (arith, length-drop a s) in
    let x : Spelled ds = (some-long ds (λ z. omega arith), every_take (λ c. digit c ≡ true) a s (digits-digits_of (a + b) n)) in
    let y : Spelled fs = (some-long fs (λ z. omega arith), every_drop (λ c. digit c ≡ true) a s (digits-digits_of (a + b) n)) in
    let d = decimal-parted ds fs x.0 x.1 y.0 y.1 in
    record {
      numeral = pointed ds fs x y;
      digits = ap (λ z. z.digits) d ∙ ap (number_after 0) (take-append-drop a s) ∙ spelt-digits_of (a + b) n l;
      decimals = ap (λ z. z.decimals) d ∙ rest;
      long = length-append ds (46 ∷ fs) ∙ omega arith;
    }

-- as many decimals as the factor has zeros
even : (d : Decimal) (n f : ℕ) → d.digits ≡ n → d.decimals ≡ f → (whole (10 ^ f) d ≡ true) × (scaled (10 ^ f) d ≡ n)
even d n f p q =
    let z : f - f ≡ 0 = omega arith in (
      ap₂ (λ (x k : ℕ). eqb (x * 10 ^ f % 10 ^ k) 0) p q ∙ eq-eqb (n * 10 ^ f % 10 ^ f) 0 (few-whole n f f (omega arith)),
      ap₂ (λ (x k : ℕ). x * 10 ^ f / 10 ^ k) p q ∙ few-result n f f (omega arith) ∙ ap (λ (k : ℕ). n * 10 ^ k) z ∙ omega arith,
    )

given-each : (s l c : Decimal) (c2 c1 c0 : ℕ) → (whole 10000 s ≡ true) × (scaled 10000 s ≡ c2) → (whole 100000 l ≡ true) × (scaled 100000 l ≡ c1) → (whole 1000000 c ≡ true) × (scaled 1000000 c ≡ c0) → c2 ≤ 1000 → c1 ≤ 10000000 → c0 ≤ 1000000000 → given s l c ≡ Ok (record { c2 = c2; c1 = c1; c0 = c0 })
unfolding given
given-each s l c c2 c1 c0 p q r h k m = rw (p.0, q.0, r.0, p.1, q.1, r.1, le-ltb 1000 c2 h, le-ltb 10000000 c1 k, le-ltb 1000000000 c0 m)

pub each_has_a_row : EachHasARow gencost_read
each_has_a_row c2 c1 c0 h k m =
    let row = row_of c2 c1 c0 in
    let s = written 1 4 c2 (omega arith) (omega arith) (omega arith) in
    let l = written 3 5 c1 (omega arith) (omega arith) (omega arith) in
    let c = written 4 6 c0 (omega arith) (omega arith) (omega arith) in
    let space : Gap (32 ∷ []) = (refl, (refl, tt)) in
    let zero_word : Word (48 ∷ []) = (refl, (refl, tt)) in
    let zero-numeral : Numeral (48 ∷ []) = plain (48 ∷ []) (refl, (refl, tt)) in
    let spaced : Spaced ((50 ∷ []) ∷ (48 ∷ []) ∷ (48 ∷ []) ∷ (51 ∷ []) ∷ decimal_of 1 4 c2 ∷ decimal_of 3 5 c1 ∷ decimal_of 4 6 c0 ∷ []) row =
    before (50 ∷ []) (32 ∷ []) _ (refl, (refl, tt)) space
    (before (48 ∷ []) (32 ∷ []) _ zero_word space
    (before (48 ∷ []) (32 ∷ []) _ zero_word space
    (before (51 ∷ []) (32 ∷ []) _ (refl, (refl, tt)) space
    (before (decimal_of 1 4 c2) (32 ∷ []) _ (numeral-word (decimal_of 1 4 c2) s.numeral) space
    (before (decimal_of 3 5 c1) (32 ∷ []) _ (numeral-word (decimal_of 3 5 c1) l.numeral) space
    (final (decimal_of 4 6 c0) (numeral-word (decimal_of 4 6 c0) c.numeral))))))) in
    let long : length row ≤ 256 =
    omega (arith, length-append (decimal_of 1 4 c2) (32 ∷ (decimal_of 3 5 c1 ++ 32 ∷ decimal_of 4 6 c0)), length-append (decimal_of 3 5 c1) (32 ∷ decimal_of 4 6 c0), s.long, l.long, c.long) in
    let f : malformed row ≡ false = formed row (record { startup = 48 ∷ []; shutdown = 48 ∷ []; square = decimal_of 1 4 c2; linear = decimal_of 3 5 c1; constant = decimal_of 4 6 c0; numbers = (zero-numeral, (zero-numeral, (s.numeral, (l.numeral, (c.numeral, tt))))); made = spaced; short = long }) in
    let w = spaced-words _ row spaced in
    read-given row f
    ∙ ap (λ (ws : List (List ℕ)). given (decimal (get_or ws 4 [])) (decimal (get_or ws 5 [])) (decimal (get_or ws 6 []))) w
    ∙ given-each (decimal (decimal_of 1 4 c2)) (decimal (decimal_of 3 5 c1)) (decimal (decimal_of 4 6 c0)) c2 c1 c0 (even (decimal (decimal_of 1 4 c2)) c2 4 s.digits s.decimals) (even (decimal (decimal_of 3 5 c1)) c1 5 l.digits l.decimals) (even (decimal (decimal_of 4 6 c0)) c0 6 c.digits c.decimals) h k m
