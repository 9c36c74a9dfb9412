-- The next word, taken as a number or as one character.
use Prim.Native.Nat.{ℕ, ◌+◌, ◌-◌}
use native.Mathlib.Omega.{arith}
use mathlib.Core.Bool.{Bool, true, false, cond, and-false}
use lib.Dec.{eqb}
use mathlib.Core.Path.{◌≡◌, refl, sym, ap, ◌∙◌}
use mathlib.Core.List.{List, [], ◌∷◌}
use lib.ListN.{length, get_or, take, drop, length-drop}
use lib.Seq.{take_all}
use borrow.Author.Tests.{eq-eqb, ne_eqb}
use Rattle.std.specs.Prelude.{Option, Some, None, IfNone, IfSome}
use Rattle.gencost.specs.declared.Number.{Number}
use Rattle.gencost.specs.Row.{blank, some, word, decimal, only, headed}
use Rattle.gencost.specs.Clauses.{other, run, first_word, behind_word, valued, scanned, NumberFirst, OnlyFirst, last, Behind, HeadEnd}
use Rattle.gencost.proofs.Grammar.{unformed-start}
use Rattle.gencost.proofs.Words.{behind-none, behind-word, behind-next, behind-solid}

-- the word as it is cut out of the row, and what stands behind it
module _ (row : List ℕ) {n k : ℕ} (e : n ≡ run blank row) (f : k ≡ run other (take (length row - n) (drop n row))) where
  abbrev cut : List ℕ
  cut = take (length row - n) (drop n row)

  cut_is : cut ≡ drop n row
  cut_is = take_all (length row - n) (drop n row) (omega (arith, length-drop n row))

  others : k ≡ run other (drop n row)
  others = rw cut_is at f

  pub word_cut : {word : List ℕ} → word ≡ take k (take (length row - n) (drop n row)) → word ≡ first_word row
  unfolding first_word
  word_cut z = rw (z, cut_is, others, e) refl

  pub rest_cut : {rest : List ℕ} → rest ≡ drop k (take (length row - n) (drop n row)) → rest ≡ behind_word row
  unfolding behind_word
  rest_cut z = rw (z, cut_is, others, e) refl

pub ruleset taking_word = (word_cut, rest_cut)

-- ---- a number

module _ (places limit : ℕ) (row : List ℕ) {word : List ℕ} (e : word ≡ first_word row) where
  pub number-none : None ≡ scanned places limit word → (decimal (first_word row)).formed ≡ false
  unfolding scanned
  number-none f = pick (decimal (first_word row)).formed _ (f ∙ ap (scanned places limit) e)
    where
      pick : (t : Bool) (n : Number) → None ≡ cond t (Some n) None → t ≡ false
      pick true n m = absurd (let z : ◌≡◌ {A = ℕ} 0 1 = cc in omega arith)
      pick false n m = refl

  pub number-some : {n : Number} {rest : List ℕ} → Some n ≡ scanned places limit word → rest ≡ behind_word row → NumberFirst places limit row n rest
  unfolding scanned
  number-some {n} f b = let p = pick (decimal (first_word row)).formed (valued places limit (decimal (first_word row))) (f ∙ ap (scanned places limit) e) in record { formed = p.0; value = p.1; behind = b }
    where
      pick : (t : Bool) (v : Number) → Some n ≡ cond t (Some v) None → (t ≡ true) × (n ≡ v)
      pick true v m = (refl, cc)
      pick false v m = absurd (let z : ◌≡◌ {A = ℕ} 0 1 = cc in omega arith)

pub ruleset taking_number = (number-none, number-some)

-- ---- an answer by what another function answered

pub if-none : {X P Q : Type 0} (o : Option X) → (P → Q) → IfNone o P → IfNone o Q
if-none None f p = f p
if-none (Some x) f p = tt

pub if-some : {X : Type 0} {P Q : X → Type 0} (o : Option X) → ((x : X) → P x → Q x) → IfSome o P → IfSome o Q
if-some None f p = tt
if-some (Some x) f p = f x p

-- ---- one character

module _ (c : ℕ) (w : List ℕ) where
  pub only-long : (length w ≡ 1 → ⊥) → only c w ≡ false
  only-long z = rw (ne_eqb (length w) 1 z)

  pub only-other : (get_or w 0 0 ≡ c → ⊥) → only c w ≡ false
  only-other z = rw (ne_eqb (get_or w 0 0) c z, and-false (eqb (length w) 1))

  pub only-is : length w ≡ 1 → get_or w 0 0 ≡ c → only c w ≡ true
  only-is l z = rw (eq-eqb (length w) 1 l, eq-eqb (get_or w 0 0) c z)

pub ruleset taking_one = (only-long, only-other, only-is)

-- ---- what a caller learns, with so many words before the rest

some-formed : (w : List ℕ) → (decimal w).formed ≡ true → some w ≡ true
some-formed [] e = absurd (let z : ◌≡◌ {A = ℕ} 0 1 = cc (unformed-start [] tt) in omega arith)
some-formed (c ∷ w) e = refl

some-only : (c : ℕ) (w : List ℕ) → only c w ≡ true → some w ≡ true
some-only c [] e = e
some-only c (x ∷ w) e = refl

pub record Took (row : List ℕ) (k places limit : ℕ) (n : Number) (rest : List ℕ) : Type 0 where
  pub formed : (decimal (word row k)).formed ≡ true
  pub value : n ≡ valued places limit (decimal (word row k))
  pub behind : Behind row (k + 1) rest
  pub solid : length rest ≡ 0 → blank (last row) ≡ false

module _ (row : List ℕ) {k : ℕ} {from : List ℕ} (b : Behind row k from) where
  same : decimal (word row k) ≡ decimal (first_word from)
  same = ap decimal (behind-word row b)

  pub took : {places limit : ℕ} {n : Number} {rest : List ℕ} → NumberFirst places limit from n rest → Took row k places limit n rest
  took {places} {limit} f =
      let s = some-formed (first_word from) f.formed in
      rw f.behind (record {
        formed = ap (λ d. d.formed) same ∙ f.formed;
        value = f.value ∙ ap (valued places limit) (sym same);
        behind = behind-next row b s;
        solid = behind-solid row b s;
      })

  pub took-none : (decimal (first_word from)).formed ≡ false → (decimal (word row k)).formed ≡ false
  took-none e = ap (λ d. d.formed) same ∙ e

  pub only-took : {c : ℕ} {rest : List ℕ} → OnlyFirst c from rest → (only c (word row k) ≡ true) × Behind row (k + 1) rest
  only-took {c} o = (ap (only c) (behind-word row b) ∙ o.only, rw o.behind (behind-next row b (some-only c (first_word from) o.only)))

  pub only_none : (c : ℕ) → only c (first_word from) ≡ false → only c (word row k) ≡ false
  only_none c e = ap (only c) (behind-word row b) ∙ e

-- ---- the first four words

module _ (row : List ℕ) where
  pub head-none : only 50 (first_word row) ≡ false → headed row ≡ false
  head-none e = rw (only_none row (behind-none row) 50 e)

  module _ {first : List ℕ} (e : OnlyFirst 50 row first) where
    one : (only 50 (word row 0) ≡ true) × Behind row 1 first
    one = only-took row (behind-none row) e

    pub head-no-startup : (decimal (first_word first)).formed ≡ false → headed row ≡ false
    head-no-startup f = rw (one.0, took-none row one.1 f)

    module _ {startup : Number} {second : List ℕ} (f : NumberFirst 0 0 first startup second) where
      two : Took row 1 0 0 startup second
      two = took row one.1 f

      pub head-no-shutdown : (decimal (first_word second)).formed ≡ false → headed row ≡ false
      head-no-shutdown g = rw (one.0, two.formed, took-none row two.behind g)

      module _ {shutdown : Number} {third : List ℕ} (g : NumberFirst 0 0 second shutdown third) where
        three : Took row 2 0 0 shutdown third
        three = took row two.behind g

        pub head-no-fourth : only 51 (first_word third) ≡ false → headed row ≡ false
        head-no-fourth h = rw (one.0, two.formed, three.formed, only_none row three.behind 51 h)

        pub head-ends : {rest : List ℕ} → OnlyFirst 51 third rest → HeadEnd row rest
        head-ends h = let four = only-took row three.behind h in record { headed = rw (one.0, two.formed, three.formed, four.0); behind = four.1 }
