-- What a loop has still to look at, from index i on: the next element, and nothing at the end. Of `each n f`, of verdicts in order, and of a list whose elements are to be all the same.
use Rattle.std.specs.Prelude.{Ok, Err}
use Prim.Native.Nat.{ℕ, ◌+◌, ◌≤◌, ◌<◌}
use native.Mathlib.Numerals.{add-one}
use native.Mathlib.Omega.{arith}
use mathlib.Core.Path.{◌≡◌, refl, ap, ◌∙◌}
use mathlib.Core.Bool.{Bool, true, false}
use mathlib.Core.List.{List, [], ◌∷◌}
use lib.Dec.{eqb}
use lib.ListN.{length, get_or, drop, drop_of_length-le}
use lib.Seq.{drop-cons}
use borrow.Author.Tests.{eq-eqb, ne_eqb}
use Rattle.rules.specs.Lists.{each, all}
use Rattle.rules.specs.Refusal.{in_order, Verdict}
use Rattle.rules.specs.declared.Refusal.{Refusal}
use Rattle.rules.proofs.Lists.{length-each, get_or_each}

module _ {A : Type 0} (n : ℕ) (f : ℕ → A) (i : ℕ) where
  pub rest-ends : n ≤ i → drop i (each n f) ≡ []
  rest-ends h = drop_of_length-le (each n f) {i = i} (rw (length-each n f) h)

  pub rest_more : i < n → drop i (each n f) ≡ f i ∷ drop (i + 1) (each n f)
  rest_more h =
      drop-cons (each n f) i (f i) (rw (length-each n f) h)
      ∙ rw (get_or_each n f i (f i) h, ← add-one i)

-- ---- verdicts in order: those before i are Accepted

pub record Checked (n : ℕ) (f : ℕ → Verdict) (i : ℕ) : Type 0 where
  pub within : i ≤ n
  pub rest : in_order (each n f) ≡ in_order (drop i (each n f))

module _ (n : ℕ) (f : ℕ → Verdict) where
  pub checked-starts : Checked n f 0
  checked-starts = record { within = omega arith; rest = refl }

  module _ (i : ℕ) (c : Checked n f i) where
    pub checked-ends : n ≤ i → in_order (each n f) ≡ Ok tt
    checked-ends h = c.rest ∙ ap in_order (rest-ends n f i h)

    module _ (h : i < n) where
      pub checked_refused : {r : Refusal} → f i ≡ Err r → in_order (each n f) ≡ Err r
      checked_refused e = c.rest ∙ rw (rest_more n f i h, e)

      pub checked-more : f i ≡ Ok tt → Checked n f (i + 1)
      checked-more e = record { within = omega arith; rest = c.rest ∙ rw (rest_more n f i h, e) }

-- ---- whether all elements are x

abbrev pub all_from : ℕ → List ℕ → ℕ → Bool
all_from x s i = all (λ e. eqb e x) (drop i s)

module _ (x : ℕ) (s : List ℕ) (i : ℕ) where
  pub all-ends : length s ≤ i → all_from x s i ≡ true
  all-ends h = rw (drop_of_length-le s h)

  module _ (h : i < length s) where
    pub all_fails : (get_or s i 0 ≡ x → ⊥) → all_from x s i ≡ false
    all_fails n = rw (drop-cons s i 0 h, ne_eqb (get_or s i 0) x n)

    pub all_more : get_or s i 0 ≡ x → all_from x s i ≡ all_from x s (i + 1)
    all_more e = rw (drop-cons s i 0 h, eq-eqb (get_or s i 0) x e, add-one)
