-- The choice and the least tied output (rules 9.3, 9.6), of the outputs of least priced cost the greatest and the least: what they are of any candidates, that there is only one of each, and that the scans of `Choice` find them.
use mathlib.Core.Path.{◌≡◌, refl, sym, subst, ◌∙◌}
use mathlib.Core.Bool.{Bool, true, false, cond}
use mathlib.Core.List.{List, [], ◌∷◌}
use mathlib.Core.Logic.{◌⊎◌, inl, inr}
use Prim.Native.Nat.{ℕ, ◌≤◌, ◌<◌}
use native.Mathlib.Omega.{arith}
use lib.IntN.{ℤ}
use lib.ListN.{length}
use lib.Signed.{◌≤ℤ◌, ◌<ℤ◌, le_z}
use Rattle.rules.specs.Offers.{Among, AscendsAbove, Ascends, Chosen}
use Rattle.rules.specs.Choice.{better, earlier, preferred_from, preferred}
use Rattle.fields.proofs.Integers.{ints, itself, when_le, when_gt, yes_at_most, not_at_most}

-- there is one of each at most
pub unique : {f : ℕ → ℤ} {C : ℕ → Type 0} {r l s k : ℕ} → Chosen f C r l → Chosen f C s k → (r ≡ s) × (l ≡ k)
unique {f} {C} {r} {l} {s} {k} c d =
    let g = c.least s d.candidate in
    let h = d.least r c.candidate in
    let e : f s ≡ f r = omega (arith, ints) in
    let e' : f r ≡ f s = omega (arith, ints) in
    (omega (arith, c.last s d.candidate e, d.last r c.candidate e'), omega (arith, c.first k d.tied (d.level ∙ e), d.first l c.tied (c.level ∙ e')))

-- the same candidates, said in another way
pub alike : {f : ℕ → ℤ} {C D : ℕ → Type 0} {r l : ℕ} → ((p : ℕ) → C p → D p) → ((p : ℕ) → D p → C p) → Chosen f C r l → Chosen f D r l
alike {r = r} {l = l} into back c =
    record {
      candidate = into r c.candidate;
      tied = into l c.tied;
      level = c.level;
      least = λ p d. c.least p (back p d);
      last = λ p d. c.last p (back p d);
      first = λ p d. c.first p (back p d);
    }

-- functions that agree on the candidates choose alike
pub agreed : {f g : ℕ → ℤ} {C : ℕ → Type 0} {r l : ℕ} → ((p : ℕ) → C p → f p ≡ g p) → Chosen f C r l → Chosen g C r l
agreed {f} {g} {C} {r} {l} e c =
    record {
      candidate = c.candidate;
      tied = c.tied;
      level = sym (e l c.tied) ∙ c.level ∙ e r c.candidate;
      least = λ p i. rw (← e r c.candidate, ← e p i) (c.least p i);
      last = λ p i k. c.last p i (e p i ∙ k ∙ sym (e r c.candidate));
      first = λ p i k. c.first p i (e p i ∙ k ∙ sym (e r c.candidate));
    }

-- one candidate, which all others exceed
pub only : {f : ℕ → ℤ} {C : ℕ → Type 0} (q : ℕ) → C q → ((p : ℕ) → C p → (p ≡ q) ⊎ (f q <ℤ f p)) → Chosen f C q q
only {f} {C} q c h = record { candidate = c; tied = c; level = refl; least = λ p i. least p (h p i); last = λ p i e. equal p e (h p i); first = λ p i e. equal' p e (h p i) }
  where
    least : (p : ℕ) → (p ≡ q) ⊎ (f q <ℤ f p) → f q ≤ℤ f p
    least p (inl e) = subst (λ (n : ℕ). f q ≤ℤ f n) (sym e) (omega (arith, ints))
    least p (inr k) = omega (arith, ints)

    same : (p : ℕ) → f p ≡ f q → (p ≡ q) ⊎ (f q <ℤ f p) → p ≡ q
    same p e (inl i) = i
    same p e (inr k) = absurd (omega (arith, ints))

    equal : (p : ℕ) → f p ≡ f q → (p ≡ q) ⊎ (f q <ℤ f p) → p ≤ q
    equal p e i = omega (arith, same p e i)

    equal' : (p : ℕ) → f p ≡ f q → (p ≡ q) ⊎ (f q <ℤ f p) → q ≤ p
    equal' p e i = omega (arith, same p e i)

pub single : {f : ℕ → ℤ} (q : ℕ) → Chosen f (λ p. p ≡ q) q q
single q = only q refl (λ p e. inl e)

-- of some candidates and of others that are all greater: what is chosen of the better ones; of both where they tie
module _ {f : ℕ → ℤ} {C D : ℕ → Type 0} {r l s k : ℕ} (c : Chosen f C r l) (d : Chosen f D s k) (above : (p q : ℕ) → C p → D q → p < q) where
  pub lower-better : f r <ℤ f s → Chosen f (λ p. C p ⊎ D p) r l
  lower-better h = record { candidate = inl c.candidate; tied = inl c.tied; level = c.level; least = least; last = last; first = first }
    where
      least : (p : ℕ) → C p ⊎ D p → f r ≤ℤ f p
      least p (inl i) = c.least p i
      least p (inr i) = let g = d.least p i in omega (arith, ints)

      last : (p : ℕ) → C p ⊎ D p → f p ≡ f r → p ≤ r
      last p (inl i) e = c.last p i e
      last p (inr i) e = let g = d.least p i in absurd (omega (arith, ints))

      first : (p : ℕ) → C p ⊎ D p → f p ≡ f r → l ≤ p
      first p (inl i) e = c.first p i e
      first p (inr i) e = let g = d.least p i in absurd (omega (arith, ints))

  pub upper-better : f s <ℤ f r → Chosen f (λ p. C p ⊎ D p) s k
  upper-better h = record { candidate = inr d.candidate; tied = inr d.tied; level = d.level; least = least; last = last; first = first }
    where
      least : (p : ℕ) → C p ⊎ D p → f s ≤ℤ f p
      least p (inl i) = let g = c.least p i in omega (arith, ints)
      least p (inr i) = d.least p i

      last : (p : ℕ) → C p ⊎ D p → f p ≡ f s → p ≤ s
      last p (inl i) e = omega (arith, above p s i d.candidate)
      last p (inr i) e = d.last p i e

      first : (p : ℕ) → C p ⊎ D p → f p ≡ f s → k ≤ p
      first p (inl i) e = let g = c.least p i in absurd (omega (arith, ints))
      first p (inr i) e = d.first p i e

  pub both_tie : f s ≡ f r → Chosen f (λ p. C p ⊎ D p) s l
  both_tie h = record { candidate = inr d.candidate; tied = inl c.tied; level = c.level ∙ sym h; least = least; last = last; first = first }
    where
      least : (p : ℕ) → C p ⊎ D p → f s ≤ℤ f p
      least p (inl i) = let g = c.least p i in omega (arith, ints)
      least p (inr i) = d.least p i

      last : (p : ℕ) → C p ⊎ D p → f p ≡ f s → p ≤ s
      last p (inl i) e = omega (arith, above p s i d.candidate)
      last p (inr i) e = d.last p i e

      first : (p : ℕ) → C p ⊎ D p → f p ≡ f s → l ≤ p
      first p (inl i) e = c.first p i (e ∙ h)
      first p (inr i) e = omega (arith, above l p c.tied i)

  -- by the tests of the definitions
  pub either : Chosen f (λ p. C p ⊎ D p) (better f r s) (earlier f l k)
  either = by (le_z (f s) (f r)) (le_z (f l) (f k)) refl refl
    where
      by : (t u : Bool) → le_z (f s) (f r) ≡ t → le_z (f l) (f k) ≡ u → Chosen f (λ p. C p ⊎ D p) (cond t s r) (cond u l k)
      by true true e g = both_tie (omega (arith, ints, c.level, d.level, when_le (itself (f s)) (itself (f r)) e, when_le (itself (f l)) (itself (f k)) g))
      by true false e g = upper-better (omega (arith, ints, c.level, d.level, when_gt (itself (f l)) (itself (f k)) g))
      by false true e g = lower-better (omega (arith, ints, when_gt (itself (f s)) (itself (f r)) e))
      by false false e g = absurd (omega (arith, ints, c.level, d.level, when_gt (itself (f s)) (itself (f r)) e, when_gt (itself (f l)) (itself (f k)) g))

-- what the definitions prefer of two outputs
module _ (f : ℕ → ℤ) (p q : ℕ) where
  pub prefers_lower : f p <ℤ f q → (better f p q ≡ p) × (earlier f p q ≡ p)
  prefers_lower h = (rw (not_at_most h), rw (yes_at_most {x = f p} {y = f q} (omega (arith, ints))))

  pub prefers_upper : f q <ℤ f p → (better f p q ≡ q) × (earlier f p q ≡ q)
  prefers_upper h = (rw (yes_at_most {x = f q} {y = f p} (omega (arith, ints))), rw (not_at_most h))

  pub prefers_both : f q ≡ f p → (better f p q ≡ q) × (earlier f p q ≡ p)
  prefers_both e = (rw (yes_at_most {x = f q} {y = f p} (omega (arith, ints))), rw (yes_at_most {x = f p} {y = f q} (omega (arith, ints))))

-- ---- candidates in a list that ascends

pub none-among : (ps : List ℕ) → ((p : ℕ) → Among p ps → ⊥) → ps ≡ []
none-among [] h = refl
none-among (p ∷ ps) h = absurd (h p (inl refl))

pub some-among : (p : ℕ) (ps : List ℕ) → Among p ps → 0 < length ps
some-among p [] i = absurd i
some-among p (q ∷ qs) i = omega arith

from : (f : ℕ → ℤ) (C : ℕ → Type 0) (r l top : ℕ) (qs : List ℕ) → Chosen f C r l → ((p : ℕ) → C p → p ≤ top) → AscendsAbove top qs → Chosen f (λ p. C p ⊎ Among p qs) (preferred_from (better f) r qs) (preferred_from (earlier f) l qs)
unfolding preferred_from
from f C r l top [] c h a = alike (λ p i. inl i) back c
  where
    back : (p : ℕ) → C p ⊎ ⊥ → C p
    back p (inl i) = i
    back p (inr i) = absurd i
from f C r l top (q ∷ qs) c h a =
    alike into back (from f (λ p. C p ⊎ (p ≡ q)) (better f r q) (earlier f l q) q qs (either c (single q) greater) below a.1)
  where
    greater : (p n : ℕ) → C p → n ≡ q → p < n
    greater p n i e = omega (arith, h p i, a.0)

    below : (p : ℕ) → C p ⊎ (p ≡ q) → p ≤ q
    below p (inl i) = omega (arith, h p i, a.0)
    below p (inr e) = omega arith

    into : (p : ℕ) → (C p ⊎ (p ≡ q)) ⊎ Among p qs → C p ⊎ Among p (q ∷ qs)
    into p (inl (inl i)) = inl i
    into p (inl (inr e)) = inr (inl e)
    into p (inr i) = inr (inr i)

    back : (p : ℕ) → C p ⊎ Among p (q ∷ qs) → (C p ⊎ (p ≡ q)) ⊎ Among p qs
    back p (inl i) = inl (inl i)
    back p (inr (inl e)) = inl (inr e)
    back p (inr (inr i)) = inr i

-- the scans find what is chosen of a list that is not empty
pub scanned : (f : ℕ → ℤ) (ps : List ℕ) → Ascends ps → 0 < length ps → Chosen f (λ p. Among p ps) (preferred (better f) ps) (preferred (earlier f) ps)
unfolding preferred
scanned f [] a h = absurd (omega arith)
scanned f (p ∷ ps) a h = from f (λ q. q ≡ p) p p p ps (single p) (λ q e. omega arith) a
