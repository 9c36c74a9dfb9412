-- An offer's list of outputs: it ascends, and holds exactly the permitted outputs.
use mathlib.Core.Path.{◌≡◌, refl, sym, ap, ◌∙◌}
use mathlib.Core.Bool.{Bool, true, false, cond, not, ◌&&◌, true≢false}
use mathlib.Core.List.{List, [], ◌∷◌}
use mathlib.Core.Logic.{◌⊎◌, ◌↔◌, inl, inr}
use Prim.Native.Nat.{ℕ, zero, suc, ◌≤◌, ◌<◌}
use native.Mathlib.Omega.{arith}
use lib.Dec.{leb, eqb}
use borrow.Author.Tests.{leb-true, le-leb, ne_eqb}
use Rattle.rules.specs.Lists.{each, filter, all}
use Rattle.rules.specs.Unit.{Unit, zones, permitted, running_output, strictly_inside, in_ramp_window}
use Rattle.rules.specs.Problem.{offer}
use Rattle.rules.proofs.Verdicts.{and-true, eqb_is_true}
use Rattle.rules.specs.Offers.{Among, Ascends, AscendsAbove}

-- ---- the elements of a list of which a test holds

module _ (test : ℕ → Bool) where
  pub kept : (p : ℕ) (xs : List ℕ) → test p ≡ true → Among p xs → Among p (filter test xs)
  kept p [] t i = absurd i
  kept p (x ∷ xs) t i = by (test x) refl i (kept p xs t)
    where
      by : (b : Bool) → test x ≡ b → (p ≡ x) ⊎ Among p xs → (Among p xs → Among p (filter test xs)) → Among p (cond b (x ∷ filter test xs) (filter test xs))
      by true e (inl q) r = inl q
      by true e (inr j) r = inr (r j)
      by false e (inl q) r = absurd (true≢false (sym t ∙ ap test q ∙ e))
      by false e (inr j) r = r j

  pub holds : (p : ℕ) (xs : List ℕ) → Among p (filter test xs) → (test p ≡ true) × Among p xs
  holds p [] i = absurd i
  holds p (x ∷ xs) i = by (test x) refl i (holds p xs)
    where
      by : (b : Bool) → test x ≡ b → Among p (cond b (x ∷ filter test xs) (filter test xs)) → (Among p (filter test xs) → (test p ≡ true) × Among p xs) → (test p ≡ true) × Among p (x ∷ xs)
      by true e (inl q) r = (ap test q ∙ e, inl q)
      by true e (inr j) r = ((r j).0, inr (r j).1)
      by false e j r = ((r j).0, inr (r j).1)

  lower : (b c : ℕ) (xs : List ℕ) → b < c → AscendsAbove c xs → AscendsAbove b xs
  lower b c [] h a = record {}
  lower b c (x ∷ xs) h a = (omega (arith, a.0), a.1)

  above : (b : ℕ) (xs : List ℕ) → AscendsAbove b xs → AscendsAbove b (filter test xs)
  above b [] a = record {}
  above b (x ∷ xs) a = by (test x) (above x xs a.1)
    where
      by : (t : Bool) → AscendsAbove x (filter test xs) → AscendsAbove b (cond t (x ∷ filter test xs) (filter test xs))
      by true r = (a.0, r)
      by false r = lower b x (filter test xs) a.0 r

  pub ascends : (xs : List ℕ) → Ascends xs → Ascends (filter test xs)
  ascends [] a = record {}
  ascends (x ∷ xs) a = by (test x) (above x xs a)
    where
      weaker : (ys : List ℕ) → AscendsAbove x ys → Ascends ys
      weaker [] r = record {}
      weaker (y ∷ ys) r = r.1

      by : (t : Bool) → AscendsAbove x (filter test xs) → Ascends (cond t (x ∷ filter test xs) (filter test xs))
      by true r = r
      by false r = weaker (filter test xs) r

-- ---- the numbers from 0 on, as f 0, f 1, ..

pub each_among : (n : ℕ) (f : ℕ → ℕ) (k : ℕ) → k < n → Among (f k) (each n f)
each_among zero f k h = absurd (omega arith)
each_among (suc n) f zero h = inl refl
each_among (suc n) f (suc k) h = inr (each_among n (λ i. f (suc i)) k (omega arith))

each_below : (n bound : ℕ) (f : ℕ → ℕ) → ((k : ℕ) → k < n → f k < bound) → (p : ℕ) → Among p (each n f) → p < bound
each_below zero bound f h p i = absurd i
each_below (suc n) bound f h p (inl e) = omega (arith, h 0 (omega arith))
each_below (suc n) bound f h p (inr i) = each_below n bound (λ j. f (suc j)) (λ k l. h (suc k) (omega arith)) p i

each_above : (n : ℕ) (f : ℕ → ℕ) (b : ℕ) → ((k : ℕ) → f k < f (suc k)) → b < f 0 → AscendsAbove b (each n f)
each_above zero f b up h = record {}
each_above (suc n) f b up h = (h, each_above n (λ i. f (suc i)) (f 0) (λ k. up (suc k)) (up 0))

pub each_ascends : (n : ℕ) (f : ℕ → ℕ) → ((k : ℕ) → f k < f (suc k)) → Ascends (each n f)
each_ascends zero f up = record {}
each_ascends (suc n) f up = each_above n (λ i. f (suc i)) (f 0) (λ k. up (suc k)) (up 0)

-- ---- what is permitted, as facts

pub record Runs (u : Unit) (p : ℕ) : Type 0 where
  pub least : u.least ≤ p
  pub greatest : p ≤ u.greatest
  pub outside : all (λ z. not (strictly_inside p z)) (zones u) ≡ true
  pub window : in_ramp_window u p ≡ true

pub running-runs : (u : Unit) (p : ℕ) → running_output u p ≡ true → Runs u p
running-runs u p h =
    let a = (and-true (leb u.least p && leb p u.greatest && all (λ z. not (strictly_inside p z)) (zones u)) (in_ramp_window u p)).0 h in
    let b = (and-true (leb u.least p && leb p u.greatest) (all (λ z. not (strictly_inside p z)) (zones u))).0 a.0 in
    let c = (and-true (leb u.least p) (leb p u.greatest)).0 b.0 in
    record { least = leb-true _ _ c.0; greatest = leb-true _ _ c.1; outside = b.1; window = a.1 }

pub runs-running : (u : Unit) (p : ℕ) → Runs u p → running_output u p ≡ true
runs-running u p r = simp (le-leb _ _ r.least, le-leb _ _ r.greatest, r.outside, r.window)

-- output 0, and a running output
pub stands-permitted : (u : Unit) → (permitted u 0 ≡ true) ↔ (u.mark ≡ 0)
unfolding permitted
stands-permitted u = eqb_is_true u.mark 0

pub runs-permitted : (u : Unit) (p : ℕ) → 0 < p → (permitted u p ≡ true) ↔ Runs u p
unfolding permitted
runs-permitted u p h =
    let e : eqb p 0 ≡ false = ne_eqb p 0 (λ q. omega arith) in
    (λ k. running-runs u p (rw e at k), λ r. rw e (runs-running u p r))

pub permitted-greatest : (u : Unit) (p : ℕ) → permitted u p ≡ true → p ≤ u.greatest
permitted-greatest u zero h = omega arith
permitted-greatest u (suc p) h = ((runs-permitted u (suc p) (omega arith)).0 h).greatest

-- ---- what is offered

pub outputs-ascend : (u : Unit) → Ascends (offer u).outputs
unfolding offer
outputs-ascend u = ascends (permitted u) (each (suc u.greatest) (λ p. p)) (each_ascends (suc u.greatest) (λ p. p) (λ k. omega arith))

pub offered-permitted : (u : Unit) (p : ℕ) → Among p (offer u).outputs → permitted u p ≡ true
unfolding offer
offered-permitted u p i = (holds (permitted u) p (each (suc u.greatest) (λ p. p)) i).0

pub permitted-offered : (u : Unit) (p : ℕ) → permitted u p ≡ true → Among p (offer u).outputs
unfolding offer
permitted-offered u p h = kept (permitted u) p (each (suc u.greatest) (λ p. p)) h (each_among (suc u.greatest) (λ p. p) p (omega (arith, permitted-greatest u p h)))
