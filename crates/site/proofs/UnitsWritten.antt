-- Units written one after the other, whichever they are: those passed are held, unless one of them has no permitted output. After the last the arrays hold every problem that offers these units; or none of these problems has a solution.
use mathlib.Core.Path.{◌≡◌, refl, sym, ap, ◌∙◌}
use mathlib.Core.Bool.{Bool, true, false, ◌&&◌, true≢false, and-true, and-eq-true_iff}
use mathlib.Core.List.{List, [], ◌∷◌, map}
use Prim.Native.Nat.{ℕ, zero, suc, ◌+◌, ◌≤◌, ◌<◌}
use native.Mathlib.Decide.{ℕ_discrete}
use native.Mathlib.Omega.{arith}
use lib.Dec.{ltb}
use lib.ListN.{length, get_or, length-map}
use Rattle.rules.specs.Lists.{all, each}
use Rattle.rules.specs.Unit.{Unit}
use Rattle.rules.specs.Problem.{Offer, Problem, offer, problem_of}
use Rattle.rules.specs.Bisection.{solvable}
use Rattle.rules.proofs.Lists.{every-at, all-every, length-each, get_or_each}
use Rattle.site.specs.Site.{HoldsUnit, HoldsProblem, no_offer}
use Rattle.site.specs.Clauses.{UnitWritten, Offering, UnitsDecoded}

-- ---- the loop over the units

-- one of the first n units has no permitted output
pub record Unserved (unit : ℕ → Unit) (n : ℕ) : Type 0 where
  pub which : ℕ
  pub below : which < n
  pub none : (offer (unit which)).outputs ≡ []

-- units 0 .. i − 1 are held, or `permitted` is false and one of them has no permitted output
pub record UnitsWritten (unit : ℕ → Unit) (coefficients ends ranges : List ℕ) (permitted : Bool) (i : ℕ) : Type 0 where
  pub held : permitted ≡ true → (j : ℕ) → j < i → HoldsUnit coefficients ends ranges j (unit j)
  pub unserved : permitted ≡ false → Unserved unit i

pub units-start : {unit : ℕ → Unit} {coefficients ends ranges : List ℕ} → UnitsWritten unit coefficients ends ranges true 0
units-start = record { held = λ _ j h. absurd (omega arith); unserved = λ e. absurd (true≢false e) }

module _ {unit : ℕ → Unit} {coefficients ends ranges : List ℕ} {permitted : Bool} {i : ℕ} (d : UnitsWritten unit coefficients ends ranges permitted i) where
  -- unit i is written
  module _ {u : Unit} {some : Bool} {coefficients' ends' ranges' : List ℕ} (x : u ≡ unit i) (w : UnitWritten u i coefficients ends ranges coefficients' ends' ranges' some) where
    pub units-more : UnitsWritten unit coefficients' ends' ranges' (permitted && some) (i + 1)
    units-more =
        record {
          held = λ e j l. let (all, this) = (and-eq-true_iff permitted some).0 e in at all this j l (ℕ_discrete j i);
          unserved = by some refl;
        }
      where
        at : permitted ≡ true → some ≡ true → (j : ℕ) → j < i + 1 → Dec (j ≡ i) → HoldsUnit coefficients' ends' ranges' j (unit j)
        at all this j l (yes k) = rw (k, ← x) (w.holds this)
        at all this j l (no k) = w.others j k (unit j) (d.held all j (omega arith))

        by : (t : Bool) → some ≡ t → (permitted && some) ≡ false → Unserved unit (i + 1)
        by true s e = let k = d.unserved (rw (s, and-true permitted) at e) in record { which = k.which; below = omega (arith, k.below); none = k.none }
        by false s e = record { which = i; below = omega arith; none = rw (← x) (w.none s) }

-- ---- after the last

pub mapped : {A B : Type 0} (f : A → B) (xs : List A) (n : ℕ) (d : A) (e : B) → n < length xs → get_or (map f xs) n e ≡ f (get_or xs n d)
mapped f [] n d e h = absurd (omega arith)
mapped f (x ∷ xs) zero d e h = refl
mapped f (x ∷ xs) (suc n) d e h = mapped f xs n d e (omega arith)

-- a problem of these units offers them
pub offering : (unit : ℕ → Unit) (n d : ℕ) → Offering unit n (problem_of (record { demand = d; units = each n unit }))
unfolding problem_of
offering unit n d =
    record {
      count = length-map (each n unit) offer ∙ length-each n unit;
      at = λ j h.
          mapped offer (each n unit) j (unit j) no_offer (omega (arith, length-each n unit))
          ∙ ap offer (get_or_each n unit j (unit j) h);
    }

module _ {unit : ℕ → Unit} {n : ℕ} {q : Problem} (o : Offering unit n q) where
  pub problem-held : {coefficients ends ranges : List ℕ} → UnitsWritten unit coefficients ends ranges true n → n ≤ 32 → q.demand ≤ 320000 → HoldsProblem coefficients ends ranges n q
  problem-held d few demand =
      record { count = o.count; few = few; demand = demand; offers = λ j h. rw (o.at j h) (d.held refl j h).holds }

  abbrev some : Offer → Bool
  some o = ltb 0 (length o.outputs)

  pub problem-unserved : Unserved unit n → solvable q ≡ false
  unfolding solvable
  problem-unserved k = rw (by (all some q.offers) refl)
    where
      by : (t : Bool) → all some q.offers ≡ t → all some q.offers ≡ false
      by false p = p
      by true p =
          let held = every-at (λ o. some o ≡ true) q.offers k.which no_offer ((all-every some q.offers).0 p) (omega (arith, o.count, k.below)) in
          absurd (true≢false (sym held ∙ rw (o.at k.which k.below, k.none)))

-- what is decoded of these units
pub decoded : {unit : ℕ → Unit} {n : ℕ} {coefficients ends ranges : List ℕ} {permitted : Bool} → UnitsWritten unit coefficients ends ranges permitted n → n ≤ 32 → UnitsDecoded unit n coefficients ends ranges permitted
decoded d few =
    record {
      holds = λ e q o demand. problem-held o (rw e at d) few demand;
      none = λ e q o. problem-unserved o (d.unserved e);
    }
