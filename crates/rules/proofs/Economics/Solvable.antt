-- Step 1 is exact, of any problem with proper offers: some outputs given from the offers cover exactly if the greatest do. A case with sound units is such a problem, and what is given from its offers is what is permitted.
use mathlib.Core.Path.{◌≡◌, refl, sym, ap, subst}
use mathlib.Core.Bool.{Bool, true, false, true≢false}
use mathlib.Core.List.{List, [], ◌∷◌, map}
use Prim.Native.Nat.{ℕ, ◌≤◌, ◌<◌}
use native.Mathlib.Omega.{arith}
use lib.Dec.{ltb}
use lib.ListN.{length}
use borrow.Author.Tests.{leb-true, leb-false, ltb-true, lt-ltb}
use Rattle.rules.specs.Lists.{all, Every}
use Rattle.rules.specs.Unit.{Unit, permitted}
use Rattle.rules.specs.Layout.{Case}
use Rattle.rules.specs.Problem.{allocation, total_net, covers, Offer, Problem, units_of, target, offer, problem_of}
use Rattle.rules.specs.Bisection.{greatest_outputs, solvable}
use Rattle.rules.proofs.Lists.{every_map, every_more, every-both, all-every}
use Rattle.rules.proofs.Verdicts.{and-true}
use Rattle.rules.specs.Sound.{Sound}
use Rattle.rules.proofs.Economics.Chosen.{some-among}
use Rattle.rules.proofs.Economics.Outputs.{permitted-greatest, outputs-ascend, offered-permitted, permitted-offered}
use Rattle.rules.specs.Offers.{Given, Proper, Available}
use Rattle.rules.proofs.Economics.Allocations.{greatest-net}

-- ---- step 1

abbrev offers_some : Offer → Bool
offers_some o = ltb 0 (length o.outputs)

given-some : (os : List Offer) (ps : List ℕ) → Given os ps → all offers_some os ≡ true
given-some [] [] g = refl
given-some [] (p ∷ ps) g = absurd g
given-some (o ∷ os) [] g = absurd g
given-some (o ∷ os) (p ∷ ps) g = (and-true (offers_some o) (all offers_some os)).1 (lt-ltb 0 (length o.outputs) (some-among p o.outputs g.0), given-some os ps g.1)

module _ (q : Problem) where
  abbrev greatest_net : ℕ
  greatest_net = total_net (units_of q) (greatest_outputs q)

  pub solvable-available : Every Proper q.offers → solvable q ≡ true → Every Available q.offers
  unfolding solvable
  solvable-available proper e =
      let each = (all-every offers_some q.offers).0 ((and-true (all offers_some q.offers) (covers q.demand greatest_net)).0 e).0 in
      every-both Proper (λ o. offers_some o ≡ true) Available (λ o p s. record { proper = p; some = ltb-true 0 (length o.outputs) s }) q.offers proper each

  pub solvable-covers : solvable q ≡ true → target q ≤ greatest_net
  unfolding solvable
  solvable-covers e = leb-true (target q) greatest_net ((and-true (all offers_some q.offers) (covers q.demand greatest_net)).0 e).1

  -- whatever is given, if step 1 refuses, does not cover
  pub unsolvable : Every Proper q.offers → solvable q ≡ false → (ps : List ℕ) → Given q.offers ps → total_net (units_of q) ps < target q
  unfolding solvable greatest_outputs
  unsolvable proper e ps g =
      let short = leb-false (target q) greatest_net (rw (given-some q.offers ps g) at e) in
      omega (arith, short, greatest-net q.offers ps proper g)

-- ---- of a case: its units are the problem's, given from the offers is permitted, and its offers are proper

pub units_of_problem : (c : Case) → units_of (problem_of c) ≡ c.units
unfolding problem_of offer
units_of_problem c = go c.units
  where
    go : (us : List Unit) → map (λ o. o.unit) (map offer us) ≡ us
    go [] = refl
    go (u ∷ us) = ap (λ (l : List Unit). u ∷ l) (go us)

pub given-allocation : (us : List Unit) (ps : List ℕ) → Given (map offer us) ps → allocation us ps ≡ true
unfolding allocation offer
given-allocation [] [] g = refl
given-allocation [] (p ∷ ps) g = absurd g
given-allocation (u ∷ us) [] g = absurd g
given-allocation (u ∷ us) (p ∷ ps) g = (and-true (permitted u p) (allocation us ps)).1 (offered-permitted u p g.0, given-allocation us ps g.1)

pub allocation-given : (us : List Unit) (ps : List ℕ) → allocation us ps ≡ true → Given (map offer us) ps
unfolding allocation offer
allocation-given [] [] e = tt
allocation-given [] (p ∷ ps) e = absurd (true≢false (sym e))
allocation-given (u ∷ us) [] e = absurd (true≢false (sym e))
allocation-given (u ∷ us) (p ∷ ps) e =
    let both = (and-true (permitted u p) (allocation us ps)).0 e in
    (permitted-offered u p both.0, allocation-given us ps both.1)

unit-offered : (u : Unit) → (offer u).unit ≡ u
unfolding offer
unit-offered u = refl

pub offer-proper : (u : Unit) → Sound u → Proper (offer u)
offer-proper u s =
    record {
      sound = subst Sound (sym (unit-offered u)) s;
      ascends = outputs-ascend u;
      small = λ p i. omega (arith, permitted-greatest u p (offered-permitted u p i), s.greatest);
    }

pub case-proper : (c : Case) → Every Sound c.units → Every Proper (problem_of c).offers
unfolding problem_of
case-proper c s = (every_map Proper offer c.units).1 (every_more Sound (λ u. Proper (offer u)) offer-proper c.units s)
