-- The law of the search, of any problem with proper offers that step 1 accepts; and demand 3 of the reply that the rules give for a case.
use mathlib.Core.Path.{◌≡◌, refl, ap, ◌∙◌}
use mathlib.Core.Bool.{true}
use mathlib.Core.List.{List}
use Prim.Native.Nat.{ℕ, ◌+◌, ◌*◌, ◌-◌, ◌≤◌}
use native.Mathlib.Omega.{arith}
use lib.IntN.{ℤ, pos, ◌-ℤ◌}
use lib.Signed.{◌≤ℤ◌}
use borrow.Author.Tests.{leb-true, le-leb}
use Rattle.rules.specs.Numbers.{natural}
use Rattle.rules.specs.Unit.{Unit}
use Rattle.rules.specs.Layout.{Case}
use Rattle.rules.specs.Problem.{total_cost, total_net, Problem, units_of, target, problem_of}
use Rattle.rules.specs.Choice.{selected, dual_value, floor, greatest_floor}
use Rattle.rules.specs.Bisection.{Found, greatest_outputs, solvable, found, reply_of, solve}
use Rattle.rules.specs.Promise.{Permitted, Covering, GreatestFloor, cost_less_gap, ReplyPromise}
use Rattle.rules.specs.Lists.{Every}
use Rattle.fields.specs.Integers.{positive_part, negative_part}
use Rattle.fields.proofs.Integers.{is_pos, is_minus, up_is, same, itself, ints}
use Rattle.rules.specs.Sound.{Sound}
use Rattle.rules.specs.Offers.{Given, Proper}
use Rattle.rules.proofs.Economics.Allocations.{relaxation, greatest-given, greatest-net}
use Rattle.rules.proofs.Economics.Lowering.{selected-tied}
use Rattle.rules.proofs.Economics.Quantities.{natural-up}
use Rattle.rules.proofs.Economics.Search.{Seen, Searched, evaluated-seen, searched, below-first}
use Rattle.rules.proofs.Economics.Solvable.{units_of_problem, given-allocation, allocation-given, solvable-available, solvable-covers, case-proper}

-- a gap that is not negative is exact
pub gap-exact : (n : ℕ) (z : ℤ) → z ≤ℤ pos n → pos n -ℤ pos (natural (pos n -ℤ z)) ≡ z
gap-exact n z h =
    let d = is_minus (is_pos n) (itself z) in
    let e : natural (pos n -ℤ z) ≡ n + negative_part z - (0 + positive_part z) = natural-up (pos n -ℤ z) ∙ up_is d in
    let b : positive_part z + 0 ≤ n + negative_part z = omega (arith, ints, is_pos n) in
    same (is_minus (is_pos n) (is_pos (natural (pos n -ℤ z)))) (itself z) (omega (arith, e))

-- ---- of a problem

module _ (q : Problem) (proper : Every Proper q.offers) (solves : solvable q ≡ true) where
  abbrev pub Shown : Found (List ℕ) → Type 0
  Shown = Searched (Given q.offers) (total_cost (units_of q)) (total_net (units_of q)) 100000 (target q) (λ m. selected m q) (λ m. dual_value m q) (greatest_outputs q)

  -- what the search finds
  pub shown : Shown (found q)
  unfolding found greatest_outputs
  shown =
      let available = solvable-available q proper solves in
      searched (relaxation q available (λ m. selected m q) (selected-tied q available)) (greatest_outputs q) (greatest-given q.offers available) (solvable-covers q solves)

  pub evaluated : Seen (found q).evaluated
  unfolding found greatest_outputs
  evaluated =
      let available = solvable-available q proper solves in
      evaluated-seen (relaxation q available (λ m. selected m q) (selected-tied q available)) (greatest_outputs q) (greatest-given q.offers available) (solvable-covers q solves)

  -- what the reply's subtractions need: the best covers, and costs at least the greatest floor, which is not negative
  pub best-covers : target q ≤ total_net (units_of q) (found q).best
  best-covers = shown.covers

  pub floor_at_most : (ps : List ℕ) → Given q.offers ps → target q ≤ total_net (units_of q) ps → greatest_floor q (found q).evaluated ≤ℤ pos (total_cost (units_of q) ps)
  unfolding floor
  floor_at_most ps = shown.bound ps

  pub floor_at_most_cost : greatest_floor q (found q).evaluated ≤ℤ pos (total_cost (units_of q) (found q).best)
  floor_at_most_cost = floor_at_most (found q).best shown.allowed shown.covers

  -- the greatest floor evaluated is that of all multipliers
  pub greatest-floor : GreatestFloor q (greatest_floor q (found q).evaluated)
  unfolding floor
  greatest-floor = record { one = shown.one; greatest = shown.greatest }

  pub greatest_floor_not_negative : pos 0 ≤ℤ greatest_floor q (found q).evaluated
  unfolding floor
  greatest_floor_not_negative = shown.not_negative

  -- it never costs more than the greatest outputs
  pub at_most_first : total_cost (units_of q) (found q).best ≤ total_cost (units_of q) (greatest_outputs q)
  unfolding found greatest_outputs
  at_most_first =
      let available = solvable-available q proper solves in
      below-first (relaxation q available (λ m. selected m q) (selected-tied q available)) (greatest_outputs q) (greatest-given q.offers available) (solvable-covers q solves) (λ ys a. greatest-net q.offers ys proper a)

  -- cost less gap is the greatest floor evaluated
  pub difference : cost_less_gap (solve q) ≡ greatest_floor q (found q).evaluated
  unfolding solve reply_of
  difference = gap-exact (total_cost (units_of q) (found q).best) (greatest_floor q (found q).evaluated) floor_at_most_cost

  pub floor_not_negative : pos 0 ≤ℤ cost_less_gap (solve q)
  floor_not_negative = rw difference greatest_floor_not_negative

-- ---- of a case

module _ (c : Case) where
  -- cost and net of a case's problem are those of the case
  pub same-cost : (ps : List ℕ) → total_cost (units_of (problem_of c)) ps ≡ total_cost c.units ps
  same-cost ps = ap (λ (us : List Unit). total_cost us ps) (units_of_problem c)

  pub same-net : (ps : List ℕ) → total_net (units_of (problem_of c)) ps ≡ total_net c.units ps
  same-net ps = ap (λ (us : List Unit). total_net us ps) (units_of_problem c)

  pub same_target : target (problem_of c) ≡ 100000000 * c.demand
  unfolding problem_of
  same_target = refl

  pub covering-net : (ps : List ℕ) → Covering c ps → target (problem_of c) ≤ total_net (units_of (problem_of c)) ps
  covering-net ps h = omega (arith, leb-true (100000000 * c.demand) (total_net c.units ps) h, same-net ps, same_target)

  pub permitted-given : (ps : List ℕ) → Permitted c ps → Given (problem_of c).offers ps
  unfolding problem_of
  permitted-given ps h = allocation-given c.units ps h

  pub given-permitted : (ps : List ℕ) → Given (problem_of c).offers ps → Permitted c ps
  unfolding problem_of
  given-permitted ps h = given-allocation c.units ps h

pub reply-promise : (c : Case) → Every Sound c.units → solvable (problem_of c) ≡ true → ReplyPromise c (solve (problem_of c))
unfolding solve reply_of
reply-promise c s solves =
    let q = problem_of c in
    let best = (found q).best in
    let proper = case-proper c s in
    let law = shown q proper solves in
    let exact = difference q proper solves in
    record {
      bisection = refl;
      permitted = given-permitted c best law.allowed;
      covering = le-leb (100000000 * c.demand) (total_net c.units best) (omega (arith, law.covers, same-net c best, same_target c));
      cost = same-cost c best;
      surplus = omega (arith, law.covers, same-net c best, same_target c);
      nobody_spends_less = λ ps a h. rw (exact, ← same-cost c ps) (floor_at_most q proper solves ps (permitted-given c ps a) (covering-net c ps h));
      greatest_floor = rw exact (greatest-floor q proper solves);
      cheapest = λ m k h. omega (arith, law.cheapest m k (covering-net c (selected m q) h), same-cost c (selected m q));
      evaluations = refl;
      at_most_18 = law.few;
    }
