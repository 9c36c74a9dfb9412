-- Rules 11.1 to 11.14 of docs/SPECIFICATION.md: the search (dual bisection) and what the reply states of it. Steps 2 to 4 ask of an allocation only its net, so they are stated over any type of allocations.
use Rattle.std.specs.Prelude.{ℕ, zero, suc, ◌+◌, ◌-◌, ◌/◌, ◌^◌, Bool, cond, ◌&&◌, List, [], ◌∷◌, map, leb, eqb, ltb, pos, ◌-ℤ◌, length}
use Rattle.rules.specs.Lists.{all, greatest}
use Rattle.rules.specs.Numbers.{natural}
use Rattle.rules.specs.Problem.{total_cost, total_net, covers, Problem, units_of, target}
use Rattle.rules.specs.Choice.{selected, greatest_floor}

-- what the search found: its best allocation, and the multipliers that it evaluated, the last one first. (An evaluation is one of the dual function.)
pub record Found (X : Type 0) : Type 0 where
  pub best : X
  pub evaluated : List ℕ

-- `choose m` is the allocation that the evaluation of m takes; an allocation covers if its net is at least `target`
module _ {X : Type 0} (choose : ℕ → X) (net : X → ℕ) (target : ℕ) where
  -- (rules 11.8 to 11.11) step 4: the middle of low and high is evaluated. Net equal to the target: the best, and the end. More: the best, and the lower half is left. Less: the upper half is left.
  -- high − low is 2 ^ k: it starts at 2 ^ 16, and half of 2 ^ (k + 1) is 2 ^ k.
  unfoldable pub step4 : ℕ → ℕ → X → List ℕ → Found X
  step4 zero low best seen = record { best = best; evaluated = seen }
  step4 (suc k) low best seen =
      let high = low + 2 ^ suc k in
      let middle = (low + high) / 2 in
      let x = choose middle in
      let lower-half = step4 k low x (middle ∷ seen) in
      let upper-half = step4 k middle best (middle ∷ seen) in
      let ended : Found X = record { best = x; evaluated = middle ∷ seen } in
      cond (eqb (net x) target) ended (cond (leb target (net x)) lower-half upper-half)

  -- (rules 11.5 to 11.7) step 3: 65,536. Without cover it ends with the first best; with a net equal to the target, with what it takes itself; else step 4 goes on from that.
  unfoldable pub step3 : X → Found X
  step3 first =
      let x = choose 65536 in
      let seen : List ℕ = 65536 ∷ 0 ∷ [] in
      let halved = step4 16 0 x seen in
      let ended : Found X = record { best = x; evaluated = seen } in
      let uncovered : Found X = record { best = first; evaluated = seen } in
      cond (leb target (net x)) (cond (eqb (net x) target) ended halved) uncovered

  -- (rules 11.3, 11.4) the whole search, from step 2 on: 0. Where what it takes covers, that is the best and the end.
  unfoldable pub search : X → Found X
  search first =
      let x = choose 0 in
      let next = step3 first in
      let ended : Found X = record { best = x; evaluated = 0 ∷ [] } in
      cond (leb target (net x)) ended next

-- ---- of a problem

-- the greatest outputs that the units may be given
unfoldable pub greatest_outputs : Problem → List ℕ
greatest_outputs q = map (λ o. greatest o.outputs) q.offers

-- (rules 11.1, 11.2) step 1: every unit has an output, and the greatest ones together cover. Where they do they are the first best, else the number is 11.
unfoldable pub solvable : Problem → Bool
solvable q =
    all (λ o. ltb 0 (length o.outputs)) q.offers && covers q.demand (total_net (units_of q) (greatest_outputs q))

unfoldable pub found : Problem → Found (List ℕ)
found q = search (λ m. selected m q) (total_net (units_of q)) (target q) (greatest_outputs q)

-- ---- (rules 11.12 to 11.14) what the reply states of the best: the gap to the greatest floor of all evaluations, the surplus over the target, and how many evaluations there were.
-- Gap is the duality gap, as an amount; surplus the slack of the power balance. (Neither is ever negative: see `Promise`.)

pub record Reply : Type 0 where
  pub evaluations : ℕ
  pub cost : ℕ
  pub gap : ℕ
  pub surplus : ℕ
  pub outputs : List ℕ

unfoldable pub reply_of : Problem → Found (List ℕ) → Reply
reply_of q f =
    record {
      evaluations = length f.evaluated;
      cost = total_cost (units_of q) f.best;
      gap = natural (pos (total_cost (units_of q) f.best) -ℤ greatest_floor q f.evaluated);
      surplus = total_net (units_of q) f.best - target q;
      outputs = f.best;
    }

unfoldable pub solve : Problem → Reply
solve q = reply_of q (found q)
