-- Sums over units that replace others: what holds of every unit at its output, added up.
use mathlib.Core.Path.{◌≡◌, refl}
use mathlib.Core.Bool.{true}
use mathlib.Core.List.{List, [], ◌∷◌}
use Prim.Native.Nat.{ℕ, ◌+◌, ◌*◌, ◌≤◌}
use native.Mathlib.Omega.{arith}
use Rattle.rules.specs.Lists.{Pairwise}
use lib.IntN.{pos}
use Rattle.rules.specs.Numbers.{natural}
use Rattle.rules.specs.Unit.{Unit, permitted, linear_factor, net}
use Rattle.rules.specs.Regions.{Region}
use Rattle.rules.specs.Problem.{allocation, total_cost, total_net}
use Rattle.rules.proofs.Verdicts.{and-true}
use Rattle.parts.specs.Parts.{total_output, running_units, Inside, Shift, Replaces, UnitByUnit, NetsNoLess, NoLosses}

-- induction over an allocation in a part, and the units and regions beside it
module _ (R : Unit → Unit → Region → Type 0) (P : List Unit → List Unit → List ℕ → Type 0) (none : P [] [] []) (more : (u v : Unit) (r : Region) (p : ℕ) (us vs : List Unit) (ps : List ℕ) → R u v r → Inside r p → permitted u p ≡ true → P us vs ps → P (u ∷ us) (v ∷ vs) (p ∷ ps)) where
  unit_by_unit : (us vs : List Unit) (rs : List Region) (ps : List ℕ) → UnitByUnit R us vs rs → allocation us ps ≡ true → Pairwise Inside rs ps → P us vs ps
  unfolding allocation
  unit_by_unit [] [] [] [] h a i = none
  unit_by_unit [] [] [] (p ∷ ps) h a i = absurd i
  unit_by_unit [] [] (r ∷ rs) ps h a i = absurd h
  unit_by_unit [] (v ∷ vs) rs ps h a i = absurd h
  unit_by_unit (u ∷ us) [] rs ps h a i = absurd h
  unit_by_unit (u ∷ us) (v ∷ vs) [] ps h a i = absurd h
  unit_by_unit (u ∷ us) (v ∷ vs) (r ∷ rs) [] h a i = absurd i
  unit_by_unit (u ∷ us) (v ∷ vs) (r ∷ rs) (p ∷ ps) h a i =
      let both = (and-true (permitted u p) (allocation us ps)).0 a in
      more u v r p us vs ps h.0 i.0 both.0 (unit_by_unit us vs rs ps h.1 both.1 i.1)

module _ (s : Shift) where
  pub permitted_too : (us vs : List Unit) (rs : List Region) (ps : List ℕ) → UnitByUnit (Replaces s) us vs rs → allocation us ps ≡ true → Pairwise Inside rs ps → allocation vs ps ≡ true
  unfolding allocation
  permitted_too =
      unit_by_unit (Replaces s) (λ us vs ps. allocation vs ps ≡ true) refl
      (λ u v r p us vs ps h i a rest. (and-true (permitted v p) (allocation vs ps)).1 (h.outputs p i a, rest))

  pub cost-sum : (us vs : List Unit) (rs : List Region) (ps : List ℕ) → UnitByUnit (Replaces s) us vs rs → allocation us ps ≡ true → Pairwise Inside rs ps → s.share * (total_cost vs ps + s.credit * running_units ps) ≤ total_cost us ps + s.share * (s.step * total_output ps + s.start * running_units ps)
  unfolding total_cost
  cost-sum =
      unit_by_unit (Replaces s) (λ us vs ps. s.share * (total_cost vs ps + s.credit * running_units ps) ≤ total_cost us ps + s.share * (s.step * total_output ps + s.start * running_units ps)) (omega arith)
      (λ u v r p us vs ps h i a rest. omega (arith, h.costs p i a, rest))

pub net-sum : (us vs : List Unit) (rs : List Region) (ps : List ℕ) → UnitByUnit NetsNoLess us vs rs → allocation us ps ≡ true → Pairwise Inside rs ps → total_net us ps ≤ total_net vs ps
unfolding total_net
net-sum = unit_by_unit NetsNoLess (λ us vs ps. total_net us ps ≤ total_net vs ps) (omega arith) (λ u v r p us vs ps h i a rest. omega (arith, h p i a, rest))

-- without losses a unit nets its output
no_losses : (v : Unit) → v.b ≡ 0 → v.b1 ≡ pos 0 → (p : ℕ) → 100000000 * p ≤ net v p
unfolding net linear_factor natural
no_losses v b b1 p = rw (b, b1) (omega arith)

pub output-sum : (vs : List Unit) (rs : List Region) (ps : List ℕ) → Pairwise NoLosses vs rs → Pairwise Inside rs ps → 100000000 * total_output ps ≤ total_net vs ps
unfolding total_net
output-sum [] [] [] h i = omega arith
output-sum [] [] (p ∷ ps) h i = absurd i
output-sum [] (r ∷ rs) ps h i = absurd h
output-sum (v ∷ vs) [] ps h i = absurd h
output-sum (v ∷ vs) (r ∷ rs) [] h i = absurd i
output-sum (v ∷ vs) (r ∷ rs) (p ∷ ps) h i = omega (arith, no_losses v h.0.0 h.0.1 p, output-sum vs rs ps h.1 i.1)
