-- The number of regions left to split off suffices: each split takes one off at least, nothing is split where none is left, and a case starts with at most 160. So a search with 160 is the search.
use Rattle.std.specs.Prelude.{Ok}
use mathlib.Core.Path.{◌≡◌, refl, sym, ap}
use mathlib.Core.Bool.{Bool, true, false, cond, ◌||◌, true≢false}
use mathlib.Core.List.{List, [], ◌∷◌, map}
use Prim.Native.Nat.{ℕ, suc, ◌+◌, ◌*◌, ◌≤◌, ◌<◌}
use native.Mathlib.Omega.{arith}
use lib.Dec.{leb, eqb}
use lib.ListN.{length, length-append, length-map}
use borrow.Author.Tests.{ltb-true, le-ltb}
use Rattle.rules.specs.Lists.{filter, Every}
use Rattle.rules.specs.Unit.{Unit, Zone, zone_at, zones}
use Rattle.rules.specs.Regions.{Region, intervals, windowed, left_of, regions}
use Rattle.rules.specs.Layout.{Case, unit_at, count, case_of}
use Rattle.rules.specs.Refusal.{file_verdict}
use Rattle.rules.specs.Bisection.{Reply}
use Rattle.rules.specs.Sound.{Sound}
use Rattle.rules.proofs.Lists.{length-each}
use Rattle.rules.proofs.Verdicts.{either_way}
use Rattle.rules.proofs.Encoding.SoundFile.{sound-file, units-sound}
use Rattle.branching.specs.Branching.{Progress, visit, search}
use Rattle.branching.specs.Claims.{LeftSuffices}
use Rattle.branching.specs.Nodes.{NodeUnit, has_several, lowest_of, rest_of, any_several, divided, splits, tree, root, reply_of_search, refined_reply}
use Rattle.branching.proofs.NodeByNode.{enough}

-- ---- a split takes one off

pub nothing_left : (x : List NodeUnit) → splits x ≡ 0 → any_several x ≡ false
nothing_left [] e = refl
nothing_left (h ∷ hs) e = rw (le-ltb 1 (length h.regions) (omega arith)) (nothing_left hs (omega arith))

module _ (part : List Region → List Region) (fewer : (rs : List Region) → 1 < length rs → length (part rs) < length rs) where
  part_smaller : (x : List NodeUnit) → any_several x ≡ true → splits (divided part x) < splits x
  unfolding divided
  part_smaller [] e = absurd (true≢false (sym e))
  part_smaller (h ∷ hs) e = by (has_several h) refl e (part_smaller hs)
    where
      by : (b : Bool) → has_several h ≡ b → (b || any_several hs) ≡ true → (any_several hs ≡ true → splits (divided part hs) < splits hs) → splits (cond b (record { unit = h.unit; regions = part h.regions } ∷ hs) (h ∷ divided part hs)) < splits (h ∷ hs)
      by true f e rest = let several = ltb-true 1 (length h.regions) f in omega (arith, several, fewer h.regions several)
      by false f e rest = omega (arith, rest e)

lowest-fewer : (rs : List Region) → 1 < length rs → length (lowest_of rs) < length rs
lowest-fewer [] h = absurd (omega arith)
lowest-fewer (r ∷ rs) h = h

rest-fewer : (rs : List Region) → 1 < length rs → length (rest_of rs) < length rs
rest-fewer [] h = absurd (omega arith)
rest-fewer (r ∷ rs) h = omega arith

pub lowest_smaller : (x : List NodeUnit) → any_several x ≡ true → splits (divided lowest_of x) < splits x
lowest_smaller = part_smaller lowest_of lowest-fewer

pub rest_smaller : (x : List NodeUnit) → any_several x ≡ true → splits (divided rest_of x) < splits x
rest_smaller = part_smaller rest_of rest-fewer

-- ---- a unit has at most six regions

length-filter : {A : Type 0} (test : A → Bool) (xs : List A) → length (filter test xs) ≤ length xs
length-filter test [] = omega arith
length-filter test (x ∷ xs) = either_way (λ ys. length ys ≤ suc (length xs)) (test x) (λ _. omega (arith, length-filter test xs)) (λ _. omega (arith, length-filter test xs))

length-intervals : (below above : ℕ) (zs : List Zone) → length (intervals below zs above) ≡ suc (length zs)
unfolding intervals
length-intervals below above [] = refl
length-intervals below above (z ∷ zs) = ap suc (length-intervals z.upper above zs)

pub few-regions : (u : Unit) → length (regions u) ≤ 2 + u.zone_count
unfolding regions zones
few-regions u =
    let standing : List Region = cond (eqb u.mark 0) (record { low = 0; high = 0 } ∷ []) [] in
    let all = intervals u.least (zones u) u.greatest in
    let one = either_way (λ (rs : List Region). length rs ≤ 1) (eqb u.mark 0) {x = record { low = 0; high = 0 } ∷ []} {y = []} (λ _. omega arith) (λ _. omega arith) in
    omega (arith, length-append standing (left_of u all), one, length-filter (λ r. leb r.low r.high) (map (windowed u) all), length-map all (windowed u), length-intervals u.least u.greatest (zones u), length-each u.zone_count (zone_at u.edges))

few-splits : (us : List Unit) → Every Sound us → splits (map (λ u. record { unit = u; regions = regions u }) us) ≤ 5 * length us
few-splits [] s = omega arith
few-splits (u ∷ us) s = omega (arith, few-regions u, s.0.zone_count, few-splits us s.1)

pub at_most_160 : (c : Case) → Every Sound c.units → length c.units ≤ 32 → splits (root c) ≤ 160
at_most_160 c s few = omega (arith, few-splits c.units s)

-- ---- as many or more give the same

pub visit-enough : (d budget left parent : ℕ) (x : List NodeUnit) (s : Progress Reply) → splits x ≤ left → visit (tree d) budget left parent x s ≡ visit (tree d) budget (splits x) parent x s
visit-enough d budget left parent x s h = enough (tree d) splits nothing_left lowest_smaller rest_smaller budget (splits x) left parent x s (omega arith) h

pub left-suffices : LeftSuffices
unfolding search
left-suffices d budget left x h = visit-enough d budget left 0 x _ h

pub search_160 : (c : Case) → Every Sound c.units → length c.units ≤ 32 → (budget : ℕ) → refined_reply budget c ≡ reply_of_search c.demand (search (tree c.demand) budget 160 (root c))
unfolding refined_reply
search_160 c s few budget = ap (reply_of_search c.demand) (sym (left-suffices c.demand budget 160 (root c) (at_most_160 c s few)))

-- of an accepted file, which has 1 to 32 units
pub units_in_range : (file : List ℕ) → file_verdict file ≡ Ok tt → (1 ≤ length (case_of file).units) × (length (case_of file).units ≤ 32)
unfolding case_of
units_in_range file e =
    let head = ((sound-file file).0 e).head in
    omega (arith, length-each (count file) (unit_at file), head.count-least, head.count-greatest)

pub file_160 : (file : List ℕ) → file_verdict file ≡ Ok tt → (budget : ℕ) → let c = case_of file in refined_reply budget c ≡ reply_of_search c.demand (search (tree c.demand) budget 160 (root c))
file_160 file e budget = search_160 (case_of file) (units-sound file e) (units_in_range file e).1 budget
