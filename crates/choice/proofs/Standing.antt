-- A unit that may stand, or whose first region runs: what its choice among the running outputs tells of its choice among all, from how that output's priced cost compares with 0, what standing costs.
use mathlib.Core.Path.{◌≡◌, sym, ◌∙◌}
use mathlib.Core.List.{List}
use Prim.Native.Nat.{ℕ, ◌+◌, ◌≤◌, ◌<◌}
use native.Mathlib.Decide.{ℕ_discrete}
use native.Mathlib.Omega.{arith}
use lib.IntN.{ℤ, pos}
use mir.Syntax.{w64}
use mir.Val.{SFits, to_z, of_z}
use mir.Facts.{to_z-of_z}
use Rattle.std.proofs.Common.{Less, Equal, Greater}
use Rattle.std.specs.Ordering.{int_cmp}
use Rattle.std.proofs.lemmas.Cmp.{int_ranked}
use Rattle.rules.specs.Offers.{Chosen}
use Rattle.regions.specs.Regions.{high}
use Rattle.site.specs.Site.{Within}
use Rattle.curve.specs.declared.Curve as code
use Rattle.curve.specs.Curve.{height, priced_at}
use Rattle.curve.proofs.Heights.{priced-running, priced-standing}
use Rattle.choice.specs.Clauses.{Running, Choosable}
use Rattle.choice.proofs.Regions.{from_lowest, runs, running-chosen, behind-standing, stands-better, runs-better, stands_or_runs}

module _ {ends : List ℕ} {first last from : ℕ} {c : code.Curve} (u : Choosable ends first last c) (begins : (high ends first ≡ 0 → from ≡ first + 1) × ((high ends first ≡ 0 → ⊥) → from ≡ first)) where
  -- whether the first region is 0..0
  stands? : Dec (high ends first ≡ 0)
  stands? = ℕ_discrete (high ends first) 0

  module _ (left : from ≤ last) where
    running : Running ends from last c
    running = by stands?
      where
        by : Dec (high ends first ≡ 0) → Running ends from last c
        by (yes z) = let e = begins.0 z in rw e (behind-standing u z (omega (arith, e)))
        by (no n) = rw (begins.1 n) (runs u n)

    module _ {greatest least : ℕ} (chosen : Chosen (height c) (Within ends from last) greatest least) where
      -- by priced cost, where they begin at region n
      chosen-from : (n : ℕ) → from ≡ n → Chosen (priced_at c) (Within ends n last) greatest least
      chosen-from n e = rw e at (running-chosen running chosen)

      pub never-stands : from ≡ first → Chosen (priced_at c) (Within ends first last) greatest least
      never-stands = chosen-from first

      -- ---- it may stand, and runs behind that region

      module _ (n : from ≡ first → ⊥) where
        stands : high ends first ≡ 0
        stands = by stands?
          where
            by : Dec (high ends first ≡ 0) → high ends first ≡ 0
            by (yes z) = z
            by (no m) = absurd (n (begins.1 m))

        more : first < last
        more = omega (arith, begins.0 stands, left)

        among-running : Chosen (priced_at c) (Within ends (first + 1) last) greatest least
        among-running = chosen-from (first + 1) (begins.0 stands)

        runs-at-all : 1 ≤ greatest
        runs-at-all = let k = behind-standing u stands more in omega (arith, from_lowest k.regions greatest among-running.candidate, k.runs)

        -- its priced cost, as it is read
        module _ {z : ℤ} (fits : SFits w64 z) (priced : z ≡ height c greatest) where
          read : to_z w64 (of_z w64 z) ≡ priced_at c greatest
          read = to_z-of_z {w = w64} fits ∙ priced ∙ sym (priced-running c greatest runs-at-all)

          pub dearer : Greater ≡ int_cmp (to_z w64 (of_z w64 z)) (pos 0) → Chosen (priced_at c) (Within ends first last) 0 0
          dearer e = stands-better u stands more among-running (rw (priced-standing c, ← read) (int_ranked _ _ Greater e))

          pub level : Equal ≡ int_cmp (to_z w64 (of_z w64 z)) (pos 0) → Chosen (priced_at c) (Within ends first last) greatest 0
          level e = stands_or_runs u stands more among-running (rw (priced-standing c, ← read) (int_ranked _ _ Equal e))

          pub cheaper : Less ≡ int_cmp (to_z w64 (of_z w64 z)) (pos 0) → Chosen (priced_at c) (Within ends first last) greatest least
          cheaper e = runs-better u stands more among-running (rw (priced-standing c, ← read) (int_ranked _ _ Less e))
