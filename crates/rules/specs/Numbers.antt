-- The few functions on signed numbers that the rules need; `divided_up` is the rounding of rule 10.2 of docs/SPECIFICATION.md, `greatest_at` the greatest floor of rule 11.12.
use Rattle.std.specs.Prelude.{ℕ, suc, ◌+◌, ◌-◌, ◌/◌, cond, List, [], ◌∷◌, ℤ, pos, negsuc, neg_ℤ, ◌+ℤ◌}
use Rattle.std.specs.Int.Signed.{le_z}

-- an integer that is not negative, as a natural number (of a negative one, 0)
unfoldable pub natural : ℤ → ℕ
natural (pos n) = n
natural (negsuc n) = 0

-- the sum of some integers
unfoldable pub total : List ℤ → ℤ
total [] = pos 0
total (z ∷ zs) = z +ℤ total zs

-- a quotient rounded up, toward plus infinity
unfoldable pub divided_up : ℤ → ℕ → ℤ
divided_up (pos n) k = pos ((n + (k - 1)) / k)
divided_up (negsuc n) k = neg_ℤ (pos (suc n / k))

-- the greatest that a function has at some multipliers (at none, 0)
unfoldable pub greatest_at : (ℕ → ℤ) → List ℕ → ℤ
greatest_at f [] = pos 0
greatest_at f (m ∷ []) = f m
greatest_at f (m ∷ n ∷ ms) = let rest = greatest_at f (n ∷ ms) in cond (le_z (f m) rest) rest (f m)
