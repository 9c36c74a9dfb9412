-- An integer as a difference of two naturals, in which contracts state its range and its value.
use Rattle.std.specs.Prelude.{ℕ, suc, ◌+◌, ◌≡◌, ℤ, pos, negsuc}

-- its positive part: z, where z is not negative, and 0
unfoldable pub positive_part : ℤ → ℕ
positive_part (pos n) = n
positive_part (negsuc n) = 0

-- its negative part: −z, where z is negative, and 0
unfoldable pub negative_part : ℤ → ℕ
negative_part (pos n) = 0
negative_part (negsuc n) = suc n

-- z is a − b
pub record Is (z : ℤ) (a b : ℕ) : Type 0 where
  pub is : positive_part z + b ≡ a + negative_part z
