-- What reading requires of a body.
use Rattle.std.specs.Prelude.{ℕ, ◌≤◌, ◌≡◌, List, length}
use Rattle.fields.specs.Field.{field}
use Rattle.rules.specs.Layout.{body_length}

-- A body of edition e whose zone count is at most 4 and fits its length.
pub record BodyFits (e : ℕ) (s : List ℕ) : Type 0 where
  pub zones : field s 24 2 ≤ 4
  pub size : length s ≡ body_length e (field s 24 2)
  pub long : 26 ≤ length s
