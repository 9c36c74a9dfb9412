-- What the code requires of a head and of a body, and tells of a body's length.
use Rattle.std.specs.Prelude.{ℕ, ◌+◌, ◌*◌, ◌≤◌, ◌≡◌, Bool, true, false, List, length, Err}
use Rattle.rules.specs.Layout.{count, offset, size}
use Rattle.rules.specs.Refusal.{body_verdict}
use Rattle.rules.specs.declared.Refusal.{Refusal}
use Rattle.bodies.specs.Clauses.{BodyFits}

-- Whether a body of edition e fits its zone count: one that does not is refused.
pub record FitTold (e : ℕ) (s : List ℕ) (r : Bool) : Type 0 where
  pub fits : r ≡ true → BodyFits e s
  pub misfits : r ≡ false → body_verdict e s ≡ Err Refusal.ZoneCountInvalid

-- A body that lies inside the file, and is long enough for a zone count.
pub record BodyInside (file : List ℕ) (i : ℕ) : Type 0 where
  pub entry : 12 + 4 * i ≤ length file
  pub within : offset file i + size file i ≤ length file
  pub long : 26 ≤ size file i

-- A file whose head names n units.
pub record HeadRead (file : List ℕ) (n : ℕ) : Type 0 where
  pub long : 8 ≤ length file
  pub units : n ≡ count file
  pub most : n ≤ 32
