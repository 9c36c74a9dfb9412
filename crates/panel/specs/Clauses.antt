-- What the code requires of a lent list and of what is written into it.
use Rattle.std.specs.Prelude.{◌≤◌, List, ℤ, length, Option, Some, None, ⊤}
use Rattle.judging.specs.Clauses.{SmallAnswer}
use Rattle.judging.specs.declared.Judgement.{Judgement}

-- numbers that signed 64 bits hold
abbrev pub Small : Option Judgement → Type 0
Small (Some j) = SmallAnswer j.cost j.surplus j.distance
Small None = ⊤

-- room for four answers, and such numbers
pub record Answerable (answers : List ℤ) (j : Option Judgement) : Type 0 where
  pub room : 4 ≤ length answers
  pub small : Small j
