-- What the function behind the C entry of a day answers.
use Rattle.std.specs.Prelude.{ℕ, Result, Ok, Err}
use Rattle.rules.specs.Refusal.{number_of}
use Rattle.rules.specs.declared.Refusal.{Refusal}

-- 0, or the number of the refusal
abbrev pub number_told : Result (Unit {0}) Refusal → ℕ
number_told (Ok done) = 0
number_told (Err r) = number_of r
