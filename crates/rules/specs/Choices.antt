-- Rule 9.4 of docs/SPECIFICATION.md, as a statement: the choices of one multiplier together are an allocation. (Proved in proofs/Choices.)
use Rattle.std.specs.Prelude.{ℕ, ◌<◌, true, List, ◌≡◌, Ok}
use Rattle.rules.specs.Unit.{permitted}
use Rattle.rules.specs.Layout.{count, unit_at, case_of}
use Rattle.rules.specs.Refusal.{file_verdict}
use Rattle.rules.specs.Problem.{allocation, problem_in}
use Rattle.rules.specs.Choice.{choices}

-- every unit of a file has a permitted output
abbrev pub EachMayGive : List ℕ → Type 0
EachMayGive file = (i : ℕ) → i < count file → (p : ℕ) × (permitted (unit_at file i) p ≡ true)

abbrev pub ChoicesAllocate : Type 0
ChoicesAllocate = (file : List ℕ) → file_verdict file ≡ Ok tt → EachMayGive file → (m : ℕ) → allocation (case_of file).units (choices m (problem_in file)) ≡ true
