-- Rules 20.1 to 20.4 and 20.8 of docs/SPECIFICATION.md: floors for other demands than the case's, from the evaluations of one search (sensitivity of the dual bound to the demand). What the call answers and writes, on every input.
use Rattle.std.specs.Prelude.{ℕ, ◌*◌, List, [], ◌∷◌, map, ltb, Ok, Err, Result, ℤ, pos, ◌+ℤ◌, ◌-ℤ◌, ◌*ℤ◌, length}
use Rattle.rules.specs.Lists.{over}
use Rattle.rules.specs.Demands.{demands_invalid}
use Rattle.rules.specs.Numbers.{divided_up, greatest_at}
use Rattle.rules.specs.Refusal.{number_of, ◌refuses◌, ◌then◌}
use Rattle.rules.specs.Problem.{Problem, problem_in}
use Rattle.rules.specs.Choice.{dual_value}
use Rattle.rules.specs.Bisection.{found}
use Rattle.rules.specs.Calls.{case_verdict}
use Rattle.rules.specs.declared.Refusal.{Refusal}
use Rattle.rules.specs.declared.Refusal.TheVariants.{BufferTooShort, DemandsInvalid, FloorsTooShort}
use Rattle.rules.specs.Refusal.{Verdict}

-- (rule 20.3) the dual value of m carried from the case's demand to d: each step more is worth m × 100,000,000 more
unfoldable pub dual_for : ℕ → Problem → ℕ → ℤ
dual_for m q d = dual_value m q +ℤ pos (m * 100000000) *ℤ (pos d -ℤ pos q.demand)

-- and the floor for d: that of each multiplier which the search evaluates for the case, divided and rounded up, and the greatest of these (rounding rises, so that it may as well come last)
unfoldable pub floor_for : Problem → ℕ → ℤ
floor_for q d = greatest_at (λ m. divided_up (dual_for m q d) 100000) (found q).evaluated

-- ---- the call: at most 96 demands, none above 320,000, and a place for each floor; then what dispatch refuses (rules 20.1, 20.2)

unfoldable pub floors_verdict : List ℕ → List ℕ → List ℤ → Verdict
floors_verdict file demands floors =
    demands_invalid demands refuses DemandsInvalid
    then ltb (length floors) (length demands) refuses FloorsTooShort
    then case_verdict file

-- how many floors are written, or why none is
pub record FloorsResult : Type 0 where
  pub answer : Result ℕ Refusal
  pub floors : List ℤ

-- (rule 20.4) the floors stand in the order of the demands, and nothing behind them is touched
unfoldable pub floors_end : Verdict → List ℕ → List ℕ → List ℤ → FloorsResult
floors_end (Err r) file demands floors = record { answer = Err r; floors = floors }
floors_end (Ok _) file demands floors =
    record { answer = Ok (length demands); floors = over (map (floor_for (problem_in file)) demands) floors }

unfoldable pub floored : List ℕ → List ℕ → List ℤ → FloorsResult
floored file demands floors = floors_end (floors_verdict file demands floors) file demands floors

-- ---- the call as C sees it (rule 20.8): 0 or a refusal's number, and in a further lent list how many floors were written; without a place for that it is refused with 1

abbrev pub number_of_floored : Result ℕ Refusal → ℕ
number_of_floored (Ok n) = 0
number_of_floored (Err r) = number_of r

abbrev pub answers_of_floored : Result ℕ Refusal → List ℤ → List ℤ
answers_of_floored (Ok n) answers = over (pos n ∷ []) answers
answers_of_floored (Err r) answers = answers

pub record PanelFloorsResult : Type 0 where
  pub number : ℕ
  pub floors : List ℤ
  pub answers : List ℤ

unfoldable pub panel_floored : List ℕ → List ℕ → List ℤ → List ℤ → PanelFloorsResult
panel_floored file demands floors answers =
    let verdict = ltb (length answers) 1 refuses BufferTooShort then floors_verdict file demands floors in
    let result = floors_end verdict file demands floors in
    record { number = number_of_floored result.answer; floors = result.floors; answers = answers_of_floored result.answer answers }
