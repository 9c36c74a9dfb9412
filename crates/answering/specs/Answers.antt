-- Rule 23.4 of docs/SPECIFICATION.md: start, advance and ask of a run in C. The number that each returns, and what it puts into a lent list of signed numbers.
use Rattle.std.specs.Prelude.{ℕ, cond, List, [], ◌∷◌, map, ltb, ℤ, pos, length, Result, Ok, Err}
use Rattle.rules.specs.Lists.{over}
use Rattle.rules.specs.Refusal.{number_of}
use Rattle.rules.specs.declared.Refusal.{Refusal}
use Rattle.rules.specs.declared.Refusal.TheVariants.{BufferTooShort}
use Rattle.stepping.specs.declared.State.{State}
use Rattle.stepping.specs.declared.Asked.{Asked}
use Rattle.stepping.specs.Runs.{started, advanced_by, asked}

-- ---- start

abbrev pub number_of_started : Result (Unit {0}) Refusal → ℕ
number_of_started (Ok u) = 0
number_of_started (Err r) = number_of r

pub record PanelStartResult : Type 0 where
  pub number : ℕ
  pub numbers : List ℕ
  pub bytes : List ℕ

unfoldable pub panel_started : List ℕ → List ℕ → List ℕ → PanelStartResult
panel_started numbers bytes file = let s = started numbers bytes file in record { number = number_of_started s.answer; numbers = s.numbers; bytes = s.bytes }

-- ---- advance

abbrev pub number_of_state : State → ℕ
number_of_state State.NotStarted = 0
number_of_state State.Unfinished = 1
number_of_state State.Finished = 2

abbrev pub number_of_advanced : Result State Refusal → ℕ
number_of_advanced (Ok s) = 0
number_of_advanced (Err r) = number_of r

-- the state in the first place
abbrev pub answers_of_advanced : Result State Refusal → List ℤ → List ℤ
answers_of_advanced (Ok s) answers = over (pos (number_of_state s) ∷ []) answers
answers_of_advanced (Err r) answers = answers

pub record PanelAdvanceResult : Type 0 where
  pub number : ℕ
  pub numbers : List ℕ
  pub answers : List ℤ

-- a list without a place is 1, before every other check
unfoldable pub panel_advanced : List ℕ → List ℕ → List ℕ → List ℤ → PanelAdvanceResult
panel_advanced numbers bytes file answers =
    let a = advanced_by numbers bytes file in
    let short : PanelAdvanceResult = record { number = number_of BufferTooShort; numbers = numbers; answers = answers } in
    let told : PanelAdvanceResult = record { number = number_of_advanced a.answer; numbers = a.numbers; answers = answers_of_advanced a.answer answers } in
    cond (ltb (length answers) 1) short told

-- ---- ask

-- 38 numbers: state, count, evaluations, cost, gap, surplus, and the 32 outputs
abbrev pub numbers_asked : Asked → List ℤ
numbers_asked a = pos (number_of_state a.state) ∷ pos a.count ∷ pos a.evaluations ∷ pos a.cost ∷ pos a.gap ∷ pos a.surplus ∷ map pos a.outputs

pub record PanelAskResult : Type 0 where
  pub number : ℕ
  pub answers : List ℤ

-- a list under 38 places is 1
unfoldable pub panel_asked : List ℕ → List ℤ → PanelAskResult
panel_asked numbers answers =
    let short : PanelAskResult = record { number = number_of BufferTooShort; answers = answers } in
    let told : PanelAskResult = record { number = 0; answers = over (numbers_asked (asked numbers)) answers } in
    cond (ltb (length answers) 38) short told
