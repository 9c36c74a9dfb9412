-- Rule 25.13 of docs/SPECIFICATION.md: a cost row in C. The number that the call returns, and what it puts into a lent list of signed numbers.
use Rattle.std.specs.Prelude.{ℕ, cond, List, [], ◌∷◌, ltb, ℤ, pos, length, Ok, Err}
use Rattle.rules.specs.Lists.{over}
use Rattle.rules.specs.Refusal.{number_of}
use Rattle.rules.specs.declared.Refusal.TheVariants.{BufferTooShort}
use Rattle.gencost.specs.Row.{Answer, gencost_read}

abbrev pub number_of_costs : Answer → ℕ
number_of_costs (Ok costs) = 0
number_of_costs (Err r) = number_of r

-- c0, c1 and c2, as in a unit's row
abbrev pub answers_of_costs : Answer → List ℤ → List ℤ
answers_of_costs (Ok costs) answers = over (pos costs.c0 ∷ pos costs.c1 ∷ pos costs.c2 ∷ []) answers
answers_of_costs (Err r) answers = answers

pub record PanelGencostResult : Type 0 where
  pub number : ℕ
  pub answers : List ℤ

-- a list under 3 places is 1, before every other check
unfoldable pub panel_gencost : List ℕ → List ℤ → PanelGencostResult
panel_gencost row answers =
    let costs = gencost_read row in
    let short : PanelGencostResult = record { number = number_of BufferTooShort; answers = answers } in
    let told : PanelGencostResult = record { number = number_of_costs costs; answers = answers_of_costs costs answers } in
    cond (ltb (length answers) 3) short told
