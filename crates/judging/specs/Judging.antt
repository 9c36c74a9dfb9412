-- Rules 19.1 to 19.7 of docs/SPECIFICATION.md: outputs that someone keys in, judged. What the call answers for a case file and a list of outputs, on every input.
use Rattle.std.specs.Prelude.{ℕ, ◌-◌, ◌*◌, Bool, cond, not, ◌&&◌, List, [], ◌∷◌, ltb, eqb, Ok, Err, Some, None, Result, Option, ℤ, pos, ◌-ℤ◌, length}
use Rattle.rules.specs.Lists.{each, over}
use Rattle.rules.specs.Numbers.{natural}
use Rattle.rules.specs.Layout.{Case, case_of}
use Rattle.rules.specs.Refusal.{number_of, ◌refuses◌, ◌then◌}
use Rattle.rules.specs.Problem.{allocation, total_cost, total_net, covers, problem_of}
use Rattle.rules.specs.Choice.{greatest_floor}
use Rattle.rules.specs.Calls.{case_verdict}
use Rattle.rules.specs.declared.Refusal.{Refusal}
use Rattle.rules.specs.declared.Refusal.TheVariants.{BufferTooShort, OutputCountInvalid}
use Rattle.rules.specs.Refusal.{Verdict}
use Rattle.judging.specs.declared.Judgement.{Judgement}

-- (rule 19.3) outputs that are accepted: each is permitted, and together they cover the demand after losses
unfoldable pub acceptable : Case → List ℕ → Bool
acceptable c ps = allocation c.units ps && covers c.demand (total_net c.units ps)

-- the multipliers, 0 to 65,536
unfoldable pub multipliers : List ℕ
multipliers = each 65537 (λ m. m)

-- (rule 19.4) what is told of them: cost, surplus, and the distance above the greatest floor of all multipliers. (Neither difference is ever negative: see `Claims`.)
unfoldable pub told : Case → List ℕ → Judgement
told c ps =
    let cost = total_cost c.units ps in
    record { cost = cost; surplus = total_net c.units ps - 100000000 * c.demand; distance = natural (pos cost -ℤ greatest_floor (problem_of c) multipliers) }

-- ---- the call (rules 19.1, 19.2): what dispatch refuses it refuses with the same number, then a list that has not one output to a unit

unfoldable pub judge_verdict : List ℕ → List ℕ → Verdict
judge_verdict file outputs = case_verdict file then not (eqb (length outputs) (length (case_of file).units)) refuses OutputCountInvalid

-- refused; or not accepted, which is None; or accepted, with what is told
unfoldable pub judge_ends : Verdict → List ℕ → List ℕ → Result (Option Judgement) Refusal
judge_ends (Err r) file outputs = Err r
judge_ends (Ok _) file outputs = let c = case_of file in Ok (cond (acceptable c outputs) (Some (told c outputs)) None)

unfoldable pub judged : List ℕ → List ℕ → Result (Option Judgement) Refusal
judged file outputs = judge_ends (judge_verdict file outputs) file outputs

-- ---- the call as C sees it (rule 19.7): 0 or a refusal's number, and four answers in a lent list, which has room for them or is refused with 1

abbrev pub number_of_judged : Result (Option Judgement) Refusal → ℕ
number_of_judged (Ok o) = 0
number_of_judged (Err r) = number_of r

-- 1 if accepted, else 0; cost, surplus, distance
abbrev pub answers_of_judged : Result (Option Judgement) Refusal → List ℤ → List ℤ
answers_of_judged (Ok (Some j)) answers = over (pos 1 ∷ pos j.cost ∷ pos j.surplus ∷ pos j.distance ∷ []) answers
answers_of_judged (Ok None) answers = over (pos 0 ∷ pos 0 ∷ pos 0 ∷ pos 0 ∷ []) answers
answers_of_judged (Err r) answers = answers

pub record PanelJudgeResult : Type 0 where
  pub number : ℕ
  pub answers : List ℤ

unfoldable pub panel_judged : List ℕ → List ℕ → List ℤ → PanelJudgeResult
panel_judged file outputs answers =
    let verdict = ltb (length answers) 4 refuses BufferTooShort then judge_verdict file outputs in
    let answer = judge_ends verdict file outputs in
    record { number = number_of_judged answer; answers = answers_of_judged answer answers }
