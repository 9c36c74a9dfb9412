-- The closed cases. The greatest floor of all multipliers is that of the evaluated ones, so a judgement by these computes; each row is then one computation.
use Rattle.std.specs.Prelude.{Ok, Err, Result}
use Prim.Native.Nat.{ℕ, ◌-◌, ◌*◌}
use mathlib.Core.Path.{◌≡◌, refl, ap, fun_ext, ◌∙◌}
use mathlib.Core.Bool.{cond}
use mathlib.Core.List.{List, map}
use lib.Dec.{ltb}
use lib.IntN.{ℤ, pos, ◌-ℤ◌}
use lib.ListN.{length}
use Rattle.rules.specs.Numbers.{natural}
use Rattle.rules.specs.Layout.{Case, case_of}
use Rattle.rules.specs.Refusal.{◌refuses◌, ◌then◌, Verdict}
use Rattle.rules.specs.Problem.{total_cost, total_net, problem_of}
use Rattle.rules.specs.Choice.{greatest_floor}
use Rattle.rules.specs.Bisection.{found}
use Rattle.rules.specs.Calls.{case_verdict}
use Rattle.rules.specs.TableRows.{Row, Holds}
use Rattle.rules.specs.Cases as cases
use Rattle.rules.specs.declared.Refusal.TheVariants.{BufferTooShort}
use Rattle.rules.proofs.Verdicts.{then_accepted}
use Rattle.rules.proofs.Encoding.SoundFile.{units-sound}
use Rattle.rules.proofs.Demand3.{case-accepted}
use Rattle.std.specs.Prelude.{Result, Ok, Err, Option, Some, None}
use Rattle.rules.specs.declared.Refusal.{Refusal}
use Rattle.judging.specs.declared.Judgement.{Judgement}
use Rattle.judging.specs.Judging.{acceptable, told, judge_verdict, judge_ends, judged, number_of_judged, answers_of_judged, panel_judged}
use Rattle.judging.specs.Cases.{Call, judge, panel_judge, Answer, tells, returns, answer, judgements, panel_judgements}
use Rattle.judging.proofs.Judgements.{floors-evaluated, verdict-parts}

-- ---- a judgement by the multipliers that the search evaluates

unfoldable told_by_evaluated : Case → List ℕ → Judgement
told_by_evaluated c ps =
    let q = problem_of c in
    let cost = total_cost c.units ps in
    record { cost = cost; surplus = total_net c.units ps - 100000000 * c.demand; distance = natural (pos cost -ℤ greatest_floor q (found q).evaluated) }

unfoldable ends_by_evaluated : Verdict → List ℕ → List ℕ → Result (Option Judgement) Refusal
ends_by_evaluated (Err r) file outputs = Err r
ends_by_evaluated (Ok _) file outputs = let c = case_of file in Ok (cond (acceptable c outputs) (Some (told_by_evaluated c outputs)) None)

-- it is the judgement
by-evaluated : (v : Verdict) (file ps : List ℕ) → (v ≡ Ok tt → case_verdict file ≡ Ok tt) → judge_ends v file ps ≡ ends_by_evaluated v file ps
unfolding judge_ends ends_by_evaluated told told_by_evaluated
by-evaluated (Err r) file ps h = refl
by-evaluated (Ok _) file ps h =
    let both = case-accepted file (h refl) in
    rw (floors-evaluated (case_of file) ps (units-sound file both.0) both.1)

-- ---- the rows

abbrev panel_verdict : List ℕ → List ℕ → List ℤ → Verdict
panel_verdict file ps answers = ltb (length answers) 4 refuses BufferTooShort then judge_verdict file ps

abbrev computed : Call → Answer
computed (judge file ps) = tells (ends_by_evaluated (judge_verdict file ps) file ps)
computed (panel_judge file ps answers) = let a = ends_by_evaluated (panel_verdict file ps answers) file ps in returns (number_of_judged a) (answers_of_judged a answers)

answer-computed : (c : Call) → answer c ≡ computed c
unfolding answer judged panel_judged
answer-computed (judge file ps) = ap tells (by-evaluated (judge_verdict file ps) file ps (λ e. (verdict-parts file ps e).0))
answer-computed (panel_judge file ps answers) =
    ap (λ (a : Result (Option Judgement) Refusal). returns (number_of_judged a) (answers_of_judged a answers))
    (by-evaluated (panel_verdict file ps answers) file ps (λ e. (verdict-parts file ps ((then_accepted (ltb (length answers) 4 refuses BufferTooShort) (judge_verdict file ps)).0 e).1).0))

holds-computed : (rows : List (Row Call Answer)) → Holds computed rows → Holds answer rows
holds-computed rows held = ap (λ (f : Call → Answer). map (λ r. f r.call) rows) (fun_ext answer-computed) ∙ held

judgements_compute : Holds computed judgements
unfolding cases.answer judgements ends_by_evaluated told_by_evaluated judge_verdict acceptable
judgements_compute = refl

pub judgements_hold : Holds answer judgements
judgements_hold = holds-computed judgements judgements_compute

panel_judgements_compute : Holds computed panel_judgements
unfolding cases.answer panel_judgements ends_by_evaluated told_by_evaluated judge_verdict acceptable
panel_judgements_compute = refl

pub panel_judgements_hold : Holds answer panel_judgements
panel_judgements_hold = holds-computed panel_judgements panel_judgements_compute
