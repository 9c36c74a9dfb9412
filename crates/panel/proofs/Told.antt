-- The call of a day as C sees it, by whether its answer has a place.
use mathlib.Core.Path.{◌≡◌, refl, sym, ap, ◌∙◌}
use Prim.Native.Nat.{ℕ, ◌≤◌, ◌<◌}
use native.Mathlib.Omega.{arith}
use mathlib.Core.List.{List, [], ◌∷◌}
use lib.IntN.{ℤ, pos}
use lib.ListN.{length, set}
use mir.Syntax.{w64}
use mir.Val.{to_z}
use mir.ValLaws.{to_z_pos}
use borrow.Author.Tests.{lt-ltb, le-ltb}
use Rattle.std.specs.Prelude.{Result, Ok, Err}
use Rattle.rules.specs.Lists.{over}
use Rattle.rules.specs.Refusal.{number_of}
use Rattle.rules.specs.declared.Refusal.{Refusal}
use Rattle.rules.specs.declared.Refusal.TheVariants.{BufferTooShort}
use Rattle.day.specs.declared.History.{History}
use Rattle.day.specs.Clauses.{total_of}
use Rattle.day.specs.Day.{DayResult, day_ends, scheduled, number_of_scheduled, answers_of_scheduled, PanelDayResult, panel_scheduled}

-- what is told of a result
abbrev told_as : DayResult → List ℤ → PanelDayResult
told_as d answers = record { number = number_of_scheduled d.answer; trace = d.trace; histories = d.histories; answers = answers_of_scheduled d.answer answers }

-- a total written to the first place
pub total-written : (answers : List ℤ) (z : ℤ) → 1 ≤ length answers → set answers 0 z ≡ over (z ∷ []) answers
total-written [] z h = absurd (omega arith)
total-written (x ∷ answers) z h = refl

module _ (file demands trace : List ℕ) (histories : List History) (answers : List ℤ) where
  pub without_place : length answers < 1 → panel_scheduled file demands trace histories answers ≡ record { number = number_of BufferTooShort; trace = trace; histories = histories; answers = answers }
  unfolding panel_scheduled day_ends
  without_place h = rw (lt-ltb (length answers) 1 h) refl

  module _ (place : 1 ≤ length answers) where
    with_place : {d : DayResult} → scheduled file demands trace histories ≡ d → panel_scheduled file demands trace histories answers ≡ told_as d answers
    unfolding panel_scheduled scheduled
    with_place e = rw (le-ltb (length answers) 1 place) (ap (λ (d : DayResult). told_as d answers) e)

    module _ {s : Result ℕ Refusal} {ts : List ℕ} {hs : List History} (e : scheduled file demands trace histories ≡ record { answer = s; trace = ts; histories = hs }) where
      with_answer : {x : Result ℕ Refusal} → s ≡ x → panel_scheduled file demands trace histories answers ≡ told_as (record { answer = x; trace = ts; histories = hs }) answers
      with_answer f = with_place e ∙ ap (λ (x : Result ℕ Refusal). told_as (record { answer = x; trace = ts; histories = hs }) answers) f

      pub refused-told : {r : Refusal} → s ≡ Err r → panel_scheduled file demands trace histories answers ≡ record { number = number_of r; trace = ts; histories = hs; answers = answers }
      refused-told f = with_answer f

      pub total-told : total_of s ≤ 617472000000000 → {t : ℕ} → s ≡ Ok t → panel_scheduled file demands trace histories answers ≡ record { number = 0; trace = ts; histories = hs; answers = set answers 0 (to_z w64 t) }
      total-told b {t} f =
          let small : total_of s ≡ t = ap total_of f in
          let written : set answers 0 (to_z w64 t) ≡ over (pos t ∷ []) answers = ap (set answers 0) (to_z_pos w64 t (omega (arith, b, small))) ∙ total-written answers (pos t) place in
          with_answer f ∙ ap (λ (zs : List ℤ). record { number = 0; trace = ts; histories = hs; answers = zs }) (sym written)
