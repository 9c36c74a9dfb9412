-- Rule 25.13 of docs/SPECIFICATION.md: a cost row in C, case by case. Above each row stands the wrong rule that it shows. A lent list has -9 in each place, so that an untouched one shows.
use Rattle.std.specs.Prelude.{ℕ, List, [], ◌∷◌, refl, ℤ, pos, negsuc, replicate}
use Prim.Native.String.{String}
use Rattle.rules.specs.TableRows.{Row, Holds}
use Rattle.gencost.specs.Cases as cases
use Rattle.gencost.specs.Cases.{text}
use Rattle.telling.specs.Told.{PanelGencostResult, panel_gencost}

pub record Call : Type 0 where
  pub row : List ℕ
  pub answers : List ℤ

unfoldable pub answer : Call → PanelGencostResult
unfolding cases.answer panel_gencost
answer c = panel_gencost c.row c.answers

abbrev pub nines : ℕ → List ℤ
nines n = replicate n (negsuc 8)

-- a text and so many places; the number and the list as it is left
abbrev pub row : String → ℕ → ℕ → List ℤ → Row Call PanelGencostResult
row s places number answers = record { call = record { row = text s; answers = nines places }; result = record { number = number; answers = answers } }

unfoldable pub panel_forms : List (Row Call PanelGencostResult)
panel_forms =
    -- another order than a row's; a place behind touched
    row "2 0 0 3 0.085 1.2 600" 4 0 (pos 600000000 ∷ pos 120000 ∷ pos 850 ∷ nines 1)
    -- three places taken for too short
    ∷ row "2 0 0 3 0 0 0" 3 0 (pos 0 ∷ pos 0 ∷ pos 0 ∷ [])
    -- two places written; 26, 27 or 28 before 1
    ∷ row "2 0 0 3 0 0 0" 2 1 (nines 2)
    ∷ row "2 0 0 3 0 0 x" 2 1 (nines 2)
    ∷ row "2 0 0 3 0.00001 0 0" 2 1 (nines 2)
    ∷ row "2 0 0 3 0.11 0 0" 2 1 (nines 2)
    -- another number than the call's, or answers before a refusal
    ∷ row "2 0 0 3 0 0 x" 3 26 (nines 3)
    ∷ row "2 0 0 3 0.00001 0 0" 3 27 (nines 3)
    ∷ row "2 0 0 3 0.11 0 0" 3 28 (nines 3)
    ∷ []

pub panel_forms_hold : Holds answer panel_forms
unfolding answer panel_forms
panel_forms_hold = refl
