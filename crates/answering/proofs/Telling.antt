-- What is told in C: one number at the start of a list; and of an ask, that its amounts are small, and six numbers with the outputs behind them are the 38 of the definition.
use Prim.Native.Nat.{ℕ, ◌≤◌}
use native.Mathlib.Omega.{arith}
use mathlib.Core.Path.{◌≡◌, refl, ap, ◌∙◌, subst⁻¹}
use mir.Syntax.{w64}
use mir.Val.{to_z}
use mir.Facts.{to_z_pos}
use mathlib.Core.Bool.{Bool, true, false}
use mathlib.Core.List.{List, [], ◌∷◌, map}
use lib.IntN.{ℤ, pos}
use lib.ListN.{length, set, drop, length-map}
use Rattle.rules.specs.Lists.{over}
use Rattle.rules.proofs.Encoding.Front.{lent, given_back, front-made, front_tail, front-over}
use Rattle.stepping.specs.declared.State.{State}
use Rattle.stepping.specs.declared.Asked.{Asked}
use Rattle.answering.specs.Answers.{number_of_state}
use Rattle.stepping.specs.Runs.{run_in, begun, asked}
use Rattle.stepping.proofs.Fitting.{fitting}
use Rattle.stepping.proofs.Endings.{ask-unstarted, ask-begun}

pub one_written : (xs : List ℤ) (a : ℤ) → 1 ≤ length xs → set xs 0 a ≡ over (a ∷ []) xs
one_written [] a h = absurd (omega arith)
one_written (x ∷ xs) a h = refl

-- ---- an ask

pub record Small (a : Asked) : Type 0 where
  pub cost : a.cost ≤ 35200000000000
  pub gap : a.gap ≤ 35200000000000
  pub surplus : a.surplus ≤ 35200000000000

by-begun : (numbers : List ℕ) (t : Bool) → begun (run_in numbers) ≡ t → Small (asked numbers)
by-begun numbers true e = let f = fitting (run_in numbers) e in subst⁻¹ Small (ask-begun numbers e) (record { cost = f.cost; gap = omega (arith, f.cost); surplus = f.surplus })
by-begun numbers false e = subst⁻¹ Small (ask-unstarted numbers e) (record { cost = omega arith; gap = omega arith; surplus = omega arith })

pub asked-small : (numbers : List ℕ) → Small (asked numbers)
asked-small numbers = by-begun numbers (begun (run_in numbers)) refl

pub six_then : (s : List ℤ) (a b c d e f : ℤ) (outputs : List ℕ) (t : List ℤ) → length outputs ≡ 32 → let w = a ∷ b ∷ c ∷ d ∷ e ∷ f ∷ drop 6 s in t ≡ over (map pos outputs) (lent 6 w) → given_back 6 w t ≡ over (a ∷ b ∷ c ∷ d ∷ e ∷ f ∷ map pos outputs) s
six_then s a b c d e f outputs t long h =
    front-over (front_tail (front-made s (a ∷ b ∷ c ∷ d ∷ e ∷ f ∷ []) _ 6 refl refl) t (map pos outputs) 32 (length-map outputs pos ∙ long) h)

-- ---- a state

state-small : (s : State) → number_of_state s ≤ 2
state-small State.NotStarted = omega arith
state-small State.Unfinished = omega arith
state-small State.Finished = omega arith

pub state-told : {n : ℕ} (s : State) → n ≡ number_of_state s → to_z w64 n ≡ pos (number_of_state s)
state-told s e = to_z_pos w64 (omega (arith, e, state-small s)) ∙ ap pos e
