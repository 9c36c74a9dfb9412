-- The starts of each unit are counted exactly: a slot adds one where the unit rises from 0, by induction over the demands on any histories that fit.
use mathlib.Core.Path.{◌≡◌, refl, ap, ◌∙◌}
use Prim.Native.Nat.{ℕ, zero, suc, ◌+◌}
use native.Mathlib.Omega.{arith}
use mathlib.Core.Bool.{Bool, true, false, cond, ◌&&◌}
use mathlib.Core.List.{List, [], ◌∷◌, map}
use lib.Dec.{ltb, eqb}
use lib.ListN.{length, get_or}
use Rattle.rules.specs.Lists.{Every}
use Rattle.rules.specs.Unit.{Unit}
use Rattle.rules.specs.Layout.{Case, case_of}
use Rattle.rules.specs.Problem.{Problem, problem_of}
use Rattle.rules.specs.Bisection.{solvable, solve}
use Rattle.rules.specs.Sound.{Sound}
use Rattle.rules.proofs.Encoding.SoundFile.{units-sound}
use Rattle.day.specs.declared.History.{History}
use Rattle.day.specs.Day.{slot_case, histories_after, histories_of, Slots, solved_slot, refused_slot, one_slot, slots_more, slots_from, no_slot, day_of}
use Rattle.day.specs.Claims.{cases_from, previous_outputs, slot_cases, solved_outputs, starts_from, StartsCounted}
use Rattle.day.proofs.OneSlot.{outputs-long}
use Rattle.day.proofs.Claims.{Fitting, after-previous, fitting-more, first-fitting, case-previous}

abbrev starts_at : List History → ℕ → ℕ
starts_at hs i = get_or (map (λ h. h.starts) hs) i 0

abbrev previous_at : List History → ℕ → ℕ
previous_at hs i = get_or (previous_outputs hs) i 0

-- ---- one slot

one-counted : (b : Bool) (s : ℕ) → cond b (s + 1) s ≡ s + cond b 1 0
one-counted true s = refl
one-counted false s = omega arith

after-counted : (hs : List History) (ps : List ℕ) (i : ℕ) → length ps ≡ length hs → starts_at (histories_after hs ps) i ≡ starts_at hs i + cond (eqb (previous_at hs i) 0 && ltb 0 (get_or ps i 0)) 1 0
after-counted [] [] i e = refl
after-counted [] (p ∷ ps) i e = absurd (omega (arith, e))
after-counted (h ∷ hs) [] i e = absurd (omega (arith, e))
after-counted (h ∷ hs) (p ∷ ps) zero e = one-counted (eqb h.previous 0 && ltb 0 p) h.starts
after-counted (h ∷ hs) (p ∷ ps) (suc i) e = after-counted hs ps i (omega (arith, e))

module _ (c : Case) (sound : Every Sound c.units) (i : ℕ) where
  -- starts from the histories hs on, through some outputs
  abbrev through : List History → List (List ℕ) → ℕ
  through hs pss = starts_at hs i + starts_from (previous_at hs i) (map (λ ps. get_or ps i 0) pss)

  module _ (hs : List History) (d : ℕ) where
    abbrev q : Problem
    q = problem_of (slot_case c hs d)

    slot_counted : Fitting c hs → (pss : List (List ℕ)) → through (one_slot c hs d).histories pss ≡ through hs (cond (solvable q) ((solve q).outputs ∷ pss) pss)
    unfolding one_slot
    slot_counted f pss = by (solvable q) refl
      where
        by : (b : Bool) → solvable q ≡ b → through (cond b (solved_slot hs (solve q)) (refused_slot hs)).histories pss ≡ through hs (cond b ((solve q).outputs ∷ pss) pss)
        by true e =
            let long = outputs-long c hs d sound f.small f.long e in
            let moved = ap (λ (ps : List ℕ). starts_from (get_or ps i 0) (map (λ ps. get_or ps i 0) pss)) (after-previous hs (solve q).outputs long) in
            omega (arith, after-counted hs (solve q).outputs i long, moved)
        by false e = refl

  -- ---- slots one after the other

  from-counted : (s : Slots) (ds : List ℕ) → Fitting c s.histories → starts_at (slots_from c s ds).histories i ≡ through s.histories (solved_outputs (cases_from c s.histories ds))
  unfolding slots_more
  from-counted s [] f = omega arith
  from-counted s (d ∷ ds) f =
      from-counted (slots_more c s d) ds (fitting-more c sound s.histories d f)
      ∙ slot_counted s.histories d f (solved_outputs (cases_from c (one_slot c s.histories d).histories ds))

-- ---- the day

none-counted : (us : List Unit) (i : ℕ) → starts_at (map (λ u. record { previous = u.previous; starts = 0 }) us) i ≡ 0
none-counted [] i = refl
none-counted (u ∷ us) zero = refl
none-counted (u ∷ us) (suc i) = none-counted us i

pub starts-counted : StartsCounted
unfolding day_of
starts-counted file demands a i =
    let c = case_of file in
    let counted = from-counted c (units-sound file a) i (no_slot (histories_of c)) demands (first-fitting file a) in
    let previous = ap (λ (ps : List ℕ). starts_from (get_or ps i 0) (map (λ ps. get_or ps i 0) (solved_outputs (slot_cases c demands)))) (case-previous c.units) in
    omega (arith, counted, none-counted c.units i, previous)
