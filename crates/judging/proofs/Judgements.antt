-- A judgement by where it ends: each way out of the code is one case of the definition.
use Rattle.std.specs.Prelude.{Ok, Err}
use Prim.Native.Nat.{ℕ, ◌*◌, ◌-◌, ◌≤◌}
use native.Mathlib.Omega.{arith}
use mathlib.Core.Path.{◌≡◌, refl, sym, ap₂, ◌∙◌}
use mathlib.Core.Bool.{Bool, true, false, cond}
use mathlib.Core.Logic.{◌↔◌}
use mathlib.Core.List.{List}
use lib.IntN.{ℤ, pos, ◌-ℤ◌}
use lib.ListN.{length}
use borrow.Author.Tests.{eq-eqb, ne_eqb, le-leb}
use Rattle.rules.specs.Numbers.{natural}
use Rattle.rules.specs.Layout.{Case, case_of}
use Rattle.rules.specs.Problem.{allocation, total_cost, total_net, covers, units_of, target, problem_of}
use Rattle.rules.specs.Choice.{greatest_floor}
use Rattle.rules.specs.Bisection.{solvable, found}
use Rattle.rules.specs.Calls.{case_verdict}
use Rattle.rules.specs.Promise.{Permitted, Covering}
use Rattle.rules.specs.declared.Refusal.{Refusal}
use Rattle.rules.specs.declared.Refusal.TheVariants.{OutputCountInvalid}
use Rattle.rules.specs.Lists.{Every}
use Rattle.rules.proofs.Verdicts.{and-true, accepts}
use Rattle.rules.specs.Sound.{Sound}
use Rattle.rules.proofs.Encoding.SoundFile.{units-sound}
use Rattle.rules.specs.Offers.{Given}
use Rattle.rules.proofs.Economics.Solvable.{case-proper}
use Rattle.rules.proofs.Economics.Solution.{same-cost, same-net, same_target, covering-net, permitted-given, given-permitted, greatest-floor}
use Rattle.rules.proofs.Demand3.{case-accepted}
use Rattle.std.specs.Prelude.{Ok, Err, Some, None, Option}
use Rattle.judging.specs.declared.Judgement.{Judgement}
use Rattle.judging.specs.Judging.{acceptable, multipliers, told, judge_verdict, judge_ends, judged}
use Rattle.judging.specs.Clauses.{ToldHeld, JudgedOf}
use Rattle.judging.proofs.Floors.{all-floors}

-- ---- outputs that are acceptable

pub acceptable-is : (c : Case) (ps : List ℕ) → (acceptable c ps ≡ true) ↔ (Permitted c ps × Covering c ps)
unfolding acceptable
acceptable-is c ps = and-true (allocation c.units ps) (covers c.demand (total_net c.units ps))

pub not-acceptable : (c : Case) (ps : List ℕ) → (Permitted c ps → Covering c ps → ⊥) → acceptable c ps ≡ false
not-acceptable c ps h = by (acceptable c ps) refl
  where
    by : (t : Bool) → acceptable c ps ≡ t → acceptable c ps ≡ false
    by false e = e
    by true e = let both = (acceptable-is c ps).0 e in absurd (h both.0 both.1)

module _ (c : Case) (ps : List ℕ) where
  given-acceptable : Given (problem_of c).offers ps → target (problem_of c) ≤ total_net (units_of (problem_of c)) ps → acceptable c ps ≡ true
  given-acceptable g k =
      (acceptable-is c ps).1 (given-permitted c ps g, le-leb (100000000 * c.demand) (total_net c.units ps) (omega (arith, same-net c ps, same_target c)))

  -- what is told, by the floors that the search evaluates
  module _ (sound : Every Sound c.units) (solves : solvable (problem_of c) ≡ true) where
    pub floors-evaluated : greatest_floor (problem_of c) multipliers ≡ greatest_floor (problem_of c) (found (problem_of c)).evaluated
    floors-evaluated = all-floors (problem_of c) _ (greatest-floor (problem_of c) (case-proper c sound) solves)

    told-held : {j : Judgement} → ToldHeld (problem_of c) (target (problem_of c)) ps j → told c ps ≡ j
    unfolding told
    told-held {j} h =
        let cost : total_cost c.units ps ≡ j.cost = sym (h.cost ∙ same-cost c ps) in
        let surplus : total_net c.units ps - 100000000 * c.demand ≡ j.surplus = omega (arith, h.surplus, same-net c ps, same_target c) in
        let distance : natural (pos (total_cost c.units ps) -ℤ greatest_floor (problem_of c) multipliers) ≡ j.distance =
        sym (h.distance ∙ ap₂ (λ (k : ℕ) (z : ℤ). natural (pos k -ℤ z)) (same-cost c ps) (sym floors-evaluated)) in
        λ i. record { cost = cost i; surplus = surplus i; distance = distance i }

-- ---- the call

pub verdict-parts : (file ps : List ℕ) → judge_verdict file ps ≡ Ok tt → (case_verdict file ≡ Ok tt) × (length ps ≡ length (case_of file).units)
unfolding judge_verdict
verdict-parts file ps e = simp accepts at e

module _ (file ps : List ℕ) where
  pub judged-refused : {r : Refusal} → case_verdict file ≡ Err r → judged file ps ≡ Err r
  unfolding judged judge_verdict judge_ends
  judged-refused e = rw e

  module _ (accepted : case_verdict file ≡ Ok tt) where
    pub judged-count : (length ps ≡ length (case_of file).units → ⊥) → judged file ps ≡ Err OutputCountInvalid
    unfolding judged judge_verdict judge_ends
    judged-count n = rw (accepted, ne_eqb (length ps) (length (case_of file).units) n)

    module _ (each : length ps ≡ length (case_of file).units) where
      pub judged-is : judged file ps ≡ Ok (cond (acceptable (case_of file) ps) (Some (told (case_of file) ps)) None)
      unfolding judged judge_verdict judge_ends
      judged-is = rw (accepted, eq-eqb (length ps) (length (case_of file).units) each)

      -- what the code found of the file's problem
      pub judged-held : (a : Option Judgement) → JudgedOf (problem_of (case_of file)) (target (problem_of (case_of file))) ps a → judged file ps ≡ Ok a
      judged-held (Some j) h =
          let both = case-accepted file accepted in
          judged-is ∙ rw (given-acceptable (case_of file) ps h.given h.covers, told-held (case_of file) ps (units-sound file both.0) both.1 h)
      judged-held None h =
          judged-is ∙ rw (not-acceptable (case_of file) ps (λ a k. h (permitted-given (case_of file) ps a) (covering-net (case_of file) ps k)))
