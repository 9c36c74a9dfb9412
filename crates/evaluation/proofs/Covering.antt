-- Step 1 on the arrays: every unit of a problem that they hold has an output, so that it is solvable exactly if the greatest outputs cover; and so of the file that they were decoded from. And what pricing answers, case by case.
use Rattle.std.specs.Prelude.{Err, Ok, Result}
use mathlib.Core.Path.{◌≡◌, refl, ap₂}
use mathlib.Core.Bool.{Bool, true, false}
use mathlib.Core.List.{List}
use Prim.Native.Nat.{ℕ, ◌+◌, ◌*◌, ◌≤◌, ◌<◌}
use native.Mathlib.Omega.{arith}
use lib.Dec.{ltb, leb}
use lib.IntN.{ℤ}
use lib.ListN.{length}
use borrow.Author.Tests.{lt-ltb, le-ltb, lt-leb, le-leb}
use Rattle.rules.specs.Lists.{all, greatest}
use Rattle.rules.specs.Problem.{Offer, Problem, target, problem_in}
use Rattle.rules.specs.Choice.{choice, choices}
use Rattle.rules.specs.Bisection.{greatest_outputs, solvable}
use Rattle.rules.specs.Calls.{case_verdict, price_verdict, price_ends, priced}
use Rattle.rules.specs.declared.Refusal.{Refusal}
use Rattle.rules.specs.declared.Refusal.TheVariants.{NoAllocation, MultiplierOutOfRange}
use Rattle.rules.specs.declared.Priced.{Priced}
use Rattle.rules.proofs.Lists.{every-from, all-every}
use Rattle.fields.specs.Integers.{Is}
use Rattle.rules.proofs.Economics.Chosen.{some-among}
use Rattle.site.specs.Site.{no_offer, HoldsOffer, HoldsProblem}
use Rattle.site.specs.Clauses.{Site}
use Rattle.evaluation.specs.declared.Sums as code
use Rattle.evaluation.specs.Clauses.{Allocates, Dualable, StepOne, First, FindsFirst}
use Rattle.choice.proofs.Regions.{lowest}
use Rattle.evaluation.proofs.Offers.{dual-held}

-- ---- the verdict on the case

abbrev offers_some : Offer → Bool
offers_some o = ltb 0 (length o.outputs)

held-some : {coefficients ends ranges : List ℕ} {i : ℕ} {o : Offer} → HoldsOffer coefficients ends ranges i o → offers_some o ≡ true
held-some {o = o} h = lt-ltb 0 (length o.outputs) (some-among _ o.outputs ((h.outputs _).1 (lowest h.regions)))

every_some : {coefficients ends ranges : List ℕ} {n : ℕ} {q : Problem} → HoldsProblem coefficients ends ranges n q → all offers_some q.offers ≡ true
every_some {q = q} h = (all-every offers_some q.offers).1 (every-from (λ o. offers_some o ≡ true) q.offers no_offer (λ i l. held-some (h.offers i (omega (arith, h.count)))))

module _ {coefficients ends ranges : List ℕ} {n t : ℕ} {outputs : List ℕ} {c w : ℕ} (a : Allocates (λ o. greatest o.outputs) coefficients ends ranges n outputs (record { cost = c; net = w })) where
  solved : (q : Problem) → HoldsProblem coefficients ends ranges n q → t ≡ target q → (b : Bool) → leb t w ≡ b → solvable q ≡ b
  unfolding solvable greatest_outputs
  solved q h d b e = rw (every_some h, ← d, ← (a.held q h).net) e

  pub uncovered : w < t → StepOne coefficients ends ranges n t outputs (Err NoAllocation)
  uncovered k = record { refusal = refl; unsolved = λ q h d. solved q h d false (lt-leb t w k) }

  pub covered : t ≤ w → StepOne coefficients ends ranges n t outputs (Ok (record { cost = c; net = w }))
  covered k = record { allocates = a; solves = λ q h d. solved q h d true (le-leb t w k) }

-- step 1 of the file whose problem the arrays hold
pub of_file : {file coefficients ends ranges : List ℕ} {n t : ℕ} (s : Site file coefficients ends ranges n t) (outputs : List ℕ) (r : Result code.Sums Refusal) → StepOne coefficients ends ranges n t outputs r → FindsFirst file coefficients ends ranges n t outputs r
unfolding case_verdict
of_file {file} s outputs (Ok f) k = record { accepted = rw (s.accepted, k.solves (problem_in file) s.holds s.demanded); site = s; allocates = k.allocates }
of_file {file} s outputs (Err r) k = rw (k.refusal, s.accepted, k.unsolved (problem_in file) s.holds s.demanded)

-- ---- what pricing answers

abbrev paid : ℤ → Bool → Result Priced Refusal
paid dual covers = Ok (record { dual = dual; covers = covers })

module _ (file : List ℕ) {m : ℕ} where
  pub multiplier_refused : 65536 < m → Err MultiplierOutOfRange ≡ priced file m
  unfolding priced price_verdict price_ends
  multiplier_refused h = rw (lt-ltb 65536 m h)

  module _ (h : m ≤ 65536) where
    pub case-refused : {r : Refusal} → case_verdict file ≡ Err r → Err r ≡ priced file m
    unfolding priced price_verdict price_ends
    case-refused e = rw (le-ltb 65536 m h, e)

    module _ {coefficients ends ranges first : List ℕ} {n t c w : ℕ} (f : First file coefficients ends ranges first n t c w) where
      -- the range of the dual value
      pub dualable : {outputs : List ℕ} {s : code.Sums} → Allocates (choice m) coefficients ends ranges n outputs s → Dualable s t m
      dualable a =
          let g = f.site.holds in
          record {
            sized = record { cost = omega (arith, a.sized.cost, g.few); net = omega (arith, a.sized.net, g.few) };
            target = omega (arith, f.site.demanded, g.demand);
            multiplier = h;
          }

      pub valued : {outputs : List ℕ} {s : code.Sums} {d : ℤ} → Allocates (choice m) coefficients ends ranges n outputs s → Is d (100000 * s.cost + m * t) (m * s.net) → Ok (record { dual = d; covers = leb t s.net }) ≡ priced file m
      unfolding priced price_verdict price_ends choices
      valued {outputs} {s} {d} a k =
          let q = problem_in file in
          let o = a.held q f.site.holds in
          rw (le-ltb 65536 m h, f.accepted) (ap₂ paid (dual-held t m a k q f.site.holds f.site.demanded) (ap₂ leb f.site.demanded o.net))
