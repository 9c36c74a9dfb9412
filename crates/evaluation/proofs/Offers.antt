-- What is picked of an offer that the arrays hold: the choice in its regions is the offer's choice, and the end of the last region its greatest output.
use mathlib.Core.Path.{◌≡◌, refl, ap}
use mathlib.Core.List.{List, [], ◌∷◌}
use mathlib.Core.Logic.{inl, inr}
use Prim.Native.Nat.{ℕ, ◌+◌, ◌*◌, ◌≤◌}
use native.Mathlib.Omega.{arith}
use lib.IntN.{ℤ}
use Rattle.rules.specs.Lists.{greatest, Every}
use Rattle.rules.specs.Problem.{Offer, Problem, target}
use Rattle.rules.specs.Choice.{priced_cost, choice, least_tied, choices, dual_value}
use Rattle.rules.proofs.Lists.{every-from}
use Rattle.fields.specs.Integers.{Is}
use Rattle.fields.proofs.Integers.{same}
use Rattle.rules.specs.Offers.{Chosen, Among, Proper, Available}
use Rattle.rules.proofs.Economics.Chosen.{some-among, unique, alike, agreed, scanned}
use Rattle.rules.proofs.Economics.Allocations.{dual-is, at_most_greatest}
use Rattle.regions.specs.Regions.{low, high}
use Rattle.site.specs.Site.{first, last, Within, no_offer, HoldsOffer, HoldsProblem}
use Rattle.curve.specs.declared.Curve as code
use Rattle.curve.specs.Curve.{priced_at, IsCurve}
use Rattle.evaluation.specs.declared.Sums as code-sums
use Rattle.evaluation.specs.Clauses.{Allocates}
use Rattle.curve.proofs.Heights.{priced-curve}
use Rattle.choice.proofs.Regions.{small, to-highest, lowest, highest}

greatest_at_most : (x : ℕ) (ps : List ℕ) → ((p : ℕ) → Among p ps → p ≤ x) → greatest ps ≤ x
greatest_at_most x [] h = omega arith
greatest_at_most x (q ∷ qs) h = omega (arith, h q (inl refl), greatest_at_most x qs (λ p i. h p (inr i)))

module _ {coefficients ends ranges : List ℕ} {i : ℕ} {o : Offer} (h : HoldsOffer coefficients ends ranges i o) where
  pub choice-held : {r l : ℕ} {m : ℕ} {c : code.Curve} → IsCurve m o.unit c → Chosen (priced_at c) (Within ends (first ranges i) (last ranges i)) r l → (r ≡ choice m o) × (l ≡ least_tied m o)
  choice-held {r} {l} {m} {c} k d =
      let of-list : Chosen (priced_cost m o.unit) (λ p. Among p o.outputs) r l = alike (λ p w. (h.outputs p).1 w) (λ p a. (h.outputs p).0 a) (agreed (λ p w. priced-curve h.unit.sound k p (small h.regions p w)) d) in
      unique of-list (scanned (priced_cost m o.unit) o.outputs h.proper.ascends (some-among r o.outputs of-list.candidate))

  pub choice-small : {f : ℕ → ℤ} {r l : ℕ} → Chosen f (Within ends (first ranges i) (last ranges i)) r l → r ≤ 10000
  choice-small {r = r} d = small h.regions r d.candidate

  pub offer-available : Available o
  offer-available = record { proper = h.proper; some = some-among (low ends (first ranges i)) o.outputs ((h.outputs (low ends (first ranges i))).1 (lowest h.regions)) }

  pub greatest-held : high ends (last ranges i) ≡ greatest o.outputs
  greatest-held =
      let top = (h.outputs (high ends (last ranges i))).1 (highest h.regions) in
      omega (arith, at_most_greatest o.outputs (high ends (last ranges i)) top, greatest_at_most (high ends (last ranges i)) o.outputs (λ p a. to-highest h.regions p ((h.outputs p).0 a)))

  pub greatest-small : high ends (last ranges i) ≤ 10000
  greatest-small = small h.regions (high ends (last ranges i)) (highest h.regions)

-- the dual value of what is picked by choice, as it is computed, is the problem's
pub dual-held : (t m : ℕ) {coefficients ends ranges outputs : List ℕ} {n : ℕ} {s : code-sums.Sums} {d : ℤ} → Allocates (choice m) coefficients ends ranges n outputs s → Is d (100000 * s.cost + m * t) (m * s.net) → (q : Problem) → HoldsProblem coefficients ends ranges n q → t ≡ target q → d ≡ dual_value m q
unfolding choices
dual-held t m a k q h e =
    let o = a.held q h in
    same k (dual-is m q) (omega (arith, o.cost, ap (λ (x : ℕ). m * x) o.net, ap (λ (x : ℕ). m * x) e))

-- a problem that the arrays hold has proper offers, and each has an output
pub held-proper : {coefficients ends ranges : List ℕ} {n : ℕ} {q : Problem} → HoldsProblem coefficients ends ranges n q → Every Proper q.offers
held-proper {q = q} h = every-from Proper q.offers no_offer (λ i l. (h.offers i (omega (arith, h.count))).proper)

pub held-available : {coefficients ends ranges : List ℕ} {n : ℕ} {q : Problem} → HoldsProblem coefficients ends ranges n q → Every Available q.offers
held-available {q = q} h = every-from Available q.offers no_offer (λ i l. offer-available (h.offers i (omega (arith, h.count))))
