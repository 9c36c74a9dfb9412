-- What contracts say of offers: outputs that ascend and are in range, one of them given, and the two that a choice names.
use Rattle.std.specs.Prelude.{ℕ, ◌≤◌, ◌<◌, ◌≡◌, List, [], ◌∷◌, ◌⊎◌, ℤ, length, ◌≤ℤ◌}
use Rattle.rules.specs.Lists.{True, Pairwise}
use Rattle.rules.specs.Problem.{Offer}
use Rattle.rules.specs.Sound.{Sound}

-- p is one of the outputs
abbrev pub Among : ℕ → List ℕ → Type 0
Among p [] = ⊥
Among p (q ∷ qs) = (p ≡ q) ⊎ Among p qs

-- each is greater than the one before, the first greater than b
abbrev pub AscendsAbove : ℕ → List ℕ → Type 0
AscendsAbove b [] = True
AscendsAbove b (q ∷ qs) = (b < q) × AscendsAbove q qs

abbrev pub Ascends : List ℕ → Type 0
Ascends [] = True
Ascends (p ∷ ps) = AscendsAbove p ps

-- each unit is given one of the outputs that it offers
abbrev pub Given : List Offer → List ℕ → Type 0
Given = Pairwise (λ o p. Among p o.outputs)

-- an offer of a sound unit: outputs that ascend and are in range
pub record Proper (o : Offer) : Type 0 where
  pub sound : Sound o.unit
  pub ascends : Ascends o.outputs
  pub small : (p : ℕ) → Among p o.outputs → p ≤ 10000

-- and there are some
pub record Available (o : Offer) : Type 0 where
  pub proper : Proper o
  pub some : 0 < length o.outputs

-- of the candidates of least cost, r is the greatest and l the least
pub record Chosen (f : ℕ → ℤ) (Candidate : ℕ → Type 0) (r l : ℕ) : Type 0 where
  pub candidate : Candidate r
  pub tied : Candidate l
  pub level : f l ≡ f r
  pub least : (p : ℕ) → Candidate p → f r ≤ℤ f p
  pub last : (p : ℕ) → Candidate p → f p ≡ f r → p ≤ r
  pub first : (p : ℕ) → Candidate p → f p ≡ f r → l ≤ p
