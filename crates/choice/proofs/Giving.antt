-- What is given where one output is the choice, and where two tie.
use Prim.Native.Nat.{ℕ}
use mathlib.Core.Path.{◌≡◌, sym, ◌∙◌}
use mathlib.Core.Bool.{Bool, true, false}
use lib.IntN.{ℤ}
use native.Mathlib.Omega.{arith}
use Rattle.rules.specs.Offers.{Chosen}
use Rattle.choice.specs.declared.Choice.{Choice}
use Rattle.choice.specs.Clauses.{Gives}

-- what is said to tie is not said not to
pub said : {b : Bool} {A : Type 0} → b ≡ true → b ≡ false → A
said {b} e f = absurd (let z : true ≡ false = sym e ∙ f in let y : ◌≡◌ {A = ℕ} 0 1 = cc in omega arith)

module _ {f : ℕ → ℤ} {Candidate : ℕ → Type 0} {r : Choice} where
  pub gives_only : {p : ℕ} → (r.greatest ≡ p) × (r.least ≡ p) → Chosen f Candidate p p → Gives f Candidate r
  gives_only e d = record { chosen = rw (e.0, e.1) d; alone = λ _. e.1 ∙ sym e.0 }

  pub gives_both : {p l : ℕ} → (r.greatest ≡ p) × (r.least ≡ l) × (r.tied ≡ true) → Chosen f Candidate p l → Gives f Candidate r
  gives_both e d = record { chosen = rw (e.0, e.1) d; alone = said e.2 }
