-- Nine numbers at the start of a list, and the rest of it lent and given back.
use Prim.Native.Nat.{ℕ, ◌-◌}
use native.Mathlib.Omega.{arith}
use mathlib.Core.Path.{◌≡◌, ap, ap₂, ◌∙◌}
use mathlib.Core.List.{List, [], ◌∷◌, ◌++◌, append-nil}
use lib.ListN.{length, take, drop, drop_of_length-le}

module _ (a b c d e f g h l : ℕ) where
  abbrev nine : List ℕ → List ℕ
  nine s = a ∷ b ∷ c ∷ d ∷ e ∷ f ∷ g ∷ h ∷ l ∷ s

  pub nine_then : (s x y : List ℕ) → x ≡ y → let t = nine s in take 9 t ++ (x ++ drop (length t - 9) (drop 9 t)) ≡ nine y
  nine_then s x y p =
      let none : drop (length (nine s) - 9) s ≡ [] = drop_of_length-le s {i = length (nine s) - 9} (omega arith) in
      ap nine (ap₂ (λ (u v : List ℕ). u ++ v) p none ∙ append-nil y)
